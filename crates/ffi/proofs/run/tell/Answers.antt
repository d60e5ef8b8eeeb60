use Rattle.std.proofs.Common.{arith}
use Rattle.ffi.proofs.Told.{telling_none, telling_more, telling_all}
use Rattle.ffi.proofs.run.tell.Goals as goal

pub loop-index-init : goal.loop-index-init
loop-index-init c = telling_none

pub loop-index-preserved : goal.loop-index-preserved
loop-index-preserved c =
    telling_more c.loop-index.invariant _ _ (omega (arith, c.loop-index-test.true, c.loop-index.auto.rows)) c.loop-index.auto.rows c.requires.same c.of-row.ensures

pub returns : goal.returns
returns c = telling_all c.loop-index.invariant (omega (arith, c.loop-index-test.false, c.loop-index.auto.rows)) c.loop-index.auto.rows c.requires.same
