use Rattle.std.proofs.Common.{arith}
use Rattle.runs.proofs.Determined.{determined}
use Rattle.runs.proofs.Onward.{running_none, running_more, running_law, running_agrees}
use Rattle.runs.proofs.running.run_on.Goals as goal

pub loop-row-init : goal.loop-row-init
loop-row-init g c = running_none c.requires.unloaded c.requires.agrees

pub loop-row-preserved : goal.loop-row-preserved
loop-row-preserved g c =
    let told = c.answer_call.ensures in
    running_more c.loop-row.invariant _ (omega (arith, c.loop-row-test.true, c.loop-row.auto.rows)) c.loop-row.auto.rows told.agrees told.kept told.made

pub returns-clause-law : goal.returns-clause-law
returns-clause-law g c = running_law c.loop-row.invariant (omega (arith, c.loop-row-test.false, c.loop-row.auto.rows)) c.loop-row.auto.rows

pub returns-clause-determined : goal.returns-clause-determined
returns-clause-determined g c = determined _ g.met.S.Score.laws _ _ _ _

pub returns-clause-agrees : goal.returns-clause-agrees
returns-clause-agrees g c = running_agrees c.loop-row.invariant

pub returns-clause-kept : goal.returns-clause-kept
returns-clause-kept g c = c.loop-row.invariant.kept
