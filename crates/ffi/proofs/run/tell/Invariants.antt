use Rattle.ffi.proofs.Told.{Telling}
use Rattle.ffi.proofs.run.tell.Given as goal

abbrev pub invariant-loop-index : goal.invariant-loop-index
invariant-loop-index l = Telling l.initial.rows l.made l.index l.rows
