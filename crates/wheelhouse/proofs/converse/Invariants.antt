use Rattle.desk.specs.Desks.{Ready}
use Rattle.wheelhouse.proofs.converse.Given as goal

abbrev pub invariant-loop-line : goal.invariant-loop-line
invariant-loop-line l = Ready l.desk
