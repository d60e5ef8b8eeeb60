use Rattle.runs.proofs.Onward.{Running}
use Rattle.runs.proofs.running.run_on.Given as goal

abbrev pub invariant-loop-row : goal.invariant-loop-row
invariant-loop-row g l = Running g.S.Score.meaning g.G.Grammar.meaning l.pages l.initial.places l.initial.rows l.initial.reader l.row-index l.reader l.rows l.places
