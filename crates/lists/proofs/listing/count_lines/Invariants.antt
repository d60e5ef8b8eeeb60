use Rattle.pages.specs.Answers.{answers_left}
use Rattle.lists.proofs.Counts.{Passed}
use Rattle.lists.proofs.listing.count_lines.Given as goal

abbrev pub invariant-loop-line : goal.invariant-loop-line
invariant-loop-line l = Passed l.page l.count (answers_left l.line-iterator.left)
