use Rattle.std.proofs.Common.{◌+◌, ◌-◌, ◌≤◌, length, Some}
use Rattle.pages.specs.Answers.{answers_left}
use Rattle.pages.proofs.Paging.{Keeping}
use Rattle.pages.proofs.page_reader.line_of_page.Given as goal

abbrev pub invariant-loop-line : goal.invariant-loop-line
invariant-loop-line l = Keeping l.bytes l.wanted l.number (answers_left (Some l.lines)) l.found × (l.number + length (answers_left (Some l.lines)) ≤ 41)

abbrev pub decreases-loop-line : goal.decreases-loop-line
decreases-loop-line l = l.lines.count - l.lines.number
