use Rattle.std.proofs.Common.{string_bytes}
use Rattle.pages.specs.Answers.{answers_left}
use Rattle.reports.proofs.Rows.{Rowed}
use Rattle.reports.proofs.report.describe.Given as goal

abbrev pub invariant-loop-line : goal.invariant-loop-line
invariant-loop-line l = Rowed l.page l.count (answers_left l.line-iterator.left) (string_bytes l.rows)
