use Rattle.std.proofs.Common.{◌+◌, ◌++◌, drop}
use Rattle.std.specs.List.{flat_map}
use Rattle.pages.specs.Answers.{line_of}
use Rattle.pages.specs.Writing.{alternative_bytes, cell_bytes, line_bytes}
use Rattle.pages.proofs.Writes.{Laid}
use Rattle.pages.proofs.writer.write_line.Given as goal

abbrev pub invariant-loop-a : goal.invariant-loop-a
invariant-loop-a l =
    Laid (line_bytes (line_of l.line)) l.initial.place l.initial.at l.place l.at
    (flat_map alternative_bytes (drop l.a-index l.alternatives) ++ flat_map cell_bytes (drop (l.cell-index + 1) (line_of l.line)))

abbrev pub invariant-loop-cell : goal.invariant-loop-cell
invariant-loop-cell l =
    Laid (line_bytes (line_of l.line)) l.initial.place l.initial.at l.place l.at (flat_map cell_bytes (drop l.cell-index (line_of l.line)))
