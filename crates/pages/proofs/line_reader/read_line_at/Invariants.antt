use Rattle.std.proofs.Common.{◌≡◌, ◌+◌, ◌-◌, map, length}
use Rattle.pages.specs.Shape.{cell_of}
use Rattle.pages.specs.Few.{few_items}
use Rattle.pages.proofs.Steps.{Between, Within}
use Rattle.pages.proofs.line_reader.read_line_at.Given as goal

abbrev pub invariant-loop : goal.invariant-loop
invariant-loop l =
    Within l.bytes l.at (l.due - l.counter) l.place (cell_of l.cell) (l.count - (l.number-counter + 1)) l.number-counter (map cell_of (few_items l.cells))
    × (length (cell_of l.cell) ≡ l.counter)

abbrev pub invariant-loop-number : goal.invariant-loop-number
invariant-loop-number l = Between l.bytes l.at l.count l.number-counter l.place (map cell_of (few_items l.cells))
