use Rattle.std.proofs.Common.{◌+◌, get_or, drop, arith}
use Rattle.std.specs.List.{flat_map}
use Rattle.pages.specs.Answers.{line_of}
use Rattle.pages.specs.Writing.{alternative_bytes, cell_bytes}
use Rattle.pages.proofs.Writes.{as_many, laid_from, laid_through, put_part, alternative_next, line_end, laid_all, next_room, laid_same, opened, laid_room, put, cell_in_hand}
use Rattle.pages.proofs.Shape.{line_parts}
use Rattle.pages.proofs.Round.{reads_back}
use Rattle.pages.proofs.writer.write_line.Goals as goal

pub loop-cell-init : goal.loop-cell-init
loop-cell-init c =
    laid_from (opened c.args.line.now c.cells-cells.result.now c.args.place.now c.cells-cells.ensures.items (omega (arith, c.line_size.ensures, c.if-place-line_size.false)))

pub bounds-place-at : goal.bounds-place-at
bounds-place-at c =
    laid_room (cell_in_hand c.args.line.now _ c.cells-cells.ensures.items c.loop-cell-test.true c.alternatives-alternatives.ensures.items c.loop-cell.invariant)

pub loop-a-init : goal.loop-a-init
loop-a-init c =
    laid_from (put (cell_in_hand c.args.line.now _ c.cells-cells.ensures.items c.loop-cell-test.true c.alternatives-alternatives.ensures.items c.loop-cell.invariant))

pub put_alternative-requires : goal.put_alternative-requires
put_alternative-requires c = next_room c.alternatives-alternatives.result.now c.loop-a.a-index _ c.loop-a.invariant c.loop-a-test.true

pub loop-a-preserved : goal.loop-a-preserved
loop-a-preserved c =
    laid_same c.put_alternative.ensures
    (put_part (alternative_bytes (get_or c.alternatives-alternatives.result.now c.loop-a.a-index (record { symbol = 0; penalty = 0 })))
    (alternative_next c.alternatives-alternatives.result.now c.loop-a.a-index (flat_map cell_bytes (drop (c.loop-cell.cell-index + 1) (line_of c.args.line.now)))
    (record { symbol = 0; penalty = 0 }) c.loop-a.invariant c.loop-a-test.true))

pub returns : goal.returns
returns c =
    let cells = as_many c.args.line.now c.cells-cells.result.now c.cells-cells.ensures.items in
    let end =
    laid_all (laid_through
    (opened c.args.line.now c.cells-cells.result.now c.args.place.now c.cells-cells.ensures.items (omega (arith, c.line_size.ensures, c.if-place-line_size.false)))
    (line_end (line_of c.args.line.now) c.loop-cell.cell-index c.loop-cell.invariant (omega (arith, cells, c.loop-cell-test.false)))) in
    record {
      written = (end.0, omega (arith, end.0, c.line_size.ensures, c.if-place-line_size.false), end.1);
      reads_back = reads_back (line_of c.args.line.now) c.loop-cell.at _ end.0 end.1 (line_parts (line_of c.args.line.now) c.args.line.now.sound);
    }
