use Rattle.std.proofs.Common.{◌≡◌, ◌+◌, ◌*◌, length, ap, arith, rules}
use Rattle.std.proofs.lemmas.Iterator.{YieldsList-from_slice, YieldsList-from_map}
use Rattle.std.proofs.lemmas.Iterator.Consumers.{sum_by_from_yields_List}
use Rattle.std.specs.List.{sum_by}
use Rattle.pages.specs.Shape.{cell_of}
use Rattle.pages.specs.Answers.{line_of}
use Rattle.pages.specs.Few.{few_items}
use Rattle.pages.proofs.Writes.{cells_size, cells_small}
use Rattle.pages.proofs.Shape.{line_parts}
use Rattle.pages.proofs.writer.line_size.Goals as goal
use Rattle.pages.proofs.writer.line_size.Goals.{After-sum}

summed : (c : After-sum) → c.sum.result ≡ sum_by (λ cell. 1 + 3 * length (cell_of cell)) c.cells.result.now
summed c =
    sum_by_from_yields_List (λ cell. 1 + 3 * length (cell_of cell)) c.cells.result.now c.map.result _ c.sum.ensures.ran
    (YieldsList-from_map _ (λ cell. 1 + 3 * length (cell_of cell)) (YieldsList-from_slice c.cells.result.now (cc)) c.map.ensures.closure (λ x r q k. search rules))

pub overflow_add-result : goal.overflow_add-result
overflow_add-result c =
    let line = c.args.line.now in
    let fair = line_parts (line_of line) line.sound in
    omega (arith, summed c, ap (sum_by (λ cell. 1 + 3 * length (cell_of cell))) c.cells.ensures.items, cells_size (few_items line.cells), cells_small (line_of line) fair.cells, fair.few)

pub returns : goal.returns
returns c = omega (arith, summed c, ap (sum_by (λ cell. 1 + 3 * length (cell_of cell))) c.cells.ensures.items, cells_size (few_items c.args.line.now.cells))
