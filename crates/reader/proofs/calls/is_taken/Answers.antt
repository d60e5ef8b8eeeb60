use Rattle.std.proofs.Common.{◌≡◌, rules, true, ◌&&◌, leb, map, length, sym, ap, ◌∙◌, arith}
use Rattle.std.proofs.lemmas.Bool.{le-leb}
use Rattle.std.proofs.lemmas.List.Folds.{list_all-map}
use Rattle.std.proofs.lemmas.Iterator.{YieldsList-from_slice}
use Rattle.std.proofs.lemmas.Iterator.Search.{all_from_yields_List}
use Rattle.pages.specs.Shape.{cell_of}
use Rattle.pages.specs.Answers.{line_of}
use Rattle.bench.proofs.Lines.{as_many}
use Rattle.reader.specs.Calls.{light, all_light}
use Rattle.reader.proofs.calls.is_taken.Goals as goal

pub returns-then-cells-MOST_CELLS : goal.returns-then-cells-MOST_CELLS
returns-then-cells-MOST_CELLS g c =
    let s = g.S.Score.meaning in
    let h = s.highest_penalty in
    let line = c.args.line.now in
    let cells = c.cells-cells.result.now in
    let few : leb (length (line_of line)) s.most_cells ≡ true = le-leb _ _ (omega (arith, as_many line cells c.cells-cells.ensures.items, g.met.S.Score.cells_are)) in
    all_from_yields_List (λ y. light h (cell_of y)) _ _ _ c.all.ensures.ran (YieldsList-from_slice cells cc) (λ x b q k. search rules)
    ∙ sym (list_all-map (light h) cell_of cells)
    ∙ ap (λ l. all_light h (map cell_of l)) c.cells-cells.ensures.items
    ∙ ap (λ b. b && all_light h (line_of line)) (sym few)
