use Rattle.std.proofs.Common.{◌≡◌, ◌+◌, ◌-◌, ◌<◌, suc, ◌++◌, length, take, set, replicate, sym, ap, ◌∙◌, arith}
use Rattle.search.specs.Chains.{text, penalties}
use Rattle.bench.specs.Chains.{cells_of, chosen}
use Rattle.bench.proofs.Lines.{as_many, few_cells}
use Rattle.bench.proofs.Texts.{text_long, penalties_long, part_at, filled_more, filled_all}
use Rattle.bench.proofs.chains.Chain.take.Goals as goal

pub loop-cell-preserved : goal.loop-cell-preserved
loop-cell-preserved c =
    let l = cells_of c.args.self.now in
    let chain = chosen c.args.self.now in
    let line = c.args.self.now.line.now in
    let long = c.args.self.now.of_line.long in
    let i = c.loop-cell.cell in
    let inside : i < length l = omega (arith, as_many line c.cells-cell-end.result.now c.cells-cell-end.ensures.items, c.loop-cell-test.true) in
    let room : 24 - i ≡ suc (24 - (i + 1)) = omega (arith, few_cells l line.sound) in
    let next : suc i ≡ i + 1 = omega arith in
    let told = c.alternative-alternative.ensures in (
      (λ j. set (c.loop-cell.invariant.0 j) i (told j).symbol) ∙ filled_more (text l chain) i _ _ _ (omega (arith, text_long l chain long)) room (sym (part_at (λ a. a.symbol) l chain i long inside)) ∙ ap (λ n. take n (text l chain) ++ replicate (24 - (i + 1)) 0) next,
      (λ j. set (c.loop-cell.invariant.1 j) i (told j).penalty) ∙ filled_more (penalties l chain) i _ _ _ (omega (arith, penalties_long l chain long)) room (sym (part_at (λ a. a.penalty) l chain i long inside)) ∙ ap (λ n. take n (penalties l chain) ++ replicate (24 - (i + 1)) 0) next,
    )

pub returns-clause-text : goal.returns-clause-text
returns-clause-text c =
    let l = cells_of c.args.self.now in
    let line = c.args.self.now.line.now in
    let end : c.loop-cell.cell ≡ length l = omega (arith, as_many line c.cells-cell-end.result.now c.cells-cell-end.ensures.items, c.loop-cell-test.false, c.loop-cell.auto.cell-end) in
    filled_all _ _ c.loop-cell.cell (length l) c.loop-cell.invariant.0 end (text_long l (chosen c.args.self.now) c.args.self.now.of_line.long)

pub returns-clause-penalties : goal.returns-clause-penalties
returns-clause-penalties c =
    let l = cells_of c.args.self.now in
    let line = c.args.self.now.line.now in
    let end : c.loop-cell.cell ≡ length l = omega (arith, as_many line c.cells-cell-end.result.now c.cells-cell-end.ensures.items, c.loop-cell-test.false, c.loop-cell.auto.cell-end) in
    filled_all _ _ c.loop-cell.cell (length l) c.loop-cell.invariant.1 end (penalties_long l (chosen c.args.self.now) c.args.self.now.of_line.long)
