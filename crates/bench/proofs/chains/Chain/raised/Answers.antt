use Rattle.std.proofs.Common.{◌≡◌, ◌+◌, ◌<◌, [], length, get_or, take, set, sym, ap, ◌∙◌, subst, arith, get_or-take}
use lib.Seq.{take-set-lt}
use Rattle.bench.specs.Ranks.{ranks_of}
use Rattle.bench.specs.Chains.{cells_of, chosen}
use Rattle.search.specs.Chains.{ChainOf}
use Rattle.search.proofs.Raised.{chain_set}
use Rattle.bench.proofs.Lines.{as_many, cell_at, few_cells}
use Rattle.bench.proofs.chains.Chain.raised.Goals as goal

pub rank-rank-requires : goal.rank-rank-requires
rank-rank-requires c = let few = few_cells (cells_of c.args.self.now) c.args.self.now.line.now.sound in omega (arith, c.requires)

pub returns-then-from-alternatives : goal.returns-then-from-alternatives
returns-then-from-alternatives c =
    let chain = c.args.self.now in
    let line = chain.line.now in
    let l = cells_of chain in
    let i = c.args.cell in
    let same = c.cells.ensures.items in
    let rank = get_or-take (length l) (ranks_of chain.ranks.now) i 0 c.requires in
    let cell : get_or l i [] ≡ c.alternatives.result.now = cell_at line c.cells.result.now same i _ (omega (arith, as_many line c.cells.result.now same, c.requires)) ∙ sym c.alternatives.ensures.items in
    let more : get_or (chosen chain) i 0 + 1 < length (get_or l i []) = omega (arith, ap length cell, c.from.ensures, c.rank-rank.ensures.value, c.if-from-alternatives.true) in
    let is = ap (take (length l)) c.raised.ensures ∙ take-set-lt (length l) (ranks_of chain.ranks.now) i _ c.requires ∙ ap (λ r. set (chosen chain) i (r + 1)) (sym rank) in
    (more, subst (ChainOf l) (sym is) (chain_set l (chosen chain) i (get_or (chosen chain) i 0 + 1) chain.of_line more), is)
