use Rattle.std.proofs.Common.{rules, ◌∙◌, arith}
use Rattle.std.proofs.lemmas.List.Sorted.{IsPermutation-trans, IsPermutation-cons}
use Rattle.std.proofs.lemmas.Option.{MatchOption-at_some}
use Rattle.bench.specs.Chains.{cells_of}
use Rattle.bench.proofs.Benches.{holds_put_first}
use Rattle.bench.proofs.Bench.put_first.Goals as goal

pub returns : goal.returns
returns g c =
    let chain = c.args.chain in
    let told = c.of.ensures in
    let top = c.unwrap-first.result in
    let asked = c.peek_mut.ensures in
    let left = c.drop-first.ensures in
    let rest = MatchOption-at_some _ _ top c.unwrap-first.ensures asked.rest in
    let below = MatchOption-at_some _ _ top c.unwrap-first.ensures asked.heap_order in
    let wide = MatchOption-at_some _ _ top c.unwrap-first.ensures asked.capacity in
    let shuffled = IsPermutation-trans _ _ _ (IsPermutation-cons c.of.result _ _ rest) (left.permutation (search rules)) in
    let ready = left.heap_order (search rules) (below c.requires.holds.ready) in
    let same = left.capacity ∙ wide in
    holds_put_first g.S.Score.meaning (cells_of chain) c.args.self.now _ c.requires.holds (search rules) (search (rules, arith)) c.of.result chain.ranks.now told.ranks chain.of_line (told.total ∙ c.requires.total) (search rules)
