use Rattle.std.proofs.Common.{◌≡◌, ◌≤◌, [], ◌∷◌, ◌++◌, map, length, take, ap, ◌∙◌, arith}
use Rattle.std.specs.BinaryHeap.{heap_capacity}
use Rattle.pages.specs.Answers.{line_of}
use Rattle.bench.specs.Ranks.{chain_in}
use Rattle.scores.specs.Scores.{stepped}
use Rattle.search.specs.Chains.{penalties}
use Rattle.bench.proofs.Lines.{as_many, flat_root, flat_chain}
use Rattle.bench.proofs.Texts.{penalties_long, front}
use Rattle.bench.proofs.Benches.{holds_none, holds_same}
use Rattle.bench.proofs.Searches.{agrees_root}
use Rattle.bench.proofs.Bench.begin.Goals as goal

pub invariant_of-chain : goal.invariant_of-chain
invariant_of-chain g c = record { of_line = flat_chain (line_of c.args.line.now) c.args.line.now.sound c.flat-ranks.result c.flat-ranks.ensures }

pub put-requires-clause-holds : goal.put-requires-clause-holds
put-requires-clause-holds g c =
    let told = c.clear.ensures in
    let room : 4096 ≤ heap_capacity c.clear.new.self = omega (arith, told.capacity, c.requires) in
    holds_none g.S.Score.meaning (line_of c.args.line.now) _ told.heap_order room told.items

pub put-requires-clause-total : goal.put-requires-clause-total
put-requires-clause-total g c =
    let line = c.args.line.now in
    let l = line_of line in
    let ranks = c.flat-ranks.result in
    let s = g.S.Score.meaning in
    let n = length c.cells.result.now in
    let chain = flat_chain l line.sound ranks c.flat-ranks.ensures in
    let long : length (penalties l (chain_in l ranks)) ≡ n = omega (arith, penalties_long l (chain_in l ranks) chain.long, as_many line c.cells.result.now c.cells.ensures.items) in
    c.total-total.ensures.value
    ∙ ap (λ ps. stepped s s.start (take n ps)) c.take.ensures.penalties
    ∙ ap (stepped s s.start) (front (penalties l (chain_in l ranks)) _ n long)

pub returns : goal.returns
returns g c =
    let line = c.args.line.now in
    let l = line_of line in
    let s = g.S.Score.meaning in
    λ sets lawful. agrees_root s g.met.S.Score.laws sets lawful l line.sound c.put.new.self
    (holds_same s l c.put.new.self _ _
    (ap (λ xs. map (λ p. chain_in l p.ranks.0) xs ++ chain_in l c.flat-ranks.result ∷ []) c.clear.ensures.items ∙ ap (λ z. z ∷ []) (flat_root l line.sound c.flat-ranks.result c.flat-ranks.ensures))
    c.put.ensures)
