use Rattle.std.proofs.Common.{length, take, sym, ap, ◌∙◌, arith}
use Rattle.pages.specs.Answers.{line_of}
use Rattle.bench.specs.Ranks.{chain_in}
use Rattle.search.specs.Chains.{text, penalties}
use Rattle.bench.proofs.Lines.{as_many}
use Rattle.bench.proofs.Texts.{text_long, penalties_long, front}
use Rattle.bench.proofs.Benches.{seen_first, placed_first}
use Rattle.bench.proofs.Bench.look.Goals as goal

pub exchange-is_open-requires-clause-text : goal.exchange-is_open-requires-clause-text
exchange-is_open-requires-clause-text g c =
    let line = c.args.line.now in
    let l = line_of line in
    let place = c.in_ok-place.place.now in
    let chain = chain_in l place.ranks.0 in
    let placed = placed_first g.S.Score.meaning l c.args.self.now place c.requires.holds c.in_ok-place.ensures.1 in
    ap (take (length c.cells-cells.result.now)) c.take.ensures.text
    ∙ front (text l chain) _ _ (omega (arith, text_long l chain placed.0.long, as_many line c.cells-cells.result.now c.cells-cells.ensures.items))

pub exchange-is_open-requires-clause-penalties : goal.exchange-is_open-requires-clause-penalties
exchange-is_open-requires-clause-penalties g c =
    let line = c.args.line.now in
    let l = line_of line in
    let place = c.in_ok-place.place.now in
    let chain = chain_in l place.ranks.0 in
    let placed = placed_first g.S.Score.meaning l c.args.self.now place c.requires.holds c.in_ok-place.ensures.1 in
    ap (take (length c.cells-cells.result.now)) c.take.ensures.penalties
    ∙ front (penalties l chain) _ _ (omega (arith, penalties_long l chain placed.0.long, as_many line c.cells-cells.result.now c.cells-cells.ensures.items))

pub returns-then-is_open : goal.returns-then-is_open
returns-then-is_open g c =
    let line = c.args.line.now in
    let sets = g.G.Grammar.meaning c.args.grammar.now in
    let told = c.in_ok-place.ensures in (
      seen_first g.S.Score.meaning (line_of line) c.args.self.now c.in_ok-place.place.now c.requires.holds told.1 sets.allows c.exchange-is_open.new.self _ c.take.ensures.text told.0 c.exchange-is_open.ensures.holds,
      c.is_admitted.ensures ∙ ap (λ n. sets.admits (take n c.take.new.taken.text)) (sym (as_many line c.cells-cells.result.now c.cells-cells.ensures.items)),
    )

pub returns-else-is_open : goal.returns-else-is_open
returns-else-is_open g c =
    let line = c.args.line.now in
    let sets = g.G.Grammar.meaning c.args.grammar.now in
    let told = c.in_ok-place.ensures in (
      seen_first g.S.Score.meaning (line_of line) c.args.self.now c.in_ok-place.place.now c.requires.holds told.1 sets.allows c.exchange-is_open.new.self _ c.take.ensures.text told.0 c.exchange-is_open.ensures.holds,
      c.if-is_open.false ∙ sym (c.exchange-is_open.ensures.shut c.if-is_open.false) ∙ ap (λ n. sets.admits (take n c.take.new.taken.text)) (sym (as_many line c.cells-cells.result.now c.cells-cells.ensures.items)),
    )
