use Rattle.std.proofs.Common.{◌≤◌, take, sym, ap, ◌∙◌, arith}
use Rattle.std.proofs.lemmas.List.{take-take}
use Rattle.bench.proofs.open_cells.Goals as goal

pub returns-clause-open : goal.returns-clause-open
returns-clause-open g c cell lt =
    let sets = g.G.Grammar.meaning c.args.grammar.now in
    let text = c.args.text.now in
    let last = c.loop-open.open in
    let below : cell ≤ last = omega (arith, c.loop-open-test.false) in
    ap sets.allows (sym (take-take cell last text below)) ∙ (g.met.G.Grammar.laws c.args.grammar.now).shorter (take last text) cell c.loop-open.invariant.3
