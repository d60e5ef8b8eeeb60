use Rattle.std.proofs.Common.{◌≡◌, ◌+◌, ◌-◌, ◌<◌, true, [], ◌∷◌, ◌++◌, length, get_or, take, drop, refl, sym, ap, ◌∙◌, subst, append_assoc, append-nil, arith, length-append, length-take, length-drop}
use Rattle.std.proofs.lemmas.List.{take_all}
use Rattle.scores.specs.Scores.{stepped}
use Rattle.search.specs.Chains.{text, penalties, children_below}
use Rattle.search.proofs.Growth.{children_few}
use Rattle.bench.specs.Chains.{cells_of, chosen}
use Rattle.bench.specs.Ranks.{chain_in}
use Rattle.bench.specs.Held.{on_bench, beside, Holds}
use Rattle.bench.proofs.Texts.{text_fills, penalties_long, raised_within, live_opens, child_total, before_next}
use Rattle.bench.proofs.Benches.{many_on, exchanging_none, exchanging_same, exchanging_more, exchanged, children_none, children_yes, children_no, all_met}
use Rattle.bench.proofs.Bench.exchange.Goals as goal
use Rattle.bench.proofs.Bench.exchange.Goals.{in-Some, in_default, then-is_first, else-is_first}

pub loop-cell-init : goal.loop-cell-init
loop-cell-init g c =
    let l = cells_of c.args.parent in
    let chain = chosen c.args.parent in
    let s = g.S.Score.meaning in
    let allows = (g.G.Grammar.meaning c.args.grammar.now).allows in
    let behind = drop 1 (on_bench l c.args.self.now) in
    let none = children_none allows l chain c.last_raised-first.result (omega (arith, c.last_raised-first.ensures)) in (
      exchanging_same s l refl refl (sym (append-nil behind) ∙ ap (λ cs. behind ++ cs) (sym none)) (exchanging_none s l c.args.self.now c.requires.holds c.requires.some),
      c.total-before.ensures.value ∙ ap (λ ps. stepped s s.start (take c.last_raised-first.result ps)) c.requires.penalties,
    )

pub slice_bounds-total-end : goal.slice_bounds-total-end
slice_bounds-total-end g c =
    let l = cells_of c.args.parent in
    let chain = chosen c.args.parent in
    let long = c.args.parent.of_line.long in
    omega (arith, ap length c.requires.penalties, penalties_long l chain long, c.last_raised-first.ensures, raised_within chain, length-take c.last_raised-first.result c.args.penalties.now)

pub put_child-requires-clause-total : goal.put_child-requires-clause-total
put_child-requires-clause-total g c =
    let l = cells_of c.args.parent in
    let chain = chosen c.args.parent in
    let s = g.S.Score.meaning in
    let i = c.loop-cell.cell in
    let inside : i < length l = omega (arith, text_fills l chain c.args.text.now c.args.parent.of_line c.requires.text, c.loop-cell-test.true, c.open_cells-open.ensures.within.1) in
    let rest : take (length c.args.penalties.now - (i + 1)) (drop (i + 1) c.args.penalties.now) ≡ drop (i + 1) (penalties l chain) =
    take_all _ (drop (i + 1) c.args.penalties.now) (omega (arith, length-drop (i + 1) c.args.penalties.now)) ∙ ap (drop (i + 1)) c.requires.penalties in
    c.total_from-total.ensures
    ∙ (λ j. stepped s (c.step-through.ensures j) (rest j))
    ∙ child_total s l chain (chain_in l c.in-Some.ranks) i c.loop-cell.before c.penalty.result c.args.parent.of_line.long inside c.in-Some.ensures.2 c.loop-cell.invariant.1 c.penalty.ensures

pub raised-requires : goal.raised-requires
raised-requires g c =
    let l = cells_of c.args.parent in
    omega (arith, text_fills l (chosen c.args.parent) c.args.text.now c.args.parent.of_line c.requires.text, c.loop-cell-test.true, c.open_cells-open.ensures.within.1)

pub put_child-requires-clause-holds : goal.put_child-requires-clause-holds
put_child-requires-clause-holds g c = c.loop-cell.invariant.0.holds

pub put_child-requires-clause-some : goal.put_child-requires-clause-some
put_child-requires-clause-some g c = c.loop-cell.invariant.0.some

pub put_child-requires-clause-room : goal.put_child-requires-clause-room
put_child-requires-clause-room g c =
    let l = cells_of c.args.parent in
    let allows = (g.G.Grammar.meaning c.args.grammar.now).allows in
    let chain = chosen c.args.parent in
    let i = c.loop-cell.cell in
    let behind = drop 1 (on_bench l c.args.self.now) in
    let inside : i < length l = omega (arith, text_fills l chain c.args.text.now c.args.parent.of_line c.requires.text, c.loop-cell-test.true, c.open_cells-open.ensures.within.1) in
    omega (arith, c.loop-cell.invariant.0.many, length-append behind (children_below allows l chain i), length-drop 1 (on_bench l c.args.self.now), many_on l c.args.self.now, children_few allows l chain i, c.requires.room, c.requires.some)

pub loop-cell-preserved : goal.loop-cell-preserved
loop-cell-preserved g c =
    let l = cells_of c.args.parent in
    let i = c.loop-cell.cell in
    let chain = chosen c.args.parent in
    let allows = (g.G.Grammar.meaning c.args.grammar.now).allows in
    let s = g.S.Score.meaning in
    let behind = drop 1 (on_bench l c.args.self.now) in
    let before = children_below allows l chain i in
    let opened : allows (take i (text l chain)) ≡ true = (rw c.requires.text at c.open_cells-open.ensures.open) i c.loop-cell-test.true in
    let inside : i < length (penalties l chain) =
    omega (arith, text_fills l chain c.args.text.now c.args.parent.of_line c.requires.text, penalties_long l chain c.args.parent.of_line.long, c.loop-cell-test.true, c.open_cells-open.ensures.within.1) in (
      elim c.match-raised.branch [
        | in-Some w ↦
            let told = w.in-Some.ensures in
            let child = chain_in l w.in-Some.ranks in
            let more : (behind ++ before) ++ child ∷ [] ≡ behind ++ children_below allows l chain (i + 1) =
            append_assoc behind before (child ∷ [])
            ∙ ap (λ z. behind ++ (before ++ z ∷ [])) told.2
            ∙ ap (λ cs. behind ++ cs) (sym (children_yes allows l chain i (omega (arith, c.loop-cell.auto.cell, c.last_raised-first.ensures)) opened told.0)) in
            exchanging_same s l w.is_first-is w.self-is more (exchanging_more s l c.loop-cell.is_first c.loop-cell.self w.put_child.new.self (behind ++ before) child c.loop-cell.invariant.0 w.put_child.ensures)
        | in_default w ↦ exchanging_same s l w.is_first-is w.self-is (ap (λ cs. behind ++ cs) (sym (children_no allows l chain i w.in_default.ensures))) c.loop-cell.invariant.0
      ],
      c.step-before.ensures ∙ ap (λ ps. s.step c.loop-cell.before (get_or ps i 0)) c.requires.penalties ∙ before_next s (penalties l chain) i c.loop-cell.before inside c.loop-cell.invariant.1,
    )

pub open_cells-open-requires-clause-first : goal.open_cells-open-requires-clause-first
open_cells-open-requires-clause-first g c =
    let l = cells_of c.args.parent in
    let chain = chosen c.args.parent in
    omega (arith, text_fills l chain c.args.text.now c.args.parent.of_line c.requires.text, c.args.parent.of_line.long, c.last_raised-first.ensures, raised_within chain)

pub open_cells-open-requires-clause-open : goal.open_cells-open-requires-clause-open
open_cells-open-requires-clause-open g c =
    let l = cells_of c.args.parent in
    let chain = chosen c.args.parent in
    let sets = g.G.Grammar.meaning c.args.grammar.now in
    (λ j. sets.allows (take (c.last_raised-first.ensures j) (c.requires.text j))) ∙ live_opens sets (g.met.G.Grammar.laws c.args.grammar.now) l chain c.requires.live

pub returns-clause-holds : goal.returns-clause-holds
returns-clause-holds g c =
    let l = cells_of c.args.parent in
    let s = g.S.Score.meaning in
    let sets = g.G.Grammar.meaning c.args.grammar.now in
    let told = c.open_cells-open.ensures in
    let bench = c.loop-cell.self in
    let end : c.loop-cell.cell ≡ c.open_cells-open.result = omega (arith, c.loop-cell-test.false, c.loop-cell.auto.cell-end, told.within.0) in
    let all = all_met sets (g.met.G.Grammar.laws c.args.grammar.now) l c.args.parent.of_line c.requires.text end told.within.1 told.shut in
    exchanged s l c.loop-cell.is_first bench c.loop-cell.invariant.0 (ap (λ cs. drop 1 (on_bench l c.args.self.now) ++ cs) all) c.if-is_first.self
    (elim c.if-is_first.branch [
      | then-is_first w ↦ subst (λ b. Holds s l b (beside c.loop-cell.is_first l bench)) (sym w.self-is) (subst (λ b. Holds s l w.remove_first.new.self (beside b l bench)) (sym w.if-is_first.true) w.remove_first.ensures)
      | else-is_first w ↦ subst (λ b. Holds s l b (beside c.loop-cell.is_first l bench)) (sym w.self-is) (subst (λ b. Holds s l bench (beside b l bench)) (sym w.if-is_first.false) c.loop-cell.invariant.0.holds)
    ])
