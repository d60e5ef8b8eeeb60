use Rattle.std.proofs.Common.{◌≡◌, ◌<◌, ◌≤◌, ltb, length, Some, Ok, sym, ap, ◌∙◌, arith}
use Rattle.std.proofs.lemmas.Bool.{eqb-true, eq-eqb, lt-ltb, le-ltb, cond-true, cond-false, false≢true}
use Rattle.pages.specs.Answers.{line_of}
use Rattle.search.specs.Chains.{ranking}
use Rattle.bench.specs.Held.{in_use}
use Rattle.bench.proofs.Lines.{as_many}
use Rattle.bench.proofs.Searches.{empty_ends, full_left}
use Rattle.reader.specs.declared.calls.Outcome.TheVariants.{Spent, Exhausted}
use Rattle.reader.specs.Views.{view}
use Rattle.reader.proofs.Readers.{line_is, line_seen, next_nothing}
use Rattle.reader.proofs.calls.Reader.next.Goals as goal

pub returns-in-None-clause-answer : goal.returns-in-None-clause-answer
returns-in-None-clause-answer g c =
    let r = c.args.self.now in
    let s = g.S.Score.meaning in
    let sets = g.G.Grammar.meaning r.grammar in
    let line = c.in_ok-line.line.now in
    let l = line_of line in
    let e : r.line ≡ Some line = line_is c.in_ok-line.line c.as_ref.ensures.value c.in_ok-line.ensures.ok_part in
    let sought = c.seek-sought.result in
    let bench = c.seek-sought.new.self in
    let live = length (ranking s sets.allows l) in
    let long : length l ≤ length c.args.place.now = omega (arith, as_many line c.cells-cells.result.now c.cells-cells.ensures.items, c.if-place-cells.false) in
    let nothing = next_nothing s sets (view r) l (line_seen s sets r line e) c.args.place.now long sought c.seek-sought.ensures.sought c.in-None.is in
    let empty : in_use bench ≡ 0 = eqb-true _ 0 (sym c.is_empty.ensures ∙ c.if-is_empty.true) in
    let end = empty_ends s g.met.S.Score.laws sets (g.met.G.Grammar.laws r.grammar) l line.sound sought.looked r.granted bench c.seek-sought.ensures.agrees empty in
    let all : live ≤ r.granted = omega (arith, nothing.1) in
    ap Ok (sym (cond-false (ltb r.granted live) Spent Exhausted (le-ltb r.granted live all))) ∙ sym nothing.0

pub returns-in-None-2-clause-answer : goal.returns-in-None-2-clause-answer
returns-in-None-2-clause-answer g c =
    let r = c.args.self.now in
    let s = g.S.Score.meaning in
    let sets = g.G.Grammar.meaning r.grammar in
    let line = c.in_ok-line.line.now in
    let l = line_of line in
    let e : r.line ≡ Some line = line_is c.in_ok-line.line c.as_ref.ensures.value c.in_ok-line.ensures.ok_part in
    let sought = c.seek-sought.result in
    let bench = c.seek-sought.new.self in
    let live = length (ranking s sets.allows l) in
    let long : length l ≤ length c.args.place.now = omega (arith, as_many line c.cells-cells.result.now c.cells-cells.ensures.items, c.if-place-cells.false) in
    let nothing = next_nothing s sets (view r) l (line_seen s sets r line e) c.args.place.now long sought c.seek-sought.ensures.sought c.in-None-2.is in
    let full : in_use bench ≡ 0 → ⊥ = λ e. false≢true (sym c.if-is_empty.false ∙ c.is_empty.ensures ∙ eq-eqb _ 0 e) in
    let left = full_left s g.met.S.Score.laws sets (g.met.G.Grammar.laws r.grammar) l line.sound sought.looked r.granted bench c.seek-sought.ensures.agrees full in
    let some : r.granted < live = omega (arith, nothing.1) in
    ap Ok (sym (cond-true (ltb r.granted live) Spent Exhausted (lt-ltb r.granted live some))) ∙ sym nothing.0
