use Rattle.std.proofs.Common.{rules, ◌≡◌, ◌+◌, ◌*◌, ◌<◌, ◌≤◌, ◌⊎◌, length, Some, Err, sym, refl, ap, ◌∙◌, arith, mul-le-mul_right}
use borrow.Author.Tests.{tests}
use Rattle.pages.specs.Answers.{line_of}
use Rattle.pages.proofs.Shape.{line_parts}
use Rattle.bench.proofs.Lines.{as_many}
use Rattle.reader.specs.declared.refusals.Refusal.TheVariants as refusal
use Rattle.reader.specs.Views.{view}
use Rattle.reader.specs.Calls.{granting, granting_to, granted_more}
use Rattle.reader.proofs.Readers.{line_is, line_seen, grant_small, grant_refused}
use Rattle.reader.proofs.calls.Reader.grant.Goals as goal
use Rattle.reader.proofs.calls.Reader.grant.Goals.{then-not-contains-via-then-not-contains, then-not-contains-via-else-not-contains+then-cells-self-gt-MOST_GRANTED}

pub overflow_add-self : goal.overflow_add-self
overflow_add-self g c =
    let r = c.args.self.now in
    let line = c.in_ok-ok_or.field-0.now in
    let e : r.line ≡ Some line = line_is c.in_ok-ok_or.field-0 c.as_ref.ensures.value c.in_ok-ok_or.ensures.ok_part in
    let some : c.args.chains ≤ 4095 = search (rules, tests) in
    omega (arith, grant_small g.S.Score.meaning (g.G.Grammar.meaning r.grammar) r line e c.requires.agrees)

pub returns-then-not-contains : goal.returns-then-not-contains
returns-then-not-contains g c =
    let r = c.args.self.now in
    let line = c.in_ok-ok_or.field-0.now in
    let l = line_of line in
    let n = c.args.chains in
    let e : r.line ≡ Some line = line_is c.in_ok-ok_or.field-0 c.as_ref.ensures.value c.in_ok-ok_or.ensures.ok_part in
    let never : 1 ≤ n → length l * (r.granted + n) ≤ 4095 → ⊥ = λ one most.
    elim c.then-not-contains.branch [
      | then-not-contains-via-then-not-contains w ↦
          let more : 1 * (r.granted + n) ≤ length l * (r.granted + n) = mul-le-mul_right (r.granted + n) (line_parts l line.sound).some in
          let few : n ≤ 4095 = omega arith in
          let out : (n < 1) ⊎ (4095 < n) = search (rules, tests) in
          omega arith
      | then-not-contains-via-else-not-contains+then-cells-self-gt-MOST_GRANTED w ↦
          let seen = rw (as_many line c.cells-cells.result.now c.cells-cells.ensures.items) at most in
          omega (arith, w.if-cells-self-gt-MOST_GRANTED.true)
    ] in
    let no : granting (view r) n ≡ Err refusal.Grant = ap (λ o. granting_to o r.granted n) (line_seen g.S.Score.meaning (g.G.Grammar.meaning r.grammar) r line e) ∙ grant_refused l r.granted n never in
    record { answer = sym no; state = sym (ap (granted_more (view r) n) no); agrees = c.requires.agrees; kept = record { grammar = refl; score = refl }; refused = refl }

pub overflow_add-self-2 : goal.overflow_add-self-2
overflow_add-self-2 g c =
    let r = c.args.self.now in
    let line = c.in_ok-ok_or.field-0.now in
    let e : r.line ≡ Some line = line_is c.in_ok-ok_or.field-0 c.as_ref.ensures.value c.in_ok-ok_or.ensures.ok_part in
    let some : c.args.chains ≤ 4095 = search (rules, tests) in
    omega (arith, grant_small g.S.Score.meaning (g.G.Grammar.meaning r.grammar) r line e c.requires.agrees)
