use Rattle.std.proofs.Common.{◌≡◌, ℕ, ◌-◌, List, [], ◌∷◌, length, IfErr, Ok, Err, Option, Some, None, Result, sym, refl, ap, ◌∙◌, subst, arith}
use Rattle.std.proofs.lemmas.Result.{err_from_is_err_and}
use Rattle.pages.specs.declared.faults.PageFault.{PageFault}
use Rattle.pages.specs.declared.lines.Line.{Line}
use Rattle.pages.specs.Reading.{line_numbered, read_page}
use Rattle.pages.specs.Answers.{line_of, NextLine, Passed, answers_left, gathered, found_line}
use Rattle.pages.specs.Laws.{Accepted, Refused, FirstWrong}
use Rattle.pages.proofs.Paging.{no_answer, some_answer, left_few, all_gathered, after_none, keep_more, keep_bad, keep_all}
use Rattle.pages.proofs.Round.{Octets, accepted_exactly}
use Rattle.pages.proofs.Behind.{refused_exactly}
use Rattle.pages.proofs.Earlier.{first_wrong}
use Rattle.pages.proofs.page_reader.line_of_page.Goals as goal
use Rattle.pages.proofs.page_reader.line_of_page.Goals.{then-number-wanted, else-number-wanted}

-- what is answered where the page is refused
at_fault : (r : Result (Option Line) PageFault) (bytes : List ℕ) (wanted : ℕ) {f : PageFault} → Octets bytes → r ≡ Err f → Err f ≡ read_page bytes
    → record { answer : found_line r ≡ line_numbered wanted (read_page bytes); accepted : Accepted bytes; refused : Refused bytes; first_wrong : IfErr r (FirstWrong bytes) }
at_fault r bytes wanted {f} all e h =
    record {
      answer = ap found_line e ∙ ap (line_numbered wanted) h;
      accepted = accepted_exactly bytes all;
      refused = refused_exactly bytes all;
      first_wrong = subst (λ x. IfErr x (FirstWrong bytes)) (sym e) (first_wrong bytes f all (sym h));
    }

pub returns-in_err-lines : goal.returns-in_err-lines
returns-in_err-lines c =
    let up = err_from_is_err_and c.from_residual.result c.from_residual.ensures.1 in
    at_fault c.from_residual.result c.args.bytes.now c.args.wanted (λ i. (c.type_inv.bytes i).fits) (up.1 ∙ ap Err up.2) (sym c.in_err-lines.ensures.1)

pub loop-line-init : goal.loop-line-init
loop-line-init c =
    let p = c.in_ok-lines.lines in
    let begins = c.in_ok-lines.ensures in
    let few = left_few c.args.bytes.now p refl begins in
    let whole = begins.whole ∙ sym (all_gathered p.bytes.now (p.count - p.number) p.place p.number) ∙ sym (after_none (gathered (answers_left (Some p)))) in
    (record { lines = []; long = refl; whole = whole; kept = refl }, omega (arith, few))

-- what is known where a line was met
passing : (c : goal.Joined-number-wanted) → Passed c.in-Some.line c.loop-line.lines c.next_line.new.self
passing c = subst (λ o. NextLine (Ok o) c.loop-line.lines c.next_line.new.self) c.in-Some.is c.in_ok-line.ensures.answer

-- the answers still to come begin with it
met : (c : goal.Joined-number-wanted) → answers_left (Some c.loop-line.lines) ≡ Ok (line_of c.in-Some.line) ∷ answers_left (Some c.next_line.new.self)
met c = some_answer c.loop-line.lines c.next_line.new.self (Ok (Some c.in-Some.line)) (Ok c.in-Some.line) (passing c) refl

pub overflow_add-number : goal.overflow_add-number
overflow_add-number c = omega (arith, c.loop-line.invariant.1)

pub loop-line-preserved : goal.loop-line-preserved
loop-line-preserved c =
    let few = ap length (met c) in (
      keep_more c.loop-line.invariant.0 c.in-Some.line (answers_left (Some c.next_line.new.self)) c.if-number-wanted.found (met c) refl
          (λ e. elim c.if-number-wanted.branch [ then-number-wanted w ↦ w.found-is | else-number-wanted w ↦ absurd (omega (arith, w.if-number-wanted.false, e)) ])
          (λ ne. elim c.if-number-wanted.branch [ then-number-wanted w ↦ absurd (ne (omega (arith, w.if-number-wanted.true))) | else-number-wanted w ↦ w.found-is ]),
      omega (arith, few, c.loop-line.invariant.1),
    )

pub loop-line-smaller : goal.loop-line-smaller
loop-line-smaller c = let p = passing c in omega (arith, p.due, p.one, p.lines)

pub returns-in_err-line : goal.returns-in_err-line
returns-in_err-line c =
    let up = err_from_is_err_and c.from_residual-in_err-line.result c.from_residual-in_err-line.ensures.1 in
    at_fault c.from_residual-in_err-line.result c.args.bytes.now c.args.wanted (λ i. (c.type_inv.bytes i).fits) (up.1 ∙ ap Err up.2)
    (sym (keep_bad c.loop-line.invariant.0 [] (some_answer c.loop-line.lines c.next_line.new.self (Err c.in_err-line.field-0.0) (Err c.in_err-line.field-0.0) c.in_err-line.ensures.answer refl)))

pub returns : goal.returns
returns c =
    let none = no_answer c.loop-line.lines c.next_line.new.self (Ok None)
    (subst (λ o. NextLine (Ok o) c.loop-line.lines c.next_line.new.self) c.in_default.is c.in_ok-line.ensures.answer) refl in
    record {
      answer = keep_all c.loop-line.invariant.0 none;
      accepted = accepted_exactly c.args.bytes.now (λ i. (c.type_inv.bytes i).fits);
      refused = refused_exactly c.args.bytes.now (λ i. (c.type_inv.bytes i).fits);
      first_wrong = tt;
    }
