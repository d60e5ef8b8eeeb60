use Rattle.std.proofs.Common.{◌∷◌, sym, ap, ◌∙◌, length, arith}
use Rattle.pages.specs.Answers.{answer_of, answers_left}
use Rattle.pages.proofs.Paging.{no_answer, given_answer}
use Rattle.pages.proofs.page_reader.IntoLinesIterator.next.Goals as goal

pub returns-in_err-answer-clause-steps : goal.returns-in_err-answer-clause-steps
returns-in_err-answer-clause-steps c =
    let none = ap answers_left (sym c.take.ensures.value ∙ c.in_ok-lines.was) ∙ no_answer c.in_ok-lines.lines c.next_line.new.self c.next_line.result c.next_line.ensures.answer (sym c.transpose.ensures ∙ c.in_err-answer.was) in
    rw c.from_residual-in_err-answer.ensures (none, ap answers_left c.take.ensures.after)

pub returns-then-is_ok-clause-steps : goal.returns-then-is_ok-clause-steps
returns-then-is_ok-clause-steps c =
    given_answer c.in_ok-lines.lines c.next_line.new.self c.next_line.result c.in_ok-answer.answer (sym c.take.ensures.value ∙ c.in_ok-lines.was) c.next_line.ensures.answer (sym c.transpose.ensures ∙ c.in_ok-answer.was) (sym c.is_ok.ensures.value ∙ c.if-is_ok.true)

pub returns-then-is_ok-clause-goes : goal.returns-then-is_ok-clause-goes
returns-then-is_ok-clause-goes c = let e = ap length (returns-then-is_ok-clause-steps c) in record { on = λ fin. (tt, fin, omega (arith, e)); keeps = tt; rests = λ fin. tt }

pub returns-else-is_ok-clause-steps : goal.returns-else-is_ok-clause-steps
returns-else-is_ok-clause-steps c =
    given_answer c.in_ok-lines.lines c.next_line.new.self c.next_line.result c.in_ok-answer.answer (sym c.take.ensures.value ∙ c.in_ok-lines.was) c.next_line.ensures.answer (sym c.transpose.ensures ∙ c.in_ok-answer.was) (sym c.is_ok.ensures.value ∙ c.if-is_ok.false)
    ∙ ap (λ l. answer_of c.in_ok-answer.answer ∷ answers_left l) (sym c.take.ensures.after)

pub returns-else-is_ok-clause-goes : goal.returns-else-is_ok-clause-goes
returns-else-is_ok-clause-goes c = let e = ap length (returns-else-is_ok-clause-steps c) in record { on = λ fin. (tt, fin, omega (arith, e)); keeps = tt; rests = λ fin. tt }
