use Rattle.std.proofs.Common.{◌≡◌, ℕ, ◌+◌, List, map, length, IfOk, Ok, Err, Result, sym, refl, ap, ◌∙◌, subst, rules}
use Rattle.std.proofs.lemmas.List.{map_push, length_push}
use Rattle.std.proofs.lemmas.Result.{err_from_is_err_and}
use Rattle.pages.specs.declared.lines.Line.{Line}
use Rattle.pages.specs.declared.faults.LineFault.{LineFault}
use Rattle.pages.specs.Shape.{cell_of, cells_in}
use Rattle.pages.specs.Answers.{line_of, LineRead}
use Rattle.pages.specs.Laws.{Stands}
use Rattle.pages.specs.Writing.{line_bytes}
use Rattle.pages.specs.Few.{few_items}
use Rattle.pages.specs.Reading.{read_alternative, read_line}
use Rattle.pages.proofs.Steps.{between_at, within_at, opened, no_line, enter, bad_count, ended, more, bad_alternative, leave}
use Rattle.pages.proofs.Shape.{WellFormedLine, line_from}
use Rattle.pages.proofs.Round.{line_read}
use Rattle.pages.proofs.line_reader.read_line_at.Goals as goal
use Rattle.pages.proofs.line_reader.read_line_at.Goals.{at-returns, In_ok-outcome, else-loop-number-test, then-loop-number-test+in-Err, then-loop-number-test+in-Ok+then-loop-test+in-Err-read_alternative}

-- a refusal says nothing of a line
refused : (r : Result (Line × ℕ) LineFault) (bytes : List ℕ) (at : ℕ) {f : LineFault} → r ≡ Err f → read_line bytes at ≡ Err f
    → record { answer : LineRead r bytes at; same_bytes : IfOk r (λ got. Stands bytes at (line_bytes (line_of got.0)) got.1) }
refused r bytes at e h =
    record { answer = subst (λ x. LineRead x bytes at) (sym e) h; same_bytes = subst (λ x. IfOk x (λ got. Stands bytes at (line_bytes (line_of got.0)) got.1)) (sym e) tt }

pub returns-in_err-count : goal.returns-in_err-count
returns-in_err-count c =
    let up = err_from_is_err_and c.from_residual.result c.from_residual.ensures.1 in
    refused c.from_residual.result c.args.bytes.now c.args.at (up.1 ∙ ap Err up.2) (no_line c.args.bytes.now c.args.at _ (sym c.in_err-count.ensures))

pub loop-number-init : goal.loop-number-init
loop-number-init c =
    between_at (ap (map cell_of) c.new-cells.ensures) (opened c.args.bytes.now c.args.at c.in_ok-count.count (sym c.in_ok-count.ensures))

pub loop-init : goal.loop-init
loop-init c = (
  within_at c.empty-cell.ensures (enter c.loop-number.invariant c.in-Ok.due c.loop-number-test.true (sym c.in-Ok.ensures)),
  ap length c.empty-cell.ensures,
)

pub loop-preserved : goal.loop-preserved
loop-preserved c = (
  within_at c.push.ensures
      (more c.in-Ok.due c.loop.counter c.loop.invariant.0 c.in-Ok-read_alternative.alternative c.loop-test.true
      (ap (read_alternative c.args.bytes.now c.loop.place) (sym c.alternatives.ensures.items) ∙ sym c.in-Ok-read_alternative.ensures)),
  ap length c.push.ensures ∙ length_push (cell_of c.loop.cell) c.in-Ok-read_alternative.alternative ∙ ap (λ n. n + 1) c.loop.invariant.1,
)

pub loop-number-preserved : goal.loop-number-preserved
loop-number-preserved c =
    between_at (ap (map cell_of) c.push-in-loop-number.ensures ∙ map_push cell_of (few_items c.loop-number.cells) c.loop.cell)
    (leave c.in-Ok.due c.loop.counter c.loop.invariant.0 c.in_ok-count.count refl c.loop-test.false)

pub returns-in_err-outcome : goal.returns-in_err-outcome
returns-in_err-outcome c =
    let up = err_from_is_err_and c.from_residual-in_err-outcome.result c.from_residual-in_err-outcome.ensures.1 in
    let was = c.in_err-outcome.was in
    refused c.from_residual-in_err-outcome.result c.args.bytes.now c.args.at (up.1 ∙ ap Err up.2)
    (elim c.loop-number-test.branch [
      | else-loop-number-test w ↦ let is = w.outcome-is in cc
      | then-loop-number-test+in-Err w ↦
          let is = w.outcome-is in
          let made : w.at_cell-outcome.result ≡ Err (record { number = c.loop-number.number-counter; fault = w.from.result }) = search rules in
          let fault = w.from.ensures in
          let bad = bad_count c.loop-number.invariant _ w.loop-number-test.true (sym w.in-Err.ensures) in
          cc
      | then-loop-number-test+in-Ok+then-loop-test+in-Err-read_alternative w ↦
          let is = w.outcome-is in
          let made : w.at_cell-outcome-in-Err-read_alternative.result ≡ Err (record { number = c.loop-number.number-counter; fault = w.from-in-Err-read_alternative.result }) = search rules in
          let fault = w.from-in-Err-read_alternative.ensures in
          let bad =
          bad_alternative w.in-Ok.due w.loop.counter w.loop.invariant.0 _ w.loop-test.true
          (ap (read_alternative c.args.bytes.now w.loop.place) (sym w.alternatives.ensures.items) ∙ sym w.in-Err-read_alternative.ensures) in
          cc
    ])

-- the line that was read
read : (c : goal.In_ok-outcome) → read_line c.args.bytes.now c.args.at ≡ Ok (cells_in c.loop-number.cells, c.loop-number-test.place)
read c =
    let was = c.in_ok-outcome.was in
    elim c.loop-number-test.branch [
      | else-loop-number-test w ↦ ended c.loop-number.invariant w.loop-number-test.false ∙ ap (λ n. Ok (cells_in c.loop-number.cells, n)) (sym w.place-is)
      | then-loop-number-test+in-Err w ↦
          let is = w.outcome-is in
          let made : w.at_cell-outcome.result ≡ Err (record { number = c.loop-number.number-counter; fault = w.from.result }) = search rules in
          cc
      | then-loop-number-test+in-Ok+then-loop-test+in-Err-read_alternative w ↦
          let is = w.outcome-is in
          let made : w.at_cell-outcome-in-Err-read_alternative.result ≡ Err (record { number = c.loop-number.number-counter; fault = w.from-in-Err-read_alternative.result }) = search rules in
          cc
    ]

-- is well-formed, and its bytes stand there
stands : (c : goal.In_ok-outcome)
    → WellFormedLine (cells_in c.loop-number.cells) × Stands c.args.bytes.now c.args.at (line_bytes (cells_in c.loop-number.cells)) c.loop-number-test.place
stands c = line_read c.args.bytes.now c.args.at _ _ (λ i. (c.type_inv.bytes i).fits) (read c)

pub invariant_of-result : goal.invariant_of-result
invariant_of-result c = record { sound = line_from (cells_in c.loop-number.cells) (stands c).0 }

pub returns : goal.returns
returns c = let d = (at-returns c).In_ok-outcome in record { answer = read d; same_bytes = (stands d).1 }
