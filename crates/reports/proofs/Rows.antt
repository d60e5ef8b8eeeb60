-- The rows of a page's lines, one after another. Assumes nothing.
use Rattle.std.proofs.Common.{◌≡◌, ℕ, suc, ◌+◌, ◌≤◌, List, [], ◌∷◌, ◌++◌, length, Ok, Option, Result, sym, refl, ap, ◌∙◌, append_assoc, append-nil, zero-add, arith}
use Rattle.std.proofs.lemmas.List.{length_push}
use Rattle.pages.specs.declared.lines.Line.{Line}
use Rattle.pages.specs.declared.faults.PageFault.{PageFault}
use Rattle.pages.specs.declared.page_reader.PageLines.{PageLines}
use Rattle.pages.specs.Shape.{Cells, Lines}
use Rattle.pages.specs.Reading.{read_page}
use Rattle.pages.specs.Answers.{line_of, answers_left, gathered, BeforeFirst, GoesThrough}
use Rattle.pages.proofs.Paging.{left_few, after_lines, after_none, after_push}
use Rattle.reports.specs.Report.{line_row, line_rows}

-- a line more is a row more
rows_push : (number : ℕ) (lines : Lines) (l : Cells) → line_rows number (lines ++ l ∷ []) ≡ line_rows number lines ++ line_row (number + length lines) l
unfolding line_rows
rows_push number [] l =
    let here : number + 0 ≡ number = omega arith in
    append-nil (line_row number l) ∙ ap (λ n. line_row n l) (sym here)
rows_push number (m ∷ lines) l =
    let next : (number + 1) + length lines ≡ number + suc (length lines) = omega arith in
    ap (λ rows. line_row number m ++ rows) (rows_push (number + 1) lines l ∙ ap (λ n. line_rows (number + 1) lines ++ line_row n l) next)
    ∙ sym (append_assoc (line_row number m) (line_rows (number + 1) lines) (line_row (number + suc (length lines)) l))

-- so many lines are passed, and their rows are written; `rest` is what is still to be answered
pub record Rowed (bytes : List ℕ) (number : ℕ) (rest : List (Result Cells PageFault)) (rows : List ℕ) : Type 0 where
  pub lines : Lines
  pub long : length lines ≡ number
  pub few : number + length rest ≤ 41
  pub whole : read_page bytes ≡ after_lines lines (gathered rest)
  pub written : rows ≡ line_rows 0 lines

pub rowed_none : (bytes : List ℕ) {left : Option PageLines} (p : PageLines) (rows : List ℕ) → GoesThrough p left → BeforeFirst bytes p → rows ≡ []
    → Rowed bytes 0 (answers_left left) rows
unfolding line_rows
rowed_none bytes {left} p rows goes h e =
    record {
      lines = [];
      long = refl;
      few = omega (arith, left_few bytes p goes.from h);
      whole = h.whole ∙ sym goes.whole ∙ sym (after_none (gathered (answers_left left)));
      written = e;
    }

pub rowed_more : {bytes : List ℕ} {number : ℕ} {rest : List (Result Cells PageFault)} {rows : List ℕ} → Rowed bytes number rest rows
    → (line : Line) (more : List (Result Cells PageFault)) (then : List ℕ) → rest ≡ Ok (line_of line) ∷ more
    → then ≡ rows ++ line_row number (line_of line) → Rowed bytes (number + 1) more then
rowed_more {number = number} h line more then e is =
    let l = line_of line in
    let lines = h.lines in
    record {
      lines = lines ++ l ∷ [];
      long = length_push lines l ∙ ap (λ n. n + 1) h.long;
      few = omega (arith, ap length e, h.few);
      whole = h.whole ∙ ap (λ r. after_lines lines (gathered r)) e ∙ after_push lines l (gathered more);
      written =
          is
          ∙ ap (λ r. r ++ line_row number l) h.written
          ∙ ap (λ n. line_rows 0 lines ++ line_row n l) (sym h.long ∙ sym (zero-add (length lines)))
          ∙ sym (rows_push 0 lines l);
    }
