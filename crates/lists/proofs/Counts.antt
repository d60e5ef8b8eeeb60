-- The lines of a page, counted one after another. Assumes nothing.
use Rattle.std.proofs.Common.{◌≡◌, ℕ, ◌+◌, ◌≤◌, List, [], ◌∷◌, ◌++◌, length, Ok, Err, Option, Result, sym, refl, ap, ◌∙◌, arith}
use Rattle.std.proofs.lemmas.List.{length_push}
use Rattle.pages.specs.declared.lines.Line.{Line}
use Rattle.pages.specs.declared.faults.PageFault.{PageFault}
use Rattle.pages.specs.declared.page_reader.PageLines.{PageLines}
use Rattle.pages.specs.Shape.{Cells, Lines}
use Rattle.pages.specs.Reading.{read_page}
use Rattle.pages.specs.Answers.{line_of, answers_left, gathered, BeforeFirst, GoesThrough}
use Rattle.pages.proofs.Paging.{left_few, after_lines, after_none, after_push}
use Rattle.lists.specs.Calls.{counted, lines_of}

-- so many lines are passed; `rest` is what is still to be answered
pub record Passed (bytes : List ℕ) (number : ℕ) (rest : List (Result Cells PageFault)) : Type 0 where
  pub lines : Lines
  pub long : length lines ≡ number
  pub few : number + length rest ≤ 41
  pub whole : read_page bytes ≡ after_lines lines (gathered rest)

pub passed_none : (bytes : List ℕ) {left : Option PageLines} (p : PageLines) → GoesThrough p left → BeforeFirst bytes p → Passed bytes 0 (answers_left left)
passed_none bytes {left} p goes h =
    record {
      lines = [];
      long = refl;
      few = omega (arith, left_few bytes p goes.from h);
      whole = h.whole ∙ sym goes.whole ∙ sym (after_none (gathered (answers_left left)));
    }

module _ {bytes : List ℕ} {number : ℕ} {rest : List (Result Cells PageFault)} (h : Passed bytes number rest) where
  pub passed_more : (line : Line) (more : List (Result Cells PageFault)) → rest ≡ Ok (line_of line) ∷ more → Passed bytes (number + 1) more
  passed_more line more e =
      let l = line_of line in
      let lines = h.lines in
      record {
        lines = lines ++ l ∷ [];
        long = length_push lines l ∙ ap (λ n. n + 1) h.long;
        few = omega (arith, ap length e, h.few);
        whole = h.whole ∙ ap (λ r. after_lines lines (gathered r)) e ∙ after_push lines l (gathered more);
      }

pub all_counted : (r : Result Lines PageFault) (n : ℕ) → counted r ≡ Ok n → n ≡ length (lines_of r)
all_counted (Ok lines) n e = cc
all_counted (Err f) n e = cc
