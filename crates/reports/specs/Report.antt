-- What is printed of a page. Assumes nothing.
use Rattle.std.specs.Prelude.{ℕ, ◌+◌, List, [], ◌∷◌, ◌++◌, length, Ok, Err, codes, decimal, sum_by, Result}
use Rattle.pages.specs.declared.faults.PageFault.{PageFault}
use Rattle.pages.specs.Shape.{Cells, Lines}
use Rattle.pages.specs.Faults.{page_returns}
use Rattle.pages.specs.Reading.{read_page}
use Rattle.reports.specs.Words.{page_words}

-- how many alternatives a line has in all
abbrev pub alternatives_in : Cells → ℕ
alternatives_in cells = sum_by length cells

-- a row for a line: its number, its cells, its alternatives in all
abbrev pub line_row : ℕ → Cells → List ℕ
line_row number l =
    codes "line " ++ (decimal number ++ (codes ": cells " ++ (decimal (length l) ++ (codes ", alternatives " ++ (decimal (alternatives_in l) ++ codes "\n")))))

-- a row for each line, numbered from a number on
unfoldable pub line_rows : ℕ → Lines → List ℕ
line_rows number [] = []
line_rows number (l ∷ more) = line_row number l ++ line_rows (number + 1) more

-- the count of the lines, and a row for each
abbrev pub good_text : Lines → List ℕ
good_text lines = codes "page of " ++ (decimal (length lines) ++ (codes " lines\n" ++ line_rows 0 lines))

-- the number and the place of the refusal, and below it the words
abbrev pub refusal_text : List ℕ → PageFault → List ℕ
refusal_text bytes f =
    codes "refused " ++ (decimal (page_returns f).number ++ (codes " at " ++ (decimal (page_returns f).place ++ (codes "\n" ++ (page_words bytes f ++ codes "\n")))))

abbrev pub text_of : List ℕ → Result Lines PageFault → List ℕ
text_of bytes (Ok lines) = good_text lines
text_of bytes (Err f) = refusal_text bytes f

abbrev pub report_text : List ℕ → List ℕ
report_text bytes = text_of bytes (read_page bytes)
