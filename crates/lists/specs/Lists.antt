-- What is printed of a page: a row for each line, or the refusal. Assumes nothing.
use Rattle.std.specs.Prelude.{ℕ, ◌+◌, cond, List, [], ◌∷◌, ◌++◌, length, take, Some, None, Ok, Err, Option, Result, codes, decimal, nat_lt}
use Rattle.pages.specs.declared.faults.PageFault.{PageFault}
use Rattle.pages.specs.Shape.{Cells, Lines}
use Rattle.pages.specs.Faults.{page_returns}
use Rattle.pages.specs.Reading.{read_page}
use Rattle.scores.specs.Scores.{sum_meaning}
use Rattle.grammars.specs.Dates.{date_sets}
use Rattle.search.specs.Chains.{Chain, text, total, ranking}
use Rattle.bench.specs.Searched.{admitted, first_passing}

-- words with one blank between, and a line feed behind the last
abbrev pub printed : List (List ℕ) → List ℕ
printed [] = codes "\n"
printed (w ∷ []) = w ++ codes "\n"
printed (w ∷ v ∷ more) = w ++ (codes " " ++ printed (v ∷ more))

-- the live chains of a line in their order, for dates and the sum of the penalties
abbrev pub live_chains : Cells → List Chain
live_chains l = ranking sum_meaning date_sets.allows l

-- those that the grant reaches: the first 170, or all of them where there are fewer
abbrev pub reached : Cells → List Chain
reached l = take 170 (live_chains l)

-- with no reading found: spent where more chains are live than the grant reaches
abbrev pub without_reading : Cells → List ℕ
without_reading l = cond (nat_lt 170 (length (live_chains l))) (codes "spent") (codes "exhausted")

-- The row of a line that has some number. With a reading found, of which is said how many of the chains reached stand before it, those
-- and the reading itself were looked at; with none found, all that are reached were.
abbrev pub row_of : ℕ → Cells → Option (ℕ × Chain) → List ℕ
row_of number l (Some found) =
    printed (decimal number ∷ text l found.1 ∷ decimal (total sum_meaning l found.1) ∷ decimal (found.0 + 1) ∷ codes "found" ∷ [])
row_of number l None =
    printed (decimal number ∷ codes "-" ∷ codes "-" ∷ decimal (length (reached l)) ∷ without_reading l ∷ [])

-- the reading found is the first admissible one of the chains reached: the first date
unfoldable pub row : ℕ → Cells → List ℕ
row number l = row_of number l (first_passing (admitted date_sets l) (reached l))

-- a row for each line, numbered from a number on
unfoldable pub rows : ℕ → Lines → List ℕ
rows number [] = []
rows number (l ∷ more) = row number l ++ rows (number + 1) more

unfoldable pub header : List ℕ
header = codes "line reading total looked outcome\n"

-- the returned number and the byte place of a page's fault
abbrev pub refusal : PageFault → List ℕ
refusal f = printed (codes "refused" ∷ decimal (page_returns f).number ∷ codes "at" ∷ decimal (page_returns f).place ∷ [])

abbrev pub list_of : Result Lines PageFault → List ℕ
list_of (Ok lines) = header ++ rows 0 lines
list_of (Err f) = refusal f

-- THE LIST of a page
abbrev pub date_list : List ℕ → List ℕ
date_list page = list_of (read_page page)
