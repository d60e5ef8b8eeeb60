-- What listing a page answers and leaves, and what its steps come to. Assumes nothing.
use Rattle.std.specs.Prelude.{ℕ, cond, List, [], ◌∷◌, ◌++◌, length, drop, Some, None, Ok, Err, Option, Result, codes, decimal, nat_lt, slice_index_or, take}
use Rattle.placefault.specs.declared.PlaceFault.{PlaceFault}
use Rattle.pages.specs.declared.faults.PageFault.{PageFault}
use Rattle.pages.specs.Shape.{Cells, Lines}
use Rattle.pages.specs.Reading.{read_page}
use Rattle.scores.specs.Scores.{sum_meaning}
use Rattle.grammars.specs.Dates.{date_sets}
use Rattle.bench.specs.Searched.{admitted, first_passing}
use Rattle.reader.specs.declared.calls.Outcome.{Outcome}
use Rattle.reader.specs.declared.calls.Outcome.TheVariants.{Found, Spent, Exhausted}
use Rattle.reader.specs.Views.{View}
use Rattle.reader.specs.Calls.{Nexted, next_came}
use Rattle.lists.specs.declared.rows.Row.{Row}
use Rattle.lists.specs.Lists.{printed, live_chains, reached, date_list}

-- LISTING into a place: the answer, and the place after it. A place of fewer than 2,048 bytes is refused and left whole; else the
-- list stands at its start, and the rest is left.
abbrev pub listing : List ℕ → List ℕ → Result ℕ PlaceFault × List ℕ
listing page place =
    cond (nat_lt (length place) 2048) (Err (record {}), place)
    (Ok (length (date_list page)), date_list page ++ drop (length (date_list page)) place)

-- how many lines a good page has
abbrev pub counted : Result Lines PageFault → Result ℕ PageFault
counted (Ok lines) = Ok (length lines)
counted (Err f) = Err f

-- the lines of a page; none of a bad one
abbrev pub lines_of : Result Lines PageFault → Lines
lines_of (Ok lines) = lines
lines_of (Err f) = []

abbrev pub lines_in : List ℕ → Lines
lines_in page = lines_of (read_page page)

-- the line of a number
abbrev pub line_at : List ℕ → ℕ → Cells
line_at page number = slice_index_or (lines_in page) number []

-- a reader with a line loaded, and 170 granted
abbrev pub granted : Cells → View
granted l = record { line = Some l; granted = 170; looked = 0; handed = 0; last_total = None }

-- what the next then comes to, with room for the line's text: the load, the grant and the next are not refused
abbrev pub came : Cells → List ℕ → Nexted
came l place = next_came sum_meaning l (granted l) place (length (live_chains l)) (first_passing (admitted date_sets l) (reached l))

-- what is seen of a reader once lines have been listed, one after another: the last of them is loaded, and its next has come
abbrev pub seen_after : View → Lines → View
seen_after v [] = v
seen_after v (l ∷ more) = seen_after (came l []).state more

-- and once a page was listed into a place: a place too short is refused, and a bad page has no lines
abbrev pub seen_listed : View → List ℕ → List ℕ → View
seen_listed v page place = cond (nat_lt (length place) 2048) v (seen_after v (lines_in page))

-- the words of a row, from what the next answered and wrote, and from what is seen of the reader after it
abbrev pub reading_word : Outcome → List ℕ → List ℕ
reading_word (Found cells) place = take cells place
reading_word Spent place = codes "-"
reading_word Exhausted place = codes "-"

abbrev pub total_word : Option ℕ → List ℕ
total_word (Some total) = decimal total
total_word None = codes "-"

abbrev pub outcome_word : Outcome → List ℕ
outcome_word (Found cells) = codes "found"
outcome_word Spent = codes "spent"
outcome_word Exhausted = codes "exhausted"

abbrev pub row_words : Row → List ℕ
row_words r = printed (decimal r.number ∷ r.reading.now ∷ total_word r.total ∷ decimal r.looked ∷ r.outcome.now ∷ [])

-- how many bytes were written
abbrev pub found_bytes : Outcome → ℕ
found_bytes (Found cells) = cells
found_bytes Spent = 0
found_bytes Exhausted = 0
