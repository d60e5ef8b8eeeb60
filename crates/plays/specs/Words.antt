-- What a call answered, in words, and the line that is printed of it. Assumes nothing.
use Rattle.std.specs.Prelude.{ℕ, List, [], ◌∷◌, ◌++◌, take, Some, None, Ok, Err, Option, Result, codes, decimal}
use Rattle.std.specs.Borrow.{Bor}
use Rattle.std.specs.Str.Lossy.{utf8_lossy}
use Rattle.reader.specs.declared.calls.Outcome.TheVariants.{Found, Spent, Exhausted}
use Rattle.reader.specs.declared.refusals.Refusal.{Refusal}
use Rattle.refusalwords.specs.Words.{refused_words}
use Rattle.runs.specs.declared.rows.Call.{Call}
use Rattle.runs.specs.declared.rows.Call.TheVariants as call
use Rattle.runs.specs.declared.rows.Row.{Row}
use Rattle.runs.specs.declared.rows.Answer.{Answer}
use Rattle.runs.specs.declared.rows.Answer.TheVariants.{Loaded, Granted, Next, Reported}
use Rattle.runs.specs.Runs.{cut}

-- what a call answered, of a reading by the first bytes of its place
abbrev pub answer_words : List ℕ → List ℕ → Result Answer Refusal → List ℕ
answer_words page place (Ok Loaded) = codes "loaded"
answer_words page place (Ok Granted) = codes "granted"
answer_words page place (Ok (Next (Found n))) = codes "found " ++ utf8_lossy (take n place)
answer_words page place (Ok (Next Spent)) = codes "spent"
answer_words page place (Ok (Next Exhausted)) = codes "exhausted"
answer_words page place (Ok (Reported r)) =
    decimal r.cells
    ++ (codes " cells, " ++ (decimal r.granted ++ (codes " granted, " ++ (decimal r.looked ++ (codes " looked at, " ++ (decimal r.handed ++ (codes " handed out, " ++ (decimal r.places ++ codes " places in use"))))))))
answer_words page place (Err r) = refused_words page r

-- the page of a load, and the place of a next, among the bytes lent
abbrev pub page_of : List ℕ → Call → List ℕ
page_of pages (call.Load p n) = cut pages p
page_of pages c = []

abbrev pub place_of : List ℕ → Call → List ℕ
place_of places (call.Next p) = cut places p
place_of places c = []

-- the line of a call that was made: how it was written, and what it answered
abbrev pub call_line : List ℕ → List ℕ → List ℕ → Call → Option (Result Answer Refusal) → List ℕ
call_line pages places text c (Some a) = text ++ (codes ": " ++ (answer_words (page_of pages c) (place_of places c) a ++ codes "\n"))
call_line pages places text c None = []

-- the lines of calls, one after another: how each was written, and its row
unfoldable pub call_lines : List ℕ → List ℕ → List (Bor (List ℕ)) → List Row → List ℕ
call_lines pages places (text ∷ texts) (row ∷ rows) = call_line pages places text.now row.call row.answer ++ call_lines pages places texts rows
call_lines pages places texts rows = []
