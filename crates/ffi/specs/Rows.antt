-- The rows of a run: which call a row asks for, and how what came of it is told, in the numbers of include/markbook.h. Assumes nothing.
use Rattle.std.specs.Prelude.{ℕ, Bool, cond, ◌&&◌, List, [], ◌∷◌, Some, None, Ok, Err, Option, Result, ◌==◌, nat_le}
use Rattle.reader.specs.declared.calls.Outcome.{Outcome}
use Rattle.reader.specs.declared.calls.Outcome.TheVariants.{Found, Spent, Exhausted}
use Rattle.reader.specs.declared.calls.Report.{Report}
use Rattle.reader.specs.declared.refusals.Refusal.{Refusal}
use Rattle.reader.specs.Refusals.{details_of}
use Rattle.runs.specs.declared.rows.Call.{Call}
use Rattle.runs.specs.declared.rows.Call.TheVariants as call
use Rattle.runs.specs.declared.rows.Answer.{Answer}
use Rattle.runs.specs.declared.rows.Answer.TheVariants as answer
use Rattle.runs.specs.declared.rows.Row as inner
use Rattle.ffi.specs.declared.rows.Asked.{Asked}
use Rattle.ffi.specs.declared.rows.Came.{Came}
use Rattle.ffi.specs.declared.rows.Row.{Row}
use Rattle.ffi.specs.declared.refusals.RefusalFields.{RefusalFields}
use Rattle.ffi.specs.Refusals.{none, fields_of}

-- there is a call of the number: 1 load, 2 grant, 3 next, 4 report
abbrev pub is_call : Asked → Bool
is_call a = nat_le 1 a.call && nat_le a.call 4

-- the call of the number; no other number is run
abbrev pub call_of : Asked → Call
call_of a =
    cond (a.call == 1) (call.Load (record { start = a.start; length = a.length }) a.number)
    (cond (a.call == 2) (call.Grant a.number)
    (cond (a.call == 3) (call.Next (record { start = a.start; length = a.length }))
    call.Report))

-- the row that is run, not made yet
abbrev pub row_of : Asked → inner.Row
row_of a = record { call = call_of a; answer = None }

-- the outcome of the number, and nothing else
abbrev pub only : ℕ → Came
only n = record { outcome = n; refused = 0; place = none; line = none; cell = none; written = 0; cells = 0; granted = 0; looked = 0; handed = 0; places = 0 }

-- 3 found, with the number of bytes written, 4 spent, 5 exhausted
abbrev pub next_came : Outcome → Came
next_came (Found n) = record (only 3) { written = n }
next_came Spent = only 4
next_came Exhausted = only 5

-- 6 reported
abbrev pub report_came : Report → Came
report_came r = record (only 6) { cells = r.cells; granted = r.granted; looked = r.looked; handed = r.handed; places = r.places }

-- 7 refused, with the number of the refusal and its values
abbrev pub refused_by : RefusalFields → Came
refused_by f = record (only 7) { refused = f.number; place = f.place; line = f.line; cell = f.cell }

abbrev pub refusal_came : Refusal → Came
refusal_came r = refused_by (fields_of (details_of r))

-- 0 not made, 1 loaded, 2 granted
abbrev pub came_of : Option (Result Answer Refusal) → Came
came_of None = only 0
came_of (Some (Ok answer.Loaded)) = only 1
came_of (Some (Ok answer.Granted)) = only 2
came_of (Some (Ok (answer.Next o))) = next_came o
came_of (Some (Ok (answer.Reported r))) = report_came r
came_of (Some (Err r)) = refusal_came r

-- the rows after a run: what is asked stays, and what came of each is told
abbrev pub told : List Row → List inner.Row → List Row
told [] made = []
told (r ∷ rows) [] = r ∷ rows
told (r ∷ rows) (m ∷ made) = record { asked = r.asked; came = came_of m.answer } ∷ told rows made
