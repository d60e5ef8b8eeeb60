-- What each call answers, and what it leaves. Assumes nothing.
use Rattle.std.specs.Prelude.{◌≡◌, ℕ, ◌+◌, ◌-◌, ◌*◌, ◌≤◌, min, Bool, cond, ◌&&◌, List, [], ◌∷◌, ◌++◌, length, take, drop, Some, None, Ok, Err, Option, Result, nat_le, nat_lt}
use Rattle.std.specs.List.{list_all, slice_get}
use Rattle.pages.specs.Shape.{Alternatives, Cells, Lines}
use Rattle.pages.specs.Reading.{onward, read_page}
use Rattle.pages.specs.Writing.{line_bytes, page_bytes}
use Rattle.scores.specs.Scores.{Meaning}
use Rattle.grammars.specs.Grammars.{Sets}
use Rattle.search.specs.Chains.{Chain, text, total, ranking}
use Rattle.bench.specs.Searched.{admitted, due, first_passing}
use Rattle.reader.specs.declared.calls.Outcome.{Outcome}
use Rattle.reader.specs.declared.calls.Outcome.TheVariants.{Found, Spent, Exhausted}
use Rattle.reader.specs.declared.calls.Report.{Report}
use Rattle.reader.specs.declared.refusals.Refusal.{Refusal}
use Rattle.reader.specs.declared.refusals.Refusal.TheVariants as refusal
use Rattle.reader.specs.Views.{View, loaded}

-- no penalty of the cell is above the highest
abbrev pub light : ℕ → Alternatives → Bool
light highest c = list_all (λ a. nat_le a.penalty highest) c

abbrev pub all_light : ℕ → Cells → Bool
all_light highest l = list_all (light highest) l

-- the score takes the line: no more cells than its most, and no penalty above its highest
abbrev pub takes : Meaning → Cells → Bool
takes s l = nat_le (length l) s.most_cells && all_light s.highest_penalty l

-- LOAD. Of a good page the line of the number, if there is one and the score takes it
abbrev pub taken_by : Meaning → Option Cells → Result Cells Refusal
taken_by s None = Err refusal.LineNumber
taken_by s (Some l) = cond (takes s l) (Ok l) (Err refusal.Score)

-- the line that a load takes, or its refusal: the page's fault, then the line number, then the score
abbrev pub loading : Meaning → List ℕ → ℕ → Result Cells Refusal
loading s page n = onward (read_page page) refusal.Page (λ lines. taken_by s (slice_get lines n))

-- a line that a load takes is the one of the number, and its bytes are those that the page has for it
abbrev pub FromPage : List ℕ → ℕ → Result Cells Refusal → Type 0
FromPage page n (Ok l) = (before : Lines) × (behind : Lines) × (length before ≡ n) × (page ≡ page_bytes (before ++ l ∷ behind))
FromPage page n (Err r) = Unit {0}

abbrev pub answered : Result Cells Refusal → Result (Unit {0}) Refusal
answered (Ok l) = Ok tt
answered (Err r) = Err r

abbrev pub loaded_into : View → Result Cells Refusal → View
loaded_into v (Ok l) = loaded l
loaded_into v (Err r) = v

-- GRANT of n: at least 1, and cells × (granted + n) at most 4,095
abbrev pub granting_to : Option Cells → ℕ → ℕ → Result (Unit {0}) Refusal
granting_to None granted n = Err refusal.NoLine
granting_to (Some l) granted n = cond (nat_le 1 n && nat_le (length l * (granted + n)) 4095) (Ok tt) (Err refusal.Grant)

abbrev pub granting : View → ℕ → Result (Unit {0}) Refusal
granting v n = granting_to v.line v.granted n

abbrev pub granted_more : View → ℕ → Result (Unit {0}) Refusal → View
granted_more v n (Ok done) = record { line = v.line; granted = v.granted + n; looked = v.looked; handed = v.handed; last_total = v.last_total }
granted_more v n (Err r) = v

-- NEXT: its answer, what is seen of the reader after it, and the place after it
pub record Nexted : Type 0 where
  pub answer : Result Outcome Refusal
  pub state : View
  pub place : List ℕ

abbrev pub refuse_next : View → List ℕ → Refusal → Nexted
refuse_next v place r = record { answer = Err r; state = v; place = place }

-- with one found, as many stand before it among those due, and its text is written; with none found, a live chain is left or
-- not, and nothing is written
abbrev pub next_came : Meaning → Cells → View → List ℕ → ℕ → Option (ℕ × Chain) → Nexted
next_came s l v place live (Some found) = record {
  answer = Ok (Found (length l));
  state = record { line = v.line; granted = v.granted; looked = v.looked + found.0 + 1; handed = v.handed + 1; last_total = Some (total s l found.1) };
  place = text l found.1 ++ drop (length l) place;
}
next_came s l v place live None = record {
  answer = Ok (cond (nat_lt v.granted live) Spent Exhausted);
  state = record { line = v.line; granted = v.granted; looked = min v.granted live; handed = v.handed; last_total = v.last_total };
  place = place;
}

-- no line, then a place shorter than the line's cells; else the first admissible one of the live chains that are due
abbrev pub next_on : Meaning → Sets → View → List ℕ → Option Cells → Nexted
next_on s g v place None = refuse_next v place refusal.NoLine
next_on s g v place (Some l) =
    cond (nat_lt (length place) (length l)) (refuse_next v place refusal.Place)
    (next_came s l v place (length (ranking s g.allows l)) (first_passing (admitted g l) (due s g l v.looked v.granted)))

abbrev pub next_of : Meaning → Sets → View → List ℕ → Nexted
next_of s g v place = next_on s g v place v.line

-- REPORT
abbrev pub cells_of : Option Cells → ℕ
cells_of None = 0
cells_of (Some l) = length l

-- Places in use are the one thing that is only bounded: by 1 + looked × (cells − 1) once a line is loaded, and 0 before.
abbrev pub PlacesInUse : Option Cells → ℕ → ℕ → Type 0
PlacesInUse None looked places = places ≡ 0
PlacesInUse (Some l) looked places = places ≤ 1 + looked * (length l - 1)

pub record Reports (v : View) (r : Report) : Type 0 where
  pub cells : r.cells ≡ cells_of v.line
  pub granted : r.granted ≡ v.granted
  pub looked : r.looked ≡ v.looked
  pub handed : r.handed ≡ v.handed
  pub places : PlacesInUse v.line v.looked r.places

-- LINE WRITING: the answer, and the place after it
abbrev pub writing : Option Cells → List ℕ → Result ℕ Refusal × List ℕ
writing None place = (Err refusal.NoLine, place)
writing (Some l) place =
    cond (nat_lt (length place) (length (line_bytes l))) (Err refusal.Place, place)
    (Ok (length (line_bytes l)), line_bytes l ++ drop (length (line_bytes l)) place)

-- what was written is, behind a byte 1, a page of that line alone
abbrev pub ReadsBack : Result ℕ Refusal → Option Cells → List ℕ → Type 0
ReadsBack (Ok n) (Some l) place = read_page (1 ∷ take n place) ≡ Ok (l ∷ [])
ReadsBack (Ok n) None place = ⊥
ReadsBack (Err r) line place = Unit {0}
