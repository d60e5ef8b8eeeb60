-- Runs: what came of any list of calls on a new reader, and the law of each. Assumes nothing.
use Rattle.std.specs.Prelude.{◌≡◌, ℕ, ◌+◌, ◌<◌, ◌≤◌, true, ◌⊎◌, ◌↔◌, Contains, List, [], ◌∷◌, ◌++◌, length, take, drop, Some, None, Ok, Err, Option, Result}
use Rattle.std.specs.Option.{option_map}
use Rattle.pages.specs.Shape.{Cells}
use Rattle.scores.specs.Scores.{Meaning}
use Rattle.grammars.specs.Grammars.{Sets}
use Rattle.search.specs.Chains.{Chain, ChainOf, text, total, before, ranking}
use Rattle.reader.specs.declared.calls.Outcome.TheVariants.{Found, Spent, Exhausted}
use Rattle.reader.specs.declared.calls.Report.{Report}
use Rattle.reader.specs.declared.refusals.Refusal.{Refusal}
use Rattle.reader.specs.declared.refusals.Refusal.TheVariants as refusal
use Rattle.runs.specs.declared.rows.Part.{Part}
use Rattle.runs.specs.declared.rows.Call.{Call}
use Rattle.runs.specs.declared.rows.Call.TheVariants as call
use Rattle.runs.specs.declared.rows.Answer.{Answer}
use Rattle.runs.specs.declared.rows.Answer.TheVariants as answer
use Rattle.runs.specs.declared.rows.Row.{Row}
use Rattle.bench.specs.Searched.{admitted}
use Rattle.reader.specs.Views.{View}
use Rattle.reader.specs.Calls.{loading, granting_to, cells_of, PlacesInUse}

-- What came of a call, seen from outside.
pub data Event : Type 0 where
  loaded : Cells → Event
  granted : ℕ → Event
  found : Chain → Event
  spent : Event
  exhausted : Event
  reported : Event
  refused : Event

-- A call that is over: what came of it, and how many live chains had been looked at by then.
pub record Moment : Type 0 where
  pub event : Event
  pub looked : ℕ

abbrev pub moment : Event → ℕ → Moment
moment e n = record { event = e; looked = n }

-- A history lists moments, the newest first, and is read back to the last load that was taken. Its line:
abbrev pub line_after : Event → Option Cells → Option Cells
line_after (loaded l) o = Some l
line_after e o = o

abbrev pub line_in : List Moment → Option Cells
line_in [] = None
line_in (x ∷ h) = line_after x.event (line_in h)

-- the sum of the grants taken since
abbrev pub granted_after : Event → ℕ → ℕ
granted_after (loaded l) k = 0
granted_after (granted n) k = k + n
granted_after e k = k

abbrev pub granted_in : List Moment → ℕ
granted_in [] = 0
granted_in (x ∷ h) = granted_after x.event (granted_in h)

-- the readings handed out since, the newest first
abbrev pub handed_after : Event → List Chain → List Chain
handed_after (loaded l) cs = []
handed_after (found c) cs = c ∷ cs
handed_after e cs = cs

abbrev pub handed_in : List Moment → List Chain
handed_in [] = []
handed_in (x ∷ h) = handed_after x.event (handed_in h)

-- how many had been looked at
abbrev pub looked_in : List Moment → ℕ
looked_in [] = 0
looked_in (x ∷ h) = x.looked

-- the total of the last reading handed out since
abbrev pub last_total_after : Meaning → Option Cells → Event → Option ℕ → Option ℕ
last_total_after s line (loaded l) last = None
last_total_after s line (found c) last = option_map (λ l. total s l c) line
last_total_after s line e last = last

abbrev pub last_total_in : Meaning → List Moment → Option ℕ
last_total_in s [] = None
last_total_in s (x ∷ h) = last_total_after s (line_in h) x.event (last_total_in s h)

-- what is seen of a reader that had no line at the start
abbrev pub seen_after : Meaning → List Moment → View
seen_after s h = record {
  line = line_in h;
  granted = granted_in h;
  looked = looked_in h;
  handed = length (handed_in h);
  last_total = last_total_in s h;
}

-- a next that was not refused, and one that found a reading
abbrev pub IsNext : Event → Type 0
IsNext (found c) = Unit {0}
IsNext spent = Unit {0}
IsNext exhausted = Unit {0}
IsNext e = ⊥

abbrev pub IsFound : Event → Type 0
IsFound (found c) = Unit {0}
IsFound e = ⊥

-- none after a load, and else as many as before
abbrev pub looked_still : Event → ℕ → ℕ
looked_still (loaded l) k = 0
looked_still e k = k

-- the live chains of a line in their order
abbrev pub live_chains : Meaning → Sets → Cells → List Chain
live_chains s g l = ranking s g.allows l

-- a chain of the line whose text the grammar admits
abbrev pub Admissible : Sets → Cells → Chain → Type 0
Admissible g l c = ChainOf l c × (admitted g l c ≡ true)

-- among the first k live chains there is an admissible one that has not been handed out
abbrev pub UnseenWithin : Meaning → Sets → List Moment → Cells → ℕ → Type 0
UnseenWithin s g h l k = (c : Chain) × Contains (take k (live_chains s g l)) c × (admitted g l c ≡ true) × (Contains (handed_in h) c → ⊥)

-- THE LAW of a moment x after the history h.
pub record Lawful (s : Meaning) (g : Sets) (h : List Moment) (x : Moment) : Type 0 where
  -- a reading handed out was admissible, was new since its line was loaded, and stood before every other reading then admissible and not yet handed out
  pub best_unseen : (l : Cells) (c : Chain) → line_in h ≡ Some l → x.event ≡ found c
      → Admissible g l c × (Contains (handed_in h) c → ⊥) × ((d : Chain) → Admissible g l d → (Contains (handed_in h) d → ⊥) → (d ≡ c) ⊎ (before s l c d ≡ true))
  -- the number looked at never passes the grant, nor the number of live chains
  pub never_above_grant : x.looked ≤ granted_in (x ∷ h)
  pub never_past_end : (l : Cells) → line_in (x ∷ h) ≡ Some l → x.looked ≤ length (live_chains s g l)
  -- exactly the admissible ones among the first live chains, as many as have been looked at, have been handed out
  pub first_looked_handed : (l : Cells) → line_in (x ∷ h) ≡ Some l → (c : Chain)
      → Contains (handed_in (x ∷ h)) c ↔ (Contains (take x.looked (live_chains s g l)) c × (admitted g l c ≡ true))
  -- a next finds one exactly when the first live chains, as many as are granted, hold an admissible one not yet handed out
  pub found_exactly_when : (l : Cells) → line_in h ≡ Some l → IsNext x.event → IsFound x.event ↔ UnseenWithin s g h l (granted_in h)
  -- otherwise it says exhausted exactly when no live chain is left, and spent exactly when one is left and the grant is used up
  pub exhausted_exactly_when : (l : Cells) → line_in h ≡ Some l → IsNext x.event → (IsFound x.event → ⊥)
      → (x.event ≡ exhausted) ↔ (length (live_chains s g l) ≤ x.looked)
  pub spent_exactly_when : (l : Cells) → line_in h ≡ Some l → IsNext x.event → (IsFound x.event → ⊥)
      → (x.event ≡ spent) ↔ ((x.looked < length (live_chains s g l)) × (x.looked ≡ granted_in h))
  -- a next stops at the reading that it hands out, and no other call looks at a chain
  pub stops_there : (l : Cells) (c : Chain) → line_in h ≡ Some l → x.event ≡ found c
      → (j : ℕ) × (looked_in h ≤ j) × (x.looked ≡ j + 1) × (drop j (live_chains s g l) ≡ c ∷ drop (j + 1) (live_chains s g l))
  pub looks_only_in_next : (IsNext x.event → ⊥) → x.looked ≡ looked_still x.event (looked_in h)

-- a part of lent bytes, cut off at their end
abbrev pub cut : List ℕ → Part → List ℕ
cut bytes part = take part.length (drop part.start bytes)

-- the bytes with others written from the part's start
abbrev pub overwritten : List ℕ → Part → List ℕ → List ℕ
overwritten bytes part new = take part.start bytes ++ (new ++ drop (part.start + length new) bytes)

-- a report tells the cells of the line, and what the history has granted, looked at and handed out
pub record Reported (h : List Moment) (r : Report) : Type 0 where
  pub cells : r.cells ≡ cells_of (line_in h)
  pub granted_is : r.granted ≡ granted_in h
  pub looked_is : r.looked ≡ looked_in h
  pub handed_is : r.handed ≡ length (handed_in h)
  pub places : PlacesInUse (line_in h) (looked_in h) r.places

-- why a next is refused: no line is loaded, or the place is shorter than the line's cells
abbrev pub NextRefused : Option Cells → List ℕ → Refusal → Type 0
NextRefused None place r = r ≡ refusal.NoLine
NextRefused (Some l) place r = (r ≡ refusal.Place) × (length place < length l)

-- ONE CALL after the history h: what it answers, the moment that it makes, and the places after it.
pub data CallMade (s : Meaning) (g : Sets) (pages : List ℕ) (h : List Moment) (places : List ℕ) : Call → Result Answer Refusal → Moment → List ℕ → Type 0 where
  load_taken : {part : Part} {n : ℕ} {l : Cells} → loading s (cut pages part) n ≡ Ok l
      → CallMade s g pages h places (call.Load part n) (Ok answer.Loaded) (moment (loaded l) 0) places
  load_refused : {part : Part} {n : ℕ} {r : Refusal} → loading s (cut pages part) n ≡ Err r
      → CallMade s g pages h places (call.Load part n) (Err r) (moment refused (looked_in h)) places
  grant_taken : {n : ℕ} → granting_to (line_in h) (granted_in h) n ≡ Ok tt
      → CallMade s g pages h places (call.Grant n) (Ok answer.Granted) (moment (granted n) (looked_in h)) places
  grant_refused : {n : ℕ} {r : Refusal} → granting_to (line_in h) (granted_in h) n ≡ Err r
      → CallMade s g pages h places (call.Grant n) (Err r) (moment refused (looked_in h)) places
  next_found : {part : Part} {l : Cells} {c : Chain} {k : ℕ} → line_in h ≡ Some l → length l ≤ length (cut places part)
      → CallMade s g pages h places (call.Next part) (Ok (answer.Next (Found (length l)))) (moment (found c) k) (overwritten places part (text l c))
  next_spent : {part : Part} {l : Cells} {k : ℕ} → line_in h ≡ Some l → length l ≤ length (cut places part)
      → CallMade s g pages h places (call.Next part) (Ok (answer.Next Spent)) (moment spent k) places
  next_exhausted : {part : Part} {l : Cells} {k : ℕ} → line_in h ≡ Some l → length l ≤ length (cut places part)
      → CallMade s g pages h places (call.Next part) (Ok (answer.Next Exhausted)) (moment exhausted k) places
  next_refused : {part : Part} {r : Refusal} → NextRefused (line_in h) (cut places part) r
      → CallMade s g pages h places (call.Next part) (Err r) (moment refused (looked_in h)) places
  report_made : {r : Report} → Reported h r
      → CallMade s g pages h places call.Report (Ok (answer.Reported r)) (moment reported (looked_in h)) places

-- A RUN of rows from the start: the rows with their answers, the history of their moments, and the places after them.
pub data Ran (s : Meaning) (g : Sets) (pages places : List ℕ) : List Row → List Row → List Moment → List ℕ → Type 0 where
  none : Ran s g pages places [] [] [] places
  one_more : {rows rows' : List Row} {h : List Moment} {between after : List ℕ} {x : Moment} {answered : Result Answer Refusal} (row row' : Row)
      → Ran s g pages places rows rows' h between
      → row'.call ≡ row.call → row'.answer ≡ Some answered → CallMade s g pages h between row.call answered x after → Lawful s g h x
      → Ran s g pages places (rows ++ row ∷ []) (rows' ++ row' ∷ []) (x ∷ h) after

abbrev pub Runs : Meaning → Sets → List ℕ → List ℕ → List Row → List Row → List ℕ → Type 0
Runs s g pages places rows rows' places' = (h : List Moment) × Ran s g pages places rows rows' h places'

-- the same with what is then seen of the reader
abbrev pub RunsOn : Meaning → Sets → List ℕ → List ℕ → List Row → List Row → List ℕ → View → Type 0
RunsOn s g pages places rows rows' places' seen =
    (h : List Moment) × Ran s g pages places rows rows' h places' × (seen ≡ seen_after s h)
