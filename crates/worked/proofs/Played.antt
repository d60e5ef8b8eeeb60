-- A run of any rows that keeps the law, made of the values of the reader's calls: what it comes to can be computed, and by
-- `determined` every other run comes to the same. Assumes nothing.
use Rattle.std.proofs.Common.{◌≡◌, ℕ, List, [], ◌∷◌, ◌++◌, map, Some, None, Option, Result, refl, subst, subst₂, append_assoc, append-nil, arith}
use Rattle.pages.specs.Shape.{Cells}
use Rattle.scores.specs.Scores.{Meaning, Laws}
use Rattle.grammars.specs.Grammars as grammars
use Rattle.grammars.specs.Grammars.{Sets}
use Rattle.reader.specs.declared.refusals.Refusal.{Refusal}
use Rattle.reader.specs.Views.{View, unloaded}
use Rattle.reader.specs.Calls.{loading, granting, next_of, cells_of, PlacesInUse}
use Rattle.runs.specs.declared.rows.Call.{Call}
use Rattle.runs.specs.declared.rows.Call.TheVariants as call
use Rattle.runs.specs.declared.rows.Answer.{Answer}
use Rattle.runs.specs.declared.rows.Row.{Row}
use Rattle.runs.specs.Runs.{Moment, cut, Ran, none, one_more, Runs}
use Rattle.runs.specs.Steps.{Tracks}
use Rattle.runs.specs.Determined.{AlikeRows}
use Rattle.runs.proofs.Histories.{tracks_start}
use Rattle.runs.proofs.Moments.{Step, load_step, grant_step, next_step, report_step, Makes, load_makes, grant_makes, next_makes, report_makes}
use Rattle.runs.proofs.Determined.{determined}
use Rattle.worked.specs.Worked.{with_answers}

-- the answers of a run, and the places after it
pub record Play : Type 0 where
  pub answers : List (Result Answer Refusal)
  pub left : List ℕ

module _ (s : Meaning) (g : Sets) (pages : List ℕ) where
  -- what a call comes to; a report tells of no places in use, which is within their bound
  abbrev pub step : View → List ℕ → Call → Step
  step v places (call.Load part n) = load_step v places (loading s (cut pages part) n)
  step v places (call.Grant n) = grant_step v places n (granting v n)
  step v places (call.Next part) = next_step places part (next_of s g v (cut places part))
  step v places call.Report = report_step v places (record { cells = cells_of v.line; granted = v.granted; looked = v.looked; handed = v.handed; places = 0 })

  -- one call after another
  abbrev pub play : View → List ℕ → List Call → Play
  play v places [] = record { answers = []; left = places }
  play v places (c ∷ cs) =
      let x = step v places c in
      let rest = play x.state x.places cs in
      record { answers = x.answer ∷ rest.answers; left = rest.left }

  module _ (laws : Laws s) (lawful : grammars.Lawful g) where
    no_places : (o : Option Cells) (looked : ℕ) → PlacesInUse o looked 0
    no_places None looked = refl
    no_places (Some l) looked = omega arith

    -- each step is lawful after every history that agrees with the view
    step_makes : (v : View) (places : List ℕ) (c : Call) → Makes s g pages places v c (step v places c)
    step_makes v places (call.Load part n) = load_makes s g pages places part n v
    step_makes v places (call.Grant n) = grant_makes s g pages places n v
    step_makes v places (call.Next part) = next_makes s g pages places laws lawful part v
    step_makes v places call.Report = report_makes s g pages places _ v (record { cells = refl; granted = refl; looked = refl; handed = refl; places = no_places v.line v.looked })

    abbrev calls_of : List Row → List Call
    calls_of rows = map (λ row. row.call) rows

    -- from a run on, with more rows
    module _ (start : List ℕ) where
      carried : (rows : List Row) (v : View) (places : List ℕ) (h : List Moment) (done done' : List Row) → Tracks s g h v → Ran s g pages start done done' h places
          → Runs s g pages start (done ++ rows) (done' ++ with_answers (calls_of rows) (play v places (calls_of rows)).answers) (play v places (calls_of rows)).left
      carried [] v places h done done' t ran = (h, rw (append-nil done, append-nil done') ran)
      carried (row ∷ rows) v places h done done' t ran =
          let x = step v places row.call in
          let row' : Row = record { call = row.call; answer = Some x.answer } in
          let m = step_makes v places row.call h t in
          let more = carried rows x.state x.places (m.0 ∷ h) (done ++ row ∷ []) (done' ++ row' ∷ []) m.3 (one_more row row' ran refl refl m.1 m.2) in
          subst₂ (λ xs ys. Runs s g pages start xs ys (play x.state x.places (calls_of rows)).left) (append_assoc done (row ∷ []) rows)
          (append_assoc done' (row' ∷ []) (with_answers (calls_of rows) (play x.state x.places (calls_of rows)).answers)) more

    played : (start : List ℕ) (rows : List Row) → Runs s g pages start rows (with_answers (calls_of rows) (play unloaded start (calls_of rows)).answers) (play unloaded start (calls_of rows)).left
    played start rows = carried start rows unloaded start [] [] [] (tracks_start s g) none

    -- so what every run of rows with these calls comes to is what the play comes to
    pub every_run : (start : List ℕ) (rows rows' : List Row) (left : List ℕ) (calls : List Call) → calls_of rows ≡ calls → Runs s g pages start rows rows' left
        → AlikeRows rows' (with_answers calls (play unloaded start calls).answers) × (left ≡ (play unloaded start calls).left)
    every_run start rows rows' left calls e r =
        let other = played start rows in
        let same = determined s laws g pages start rows rows' _ r.0 other.0 left _ r.1 other.1 in
        subst (λ cs. AlikeRows rows' (with_answers cs (play unloaded start cs).answers) × (left ≡ (play unloaded start cs).left)) e (same.rows, same.places)

    pub one_run : (start : List ℕ) (rows : List Row) (calls : List Call) → calls_of rows ≡ calls
        → Runs s g pages start rows (with_answers calls (play unloaded start calls).answers) (play unloaded start calls).left
    one_run start rows calls e = subst (λ cs. Runs s g pages start rows (with_answers cs (play unloaded start cs).answers) (play unloaded start cs).left) e (played start rows)
