-- How the steps of a run are argued: a history, and what is seen of the reader. Assumes nothing.
use Rattle.std.specs.Prelude.{◌≡◌, ℕ, ◌≤◌, true, ◌↔◌, Contains, List, ◌∷◌, length, take, Some, Result}
use Rattle.pages.specs.Shape.{Cells}
use Rattle.scores.specs.Scores.{Meaning}
use Rattle.grammars.specs.Grammars.{Sets}
use Rattle.search.specs.Chains.{Chain}
use Rattle.bench.specs.Searched.{admitted}
use Rattle.reader.specs.declared.refusals.Refusal.{Refusal}
use Rattle.reader.specs.Views.{View}
use Rattle.runs.specs.declared.rows.Call.{Call}
use Rattle.runs.specs.declared.rows.Answer.{Answer}
use Rattle.runs.specs.Runs.{Moment, line_in, granted_in, handed_in, looked_in, seen_after, live_chains, Lawful, CallMade}

-- The history and the reader's view agree.
pub record Tracks (s : Meaning) (g : Sets) (h : List Moment) (v : View) : Type 0 where
  pub seen_is : v ≡ seen_after s h
  pub within : looked_in h ≤ granted_in h
  pub reached : (l : Cells) → line_in h ≡ Some l → looked_in h ≤ length (live_chains s g l)
  pub seen : (l : Cells) → line_in h ≡ Some l → (c : Chain) → Contains (handed_in h) c ↔ (Contains (take (looked_in h) (live_chains s g l)) c × (admitted g l c ≡ true))

-- after any history that agrees with the view, the call makes a lawful moment, and the history with it agrees again
abbrev pub Made : Meaning → Sets → List ℕ → View → List ℕ → Call → Result Answer Refusal → View → List ℕ → Type 0
Made s g pages v places made answered v' places' =
    (h : List Moment) → Tracks s g h v → (x : Moment) × CallMade s g pages h places made answered x places' × Lawful s g h x × Tracks s g (x ∷ h) v'
