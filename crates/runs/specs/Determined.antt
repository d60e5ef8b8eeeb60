-- The law leaves nothing open: two runs of the same rows come to the same. Assumes nothing.
use Rattle.std.specs.Prelude.{◌≡◌, ℕ, ◌⊎◌, List, [], ◌∷◌, Some, Ok, Option, Result}
use Rattle.scores.specs.Scores.{Meaning}
use Rattle.grammars.specs.Grammars.{Sets}
use Rattle.reader.specs.declared.calls.Report.{Report}
use Rattle.reader.specs.declared.refusals.Refusal.{Refusal}
use Rattle.runs.specs.declared.rows.Answer.{Answer}
use Rattle.runs.specs.declared.rows.Answer.TheVariants as answer
use Rattle.runs.specs.declared.rows.Row.{Row}
use Rattle.runs.specs.Runs.{Moment, Ran}

-- two reports that tell the same but for the places in use, which are only bounded
pub record AlikeReport (r q : Report) : Type 0 where
  pub cells : r.cells ≡ q.cells
  pub granted : r.granted ≡ q.granted
  pub looked : r.looked ≡ q.looked
  pub handed : r.handed ≡ q.handed

-- the same answer, or two such reports
abbrev pub AlikeAnswer : Option (Result Answer Refusal) → Option (Result Answer Refusal) → Type 0
AlikeAnswer a b = (a ≡ b) ⊎ ((r : Report) × (q : Report) × (a ≡ Some (Ok (answer.Reported r))) × (b ≡ Some (Ok (answer.Reported q))) × AlikeReport r q)

-- as many rows, and row by row the same call with such answers
abbrev pub AlikeRows : List Row → List Row → Type 0
AlikeRows [] [] = Unit {0}
AlikeRows [] (y ∷ ys) = ⊥
AlikeRows (x ∷ xs) [] = ⊥
AlikeRows (x ∷ xs) (y ∷ ys) = (x.call ≡ y.call) × AlikeAnswer x.answer y.answer × AlikeRows xs ys

-- what two runs come to is the same: the histories, the places and the rows
pub record SameEnd (rows₁ : List Row) (h₁ : List Moment) (after₁ : List ℕ) (rows₂ : List Row) (h₂ : List Moment) (after₂ : List ℕ) : Type 0 where
  pub history : h₁ ≡ h₂
  pub places : after₁ ≡ after₂
  pub rows : AlikeRows rows₁ rows₂

-- any two runs of the rows, over the same bytes
abbrev pub Determined : Meaning → Sets → List ℕ → List ℕ → List Row → Type 0
Determined s g pages places rows =
    (rows₁ rows₂ : List Row) (h₁ h₂ : List Moment) (after₁ after₂ : List ℕ)
    → Ran s g pages places rows rows₁ h₁ after₁ → Ran s g pages places rows rows₂ h₂ after₂ → SameEnd rows₁ h₁ after₁ rows₂ h₂ after₂
