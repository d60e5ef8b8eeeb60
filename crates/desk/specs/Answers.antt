-- Which words are an answer. Assumes nothing.
use Rattle.std.specs.Prelude.{◌≡◌, ℕ, List, [], ◌∷◌, codes, Some, None, Option}
use Rattle.linewords.specs.Words.{Writes}
use Rattle.desk.specs.declared.answers.Answer.{Answer}
use Rattle.desk.specs.declared.answers.Answer.TheVariants.{Confirm, Next, Grant, Leave}

-- the words ws are the answer
abbrev pub IsAnswer : List (List ℕ) → Answer → Type 0
IsAnswer ws Confirm = ws ≡ codes "y" ∷ []
IsAnswer ws Next = ws ≡ codes "n" ∷ []
IsAnswer ws (Grant n) = (digits : List ℕ) × (ws ≡ codes "g" ∷ digits ∷ []) × Writes digits n
IsAnswer ws Leave = ws ≡ codes "q" ∷ []

-- the words are read as the answer that they are, or are none
abbrev pub IsRead : List (List ℕ) → Option Answer → Type 0
IsRead ws (Some a) = IsAnswer ws a
IsRead ws None = (a : Answer) → IsAnswer ws a → ⊥
