-- What is added to a script that is made ready. Assumes nothing.
use Rattle.std.specs.Prelude.{◌≡◌, ℕ, List, [], ◌∷◌, ◌++◌, length, None}
use Rattle.std.specs.Borrow.{Bor}
use Rattle.runs.specs.declared.rows.Part.{Part}
use Rattle.runs.specs.declared.rows.Call.{Call}
use Rattle.runs.specs.declared.rows.Call.TheVariants as call
use Rattle.plays.specs.declared.play.Play.{Play}

-- no call yet, and no bytes lent
abbrev pub Fresh : Play → Type 0
Fresh p =
    (p.texts.items ≡ []) × (p.rows.items ≡ []) × (p.pages.items ≡ []) × (p.places.items ≡ [])

-- a call more, as it was written and as a row that waits for its answer
abbrev pub Added : Bor (List ℕ) → Call → Play → Play → Type 0
Added text c p q =
    (q.texts.items ≡ p.texts.items ++ text ∷ [])
    × (q.rows.items ≡ p.rows.items ++ record { call = c; answer = None } ∷ [])

-- the part that stands behind all the bytes, and is so long
abbrev pub behind : List ℕ → ℕ → Part
behind bytes long = record { start = length bytes; length = long }

-- a load more, with the bytes of its page behind those of the pages before
abbrev pub LoadAdded : Bor (List ℕ) → ℕ → List ℕ → Play → Play → Type 0
LoadAdded text number bytes p q =
    (q.pages.items ≡ p.pages.items ++ bytes) × (q.places.items ≡ p.places.items)
    × Added text (call.Load (behind p.pages.items (length bytes)) number) p q

-- the same calls and the same bytes
abbrev pub Unchanged : Play → Play → Type 0
Unchanged p q =
    (q.texts.items ≡ p.texts.items) × (q.rows.items ≡ p.rows.items)
    × (q.pages.items ≡ p.pages.items) × (q.places.items ≡ p.places.items)
