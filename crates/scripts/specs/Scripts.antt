-- Which words are a call. Assumes nothing.
use Rattle.std.specs.Prelude.{◌≡◌, ℕ, List, [], ◌∷◌, codes, Ok, Err, Result}
use Rattle.linewords.specs.Words.{Writes}
use Rattle.scripts.specs.declared.script.Command.{Command}
use Rattle.scripts.specs.declared.script.Command.TheVariants.{Load, Grant, Next, Report}
use Rattle.scripts.specs.declared.script.CommandFault.{CommandFault}
use Rattle.scripts.specs.declared.script.CommandFault.TheVariants as fault

-- the words ws are the call
abbrev pub IsCall : List (List ℕ) → Command → Type 0
IsCall ws (Load file n) = (digits : List ℕ) × (ws ≡ codes "load" ∷ file.now ∷ digits ∷ []) × Writes digits n
IsCall ws (Grant n) = (digits : List ℕ) × (ws ≡ codes "grant" ∷ digits ∷ []) × Writes digits n
IsCall ws Next = ws ≡ codes "next" ∷ []
IsCall ws Report = ws ≡ codes "report" ∷ []

-- the first of the words ws is w
abbrev pub Begins : List (List ℕ) → List ℕ → Type 0
Begins ws w = (rest : List (List ℕ)) × (ws ≡ w ∷ rest)

-- what is wrong with words that are no call, by the first of them
abbrev pub IsFault : List (List ℕ) → CommandFault → Type 0
IsFault ws fault.Load = Begins ws (codes "load")
IsFault ws fault.Grant = Begins ws (codes "grant")
IsFault ws fault.Next = Begins ws (codes "next")
IsFault ws fault.Report = Begins ws (codes "report")
IsFault ws fault.Call = ¬ (Begins ws (codes "load")) × ¬ (Begins ws (codes "grant")) × ¬ (Begins ws (codes "next")) × ¬ (Begins ws (codes "report"))

-- the words are read as the call that they are, and are else refused with what is wrong
abbrev pub IsRead : List (List ℕ) → Result Command CommandFault → Type 0
IsRead ws (Ok c) = IsCall ws c
IsRead ws (Err f) = ((c : Command) → IsCall ws c → ⊥) × IsFault ws f
