-- What the arguments ask for, and how a task begins. Assumes nothing.
use Rattle.std.specs.Prelude.{◌≡◌, ℕ, ◌⊎◌, List, [], ◌∷◌, Some, None, Ok, Err, Option, Result}
use Rattle.std.specs.Str.Parse.{ExplainsUnsignedError}
use Rattle.pages.specs.Shape.{Cells}
use Rattle.scores.specs.Scores.{sum_meaning}
use Rattle.grammars.specs.declared.sheet.Sheet.{Sheet}
use Rattle.descriptions.specs.declared.CornerFault.{CornerFault}
use Rattle.descriptions.specs.Kinds.{sheet_between}
use Rattle.linewords.specs.Words.{Writes}
use Rattle.reader.specs.Views.{View, view, loaded}
use Rattle.reader.specs.Calls.{loading, granting, granted_more}
use Rattle.desk.specs.declared.desk.Desk.{Desk}
use Rattle.desk.specs.declared.desk.Trouble.{Trouble}
use Rattle.desk.specs.declared.desk.Trouble.TheVariants.{Refused, Memory}
use Rattle.desk.specs.Desks.{room_of, nexted, Shows}
use Rattle.desk.specs.declared.task.Task.{Task}
use Rattle.desk.specs.declared.task.TaskFault.{TaskFault}
use Rattle.desk.specs.declared.task.TaskFault.TheVariants.{Number, Corner, Arguments}

-- four words and no grant, or a fifth that writes the grant
abbrev pub Granting : List (List ℕ) → List ℕ → List ℕ → List ℕ → List ℕ → Option ℕ → Type 0
Granting ws page line southwest northeast None = ws ≡ page ∷ line ∷ southwest ∷ northeast ∷ []
Granting ws page line southwest northeast (Some n) =
    (digits : List ℕ) × (ws ≡ page ∷ line ∷ southwest ∷ northeast ∷ digits ∷ []) × Writes digits n

-- the words name the page, the number of a line, and the two corners of the sheet
abbrev pub Asks : List (List ℕ) → Task → Type 0
Asks ws t =
    (line : List ℕ) × (southwest : List ℕ) × (northeast : List ℕ)
    × Granting ws t.page.now line southwest northeast t.grant
    × Writes line t.line
    × (sheet_between southwest northeast ≡ Ok t.sheet)

-- The word w is refused, as it writes no whole number below 2^64. The reason is the one that std's
-- parse gives.
abbrev pub RefusesWord : List ℕ → TaskFault → Type 0
RefusesWord w (Number word reason) =
    (word.now ≡ w)
    × ((n : ℕ) → Writes w n → ⊥)
    × ExplainsUnsignedError {T = ℕ} 10 w (Err reason)
RefusesWord w (Corner f) = ⊥
RefusesWord w Arguments = ⊥

-- the number that a word writes, or that it writes none
abbrev pub IsNumber : List ℕ → Result ℕ TaskFault → Type 0
IsNumber w (Ok n) = Writes w n
IsNumber w (Err f) = RefusesWord w f

-- the line writes a number, and what is between the corners is r
abbrev pub Reaches : List ℕ → List ℕ → List ℕ → Result Sheet CornerFault → Type 0
Reaches line southwest northeast r =
    ((n : ℕ) × Writes line n) × (sheet_between southwest northeast ≡ r)

-- line or corners are refused: the line writes no number, or it does and the corners make no sheet
abbrev pub IsUnplaced : List ℕ → List ℕ → List ℕ → TaskFault → Type 0
IsUnplaced line southwest northeast (Number word reason) = RefusesWord line (Number word reason)
IsUnplaced line southwest northeast (Corner f) = Reaches line southwest northeast (Err f)
IsUnplaced line southwest northeast Arguments = ⊥

-- the words ask for no task: the first of the line, the corners and the grant that is wrong, or
-- words that are neither four nor five
abbrev pub IsUnasked : List (List ℕ) → TaskFault → Type 0
IsUnasked (page ∷ line ∷ southwest ∷ northeast ∷ []) f = IsUnplaced line southwest northeast f
IsUnasked (page ∷ line ∷ southwest ∷ northeast ∷ grant ∷ []) f =
    IsUnplaced line southwest northeast f
    ⊎ (((t : Sheet) × Reaches line southwest northeast (Ok t)) × RefusesWord grant f)
IsUnasked ws f = f ≡ Arguments

-- the task of a line and two corners, under no grant that is named
abbrev pub IsPlaced : List ℕ → List ℕ → List ℕ → List ℕ → Task → Type 0
IsPlaced page line southwest northeast t =
    (t.page.now ≡ page) × Writes line t.line × (sheet_between southwest northeast ≡ Ok t.sheet)
    × (t.grant ≡ None)

-- the first grant: without one that is named, the most that the line takes
abbrev pub first_grant : Option ℕ → Cells → ℕ
first_grant (Some n) l = n
first_grant None l = room_of (loaded l)

-- the reader under the first grant
abbrev pub first_view : Task → Cells → View
first_view t l = granted_more (loaded l) (first_grant t.grant l) (Ok tt)

-- The desk has the line of the task, under the first grant, and shows what a next then comes to. A refusal is that of the load or
-- that of a grant that is named: one that is not is never refused.
abbrev pub Begins : Task → List ℕ → Result Desk Trouble → Type 0
Begins t page (Ok d) =
    (l : Cells)
    × (loading sum_meaning page t.line ≡ Ok l)
    × (granting (loaded l) (first_grant t.grant l) ≡ Ok tt)
    × (d.sheet ≡ t.sheet)
    × (view d.reader ≡ (nexted t.sheet (first_view t l)).state)
    × Shows t.sheet (nexted t.sheet (first_view t l)) d.standing
Begins t page (Err (Refused r)) =
    (loading sum_meaning page t.line ≡ Err r)
    ⊎ ((l : Cells) × (n : ℕ) × (loading sum_meaning page t.line ≡ Ok l) × (t.grant ≡ Some n) × (granting (loaded l) n ≡ Err r))
Begins t page (Err (Memory e)) = Unit {0}
