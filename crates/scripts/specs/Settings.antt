-- Which arguments ask for a setting. Assumes nothing.
use Rattle.std.specs.Prelude.{◌≡◌, ℕ, List, [], ◌∷◌, codes, Ok, Err, Result}
use Rattle.grammars.specs.declared.sheet.Sheet.{Sheet}
use Rattle.descriptions.specs.declared.CornerFault.{CornerFault}
use Rattle.descriptions.specs.Kinds.{sheet_between}
use Rattle.settings.specs.declared.Scoring.{Scoring}
use Rattle.settings.specs.declared.Scoring.TheVariants as scoring
use Rattle.settings.specs.declared.Wanted.{Wanted}
use Rattle.settings.specs.declared.Wanted.TheVariants.{Dates, Positions, OnSheet}
use Rattle.settings.specs.declared.Setting.{Setting}
use Rattle.scripts.specs.declared.setting.SettingFault.{SettingFault}
use Rattle.scripts.specs.declared.setting.SettingFault.TheVariants.{Corner, Arguments}

-- the words that name a score; for the sum there are none
abbrev pub naming : Scoring → List (List ℕ)
naming scoring.Sum = []
naming scoring.Shares = codes "shares" ∷ []

-- the words that ask for the positions between two corners
abbrev pub asking : List ℕ → List ℕ → Scoring → List (List ℕ)
asking southwest northeast s = codes "sheet" ∷ southwest ∷ northeast ∷ naming s

-- the words ws ask for these readings, scored so; positions without a sheet cannot be asked for
abbrev pub Asks : List (List ℕ) → Wanted → Scoring → Type 0
Asks ws Dates s = ws ≡ naming s
Asks ws Positions s = ⊥
Asks ws (OnSheet t) s = (southwest : List ℕ) × (northeast : List ℕ) × (ws ≡ asking southwest northeast s) × (sheet_between southwest northeast ≡ Ok t)

-- the words ws ask for no setting: their corners make no sheet, or they have neither form
abbrev pub IsUnasked : List (List ℕ) → SettingFault → Type 0
IsUnasked ws (Corner f) =
    (southwest : List ℕ) × (northeast : List ℕ) × (s : Scoring) × (ws ≡ asking southwest northeast s) × (sheet_between southwest northeast ≡ Err f)
IsUnasked ws Arguments =
    ((s : Scoring) → ws ≡ naming s → ⊥) × ((southwest northeast : List ℕ) (s : Scoring) → ws ≡ asking southwest northeast s → ⊥)

-- the setting of the positions between two corners, or what is wrong with the corners
abbrev pub set_by : Scoring → Result Sheet CornerFault → Result Setting SettingFault
set_by s (Ok t) = Ok (record { wanted = OnSheet t; scoring = s })
set_by s (Err f) = Err (Corner f)

abbrev pub setting_between : List ℕ → List ℕ → Scoring → Result Setting SettingFault
setting_between southwest northeast s = set_by s (sheet_between southwest northeast)
