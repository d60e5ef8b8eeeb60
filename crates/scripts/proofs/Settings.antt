-- What words with two corners ask for. Assumes nothing.
use Rattle.std.proofs.Common.{◌≡◌, ℕ, List, Ok, Err, Result, MatchResult, refl, sym, subst}
use Rattle.grammars.specs.declared.sheet.Sheet.{Sheet}
use Rattle.descriptions.specs.declared.CornerFault.{CornerFault}
use Rattle.descriptions.specs.Kinds.{sheet_between}
use Rattle.settings.specs.declared.Scoring.{Scoring}
use Rattle.settings.specs.declared.Setting.{Setting}
use Rattle.scripts.specs.declared.setting.SettingFault.{SettingFault}
use Rattle.scripts.specs.Settings.{Asks, IsUnasked, asking, set_by, setting_between}

module _ (ws : List (List ℕ)) where
  abbrev pub Settles : Result Setting SettingFault → Type 0
  Settles r = MatchResult r (λ s. Asks ws s.wanted s.scoring) (IsUnasked ws)

  by_corners : (a b : List ℕ) (s : Scoring) → ws ≡ asking a b s → (o : Result Sheet CornerFault) → sheet_between a b ≡ o → Settles (set_by s o)
  by_corners a b s shape (Ok t) e = (a, b, shape, e)
  by_corners a b s shape (Err f) e = (a, b, s, shape, e)

  pub settled : (a b : List ℕ) (s : Scoring) → ws ≡ asking a b s → (r : Result Setting SettingFault) → r ≡ setting_between a b s → Settles r
  settled a b s shape r e = subst Settles (sym e) (by_corners a b s shape (sheet_between a b) refl)
