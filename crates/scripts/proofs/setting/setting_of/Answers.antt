use Rattle.std.proofs.Common.{Bor, ℕ, ◌≡◌, List, [], ◌∷◌, map, ap, ◌∙◌, arith, slice_index_or, codes}
use Rattle.settings.specs.declared.Scoring.TheVariants.{Sum, Shares}
use Rattle.scripts.specs.Settings.{asking}
use Rattle.linewords.proofs.Lists.{three, four}
use Rattle.scripts.proofs.Settings.{settled}
use Rattle.scripts.proofs.setting.setting_of.Goals as goal

abbrev nothing : Bor (List ℕ)
nothing = record { ref_ptr = (0, 0); now = [] }

-- the text of a word
abbrev word : List (Bor (List ℕ)) → ℕ → List ℕ
word words k = (slice_index_or words k nothing).now

abbrev texts : List (Bor (List ℕ)) → List (List ℕ)
texts = map (λ w. w.now)

pub returns-in-sheet : goal.returns-in-sheet
returns-in-sheet c =
    let words = c.args.words.now in
    let shape : texts words ≡ asking (word words 1) (word words 2) Sum =
    ap texts (three nothing words (omega (arith, c.in-sheet.len_at_least)) (omega (arith, c.in-sheet.len_below)))
    ∙ ap (λ w. w ∷ word words 1 ∷ word words 2 ∷ []) c.in-sheet.is-sheet in
    settled _ (word words 1) (word words 2) Sum shape _ c.setting_between.ensures

pub returns-in-sheet-2 : goal.returns-in-sheet-2
returns-in-sheet-2 c =
    let words = c.args.words.now in
    let shape : texts words ≡ asking (word words 1) (word words 2) Shares =
    ap texts (four nothing words (omega (arith, c.in-sheet-2.len_at_least)) (omega (arith, c.in-sheet-2.len_below)))
    ∙ ap (λ w. w ∷ word words 1 ∷ word words 2 ∷ word words 3 ∷ []) c.in-sheet-2.is-sheet
    ∙ ap (λ w. codes "sheet" ∷ word words 1 ∷ word words 2 ∷ w ∷ []) c.in-sheet-2.is-shares in
    settled _ (word words 1) (word words 2) Shares shape _ c.setting_between-in-sheet-2.ensures
