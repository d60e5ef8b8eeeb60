use Rattle.std.proofs.Common.{◌≡◌, ℕ, Bool, true, false, List, ℤ, Ok, Err, Result, sym, ◌∙◌, rules, MatchResult}
use Rattle.positions.specs.declared.Refusal.{Refusal}
use Rattle.positions.specs.Positions.{reading}
use Rattle.grammars.specs.declared.sheet.Sheet.{Sheet}
use Rattle.grammars.specs.Sheets.{holds, on_sheet, admits_sheet}
use Rattle.grammars.specs.SheetsLemmas.{inside_is, outside_is}
use Rattle.grammars.proofs.sheet.Sheet.admits.Goals as goal

-- the answer on a text, by what it reads as and what is said of the pair
read_on : (t : Sheet) (s : List ℕ) (r : Result (ℤ × ℤ) Refusal) (b : Bool) (P : ℤ × ℤ → Type 0) → holds t ≡ true → r ≡ reading s → MatchResult r P (λ _. b ≡ false) → ((p : ℤ × ℤ) → P p → b ≡ on_sheet t p) → b ≡ admits_sheet t s
read_on t s (Ok p) b P h e m told = told p m ∙ inside_is t s p h (sym e)
read_on t s (Err f) b P h e m told = m ∙ outside_is t s f h (sym e)

pub returns-then-is_sound : goal.returns-then-is_sound
returns-then-is_sound c =
    let sound : holds c.args.self.now ≡ true = search rules in
    read_on c.args.self.now c.args.text.now c.read_position.result c.is_ok_and.result _ sound c.read_position.ensures.answer c.is_ok_and.ensures (λ p told. search rules)
