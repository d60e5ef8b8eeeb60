-- What a count and an alternative are refused for, and that they are refused for it. Assumes nothing.
use Rattle.std.proofs.Common.{◌≡◌, ℕ, zero, suc, ◌+◌, ◌*◌, ◌<◌, ◌≤◌, Bool, true, false, ◌⊎◌, List, [], ◌∷◌, length, get_or, Err, refl, ap, ◌∙◌, subst, inl, inr, ⊎_elim, arith}
use Rattle.std.proofs.lemmas.Bool.{eqb-true, eq-eqb, or_cases, or_left, or_right}
use Rattle.std.proofs.lemmas.Bool.Decides.{nat_tests}
use Rattle.pages.specs.declared.faults.CountFault.{CountFault}
use Rattle.pages.specs.declared.faults.CountFault.TheVariants as count
use Rattle.pages.specs.declared.faults.AlternativeFault.{AlternativeFault}
use Rattle.pages.specs.declared.faults.AlternativeFault.TheVariants as alternative
use Rattle.pages.specs.Shape.{Alternatives, seen}
use Rattle.pages.specs.Reading.{last_penalty, symbol_at, penalty_at, read_alternative, read_count}
use Rattle.pages.specs.Laws.{CountRefused, HasSymbol, NewSymbolAt, BelowLast, AlternativeRefused, penalty_of}
use Rattle.pages.proofs.Round.{last_push}

-- a count
count_causes : (most : ℕ) (bytes : List ℕ) (at : ℕ) (g : CountFault) → read_count most bytes at ≡ Err g
    → ((count.Short (length bytes) ≡ g) × (length bytes ≤ at))
    ⊎ ((count.Count at ≡ g) × (at < length bytes) × ((get_or bytes at 0 ≡ 0) ⊎ (most < get_or bytes at 0)))
count_causes most bytes at g e = grind (arith, nat_tests)

pub count_refused : (most : ℕ) (bytes : List ℕ) (at : ℕ) (g : CountFault) → at ≤ length bytes → read_count most bytes at ≡ Err g → CountRefused most bytes at g
count_refused most bytes at g le e =
    ⊎_elim (λ p. subst (CountRefused most bytes at) p.0 (omega (arith, p.1), omega (arith, p.1)))
    (λ p. subst (CountRefused most bytes at) p.0 (refl, p.1, p.2))
    (count_causes most bytes at g e)

pub met_count : (most : ℕ) (bytes : List ℕ) (at : ℕ) (g : CountFault) → CountRefused most bytes at g → read_count most bytes at ≡ Err g
met_count most bytes at (count.Short place) h = grind (arith, nat_tests, h.0, h.1)
met_count most bytes at (count.Count place) h = grind (arith, nat_tests, h.0, h.1, h.2)

-- a symbol that is seen is one of the alternatives'
seen_has : (s : ℕ) (before : Alternatives) → seen s before ≡ true → HasSymbol before s
seen_has s [] e = cc
seen_has s (a ∷ before) e =
    ⊎_elim (λ here. (0, a, omega arith, refl, eqb-true a.symbol s here))
    (λ later. let k = seen_has s before later in (suc k.0, k.1, omega (arith, k.2), k.3, k.4))
    (or_cases _ _ e)

has_seen : (s : ℕ) (before : Alternatives) → HasSymbol before s → seen s before ≡ true
has_seen s [] (k, a, lt, is, own) = absurd (omega arith)
has_seen s (b ∷ before) (zero, a, lt, is, own) = or_left _ _ (eq-eqb b.symbol s (ap (λ x. x.symbol) is ∙ own))
has_seen s (b ∷ before) (suc k, a, lt, is, own) = or_right _ _ (has_seen s before (k, a, omega arith, is, own))

unseen_new : (s : ℕ) (before : Alternatives) → seen s before ≡ false → ¬ HasSymbol before s
unseen_new s before e h = let is = has_seen s before h in cc

new_unseen : (s : ℕ) (before : Alternatives) → ¬ HasSymbol before s → seen s before ≡ false
new_unseen s before h = go (seen s before) refl where
  go : (t : Bool) → seen s before ≡ t → seen s before ≡ false
  go true is = absurd (h (seen_has s before is))
  go false is = is

-- the last penalty is that of a last alternative
below_last : (before : Alternatives) (penalty : ℕ) → penalty < last_penalty before → BelowLast penalty before
below_last [] penalty lt = absurd (omega arith)
below_last (a ∷ []) penalty lt = ([], a, refl, lt)
below_last (a ∷ b ∷ more) penalty lt =
    let h = below_last (b ∷ more) penalty lt in
    (a ∷ h.0, h.1, ap (λ l. a ∷ l) h.2, h.3)

last_below : (before : Alternatives) (penalty : ℕ) → BelowLast penalty before → penalty < last_penalty before
last_below before penalty h = let last = ap last_penalty h.2 ∙ last_push h.0 h.1 in let below = h.3 in omega arith

-- an alternative whose symbol is judged good
pub record Symbolled (bytes : List ℕ) (at : ℕ) (before : Alternatives) : Type 0 where
  pub room : at < length bytes
  pub low : 33 ≤ symbol_at bytes at
  pub high : symbol_at bytes at ≤ 126
  pub fresh : seen (symbol_at bytes at) before ≡ false

symbolled : (bytes : List ℕ) (at : ℕ) (before : Alternatives) → NewSymbolAt bytes at before → Symbolled bytes at before
symbolled bytes at before h = record { room = h.0.0; low = h.0.1; high = h.0.2; fresh = new_unseen (symbol_at bytes at) before h.1 }

new_symbol : (bytes : List ℕ) (at : ℕ) (before : Alternatives) → Symbolled bytes at before → NewSymbolAt bytes at before
new_symbol bytes at before h = ((h.room, h.low, h.high), unseen_new (symbol_at bytes at) before h.fresh)

-- an alternative
alternative_causes : (bytes : List ℕ) (at : ℕ) (before : Alternatives) (g : AlternativeFault) → read_alternative bytes at before ≡ Err g
    → ((alternative.Short (length bytes) ≡ g) × ((length bytes ≤ at) ⊎ (Symbolled bytes at before × (length bytes ≤ at + 2))))
    ⊎ (((alternative.Symbol at ≡ g) × (at < length bytes) × ((symbol_at bytes at < 33) ⊎ (126 < symbol_at bytes at)))
    ⊎ (((alternative.Twice at ≡ g) × (at < length bytes) × (33 ≤ symbol_at bytes at) × (symbol_at bytes at ≤ 126) × (seen (symbol_at bytes at) before ≡ true))
    ⊎ ((alternative.Order (at + 1) ≡ g) × (at + 2 < length bytes) × Symbolled bytes at before × (penalty_at bytes at < last_penalty before))))
alternative_causes bytes at before g e = grind (arith, nat_tests)

same_penalty : (bytes : List ℕ) (at : ℕ) → penalty_of bytes (at + 1) ≡ penalty_at bytes at
same_penalty bytes at = let low : (at + 1) + 1 ≡ at + 2 = omega arith in ap (λ i. get_or bytes (at + 1) 0 * 256 + get_or bytes i 0) low

pub alternative_refused : (bytes : List ℕ) (at : ℕ) (before : Alternatives) (g : AlternativeFault) → at ≤ length bytes → read_alternative bytes at before ≡ Err g
    → AlternativeRefused bytes at before g
alternative_refused bytes at before g le e =
    ⊎_elim
    (λ p. told p.0 (refl, ⊎_elim (λ none. inl (omega arith)) (λ s. inr (new_symbol bytes at before s.0, s.1)) p.1))
    (⊎_elim (λ p. told p.0 (refl, p.1, p.2))
    (⊎_elim (λ p. told p.0 (refl, (p.1, p.2, p.3), seen_has (symbol_at bytes at) before p.4))
    (λ p.
    let below = p.3 in
    let here = same_penalty bytes at in
    told p.0 (refl, p.1, new_symbol bytes at before p.2, below_last before (penalty_of bytes (at + 1)) (omega arith)))))
    (alternative_causes bytes at before g e)
  where
    told : {y : AlternativeFault} → y ≡ g → AlternativeRefused bytes at before y → AlternativeRefused bytes at before g
    told is h = subst (AlternativeRefused bytes at before) is h

pub met_alternative : (bytes : List ℕ) (at : ℕ) (before : Alternatives) (g : AlternativeFault) → AlternativeRefused bytes at before g → read_alternative bytes at before ≡ Err g
met_alternative bytes at before (alternative.Short place) h =
    ⊎_elim (λ none. let is = h.0 in grind (arith, nat_tests))
    (λ half. let is = h.0 in let upto = half.1 in let s = symbolled bytes at before half.0 in grind (arith, nat_tests, s.room, s.low, s.high, s.fresh)) h.1
met_alternative bytes at before (alternative.Symbol place) h = let is = h.0 in let room = h.1 in let out = h.2 in grind (arith, nat_tests)
met_alternative bytes at before (alternative.Twice place) h =
    let is = h.0 in
    let own = has_seen (symbol_at bytes at) before h.2 in
    grind (arith, nat_tests, h.1.0, h.1.1, h.1.2)
met_alternative bytes at before (alternative.Order place) h =
    let is = h.0 in
    let room = h.1 in
    let s = symbolled bytes at before h.2 in
    let here = ap (penalty_of bytes) is ∙ same_penalty bytes at in
    let low = last_below before (penalty_of bytes place) h.3 in
    let below : penalty_at bytes at < last_penalty before = omega arith in
    grind (arith, nat_tests, s.room, s.low, s.high, s.fresh)
