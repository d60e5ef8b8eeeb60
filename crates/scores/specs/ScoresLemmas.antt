-- That the order of totals is total, from the laws of a score. Assumes nothing.
use Rattle.std.specs.Prelude.{◌≡◌, ℕ, Bool, true, false, if◌then◌else◌, ◌⊎◌, refl}
use Rattle.std.proofs.Common.{sym, ap, ⊎_elim, true≢false}
use Rattle.std.specs.declared.cmp.Ordering.{Ordering}
use Rattle.std.specs.declared.cmp.Ordering.TheVariants.{Less, Equal, Greater}
use Rattle.std.specs.Ordering.{ordering_reverse, is_eq, is_lt}
use Rattle.std.specs.Cmp.{IsTotalOrder, both_ways}
use Rattle.scores.specs.Scores.{Meaning, Laws, compare}

-- how two totals compare: s, the first is no worse than the second, and t, the second than the first
abbrev ordering_of : Bool → Bool → Ordering
ordering_of s t = if s then (if t then Equal else Greater) else Less

turned : (s t : Bool) → (s ≡ true) ⊎ (t ≡ true)
    → ordering_of s t ≡ ordering_reverse (ordering_of t s)
turned true true h = refl
turned true false h = refl
turned false true h = refl
turned false false h = absurd (⊎_elim (λ e. true≢false (sym e)) (λ e. true≢false (sym e)) h)

less_is : (s t : Bool) → ordering_of s t ≡ Less → s ≡ true → ⊥
less_is true true e h = true≢false (ap is_eq e)
less_is true false e h = true≢false (sym (ap is_lt e))
less_is false t e h = true≢false (sym h)

is_less : (s t : Bool) → (s ≡ true → ⊥) → ordering_of s t ≡ Less
is_less true t h = absurd (h refl)
is_less false t h = refl

equal_is : (s t : Bool) → ordering_of s t ≡ Equal → (s ≡ true) × (t ≡ true)
equal_is true true e = (refl, refl)
equal_is true false e = absurd (true≢false (sym (ap is_eq e)))
equal_is false t e = absurd (true≢false (ap is_lt e))

module _ {s : Meaning} (laws : Laws s) where
  totals_trans : (x y z : ℕ) → compare s x y ≡ Less → compare s y z ≡ Less → compare s x z ≡ Less
  totals_trans x y z p q =
      is_less
      (s.no_worse x z)
      (s.no_worse z x)
      (λ h.
      ⊎_elim
      (λ (yz : s.no_worse y z ≡ true). less_is (s.no_worse y z) (s.no_worse z y) q yz)
      (λ (zy : s.no_worse z y ≡ true).
      less_is (s.no_worse x y) (s.no_worse y x) p (laws.transitive x z y h zy))
      (laws.either y z))

  totals_alike : (x y z : ℕ) → compare s x y ≡ Equal → compare s x z ≡ compare s y z
  totals_alike x y z p =
      let both = equal_is (s.no_worse x y) (s.no_worse y x) p in
      let e : s.no_worse x z ≡ s.no_worse y z =
      both_ways _ _ (laws.transitive y x z both.1) (laws.transitive x y z both.0) in
      let f : s.no_worse z x ≡ s.no_worse z y =
      both_ways _ _ (λ h. laws.transitive z x y h both.0) (λ h. laws.transitive z y x h both.1) in
      λ i. ordering_of (e i) (f i)

  pub totals : IsTotalOrder (compare s)
  totals = record {
    antisymm = λ a b. turned (s.no_worse a b) (s.no_worse b a) (laws.either a b);
    trans = totals_trans;
    congr = totals_alike;
  }
