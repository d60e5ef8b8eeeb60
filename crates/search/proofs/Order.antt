-- `before` is a strict order of the chains of a line. Assumes nothing.
use Rattle.std.proofs.Common.{◌≡◌, ℕ, zero, suc, ◌<◌, Bool, true, false, not, ◌&&◌, ◌||◌, eqb, ltb, ◌⊎◌, [], ◌∷◌, length, get_or, take, sym, refl, ◌∙◌, inl, inr, ⊎_elim, arith}
use Rattle.std.proofs.lemmas.Bool.{both_ways, cases_Bool, cases_order, or_cases, or_left, or_right, and_parts, and_from, not-true, ltb-true, lt-ltb, eqb-true, eq-eqb, false≢true}
use Rattle.scores.specs.Scores.{Meaning, Laws}
use Rattle.pages.specs.Shape.{Cells}
use Rattle.search.specs.Chains.{Chain, total, lower, before}
use Rattle.search.specs.Theorems.{StrictTotalOrder}

lower_cases : (x y : ℕ) (a b : Chain) → lower (x ∷ a) (y ∷ b) ≡ true → (x < y) ⊎ ((x ≡ y) × (lower a b ≡ true))
lower_cases x y a b h = ⊎_elim (λ l. inl (ltb-true x y l))
    (λ r. let q = and_parts (eqb x y) (lower a b) r in inr (eqb-true x y q.0, q.1))
    (or_cases (ltb x y) (eqb x y && lower a b) h)

pub lower_less : (x y : ℕ) (a b : Chain) → x < y → lower (x ∷ a) (y ∷ b) ≡ true
lower_less x y a b h = or_left (ltb x y) (eqb x y && lower a b) (lt-ltb x y h)

pub lower_same : (x y : ℕ) (a b : Chain) → x ≡ y → lower a b ≡ true → lower (x ∷ a) (y ∷ b) ≡ true
lower_same x y a b e h = or_right (ltb x y) (eqb x y && lower a b) (and_from (eqb x y) (lower a b) (eq-eqb x y e) h)

-- lower in one cell, and the same before it
lower_at : (a b : Chain) (i : ℕ) → i < length a → i < length b → take i a ≡ take i b → get_or a i 0 < get_or b i 0 → lower a b ≡ true
lower_at [] b i ia ib e h = absurd (omega arith)
lower_at (x ∷ a) [] i ia ib e h = absurd (omega arith)
lower_at (x ∷ a) (y ∷ b) zero ia ib e h = lower_less x y a b h
lower_at (x ∷ a) (y ∷ b) (suc i) ia ib e h =
    let first : x ≡ y = cc in
    let rest : take i a ≡ take i b = cc in
    lower_same x y a b first (lower_at a b i (omega arith) (omega arith) rest h)

lower_self : (a : Chain) → lower a a ≡ true → ⊥
lower_self [] h = false≢true h
lower_self (x ∷ a) h = ⊎_elim (λ (l : x < x). absurd (omega arith)) (λ q. lower_self a q.1) (lower_cases x x a a h)

lower_trans : (a b c : Chain) → lower a b ≡ true → lower b c ≡ true → lower a c ≡ true
lower_trans [] b c h k = absurd (false≢true h)
lower_trans (x ∷ a) [] c h k = absurd (false≢true h)
lower_trans (x ∷ a) (y ∷ b) [] h k = absurd (false≢true k)
lower_trans (x ∷ a) (y ∷ b) (z ∷ c) h k =
    ⊎_elim (λ (p : x < y). ⊎_elim (λ (q : y < z). lower_less x z a c (omega arith)) (λ q. let e = q.0 in lower_less x z a c (omega arith)) (lower_cases y z b c k))
    (λ p. ⊎_elim (λ (q : y < z). let e = p.0 in lower_less x z a c (omega arith))
    (λ q. lower_same x z a c (p.0 ∙ q.0) (lower_trans a b c p.1 q.1))
    (lower_cases y z b c k))
    (lower_cases x y a b h)

lower_either : (a b : Chain) → length a ≡ length b → (a ≡ b) ⊎ ((lower a b ≡ true) ⊎ (lower b a ≡ true))
lower_either [] [] e = inl refl
lower_either [] (y ∷ b) e = absurd (omega arith)
lower_either (x ∷ a) [] e = absurd (omega arith)
lower_either (x ∷ a) (y ∷ b) e =
    ⊎_elim (λ (p : x ≡ y). rest p (lower_either a b (omega arith)))
    (⊎_elim (λ l. inr (inl (lower_less x y a b l))) (λ l. inr (inr (lower_less y x b a l))))
    (cases_order x y)
  where
    rest : x ≡ y → (a ≡ b) ⊎ ((lower a b ≡ true) ⊎ (lower b a ≡ true)) → (x ∷ a ≡ y ∷ b) ⊎ ((lower (x ∷ a) (y ∷ b) ≡ true) ⊎ (lower (y ∷ b) (x ∷ a) ≡ true))
    rest p (inl q) = inl (λ i. p i ∷ q i)
    rest p (inr (inl h)) = inr (inl (lower_same x y a b p h))
    rest p (inr (inr h)) = inr (inr (lower_same y x b a (sym p) h))

ahead_from : (x y l : Bool) → x ≡ true → (y ≡ false) ⊎ (l ≡ true) → ((x && not y) || ((x && y) && l)) ≡ true
ahead_from false y l h k = absurd (false≢true h)
ahead_from true false l h k = refl
ahead_from true true l h (inl e) = absurd (false≢true (sym e))
ahead_from true true l h (inr e) = e

ahead_parts : (x y l : Bool) → ((x && not y) || ((x && y) && l)) ≡ true → (x ≡ true) × ((y ≡ false) ⊎ ((y ≡ true) × (l ≡ true)))
ahead_parts false y l h = absurd (false≢true h)
ahead_parts true false l h = (refl, inl refl)
ahead_parts true true l h = (refl, inr (refl, h))

-- what stands before has the better total, or one equally good and the lower rank in the first cell where they differ
pub before_parts : (s : Meaning) (line : Cells) (a b : Chain) → before s line a b ≡ true
    → (s.no_worse (total s line a) (total s line b) ≡ true) × ((s.no_worse (total s line b) (total s line a) ≡ false) ⊎ ((s.no_worse (total s line b) (total s line a) ≡ true) × (lower a b ≡ true)))
before_parts s line a b h = ahead_parts (s.no_worse (total s line a) (total s line b)) (s.no_worse (total s line b) (total s line a)) (lower a b) h

module _ (s : Meaning) (laws : Laws s) (line : Cells) where
  pub before_from : (a b : Chain) → s.no_worse (total s line a) (total s line b) ≡ true → (s.no_worse (total s line b) (total s line a) ≡ false) ⊎ (lower a b ≡ true) → before s line a b ≡ true
  before_from a b h k = ahead_from (s.no_worse (total s line a) (total s line b)) (s.no_worse (total s line b) (total s line a)) (lower a b) h k

  pub before_self : (a : Chain) → before s line a a ≡ false
  before_self a = ⊎_elim
      (λ (h : before s line a a ≡ true). let q = before_parts s line a a h in absurd (⊎_elim (λ (z : s.no_worse (total s line a) (total s line a) ≡ false). both_ways _ z q.0) (λ l. lower_self a l.1) q.1))
      (λ h. h) (cases_Bool (before s line a a))

  pub before_trans : (a b c : Chain) → before s line a b ≡ true → before s line b c ≡ true → before s line a c ≡ true
  before_trans a b c h k =
      let A = total s line a in
      let B = total s line b in
      let D = total s line c in
      let p = before_parts s line a b h in
      let q = before_parts s line b c k in
      before_from a c (laws.transitive A B D p.0 q.0)
      (⊎_elim
      (λ (back : s.no_worse D A ≡ true). inr (lower_trans a b c
      (⊎_elim (λ (z : s.no_worse B A ≡ false). absurd (both_ways _ z (laws.transitive B D A q.0 back))) (λ l. l.1) p.1)
      (⊎_elim (λ (z : s.no_worse D B ≡ false). absurd (both_ways _ z (laws.transitive D A B back p.0))) (λ l. l.1) q.1)))
      (λ no_way. inl no_way)
      (cases_Bool (s.no_worse D A)))

  pub before_either : (a b : Chain) → length a ≡ length b → (a ≡ b) ⊎ ((before s line a b ≡ true) ⊎ (before s line b a ≡ true))
  before_either a b e = go (lower_either a b e) (cases_Bool (s.no_worse A B)) (cases_Bool (s.no_worse B A))
    where
      A : ℕ
      A = total s line a

      B : ℕ
      B = total s line b

      go : (a ≡ b) ⊎ ((lower a b ≡ true) ⊎ (lower b a ≡ true)) → (s.no_worse A B ≡ true) ⊎ (s.no_worse A B ≡ false) → (s.no_worse B A ≡ true) ⊎ (s.no_worse B A ≡ false) → (a ≡ b) ⊎ ((before s line a b ≡ true) ⊎ (before s line b a ≡ true))
      go (inl same) x y = inl same
      go (inr l) (inl x) (inr y) = inr (inl (before_from a b x (inl y)))
      go (inr l) (inr x) (inl y) = inr (inr (before_from b a y (inl x)))
      go (inr (inl l)) (inl x) (inl y) = inr (inl (before_from a b x (inr l)))
      go (inr (inr l)) (inl x) (inl y) = inr (inr (before_from b a y (inr l)))
      go (inr l) (inr x) (inr y) = absurd (⊎_elim (λ z. both_ways _ x z) (λ z. both_ways _ y z) (laws.either A B))

pub strict_total : StrictTotalOrder
strict_total s laws line = record {
  irreflexive = before_self s laws line;
  transitive = before_trans s laws line;
  either = λ a b ca cb. before_either s laws line a b (ca.long ∙ sym cb.long);
  better = λ a b h. let p = and_parts (s.no_worse (total s line a) (total s line b)) _ h in before_from s laws line a b p.0 (inl (not-true _ p.1));
  tied = λ a b h k i ia ib e l. before_from s laws line a b h (inr (lower_at a b i ia ib e l));
}
