-- How often a chain stands in a list: what that says of members, repetition and a heap's order. Assumes nothing.
use Rattle.std.proofs.Common.{◌≡◌, zero, suc, ◌+◌, ◌<◌, ◌≤◌, true, eqb, ◌⊎◌, Contains, List, [], ◌∷◌, ◌++◌, map, sum_by, sym, refl, ap, ◌∙◌, subst, inl, inr, ⊎_elim, arith}
use Rattle.std.specs.List.Sorted.{IsPermutation}
use Rattle.std.proofs.lemmas.List.Sorted.{sum_by-IsPermutation}
use Rattle.std.proofs.lemmas.List.Sums.{sum_by-cons}
use Rattle.std.proofs.lemmas.Bool.{and_parts, and_from, eqb-true, eq-eqb, cond-true, cond-false, cases_Bool, cases_lt, false≢true}
use Rattle.search.specs.Members.{Distinct, Alike, Without}
use Rattle.search.specs.Chains.{Chain}
use Rattle.search.proofs.Members.{Contains-first, Contains-rest}
use Rattle.bench.specs.Held.{same, once, times}

pub same_is : (a b : Chain) → same a b ≡ true → a ≡ b
same_is [] [] h = refl
same_is [] (y ∷ b) h = absurd (false≢true h)
same_is (x ∷ a) [] h = absurd (false≢true h)
same_is (x ∷ a) (y ∷ b) h =
    let q = and_parts (eqb x y) (same a b) h in
    let e = eqb-true x y q.0 in
    let f = same_is a b q.1 in
    λ i. e i ∷ f i

pub same_self : (a : Chain) → same a a ≡ true
same_self [] = refl
same_self (x ∷ a) = and_from (eqb x x) (same a a) (eq-eqb x x refl) (same_self a)

pub once_self : (a : Chain) → once a a ≡ 1
once_self a = cond-true (same a a) 1 0 (same_self a)

pub once_other : (a b : Chain) → (a ≡ b → ⊥) → once a b ≡ 0
once_other a b h = ⊎_elim (λ (e : same a b ≡ true). absurd (h (same_is a b e))) (λ e. cond-false (same a b) 1 0 e) (cases_Bool (same a b))

pub equal_or : (a b : Chain) → (a ≡ b) ⊎ (a ≡ b → ⊥)
equal_or a b = ⊎_elim (λ (e : same a b ≡ true). inl (same_is a b e))
    (λ e. inr (λ q. false≢true (sym e ∙ ap (same a) (sym q) ∙ same_self a)))
    (cases_Bool (same a b))

pub times_append : (c : Chain) (xs ys : List Chain) → times c (xs ++ ys) ≡ times c xs + times c ys
times_append c [] ys = omega arith
times_append c (x ∷ xs) ys = omega (arith, times_append c xs ys)

pub times_sum : {P : Type 0} (c : Chain) (f : P → Chain) (xs : List P) → times c (map f xs) ≡ sum_by (λ p. once c (f p)) xs
times_sum c f [] = refl
times_sum c f (x ∷ xs) = ap (λ n. once c (f x) + n) (times_sum c f xs) ∙ sym (sum_by-cons (λ p. once c (f p)) x xs)

pub times_shuffled : {P : Type 0} (c : Chain) (f : P → Chain) (xs ys : List P) → IsPermutation xs ys → times c (map f ys) ≡ times c (map f xs)
times_shuffled c f xs ys h = times_sum c f ys ∙ sum_by-IsPermutation (λ p. once c (f p)) xs ys h ∙ sym (times_sum c f xs)

pub contains_times : (c : Chain) (xs : List Chain) → Contains xs c → 1 ≤ times c xs
contains_times c [] (k, l, e) = absurd (omega arith)
contains_times c (x ∷ xs) (zero, l, e) = let one : once c x ≡ 1 = ap (once c) e ∙ once_self c in omega arith
contains_times c (x ∷ xs) (suc k, l, e) = omega (arith, contains_times c xs (k, omega arith, e))

pub times_contains : (c : Chain) (xs : List Chain) → 1 ≤ times c xs → Contains xs c
times_contains c [] h = absurd (omega arith)
times_contains c (x ∷ xs) h = ⊎_elim (λ e. rw e (Contains-first x xs)) (λ n. let none = once_other c x n in Contains-rest x xs c (times_contains c xs (omega arith))) (equal_or c x)

pub distinct_times : (xs : List Chain) → Distinct xs → (c : Chain) → times c xs ≤ 1
distinct_times [] d c = omega arith
distinct_times (x ∷ xs) d c = ⊎_elim
    (λ (e : c ≡ x). let one : once c x ≡ 1 = ap (once c) (sym e) ∙ once_self c in
    ⊎_elim (λ (k : 0 < times c xs). absurd (d.0 (subst (Contains xs) e (times_contains c xs k)))) (λ k. omega arith) (cases_lt 0 (times c xs)))
    (λ n. let none = once_other c x n in omega (arith, distinct_times xs d.1 c))
    (equal_or c x)

pub times_distinct : (xs : List Chain) → ((c : Chain) → times c xs ≤ 1) → Distinct xs
times_distinct [] h = tt
times_distinct (x ∷ xs) h = (
  λ m. let one = once_self x in let two = h x in let more = contains_times x xs m in omega arith,
  times_distinct xs (λ c. let k = h c in omega arith),
)

-- lists in which each chain stands as often
module _ (xs ys : List Chain) (h : (c : Chain) → times c xs ≡ times c ys) where
  pub alike_times : Alike xs ys
  alike_times c = (λ m. let k = h c in times_contains c ys (omega (arith, contains_times c xs m)), λ m. let k = h c in times_contains c xs (omega (arith, contains_times c ys m)))

  pub distinct_alike : Distinct xs → Distinct ys
  distinct_alike d = times_distinct ys (λ c. let k = h c in omega (arith, distinct_times xs d c))

-- a list from which one is taken
pub without_times : (m : Chain) (xs rest : List Chain) → Distinct xs → ((c : Chain) → times c xs ≡ once c m + times c rest) → Without m xs rest
without_times m xs rest d h = record {
  once = times_distinct rest (λ c. let k = h c in omega (arith, distinct_times xs d c));
  holds = λ c. (
    λ k. (
      let e = h c in times_contains c xs (omega (arith, contains_times c rest k)),
      λ q. let e = h c in let one : once c m ≡ 1 = ap (once c) (sym q) ∙ once_self c in let more = contains_times c rest k in let most = distinct_times xs d c in omega arith,
    ),
    λ k. let e = h c in let none = once_other c m k.1 in times_contains c rest (omega (arith, contains_times c xs k.0)),
  );
}
