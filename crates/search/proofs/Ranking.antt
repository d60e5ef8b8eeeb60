-- The ranking holds the live chains in their order. Assumes nothing.
use Rattle.std.proofs.Common.{◌≡◌, Bool, true, not, ◌⊎◌, Contains, IsPermutation, List, [], ◌∷◌, ◌++◌, filter, sym, refl, ◌∙◌, subst, ⊎_elim}
use Rattle.std.proofs.lemmas.Bool.{both_ways, cond_both, not-true}
use Rattle.std.proofs.lemmas.List.Elements.{All-contains, All-contains_itself, All-filter, filter_passes, Contains-append_cases}
use Rattle.std.proofs.lemmas.List.Sorted.{Contains-permutation, IsPermutation-refl, IsPermutation-sym, IsPermutation-trans, IsPermutation-cons, IsPermutation-middle, IsPermutation-filter_both}
use Rattle.search.specs.Members.{Distinct, Ascending}
use Rattle.search.specs.Chains.{Chain, ChainOf, chains, before, live, placed, sorted}
use Rattle.search.specs.Theorems.{RankingOfLiveChains}
use Rattle.search.proofs.Members.{Contains-first, Contains-rest, Contains-cons_cases, no_member}
use Rattle.search.proofs.Listed.{chains_listed}
use Rattle.search.proofs.Order.{before_trans, before_either}

module _ (p : Chain → Bool) where
  from_kept : (xs : List Chain) (c : Chain) → Contains (filter p xs) c → Contains xs c × (p c ≡ true)
  from_kept xs c h = (
    All-contains (Contains xs) (filter p xs) c (All-filter p (Contains xs) xs (All-contains_itself xs)) h,
    All-contains (λ x. p x ≡ true) (filter p xs) c (filter_passes p xs) h,
  )

  to_kept : (xs : List Chain) (c : Chain) → Contains xs c → p c ≡ true → Contains (filter p xs) c
  to_kept xs c h t =
      let other = λ (x : Chain). not (p x) in
      ⊎_elim (λ a. a) (λ b. absurd (both_ways (p c) (not-true (p c) (All-contains (λ x. other x ≡ true) (filter other xs) c (filter_passes other xs) b)) t))
      (Contains-append_cases (filter p xs) (filter other xs) c (Contains-permutation xs (filter p xs ++ filter other xs) c (IsPermutation-filter_both p other (λ x. refl) xs) h))

  kept_once : (xs : List Chain) → Distinct xs → Distinct (filter p xs)
  kept_once [] d = tt
  kept_once (x ∷ xs) d = cond_both (p x) (x ∷ filter p xs) (filter p xs) Distinct (λ _. (λ m. d.0 (from_kept xs x m).0, kept_once xs d.1)) (λ _. kept_once xs d.1)

module _ (first : Chain → Chain → Bool) where
  placed_moves : (x : Chain) (xs : List Chain) → IsPermutation (placed first x xs) (x ∷ xs)
  placed_moves x [] = IsPermutation-refl (x ∷ [])
  placed_moves x (y ∷ ys) = cond_both (first x y) (x ∷ y ∷ ys) (y ∷ placed first x ys) (λ l. IsPermutation l (x ∷ y ∷ ys))
      (λ _. IsPermutation-refl (x ∷ y ∷ ys))
      (λ _. IsPermutation-trans (y ∷ placed first x ys) (y ∷ x ∷ ys) (x ∷ y ∷ ys) (IsPermutation-cons y (placed first x ys) (x ∷ ys) (placed_moves x ys)) (IsPermutation-middle (y ∷ []) x ys))

  sorted_moves : (xs : List Chain) → IsPermutation (sorted first xs) xs
  sorted_moves [] = IsPermutation-refl []
  sorted_moves (x ∷ xs) = IsPermutation-trans (placed first x (sorted first xs)) (x ∷ sorted first xs) (x ∷ xs)
      (placed_moves x (sorted first xs)) (IsPermutation-cons x (sorted first xs) xs (sorted_moves xs))

  module _ (trans : (a b c : Chain) → first a b ≡ true → first b c ≡ true → first a c ≡ true) where
    placed_ascends : (x : Chain) (xs : List Chain) → Ascending first xs → ((y : Chain) → Contains xs y → (first x y ≡ true) ⊎ (first y x ≡ true)) → Ascending first (placed first x xs)
    placed_ascends x [] up one = (λ y m. absurd (no_member y m), tt)
    placed_ascends x (y ∷ ys) up one = cond_both (first x y) (x ∷ y ∷ ys) (y ∷ placed first x ys) (Ascending first)
        (λ e. (λ z m. ⊎_elim (λ (q : z ≡ y). subst (λ v. first x v ≡ true) (sym q) e) (λ k. trans x y z e (up.0 z k)) (Contains-cons_cases y ys z m), up))
        (λ e.
        let back : first y x ≡ true = ⊎_elim (λ h. absurd (both_ways (first x y) e h)) (λ h. h) (one y (Contains-first y ys)) in (
          λ z m. ⊎_elim (λ (q : z ≡ x). subst (λ v. first y v ≡ true) (sym q) back) (up.0 z)
              (Contains-cons_cases x ys z (Contains-permutation (placed first x ys) (x ∷ ys) z (placed_moves x ys) m)),
          placed_ascends x ys up.1 (λ z m. one z (Contains-rest y ys z m)),
        ))

    sorted_ascends : (xs : List Chain) → Distinct xs → ((a b : Chain) → Contains xs a → Contains xs b → (a ≡ b) ⊎ ((first a b ≡ true) ⊎ (first b a ≡ true))) → Ascending first (sorted first xs)
    sorted_ascends [] d one = tt
    sorted_ascends (x ∷ xs) d one =
        placed_ascends x (sorted first xs) (sorted_ascends xs d.1 (λ a b ma mb. one a b (Contains-rest x xs a ma) (Contains-rest x xs b mb)))
        (λ y m. let k = Contains-permutation (sorted first xs) xs y (sorted_moves xs) m in
        ⊎_elim (λ (e : x ≡ y). absurd (d.0 (subst (Contains xs) (sym e) k))) (λ h. h) (one x y (Contains-first x xs) (Contains-rest x xs y k)))

pub ranked : RankingOfLiveChains
ranked s laws g line = record {
  in_order = sorted_ascends (before s line) (before_trans s laws line) kept (kept_once (live g.allows line) (chains line) (chains_listed line).0)
      (λ a b ma mb. before_either s laws line a b ((known a ma).long ∙ sym (known b mb).long));
  exactly_live = λ c. (
    λ m. let k = from_kept (live g.allows line) (chains line) c (Contains-permutation (sorted (before s line) kept) kept c moves m) in (((chains_listed line).1 c).0 k.0, k.1),
    λ h. Contains-permutation kept (sorted (before s line) kept) c (IsPermutation-sym _ _ moves) (to_kept (live g.allows line) (chains line) c (((chains_listed line).1 c).1 h.0) h.1),
  );
}
  where
    kept : List Chain
    kept = filter (live g.allows line) (chains line)

    moves : IsPermutation (sorted (before s line) kept) kept
    moves = sorted_moves (before s line) kept

    known : (a : Chain) → Contains kept a → ChainOf line a
    known a m = ((chains_listed line).1 a).0 (from_kept (live g.allows line) (chains line) a m).0
