-- The laws of `Then`, from those of the two grammars below it. Assumes nothing.
use Rattle.std.specs.Prelude.{◌≡◌, ℕ, ◌-◌, ◌<◌, ◌≤◌, true, ◌&&◌, List, [], length, take, drop, nat_le}
use Rattle.std.proofs.Common.{sym, ap, ◌∙◌, ⊎_elim, arith, length-take}
use Rattle.std.proofs.lemmas.List.{take_all, take-take}
use Rattle.std.proofs.lemmas.Slice.{between_is}
use Rattle.std.proofs.lemmas.Bool.{cases_lt, cond-true, cond-false, le-leb, lt-leb, and_parts, and_from}
use Rattle.grammars.specs.Grammars.{Texts, split_at, opens_at}

module _ (n : ℕ) (a opens_a b opens_b : Texts) where
  at_short : (s : List ℕ) → length s ≤ n → opens_at n a opens_a opens_b s ≡ opens_a s
  at_short s h = cond-true (nat_le (length s) n) (opens_a s) (a (take n s) && opens_b (drop n s)) (le-leb (length s) n h)

  at_long : (s : List ℕ) → n < length s → opens_at n a opens_a opens_b s ≡ (a (take n s) && opens_b (drop n s))
  at_long s h = cond-false (nat_le (length s) n) (opens_a s) (a (take n s) && opens_b (drop n s)) (lt-leb (length s) n h)

  pub then_empty : opens_a [] ≡ true → opens_at n a opens_a opens_b [] ≡ true
  then_empty h = at_short [] (omega arith) ∙ h

  module _ (a_begun : (s : List ℕ) (m : ℕ) → a s ≡ true → opens_a (take m s) ≡ true) where
    -- the beginnings of a text whose first n symbols a admits, where the rest has only beginnings that b allows
    begins : (s : List ℕ) (m : ℕ) → a (take n s) ≡ true → ((k : ℕ) → opens_b (take k (drop n s)) ≡ true) → opens_at n a opens_a opens_b (take m s) ≡ true
    begins s m h k =
        let within_first : length (take m s) ≤ n → opens_at n a opens_a opens_b (take m s) ≡ true =
        λ short.
        let len = length-take m s in
        let same : take m (take n s) ≡ take m s =
        ⊎_elim
        (λ (lt : n < m). ap (take m) (take_all n s (omega (arith, len))))
        (λ (le : m ≤ n). take-take m n s le)
        (cases_lt n m) in
        at_short (take m s) short ∙ ap opens_a (sym same) ∙ a_begun (take n s) m h in
        let past_first : n < length (take m s) → opens_at n a opens_a opens_b (take m s) ≡ true =
        λ long.
        let len = length-take m s in
        let less : n ≤ m = omega (arith, len) in
        at_long (take m s) long
        ∙ and_from
        (a (take n (take m s)))
        (opens_b (drop n (take m s)))
        (ap a (take-take n m s less) ∙ h)
        (ap opens_b (sym (between_is s n m)) ∙ k (m - n)) in
        ⊎_elim past_first within_first (cases_lt n (length (take m s)))

    pub then_begun : ((s : List ℕ) (m : ℕ) → b s ≡ true → opens_b (take m s) ≡ true) → (s : List ℕ) (m : ℕ) → split_at n a b s ≡ true → opens_at n a opens_a opens_b (take m s) ≡ true
    then_begun b_begun s m h =
        let parts = and_parts (a (take n s)) (b (drop n s)) (and_parts (nat_le n (length s)) (a (take n s) && b (drop n s)) h).1 in
        begins s m parts.0 (λ k. b_begun (drop n s) k parts.1)

    pub then_shorter : ((s : List ℕ) (m : ℕ) → opens_a s ≡ true → opens_a (take m s) ≡ true) → ((s : List ℕ) (m : ℕ) → opens_b s ≡ true → opens_b (take m s) ≡ true) → (s : List ℕ) (m : ℕ) → opens_at n a opens_a opens_b s ≡ true → opens_at n a opens_a opens_b (take m s) ≡ true
    then_shorter a_shorter b_shorter s m h =
        let len = length-take m s in
        ⊎_elim
        (λ (long : n < length s).
        let parts = and_parts (a (take n s)) (opens_b (drop n s)) (sym (at_long s long) ∙ h) in
        begins s m parts.0 (λ k. b_shorter (drop n s) k parts.1))
        (λ (short : length s ≤ n). at_short (take m s) (omega (arith, len)) ∙ a_shorter s m (sym (at_short s short) ∙ h))
        (cases_lt n (length s))
