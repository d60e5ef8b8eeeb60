-- What the order of places gives: the first of a heap stands before all others. Assumes nothing.
use Rattle.std.proofs.Common.{◌≡◌, ℕ, zero, suc, ◌<◌, true, false, cond, List, [], ◌∷◌, length, get_or, take, drop, Some, None, Option, Ordering, Less, Equal, Greater, sym, ap, ◌∙◌, ⊎_elim, true≢false, arith, refl, MatchOption, IfSome, IsSome, ◌↔◌}
use Rattle.std.specs.BinaryHeap.{IsUpperBound}
use Rattle.std.specs.Ordering.{ordering_then, is_lt, nat_cmp}
use Rattle.std.specs.Cmp.{nat_cmp_is}
use Rattle.std.specs.Cmp.Lexicographic.{slice_cmp}
use Rattle.std.specs.List.{AllByRecursion}
use Rattle.scores.specs.Scores.{Meaning, compare}
use Rattle.bench.specs.declared.places.Place.{Place}
use Rattle.bench.specs.Ranks.{ranks_of}
use Rattle.bench.specs.Order.{standing, Ready, Before, First}

-- with totals equally good the second decides
pub tied_totals : (s : Meaning) (a b : ℕ) (k : Ordering) → s.no_worse a b ≡ true → s.no_worse b a ≡ true → ordering_then (compare s a b) k ≡ k
tied_totals s a b k p q =
    ap (λ t. ordering_then (cond t (cond (s.no_worse b a) Equal Greater) Less) k) p ∙ ap (λ t. ordering_then (cond t Equal Greater) k) q

lower_less : (k : ℕ) (xs ys : List ℕ) → k < length xs → k < length ys → take k xs ≡ take k ys → get_or xs k 0 < get_or ys k 0 → slice_cmp nat_cmp xs ys ≡ Less
lower_less k [] ys h h' e l = absurd (omega arith)
lower_less k (x ∷ xs) [] h h' e l = absurd (omega arith)
lower_less zero (x ∷ xs) (y ∷ ys) h h' e l = ap (λ r. ordering_then r (slice_cmp nat_cmp xs ys)) (sym (nat_cmp_is x y Less l))
lower_less (suc k) (x ∷ xs) (y ∷ ys) h h' e l =
    let same : x ≡ y = cc in
    let rest : take k xs ≡ take k ys = cc in
    ap (λ r. ordering_then r (slice_cmp nat_cmp xs ys)) (sym (nat_cmp_is x y Equal same)) ∙ lower_less k xs ys (omega arith) (omega arith) rest l

-- what stands before x is greater than x
before_less : {S : Type 0} (s : Meaning) (x y : Place S) → Before s y x → standing s x y ≡ Less
before_less s x y =
    ⊎_elim
    (λ better. ap (λ t. ordering_then (cond t (cond (s.no_worse y.grade.total x.grade.total) Equal Greater) Less) (slice_cmp nat_cmp (ranks_of y.ranks.0) (ranks_of x.ranks.0))) better.1)
    (λ tied.
    tied_totals s x.grade.total y.grade.total (slice_cmp nat_cmp (ranks_of y.ranks.0) (ranks_of x.ranks.0)) tied.1 tied.0
    ∙ lower_less tied.2.0 (ranks_of y.ranks.0) (ranks_of x.ranks.0) tied.2.1 tied.2.2 tied.2.3 tied.2.4)

firsts : {S : Type 0} (s : Meaning) (x : Place S) (ys : List (Place S)) → AllByRecursion (λ y. is_lt (standing s x y) ≡ false) ys → First s x ys
firsts s x [] h = tt
firsts s x (y ∷ ys) h = (λ b. true≢false (sym (ap is_lt (before_less s x y b)) ∙ h.0), firsts s x ys h.1)

pub begins : {A : Type 0} (xs : List A) (x : A) → 0 < length xs → x ≡ get_or xs 0 x → xs ≡ x ∷ drop 1 xs
begins [] x some e = absurd (omega arith)
begins (y ∷ xs) x some e = ap (λ z. z ∷ xs) (sym e)

-- what a look at the first place shows
pub peeked : {S A : Type 0} (s : Meaning) (now : A → Place S) (xs : List (Place S)) (n : ℕ) → n ≡ length xs
    → (r : Option A) → IsSome r ↔ (0 < n) → IfSome r (λ a. now a ≡ get_or xs 0 (now a)) → IfSome r (λ a. Ready s xs → IsUpperBound (standing s) (now a) xs) → Ready s xs
    → MatchOption r (xs ≡ []) (λ a. First s (now a) xs × (xs ≡ now a ∷ drop 1 xs))
peeked s now [] n e None there at greatest ready = refl
peeked s now (x ∷ xs) n e None there at greatest ready = absurd (true≢false (sym (there.1 (omega (arith, e)))))
peeked s now xs n e (Some a) there at greatest ready = (firsts s (now a) xs (greatest ready), begins xs (now a) (omega (arith, e, there.0 refl)) at)
