-- The order of places: which of two stands before the other. Assumes nothing.
use Rattle.std.specs.Prelude.{◌≡◌, ℕ, ◌<◌, true, false, ◌⊎◌, List, length, take, slice_index}
use Rattle.std.specs.declared.cmp.Ordering.{Ordering}
use Rattle.std.specs.Ordering.{ordering_then, nat_cmp}
use Rattle.std.specs.BinaryHeap.{IsHeap}
use Rattle.std.specs.List.{AllByRecursion}
use Rattle.scores.specs.Scores.{Meaning, compare}
use Rattle.bench.specs.declared.places.Place.{Place}
use Rattle.bench.specs.Ranks.{ranks_of}
use Rattle.std.specs.Cmp.Lexicographic.{slice_cmp}

-- a heap gives its greatest first, so what stands before is greater: by the total, and with totals equally good by the
-- ranks, the lower in the first cell where they differ
abbrev pub standing : {S : Type 0} → Meaning → Place S → Place S → Ordering
standing s x y = ordering_then (compare s x.grade.total y.grade.total) (slice_cmp nat_cmp (ranks_of y.ranks.0) (ranks_of x.ranks.0))

-- the items of a heap of places
abbrev pub Ready : {S : Type 0} → Meaning → List (Place S) → Type 0
Ready s xs = IsHeap (standing s) xs

-- in the first cell where they differ xs has the lower rank
abbrev pub Lower : List ℕ → List ℕ → Type 0
Lower xs ys = (k : ℕ) × (k < length xs) × (k < length ys) × (take k xs ≡ take k ys) × (slice_index xs k < slice_index ys k)

-- x stands before y: its total is better, or the two are equally good and its ranks are lower
abbrev pub Before : {S : Type 0} → Meaning → Place S → Place S → Type 0
Before s x y =
    ((s.no_worse x.grade.total y.grade.total ≡ true) × (s.no_worse y.grade.total x.grade.total ≡ false))
    ⊎ ((s.no_worse x.grade.total y.grade.total ≡ true) × (s.no_worse y.grade.total x.grade.total ≡ true) × Lower (ranks_of x.ranks.0) (ranks_of y.ranks.0))

-- no item of xs stands before x
abbrev pub First : {S : Type 0} → Meaning → Place S → List (Place S) → Type 0
First s x xs = AllByRecursion (λ y. Before s y x → ⊥) xs
