-- What a bench holds: chains of a line, with their totals. Assumes nothing.
use Rattle.std.specs.Prelude.{◌≡◌, ℕ, ◌+◌, ◌-◌, ◌≤◌, Bool, true, false, cond, ◌&&◌, List, [], ◌∷◌, ◌++◌, map, length, drop, replicate, ◌==◌}
use Rattle.std.specs.BinaryHeap.{heap_capacity, heap_items, heap_len}
use Rattle.std.specs.List.{AllByRecursion}
use Rattle.pages.specs.Shape.{Cells}
use Rattle.scores.specs.Scores.{Meaning}
use Rattle.grammars.specs.Grammars.{Texts}
use Rattle.search.specs.BestFirst.{Unbeaten}
use Rattle.search.specs.Chains.{Chain, ChainOf, text, total, before, children}
use Rattle.bench.specs.declared.places.Place.{Place}
use Rattle.bench.specs.declared.Bench.{Bench}
use Rattle.bench.specs.declared.Reading.{Reading}
use Rattle.bench.specs.Ranks.{chain_in}
use Rattle.bench.specs.Order.{Ready}

-- how many places are in use
abbrev pub in_use : {S : Type 0} → Bench S → ℕ
in_use bench = heap_len bench.places

-- there is room for 4,096 places
abbrev pub Roomy : {S : Type 0} → Bench S → Type 0
Roomy bench = 4096 ≤ heap_capacity bench.places

-- the chains on a bench, in no order
abbrev pub on_bench : {S : Type 0} → Cells → Bench S → List Chain
on_bench l bench = map (λ p. chain_in l p.ranks.0) (heap_items bench.places)

-- the chains beside the first where it is given up, or else all of them
abbrev pub beside : {S : Type 0} → Bool → Cells → Bench S → List Chain
beside is_first l bench = cond is_first (drop 1 (on_bench l bench)) (on_bench l bench)

-- the two chains are the same
abbrev pub same : Chain → Chain → Bool
same [] [] = true
same [] (y ∷ b) = false
same (x ∷ a) [] = false
same (x ∷ a) (y ∷ b) = x == y && same a b

abbrev pub once : Chain → Chain → ℕ
once c d = cond (same c d) 1 0

-- how often a chain stands in a list
abbrev pub times : Chain → List Chain → ℕ
times c [] = 0
times c (d ∷ cs) = once c d + times c cs

-- a place has a chain of the line, with its total
abbrev pub Placed : {S : Type 0} → Meaning → Cells → Place S → Type 0
Placed s l p = ChainOf l (chain_in l p.ranks.0) × (p.grade.total ≡ total s l (chain_in l p.ranks.0))

-- The bench holds the chains cs, each as often, whatever the order: a heap with room for 4,096 places, and what is
-- on each of them is placed.
pub record Holds {S : Type 0} (s : Meaning) (l : Cells) (bench : Bench S) (cs : List Chain) : Type 0 where
  pub ready : Ready s (heap_items bench.places)
  pub room : Roomy bench
  pub places : AllByRecursion (Placed s l) (heap_items bench.places)
  pub chains : (c : Chain) → times c (on_bench l bench) ≡ times c cs
  pub many : length (on_bench l bench) ≡ length cs

-- c was taken from a bench that held the chains cs: none of them stands before it, and the others are `rest`
pub record Taken (s : Meaning) (l : Cells) (cs : List Chain) (c : Chain) (rest : List Chain) : Type 0 where
  pub first : Unbeaten (before s l) c cs
  pub others : (d : Chain) → times d cs ≡ once d c + times d rest
  pub fewer : length cs ≡ 1 + length rest

-- the text of a chain, with 0 past its end, and its total
abbrev pub reading_of : Meaning → Cells → Chain → Reading
reading_of s l c = record { text = text l c ++ replicate (24 - length l) 0; total = total s l c }

-- a chain of the bench was looked at, and its children were left in its place
pub record Seen {S : Type 0} (s : Meaning) (allows : Texts) (l : Cells) (was is : Bench S) (reading : Reading) : Type 0 where
  pub chain : Chain
  pub rest : List Chain
  pub chosen : Taken s l (on_bench l was) chain rest
  pub reads : reading ≡ reading_of s l chain
  pub holds : Holds s l is (rest ++ children allows l chain)
