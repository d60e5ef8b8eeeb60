-- Chains of a line, their texts and totals, and the order in which they stand; the live chains, how they grow from one
-- another, and their ranking. Assumes nothing.
use Rattle.std.specs.Prelude.{◌≡◌, ℕ, zero, suc, ◌+◌, ◌-◌, ◌<◌, Bool, true, false, cond, ◌&&◌, ◌||◌, List, [], ◌∷◌, ◌++◌, map, length, take, replicate, filter, ◌==◌, nat_le, nat_lt, slice_index, slice_index_or, slice_set, Some, None, Option}
use Rattle.pages.specs.declared.lines.Alternative.{Alternative}
use Rattle.pages.specs.Shape.{Cells}
use Rattle.scores.specs.Scores.{Meaning, better_by, stepped}
use Rattle.grammars.specs.Grammars.{Texts}

-- the rank taken in each cell
abbrev pub Chain : Type 0
Chain = List ℕ

-- one rank for each cell, below the number of its alternatives
pub record ChainOf (line : Cells) (c : Chain) : Type 0 where
  pub long : length c ≡ length line
  pub within : (i : ℕ) → i < length line → slice_index c i < length (slice_index_or line i [])

-- the chains that take one of the first n alternatives of a cell, and then one of `rest`
abbrev pub headed : ℕ → List Chain → List Chain
headed zero rest = []
headed (suc n) rest = headed n rest ++ map (λ c. n ∷ c) rest

-- all chains of a line, each once
abbrev pub chains : Cells → List Chain
chains [] = [] ∷ []
chains (cell ∷ line) = headed (length cell) (chains line)

abbrev pub no_alt : Alternative
no_alt = record { symbol = 0; penalty = 0 }

-- the alternatives that a chain takes
abbrev pub taken : Cells → Chain → List Alternative
taken [] c = []
taken (cell ∷ line) [] = []
taken (cell ∷ line) (r ∷ c) = slice_index_or cell r no_alt ∷ taken line c

abbrev pub text : Cells → Chain → List ℕ
text line c = map (λ a. a.symbol) (taken line c)

abbrev pub penalties : Cells → Chain → List ℕ
penalties line c = map (λ a. a.penalty) (taken line c)

abbrev pub total : Meaning → Cells → Chain → ℕ
total s line c = stepped s s.start (penalties line c)

abbrev pub equally_good : Meaning → ℕ → ℕ → Bool
equally_good s t u = s.no_worse t u && s.no_worse u t

-- the lower rank in the first cell where they differ
abbrev pub lower : Chain → Chain → Bool
lower [] b = false
lower (x ∷ a) [] = false
lower (x ∷ a) (y ∷ b) = nat_lt x y || (x == y && lower a b)

-- a stands before b: a better total, or one equally good and the lower rank in the first cell where they differ
abbrev pub before : Meaning → Cells → Chain → Chain → Bool
before s line a b = better_by s (total s line a) (total s line b) || (equally_good s (total s line a) (total s line b) && lower a b)

-- the place of the last raised cell: of a chain that begins with rank r, from the place in the rest
abbrev pub raised_from : ℕ → Option ℕ → Option ℕ
raised_from r (Some i) = Some (suc i)
raised_from zero None = None
raised_from (suc r) None = Some 0

abbrev pub last_raised : Chain → Option ℕ
last_raised [] = None
last_raised (r ∷ c) = raised_from r (last_raised c)

abbrev pub opens : Texts → List ℕ → Option ℕ → Bool
opens allows t None = true
opens allows t (Some i) = allows (take i t)

-- no cell is raised, or the symbols before the last raised one are an allowed opening
abbrev pub live : Texts → Cells → Chain → Bool
live allows line c = opens allows (text line c) (last_raised c)

abbrev pub lowered_at : Chain → Option ℕ → Option Chain
lowered_at c None = None
lowered_at c (Some i) = Some (slice_set c i (slice_index c i - 1))

-- the last raised cell's rank less one
abbrev pub lowered : Chain → Option Chain
lowered c = lowered_at c (last_raised c)

-- where no cell is raised
abbrev pub root : Cells → Chain
root line = replicate (length line) 0

abbrev pub raised : Chain → ℕ → Chain
raised c i = slice_set c i (slice_index c i + 1)

abbrev pub or_zero : Option ℕ → ℕ
or_zero None = 0
or_zero (Some i) = i

-- cell i may be raised: it is the last raised one or a later one, the symbols before it are an allowed opening, and it has one more alternative
abbrev pub may_raise : Texts → Cells → Chain → ℕ → Bool
may_raise allows line c i = nat_le (or_zero (last_raised c)) i && (allows (take i (text line c)) && nat_lt (slice_index c i + 1) (length (slice_index_or line i [])))

-- the children that raise one of the first n cells
abbrev pub children_below : Texts → Cells → Chain → ℕ → List Chain
children_below allows line c zero = []
children_below allows line c (suc i) = children_below allows line c i ++ cond (may_raise allows line c i) (raised c i ∷ []) []

abbrev pub children : Texts → Cells → Chain → List Chain
children allows line c = children_below allows line c (length line)

-- into a list that ascends
abbrev pub placed : (Chain → Chain → Bool) → Chain → List Chain → List Chain
placed first c [] = c ∷ []
placed first c (x ∷ xs) = cond (first c x) (c ∷ x ∷ xs) (x ∷ placed first c xs)

abbrev pub sorted : (Chain → Chain → Bool) → List Chain → List Chain
sorted first [] = []
sorted first (c ∷ cs) = placed first c (sorted first cs)

-- the live chains in their order
abbrev pub ranking : Meaning → Texts → Cells → List Chain
ranking s allows line = sorted (before s line) (filter (live allows line) (chains line))
