-- What is proved of the chains of a line. Assumes nothing.
use Rattle.std.specs.Prelude.{◌≡◌, ℕ, ◌+◌, ◌-◌, ◌*◌, ◌<◌, ◌≤◌, true, false, ◌⊎◌, ◌↔◌, Contains, List, [], ◌∷◌, ◌++◌, length, take, slice_index, slice_index_or, slice_set, Some, None}
use Rattle.pages.specs.Shape.{Alternatives, Cells, well_formed_line}
use Rattle.scores.specs.Scores.{Meaning, Laws, better_by}
use Rattle.grammars.specs.Grammars.{Sets, Lawful}
use Rattle.search.specs.Members.{Distinct, Ascending}
use Rattle.search.specs.BestFirst.{Growth, Frontier, BestFirst}
use Rattle.search.specs.Chains.{Chain, ChainOf, chains, no_alt, text, total, before, live, lowered, root, children_below, children, ranking}

-- every chain of the line is listed, and once
abbrev pub ChainsListed : Type 0
ChainsListed = (line : Cells) → Distinct (chains line) × ((c : Chain) → Contains (chains line) c ↔ ChainOf line c)

-- no symbol comes twice in a cell, so a chain and its text determine each other
abbrev pub TextTellsChain : Type 0
TextTellsChain =
    (line : Cells) → well_formed_line line ≡ true
    → (a b : Chain) → ChainOf line a → ChainOf line b → text line a ≡ text line b → a ≡ b

-- One cell more, behind the others, adds the symbol of the alternative taken in it to the text, and steps the total by that
-- one's penalty. Before the first cell the text is empty, and the total is the start total.
pub record CellByCell (s : Meaning) : Type 0 where
  pub no_text : text [] [] ≡ []
  pub start : total s [] [] ≡ s.start
  pub symbol : (line : Cells) (c : Chain) → length c ≡ length line → (cell : Alternatives) (r : ℕ)
      → text (line ++ cell ∷ []) (c ++ r ∷ []) ≡ text line c ++ (slice_index_or cell r no_alt).symbol ∷ []
  pub penalty : (line : Cells) (c : Chain) → length c ≡ length line → (cell : Alternatives) (r : ℕ)
      → total s (line ++ cell ∷ []) (c ++ r ∷ []) ≡ s.step (total s line c) (slice_index_or cell r no_alt).penalty

abbrev pub TakenCellByCell : Type 0
TakenCellByCell = (s : Meaning) → CellByCell s

-- Where no cell is raised the chain is live, and it has no lowered chain. Where cell i is raised and none behind it, the chain
-- is live exactly when the symbols before cell i are an allowed opening, and its lowered chain has the rank of cell i less one.
pub record ByLastRaised (g : Sets) (line : Cells) (c : Chain) : Type 0 where
  pub flat : ((j : ℕ) → slice_index c j ≡ 0) → (live g.allows line c ≡ true) × (lowered c ≡ None)
  pub raised : (i : ℕ) → 0 < slice_index c i → ((j : ℕ) → i < j → slice_index c j ≡ 0)
      → (live g.allows line c ≡ g.allows (take i (text line c))) × (lowered c ≡ Some (slice_set c i (slice_index c i - 1)))

abbrev pub LastRaisedDecides : Type 0
LastRaisedDecides = (g : Sets) (line : Cells) (c : Chain) → ByLastRaised g line c

-- the order is strict, and of two chains of a line one stands before the other: the one whose total is better, and where
-- the totals are equally good the one with the lower rank in the first cell where they differ
pub record Order (s : Meaning) (line : Cells) : Type 0 where
  pub irreflexive : (a : Chain) → before s line a a ≡ false
  pub transitive : (a b c : Chain) → before s line a b ≡ true → before s line b c ≡ true → before s line a c ≡ true
  pub either : (a b : Chain) → ChainOf line a → ChainOf line b → (a ≡ b) ⊎ ((before s line a b ≡ true) ⊎ (before s line b a ≡ true))
  pub better : (a b : Chain) → better_by s (total s line a) (total s line b) ≡ true → before s line a b ≡ true
  pub tied : (a b : Chain) → s.no_worse (total s line a) (total s line b) ≡ true → s.no_worse (total s line b) (total s line a) ≡ true
      → (i : ℕ) → i < length a → i < length b → take i a ≡ take i b → slice_index a i < slice_index b i → before s line a b ≡ true

abbrev pub StrictTotalOrder : Type 0
StrictTotalOrder = (s : Meaning) → Laws s → (line : Cells) → Order s line

-- the ranking holds exactly the live chains of the line, each before all that come later
pub record Ranked (s : Meaning) (g : Sets) (line : Cells) : Type 0 where
  pub in_order : Ascending (before s line) (ranking s g.allows line)
  pub exactly_live : (c : Chain) → Contains (ranking s g.allows line) c ↔ (ChainOf line c × (live g.allows line c ≡ true))

abbrev pub RankingOfLiveChains : Type 0
RankingOfLiveChains = (s : Meaning) → Laws s → (g : Sets) (line : Cells) → Ranked s g line

-- every admissible chain is live, since every beginning of an admitted text is an allowed opening
abbrev pub AdmissibleIsLive : Type 0
AdmissibleIsLive = (g : Sets) → Lawful g → (line : Cells) (c : Chain) → g.admits (text line c) ≡ true → live g.allows line c ≡ true

-- every live chain grows from the one in which no cell is raised, through live chains that stand before it
abbrev pub LiveChainsGrow : Type 0
LiveChainsGrow = (s : Meaning) → Laws s → (g : Sets) → Lawful g → (line : Cells) → well_formed_line line ≡ true
    → Growth (before s line) lowered (children g.allows line) (root line) (ranking s g.allows line)

-- a chain has at most as many children as the line has cells, and none past the first opening that is not allowed
pub record FewChildren (g : Sets) (line : Cells) (c : Chain) : Type 0 where
  pub few : length (children g.allows line c) ≤ length line
  pub stop : (i : ℕ) → i ≤ length line → g.allows (take i (text line c)) ≡ false → children g.allows line c ≡ children_below g.allows line c i

abbrev pub ChildrenAreFew : Type 0
ChildrenAreFew = (g : Sets) → Lawful g → (line : Cells) (c : Chain) → FewChildren g line c

-- so best-first enumeration looks at the live chains in their order
abbrev pub BestFirstOfChains : Type 0
BestFirstOfChains = (s : Meaning) → Laws s → (g : Sets) → Lawful g → (line : Cells) → well_formed_line line ≡ true
    → BestFirst (before s line) lowered (children g.allows line) (root line) (ranking s g.allows line)

-- and its frontier never grows past 1 + looked × (cells − 1)
abbrev pub FrontierIsSmall : Type 0
FrontierIsSmall = (s : Meaning) → Laws s → (g : Sets) → Lawful g → (line : Cells) → well_formed_line line ≡ true
    → (k : ℕ) (bench : List Chain) → Frontier lowered (ranking s g.allows line) k bench → length bench ≤ 1 + k * (length line - 1)
