-- What a line held in place gives: its cells by their numbers, and the chain in which no cell is raised. Assumes nothing.
use Rattle.std.proofs.Common.{◌≡◌, ℕ, ◌<◌, ◌≤◌, true, List, [], length, get_or, take, replicate, sym, ap, ◌∙◌, subst, arith}
use Rattle.std.proofs.lemmas.List.{get_or-map, length-map, take-replicate}
use Rattle.pages.specs.declared.lines.Cell.{Cell}
use Rattle.pages.specs.declared.lines.Line.{Line}
use Rattle.pages.specs.Few.{few_items}
use Rattle.pages.specs.Shape.{Cells, cell_of, well_formed_line}
use Rattle.pages.specs.Answers.{line_of}
use Rattle.pages.proofs.Shape.{line_parts}
use Rattle.bench.specs.declared.ranks.Ranks.{Ranks}
use Rattle.bench.specs.Ranks.{ranks_of, chain_in}
use Rattle.search.specs.Chains.{ChainOf, root}
use Rattle.search.proofs.Raised.{sound}
use Rattle.search.proofs.Growth.{root_chain}

-- the slice of its cells has as many as the line
pub as_many : (line : Line) (items : List Cell) → items ≡ few_items line.cells → length (line_of line) ≡ length items
as_many line items same = length-map (few_items line.cells) cell_of ∙ sym (ap length same)

-- and each of them the alternatives of the line's cell
pub cell_at : (line : Line) (items : List Cell) → items ≡ few_items line.cells → (i : ℕ) (d : Cell) → i < length items → get_or (line_of line) i [] ≡ cell_of (get_or items i d)
cell_at line items same i d lt =
    let inside : i < length (few_items line.cells) = omega (arith, ap length same) in
    get_or-map cell_of (few_items line.cells) i d [] inside ∙ ap (λ l. cell_of (get_or l i d)) (sym same)

module _ (l : Cells) (well : well_formed_line l ≡ true) where
  pub few_cells : length l ≤ 24
  few_cells = (line_parts l well).few

  -- ranks with no cell raised
  module _ (r : Ranks) (flat : ranks_of r ≡ replicate 24 0) where
    pub flat_root : chain_in l r ≡ root l
    flat_root = ap (take (length l)) flat ∙ take-replicate (length l) 24 0 few_cells

    pub flat_chain : ChainOf l (chain_in l r)
    flat_chain = subst (ChainOf l) (sym flat_root) (root_chain l (sound l well))
