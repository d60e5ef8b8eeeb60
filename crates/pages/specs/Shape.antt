-- What a page is made of, and when it is well-formed. Assumes nothing.
use Rattle.std.specs.Prelude.{ℕ, Bool, true, false, not, ◌&&◌, ◌||◌, List, [], ◌∷◌, map, length, ◌==◌, nat_le, nat_lt}
use Rattle.pages.specs.declared.few.Few.{Few}
use Rattle.pages.specs.declared.lines.Alternative.{Alternative}
use Rattle.pages.specs.declared.lines.Cell.{Cell}
use Rattle.pages.specs.Few.{few_items}

-- a cell is its alternatives, a line its cells, a page its lines
abbrev pub Alternatives : Type 0
Alternatives = List Alternative

abbrev pub Cells : Type 0
Cells = List Alternatives

abbrev pub Lines : Type 0
Lines = List Cells

-- what the values held in place stand for
abbrev pub cell_of : Cell → Alternatives
cell_of c = few_items c.alternatives

abbrev pub cells_in : Few Cell 24 → Cells
cells_in cells = map cell_of (few_items cells)

-- whether one of the alternatives has the symbol
abbrev pub seen : ℕ → Alternatives → Bool
seen s [] = false
seen s (a ∷ more) = a.symbol == s || seen s more

-- the symbol is printable and no blank, and the penalty takes two bytes
abbrev pub in_range : Alternative → Bool
in_range a = nat_le 33 a.symbol && nat_le a.symbol 126 && nat_lt a.penalty 65536

-- no symbol comes twice
abbrev pub once : Alternatives → Bool
once [] = true
once (a ∷ more) = not (seen a.symbol more) && once more

-- no penalty is below the one before it, the first not below `low`
abbrev pub rising : ℕ → Alternatives → Bool
rising low [] = true
rising low (a ∷ more) = nat_le low a.penalty && rising a.penalty more

-- the test holds of each
abbrev pub every : {X : Type 0} → (X → Bool) → List X → Bool
every f [] = true
every f (x ∷ xs) = f x && every f xs

-- at least one, and at most so many
abbrev pub one_to : ℕ → ℕ → Bool
one_to most n = nat_le 1 n && nat_le n most

-- what may stand in a page file: the alternatives of a cell, all of them or those before another
unfoldable pub well_formed_alternatives : Alternatives → Bool
well_formed_alternatives c = every in_range c && once c && rising 0 c

unfoldable pub well_formed_cell : Alternatives → Bool
well_formed_cell c = one_to 8 (length c) && well_formed_alternatives c

unfoldable pub well_formed_line : Cells → Bool
well_formed_line l = one_to 24 (length l) && every well_formed_cell l

unfoldable pub well_formed_page : Lines → Bool
well_formed_page p = one_to 40 (length p) && every well_formed_line p
