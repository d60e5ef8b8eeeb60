-- What the ranks on the bench stand for. Assumes nothing.
use Rattle.std.specs.Prelude.{ℕ, List, length, take}
use Rattle.pages.specs.Shape.{Cells}
use Rattle.search.specs.Chains.{Chain}
use Rattle.bench.specs.declared.ranks.Ranks.{Ranks}

-- 24 ranks
abbrev pub ranks_of : Ranks → List ℕ
ranks_of r = r.each

-- the chain that they give in a line: a rank for each cell
abbrev pub chain_in : Cells → Ranks → Chain
chain_in l r = take (length l) (ranks_of r)
