-- What a chain with its line stands for. Assumes nothing.
use Rattle.std.specs.Prelude.{ℕ, List}
use Rattle.pages.specs.Shape.{Cells}
use Rattle.pages.specs.Answers.{line_of}
use Rattle.bench.specs.declared.chains.Chain.{Chain}
use Rattle.bench.specs.Ranks.{chain_in}

-- the cells of its line
abbrev pub cells_of : Chain → Cells
cells_of c = line_of c.line.now

-- the rank that it takes in each of them
abbrev pub chosen : Chain → List ℕ
chosen c = chain_in (cells_of c) c.ranks.now
