use Rattle.std.proofs.Common.{◌≡◌, ◌-◌, ◌++◌, take, replicate}
use Rattle.search.specs.Chains.{text, penalties}
use Rattle.bench.specs.Chains.{cells_of, chosen}
use Rattle.bench.proofs.chains.Chain.take.Given as goal

-- what the cells before this one take is there
abbrev pub invariant-loop-cell : goal.invariant-loop-cell
invariant-loop-cell l =
    (l.taken.text ≡ take l.cell (text (cells_of l.self) (chosen l.self)) ++ replicate (24 - l.cell) 0)
    × (l.taken.penalties ≡ take l.cell (penalties (cells_of l.self) (chosen l.self)) ++ replicate (24 - l.cell) 0)
