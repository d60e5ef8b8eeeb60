use Rattle.std.proofs.Common.{◌≡◌, ◌++◌, take, drop}
use Rattle.scores.specs.Scores.{stepped}
use Rattle.search.specs.Chains.{children_below, penalties}
use Rattle.bench.specs.Chains.{cells_of, chosen}
use Rattle.bench.specs.Held.{on_bench}
use Rattle.bench.proofs.Benches.{Exchanging}
use Rattle.bench.proofs.Bench.exchange.Given as goal

-- the children that raise a cell before this one are there, and the total before the cell
abbrev pub invariant-loop-cell : goal.invariant-loop-cell
invariant-loop-cell g l =
    Exchanging g.S.Score.meaning (cells_of l.parent) l.is_first l.self
    (drop 1 (on_bench (cells_of l.parent) l.initial.self) ++ children_below (g.G.Grammar.meaning l.grammar).allows (cells_of l.parent) (chosen l.parent) l.cell)
    × (l.before ≡ stepped g.S.Score.meaning g.S.Score.meaning.start (take l.cell (penalties (cells_of l.parent) (chosen l.parent))))
