use Rattle.std.proofs.Common.{◌≡◌, ◌<◌, ◌≤◌, ◌-◌, true, false, length, take}
use Rattle.bench.proofs.open_cells.Given as goal

abbrev pub decreases-loop-open : goal.decreases-loop-open
decreases-loop-open g l = l.shut - l.open

abbrev pub invariant-loop-open : goal.invariant-loop-open
invariant-loop-open g l =
    let allows = (g.G.Grammar.meaning l.grammar).allows in
    (l.first ≤ l.open)
    × (l.open ≤ l.shut)
    × (l.shut ≤ length l.text)
    × (allows (take l.open l.text) ≡ true)
    × (l.shut < length l.text → allows (take l.shut l.text) ≡ false)
