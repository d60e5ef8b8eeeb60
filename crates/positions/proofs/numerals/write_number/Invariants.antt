use Rattle.std.proofs.Common.{◌≡◌, ◌++◌, length, drop}
use Rattle.positions.specs.Numerals.{numeral}
use Rattle.positions.proofs.numerals.write_number.Given as goal

-- the figures before place i are still to be written, from what is left of n
abbrev pub invariant-loop-i : goal.invariant-loop-i
invariant-loop-i l = numeral (length l.initial.place) l.initial.n ≡ numeral l.i l.n ++ drop l.i l.place
