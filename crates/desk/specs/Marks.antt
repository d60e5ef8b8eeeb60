-- The mark of a position text. Assumes nothing.
use Rattle.std.specs.Prelude.{ℕ, List}
use Rattle.positions.specs.Positions.{pair_of}
use Rattle.marks.specs.Marks.{mark_bytes}

-- the eight bytes of the mark that a position text makes
abbrev pub mark_of : List ℕ → List ℕ
mark_of s = mark_bytes (record { latitude = (pair_of s).0; longitude = (pair_of s).1 })
