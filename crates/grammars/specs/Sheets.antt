-- The two sets of a sheet.
use Rattle.std.specs.Prelude.{◌≡◌, ℕ, Bool, true, cond, ◌&&◌, List, length, ℤ, Ok, Err, Decides, Result, ◌==◌, int_le, nat_le}
use Rattle.positions.specs.Positions.{is_position, is_pair, pair_of, Says}
use Rattle.grammars.specs.declared.Refusal.{Refusal}
use Rattle.grammars.specs.declared.Refusal.TheVariants.{Table}
use Rattle.grammars.specs.declared.sheet.Sheet.{Sheet}
use Rattle.grammars.specs.Grammars.{Sets, from_length}

-- z lies between low and high, or on one of them
abbrev pub between : ℤ → ℤ → ℤ → Bool
between low high z = int_le low z && int_le z high

-- the table of a sheet holds: the limits are in order and in range
abbrev pub holds : Sheet → Bool
holds t = (int_le t.south t.north && int_le t.west t.east) && (is_pair t.south t.west && is_pair t.north t.east)

-- what the check of a sheet's table answers
abbrev pub checking : Sheet → Result (Unit {0}) Refusal
checking t = cond (holds t) (Ok tt) (Err Table)

-- inside the limits or on them
abbrev pub on_sheet : Sheet → ℤ × ℤ → Bool
on_sheet t p = between t.south t.north p.0 && between t.west t.east p.1

-- the table holds, and s is the text of a position on the sheet
abbrev pub admits_sheet : Sheet → List ℕ → Bool
admits_sheet t s = holds t && (is_position s && on_sheet t (pair_of s))

-- up to 16 symbols of any kind; 17 must be admitted
abbrev pub allows_sheet : Sheet → List ℕ → Bool
allows_sheet t s = cond (holds t) (nat_le (length s) 17 && from_length 17 s (admits_sheet t s)) (length s == 0)

abbrev pub sheet_sets : Sheet → Sets
sheet_sets t = record { admits = admits_sheet t; allows = allows_sheet t }

-- The sheet admits the texts of the positions inside its limits or on them, and no others.
abbrev pub Covers : Sheet → Type 0
Covers t = (s : List ℕ) → Decides (admits_sheet t s) ((p : ℤ × ℤ) × (on_sheet t p ≡ true) × Says s p.0 p.1)
