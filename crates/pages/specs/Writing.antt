-- The bytes of a line and of a page, and where a line is written. Assumes nothing.
use Rattle.std.specs.Prelude.{◌≡◌, ℕ, ◌/◌, ◌%◌, ◌<◌, ◌≤◌, List, [], ◌∷◌, ◌++◌, length, drop, Ok, Err, Result}
use Rattle.std.specs.List.{flat_map}
use Rattle.placefault.specs.declared.PlaceFault.{PlaceFault}
use Rattle.pages.specs.declared.lines.Alternative.{Alternative}
use Rattle.pages.specs.Shape.{Alternatives, Cells, Lines}

-- a penalty's high byte comes first
abbrev pub alternative_bytes : Alternative → List ℕ
alternative_bytes a = a.symbol ∷ a.penalty / 256 ∷ a.penalty % 256 ∷ []

-- a count, and then what it counts
abbrev pub cell_bytes : Alternatives → List ℕ
cell_bytes c = length c ∷ flat_map alternative_bytes c

abbrev pub line_bytes : Cells → List ℕ
line_bytes l = length l ∷ flat_map cell_bytes l

abbrev pub page_bytes : Lines → List ℕ
page_bytes p = length p ∷ flat_map line_bytes p

-- the bytes stand at the place's start, and the rest of the place is left; a place too short is left whole
abbrev pub Written : Result ℕ PlaceFault → List ℕ → List ℕ → List ℕ → Type 0
Written (Ok n) bytes was is = (n ≡ length bytes) × (n ≤ length was) × (is ≡ bytes ++ drop n was)
Written (Err short) bytes was is = (length was < length bytes) × (is ≡ was)
