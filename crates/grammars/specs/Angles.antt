-- The two sets of Latitude and Longitude, once for both.
use Rattle.std.specs.Prelude.{ℕ, ◌+◌, Bool, ◌&&◌, List, length, take, nat_le, slice_index}
use Rattle.positions.specs.declared.angles.Axis.{Axis}
use Rattle.positions.specs.Numerals.{digits}
use Rattle.positions.specs.Angles.{figures_of, most_of, width_of, degrees_of, is_angle}
use Rattle.grammars.specs.Grammars.{Sets, from_length}

-- digits before the letter
abbrev pub opening_digits : Axis → List ℕ → Bool
opening_digits a s = digits (take (figures_of a + 5) s)

abbrev pub opening_degrees : Axis → List ℕ → Bool
opening_degrees a s = from_length (figures_of a) s (nat_le (degrees_of a s) (most_of a))

-- the tens of the minutes are at most 5, whose code is 53
abbrev pub opening_minutes : Axis → List ℕ → Bool
opening_minutes a s = from_length (figures_of a + 1) s (nat_le (slice_index s (figures_of a)) 53)

abbrev pub opening_whole : Axis → List ℕ → Bool
opening_whole a s = from_length (width_of a) s (is_angle a s)

-- at most as wide as the axis's texts, digits before the letter, and degrees, minutes and the whole right once they are there
abbrev pub allows_angle : Axis → List ℕ → Bool
allows_angle a s = nat_le (length s) (width_of a) && (opening_digits a s && (opening_degrees a s && (opening_minutes a s && opening_whole a s)))

abbrev pub angle_sets : Axis → Sets
angle_sets a = record { admits = is_angle a; allows = allows_angle a }
