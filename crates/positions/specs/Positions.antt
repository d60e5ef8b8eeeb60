-- Positions: 17 symbols, a latitude and then a longitude.
use Rattle.std.specs.Prelude.{◌≡◌, ℕ, Bool, true, cond, ◌&&◌, List, ◌++◌, length, take, drop, ℤ, Ok, Err, Result, ◌==◌, nat_le}
use Rattle.placefault.specs.Numbers.{place_number}
use Rattle.positions.specs.declared.angles.Axis.TheVariants.{Latitude, Longitude}
use Rattle.positions.specs.declared.Refusal.{Refusal}
use Rattle.positions.specs.declared.Refusal.TheVariants.{Place, Position}
use Rattle.positions.specs.Angles.{in_range, is_angle, angle_of, angle_text}

-- the number of a refusal
abbrev pub refusal : Refusal → ℕ
refusal Place = place_number
refusal Position = 11

-- the latitude y and the longitude x are in range
abbrev pub is_pair : ℤ → ℤ → Bool
is_pair y x = in_range Latitude y && in_range Longitude x

-- the text of the pair y and x: the latitude's and then the longitude's
abbrev pub position_text : ℤ → ℤ → List ℕ
position_text y x = angle_text Latitude y ++ angle_text Longitude x

-- s is the text of the pair y and x
abbrev pub Says : List ℕ → ℤ → ℤ → Type 0
Says s y x = (is_pair y x ≡ true) × (s ≡ position_text y x)

-- s has 17 symbols, a latitude of 8 and a longitude of 9
abbrev pub is_position : List ℕ → Bool
is_position s = length s == 17 && (is_angle Latitude (take 8 s) && is_angle Longitude (drop 8 s))

-- the latitude and the longitude that s says
abbrev pub pair_of : List ℕ → ℤ × ℤ
pair_of s = (angle_of Latitude (take 8 s), angle_of Longitude (drop 8 s))

-- what reading answers
abbrev pub reading : List ℕ → Result (ℤ × ℤ) Refusal
reading s = cond (is_position s) (Ok (pair_of s)) (Err Position)

-- what writing answers at a place of n bytes: the range is judged before the place
abbrev pub writing : ℤ → ℤ → ℕ → Result ℕ Refusal
writing y x n = cond (is_pair y x) (cond (nat_le 17 n) (Ok 17) (Err Place)) (Err Position)
