-- Latitudes DDMMTTTH and longitudes DDDMMTTTH: degrees, minutes, thousandths of a minute and a letter.
-- An angle is a number of thousandths of a minute, south and west negative.
use Rattle.std.specs.Prelude.{◌≡◌, ℕ, ◌+◌, ◌*◌, ◌/◌, ◌%◌, Bool, true, cond, ◌&&◌, List, [], ◌∷◌, ◌++◌, length, take, drop, ℤ, pos, neg_ℤ, Some, None, Option, ◌==◌, int_le, int_lt, nat_lt, slice_index, unsigned_abs}
use Rattle.positions.specs.declared.angles.Axis.{Axis}
use Rattle.positions.specs.declared.angles.Axis.TheVariants.{Latitude, Longitude}
use Rattle.positions.specs.Numerals.{digits, number_of, numeral}

-- how many figures the degrees have
abbrev pub figures_of : Axis → ℕ
figures_of Latitude = 2
figures_of Longitude = 3

-- the most degrees
abbrev pub most_of : Axis → ℕ
most_of Latitude = 90
most_of Longitude = 180

-- The least angle and the greatest: 90 degrees south is a latitude, and 180 degrees is east.
abbrev pub least_of : Axis → ℤ
least_of Latitude = neg_ℤ (pos 5400000)
least_of Longitude = neg_ℤ (pos 10799999)

abbrev pub greatest_of : Axis → ℤ
greatest_of a = pos (most_of a * 60000)

-- z is at least the least angle and at most the greatest
abbrev pub in_range : Axis → ℤ → Bool
in_range a z = int_le (least_of a) z && int_le z (greatest_of a)

-- N and E
abbrev pub positive_of : Axis → ℕ
positive_of Latitude = 78
positive_of Longitude = 69

-- S and W
abbrev pub negative_of : Axis → ℕ
negative_of Latitude = 83
negative_of Longitude = 87

-- the letter of an angle: zero is N and E
abbrev pub letter_for : Axis → ℤ → ℕ
letter_for a z = cond (int_lt z (pos 0)) (negative_of a) (positive_of a)

-- The text of an angle: 60,000 thousandths to a degree, 1,000 to a minute.
abbrev pub angle_text : Axis → ℤ → List ℕ
angle_text a z =
    numeral (figures_of a) (unsigned_abs z / 60000)
    ++ (numeral 2 (unsigned_abs z / 1000 % 60) ++ (numeral 3 (unsigned_abs z % 1000) ++ (letter_for a z ∷ [])))

-- The text s is that of an angle in range. This is the meaning of a latitude or longitude text; what follows is how one is read.
abbrev pub Written : Axis → List ℕ → Type 0
Written a s = (z : ℤ) × (in_range a z ≡ true) × (s ≡ angle_text a z)

-- how many symbols a text has: the degrees, five figures and the letter
abbrev pub width_of : Axis → ℕ
width_of a = figures_of a + 6

abbrev pub degrees_of : Axis → List ℕ → ℕ
degrees_of a s = number_of (take (figures_of a) s)

abbrev pub minutes_of : Axis → List ℕ → ℕ
minutes_of a s = number_of (take 2 (drop (figures_of a) s))

abbrev pub thousandths_of : Axis → List ℕ → ℕ
thousandths_of a s = number_of (take 3 (drop (figures_of a + 2) s))

abbrev pub letter_of : Axis → List ℕ → ℕ
letter_of a s = slice_index s (figures_of a + 5)

-- how far from zero the text s says
abbrev pub magnitude_of : Axis → List ℕ → ℕ
magnitude_of a s = (degrees_of a s * 60 + minutes_of a s) * 1000 + thousandths_of a s

-- what the text s says
abbrev pub angle_of : Axis → List ℕ → ℤ
angle_of a s = cond (letter_of a s == negative_of a) (neg_ℤ (pos (magnitude_of a s))) (pos (magnitude_of a s))

-- an angle in range, with its own letter
abbrev pub fitting : Axis → ℕ → ℤ → Bool
fitting a h z = in_range a z && h == letter_for a z

-- s has the width of the axis's texts, figures before the letter, minutes below 60, and says an angle in range with its own letter
abbrev pub is_angle : Axis → List ℕ → Bool
is_angle a s = length s == width_of a && (digits (take (figures_of a + 5) s) && (nat_lt (minutes_of a s) 60 && fitting a (letter_of a s) (angle_of a s)))

-- what reading the text s as an angle answers
abbrev pub angle_read : Axis → List ℕ → Option ℤ
angle_read a s = cond (is_angle a s) (Some (angle_of a s)) None
