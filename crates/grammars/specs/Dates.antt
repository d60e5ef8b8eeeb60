-- The two sets of Date: DDMMYYYY, Gregorian, years 1900 to 2099. `Calendar` says the admitted texts by counting days.
use Rattle.std.specs.Prelude.{ℕ, ◌-◌, ◌%◌, Bool, cond, not, ◌&&◌, ◌||◌, List, [], ◌∷◌, length, take, drop, ◌==◌, nat_le, slice_index}
use Rattle.positions.specs.Numerals.{within, digits, number_of}
use Rattle.grammars.specs.Grammars.{Sets, from_length}

abbrev pub day_of : List ℕ → ℕ
day_of s = number_of (take 2 s)

abbrev pub month_of : List ℕ → ℕ
month_of s = number_of (take 2 (drop 2 s))

abbrev pub year_of : List ℕ → ℕ
year_of s = number_of (take 4 (drop 4 s))

-- how long each month can be
abbrev pub months : List ℕ
months = 31 ∷ 29 ∷ 31 ∷ 30 ∷ 31 ∷ 30 ∷ 31 ∷ 31 ∷ 30 ∷ 31 ∷ 30 ∷ 31 ∷ []

-- how long the month m can be: its figure in the table
unfoldable pub longest : ℕ → ℕ
longest m = slice_index months (m - 1)

-- 4 divides it but not 100, or 400 divides it
abbrev pub leap : ℕ → Bool
leap y = (y % 4 == 0 && not (y % 100 == 0)) || y % 400 == 0

-- how long the month m is in the year y
abbrev pub length_of : ℕ → ℕ → ℕ
length_of m y = cond (m == 2 && not (leap y)) 28 (longest m)

-- d is a day of the month m of the year y
abbrev pub is_day : ℕ → ℕ → ℕ → Bool
is_day d m y = within 1900 2099 y && (within 1 12 m && within 1 (length_of m y) d)

-- eight digits DDMMYYYY that say a day
abbrev pub admits_date : List ℕ → Bool
admits_date s = length s == 8 && (digits s && is_day (day_of s) (month_of s) (year_of s))

-- the month m is one of twelve, and d is a day that it has in some year
abbrev pub can_fall : ℕ → ℕ → Bool
can_fall d m = within 1 12 m && within 1 (longest m) d

abbrev pub opening_day : List ℕ → Bool
opening_day s = from_length 2 s (within 1 31 (day_of s))

abbrev pub opening_month : List ℕ → Bool
opening_month s = from_length 4 s (can_fall (day_of s) (month_of s))

abbrev pub opening_whole : List ℕ → Bool
opening_whole s = from_length 8 s (admits_date s)

-- up to eight digits: from two on a day, from four on a month that can have it, and eight that are admitted
abbrev pub allows_date : List ℕ → Bool
allows_date s = nat_le (length s) 8 && (digits s && (opening_day s && (opening_month s && opening_whole s)))

abbrev pub date_sets : Sets
date_sets = record { admits = admits_date; allows = allows_date }
