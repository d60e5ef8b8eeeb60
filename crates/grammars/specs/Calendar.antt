-- The days of the calendar, one after another from 1 January 1900 on.
use Rattle.std.specs.Prelude.{◌≡◌, ℕ, zero, suc, ◌+◌, ◌<◌, Bool, cond, ◌||◌, List, ◌++◌, ◌==◌, nat_lt}
use Rattle.positions.specs.Numerals.{numeral}
use Rattle.grammars.specs.Dates.{leap}

-- a day of a month of a year
abbrev pub Day : Type 0
Day = ℕ × ℕ × ℕ

-- thirty days have April, June, September and November
abbrev pub thirty : ℕ → Bool
thirty m = m == 4 || (m == 6 || (m == 9 || m == 11))

-- February has 28, and 29 in a leap year; the others have 31
abbrev pub days_in : ℕ → ℕ → ℕ
days_in m y = cond (m == 2) (cond (leap y) 29 28) (cond (thirty m) 30 31)

-- the next day of the month, or the first of the next month, or the first of January
abbrev pub tomorrow : Day → Day
tomorrow t =
    cond (nat_lt t.0 (days_in t.1 t.2)) (t.0 + 1, t.1, t.2)
    (cond (nat_lt t.1 12) (1, t.1 + 1, t.2) (1, 1, t.2 + 1))

-- the day n days after 1 January 1900
unfoldable pub nth_day : ℕ → Day
nth_day zero = (1, 1, 1900)
nth_day (suc n) = tomorrow (nth_day n)

-- DDMMYYYY
abbrev pub date_text : Day → List ℕ
date_text t = numeral 2 t.0 ++ (numeral 2 t.1 ++ numeral 4 t.2)

-- s is the text of one of the 73,049 days from 1 January 1900 on
abbrev pub Dated : List ℕ → Type 0
Dated s = (n : ℕ) × (n < 73049) × (s ≡ date_text (nth_day n))

-- The last of these days is 31 December 2099, and no two of them have the same text: so 73,049 texts are dates.
pub record Calendar : Type 0 where
  pub last : nth_day 73048 ≡ (31, 12, 2099)
  pub once : (m n : ℕ) → m < 73049 → n < 73049 → date_text (nth_day m) ≡ date_text (nth_day n) → m ≡ n
