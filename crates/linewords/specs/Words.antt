-- The words of a line, and the number that a word writes. Assumes nothing.
use Rattle.std.specs.Prelude.{◌≡◌, ℕ, ◌^◌, ◌<◌, nat_lt, List, length, filter}
use Rattle.std.specs.List.{slice_split}
use Rattle.std.specs.Char.{is_ascii_whitespace}
use Rattle.std.specs.Str.Parse.{IsNumeral, digits_value, without_leading_plus}

-- the words of a line: what stands between blanks, which are space, tab, line feed, form feed and carriage return
abbrev pub words_of : List ℕ → List (List ℕ)
words_of line = filter (λ w. nat_lt 0 (length w)) (slice_split is_ascii_whitespace line)

-- the digits, which a plus may stand before, write the number n below 2^64
abbrev pub Writes : List ℕ → ℕ → Type 0
Writes digits n = IsNumeral 10 (without_leading_plus digits) × (digits_value 10 (without_leading_plus digits) ≡ n) × (n < 2 ^ 64)
