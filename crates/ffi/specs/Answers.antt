-- What a call answers to C: a number, and with it what it was asked for, or what stood there before. Assumes nothing.
use Rattle.std.specs.Prelude.{ℕ, Ok, Err, Result}

-- 0 where the call did what it was asked, else the number of its refusal
abbrev pub answered : {A E : Type 0} → (E → ℕ) → Result A E → ℕ
answered number (Ok a) = 0
answered number (Err e) = number e

-- what the call gives, or what stood there before
abbrev pub given_or : {A E : Type 0} → A → Result A E → A
given_or before (Ok a) = a
given_or before (Err e) = before
