-- What is returned for a lent place that is too short. Assumes nothing.
use Rattle.std.specs.Prelude.{ℕ}

-- 10 Place
abbrev pub place_number : ℕ
place_number = 10
