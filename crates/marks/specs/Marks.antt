-- From a position text to the eight bytes of a plotted mark.
use Rattle.std.specs.Prelude.{ℕ, suc, ◌+◌, ◌-◌, ◌*◌, ◌/◌, ◌%◌, cond, List, [], ◌∷◌, ◌++◌, take, drop, ℤ, pos, negsuc, neg_ℤ, Ok, Err, Result, nat_le, nat_lt, slice_index}
use Rattle.positions.specs.declared.Refusal.{Refusal}
use Rattle.positions.specs.declared.Refusal.TheVariants.{Place}
use Rattle.positions.specs.Positions.{reading}
use Rattle.marks.specs.declared.Proposal.{Proposal}
use Rattle.marks.specs.declared.Confirmed.{Confirmed}

-- a proposal has the numbers that were read
abbrev pub proposed : Result (ℤ × ℤ) Refusal → Result Proposal Refusal
proposed (Ok p) = Ok (record { latitude = p.0; longitude = p.1 })
proposed (Err e) = Err e

abbrev pub proposing : List ℕ → Result Proposal Refusal
proposing s = proposed (reading s)

-- a confirmed mark has the numbers of its proposal
abbrev pub confirming : Proposal → Confirmed
confirming p = record { latitude = p.latitude; longitude = p.longitude }

-- what plotting answers at a place of n bytes
abbrev pub plotting : Confirmed → ℕ → Result ℕ (Refusal × Confirmed)
plotting m n = cond (nat_le 8 n) (Ok 8) (Err (Place, m))

-- 32-bit two's complement: a negative number, here -(n + 1), is counted down from 2^32
abbrev pub word : ℤ → ℕ
word (pos n) = n
word (negsuc n) = 4294967296 - suc n

-- the four bytes of a word, high byte first
abbrev pub word_bytes : ℕ → List ℕ
word_bytes n = (n / 16777216 % 256) ∷ (n / 65536 % 256) ∷ (n / 256 % 256) ∷ (n % 256) ∷ []

-- the eight bytes of a mark: the latitude's word and then the longitude's
abbrev pub mark_bytes : Confirmed → List ℕ
mark_bytes m = word_bytes (word m.latitude) ++ word_bytes (word m.longitude)

-- the number that four bytes write, high byte first
abbrev pub word_of : List ℕ → ℕ
word_of s = ((slice_index s 0 * 256 + slice_index s 1) * 256 + slice_index s 2) * 256 + slice_index s 3

-- the number whose two's complement is n: from 2^31 on it is negative
abbrev pub number_of_word : ℕ → ℤ
number_of_word n = cond (nat_lt n 2147483648) (pos n) (neg_ℤ (pos (4294967296 - n)))

-- The two numbers that eight bytes say: how a plotted mark is read again.
abbrev pub plotted : List ℕ → ℤ × ℤ
plotted s = (number_of_word (word_of (take 4 s)), number_of_word (word_of (drop 4 s)))
