-- What a grammar means and is held to, and the meaning of the combinations Both and Then.
use Rattle.std.specs.Prelude.{◌≡◌, ℕ, Bool, true, false, cond, ◌&&◌, List, [], ◌++◌, length, take, drop, Ok, Err, Result, ◌==◌, nat_le}
use Rattle.grammars.specs.declared.Refusal.{Refusal}
use Rattle.grammars.specs.declared.Refusal.TheVariants.{Table}

-- the number of a refusal
abbrev pub refusal : Refusal → ℕ
refusal Table = 12

-- what the check of a table returns
abbrev pub check_returns : Result (Unit {0}) Refusal → ℕ
check_returns (Ok _) = 0
check_returns (Err e) = refusal e

-- a set of texts
abbrev pub Texts : Type 0
Texts = List ℕ → Bool

-- The meaning of a grammar: the texts that it admits and the openings that it allows.
pub record Sets : Type 0 where
  pub admits : Texts
  pub allows : Texts

-- The laws of a grammar: the empty opening is allowed; every beginning of an allowed opening is allowed; every beginning of an
-- admitted text, the whole included, is allowed.
pub record Lawful (g : Sets) : Type 0 where
  pub empty : g.allows [] ≡ true
  pub shorter : (s : List ℕ) (n : ℕ) → g.allows s ≡ true → g.allows (take n s) ≡ true
  pub begun : (s : List ℕ) (n : ℕ) → g.admits s ≡ true → g.allows (take n s) ≡ true

-- A grammar made from a failing table: it admits nothing and allows only the empty opening.
abbrev pub Shut : Sets → Type 0
Shut g = (s : List ℕ) → (g.admits s ≡ false) × (g.allows s ≡ (length s == 0))

-- what an opening of n symbols or more has to pass
abbrev pub from_length : ℕ → List ℕ → Bool → Bool
from_length n s t = cond (nat_le n (length s)) t true

-- what each of two sets has
abbrev pub in_both : Texts → Texts → Texts
in_both a b s = a s && b s

-- Both: what each of two grammars admits, and what each allows
abbrev pub both : Sets → Sets → Sets
both a b = record { admits = in_both a.admits b.admits; allows = in_both a.allows b.allows }

-- a text of n symbols or more, whose first n are in a and whose rest is in b
abbrev pub split_at : ℕ → Texts → Texts → Texts
split_at n a b s = nat_le n (length s) && (a (take n s) && b (drop n s))

-- s is a text of n symbols that is in a, and then a text that is in b
abbrev pub Joined : ℕ → Texts → Texts → List ℕ → Type 0
Joined n a b s = (head tail : List ℕ) × (length head ≡ n) × (a head ≡ true) × (b tail ≡ true) × (s ≡ head ++ tail)

-- an opening of at most n symbols is in opens_a; of a longer one the first n are in a and the rest in opens_b
abbrev pub opens_at : ℕ → Texts → Texts → Texts → Texts
opens_at n a opens_a opens_b s = cond (nat_le (length s) n) (opens_a s) (a (take n s) && opens_b (drop n s))

-- Then, with the cut n
abbrev pub then_by : ℕ → Sets → Sets → Sets
then_by n a b = record { admits = split_at n a.admits b.admits; allows = opens_at n a.admits a.allows b.allows }
