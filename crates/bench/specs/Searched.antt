-- What a bench holds once some chains have been looked at, and what a search from there comes to. Assumes nothing.
use Rattle.std.specs.Prelude.{ℕ, ◌+◌, ◌-◌, ◌*◌, ◌≤◌, min, Bool, cond, List, [], ◌∷◌, length, take, drop, Some, None, Option}
use Rattle.pages.specs.Shape.{Cells}
use Rattle.scores.specs.Scores.{Meaning}
use Rattle.grammars.specs.Grammars.{Texts, Sets}
use Rattle.search.specs.BestFirst.{Frontier}
use Rattle.search.specs.Chains.{Chain, text, lowered, ranking}
use Rattle.bench.specs.declared.Bench.{Bench}
use Rattle.bench.specs.declared.Sought.{Sought}
use Rattle.bench.specs.Held.{on_bench, Holds, reading_of}

-- The bench agrees with score, grammar and line once some live chains of those granted have been looked at: it holds, with
-- their totals, the chains that come next, and the grant leaves room for all that may come.
pub record AgreesAt {S : Type 0} (s : Meaning) (allows : Texts) (l : Cells) (looked granted : ℕ) (bench : Bench S) : Type 0 where
  pub holds : Holds s l bench (on_bench l bench)
  pub frontier : Frontier lowered (ranking s allows l) looked (on_bench l bench)
  pub within : looked ≤ granted
  pub room : length l * granted ≤ 4095

-- the grammar admits the chain's text
abbrev pub admitted : Sets → Cells → Chain → Bool
admitted g l c = g.admits (text l c)

-- the live chains that may still be looked at, with `looked` behind and `granted` in all
abbrev pub due : Meaning → Sets → Cells → ℕ → ℕ → List Chain
due s g l looked granted = take (granted - looked) (drop looked (ranking s g.allows l))

-- one more chain stands before it
abbrev pub one_further : Option (ℕ × Chain) → Option (ℕ × Chain)
one_further (Some found) = Some (found.0 + 1, found.1)
one_further None = None

-- the first chain of a list that passes the test, and how many stand before it
abbrev pub first_passing : (Chain → Bool) → List Chain → Option (ℕ × Chain)
first_passing test [] = None
first_passing test (c ∷ cs) = cond (test c) (Some (0, c)) (one_further (first_passing test cs))

-- with one found, it and those before it have been looked at; with none, all that were due
abbrev pub came_to : Meaning → Cells → ℕ → ℕ → ℕ → Option (ℕ × Chain) → Sought
came_to s l looked granted live (Some found) = record { looked = looked + found.0 + 1; reading = Some (reading_of s l found.1) }
came_to s l looked granted live None = record { looked = min granted live; reading = None }

-- what a search comes to: the first admissible one of the chains that are due
abbrev pub sought_of : Meaning → Sets → Cells → ℕ → ℕ → Sought
sought_of s g l looked granted = came_to s l looked granted (length (ranking s g.allows l)) (first_passing (admitted g l) (due s g l looked granted))
