-- What a score means, what it is held to, and what the two scores mean.
use Rattle.std.specs.Prelude.{◌≡◌, ℕ, ◌+◌, ◌-◌, ◌*◌, ◌^◌, ◌<◌, ◌≤◌, ◌↔◌, min, Bool, true, not, ◌&&◌, if◌then◌else◌, ◌⊎◌, List, [], ◌∷◌, ◌++◌, length, sum, nat_le, All}
use Rattle.std.specs.declared.cmp.Ordering.{Ordering}
use Rattle.std.specs.declared.cmp.Ordering.TheVariants.{Less, Equal, Greater}
use Rattle.std.specs.List.{fold}

-- The meaning of a score: the start total, the step from a total and a penalty to a total, whether one total is no worse than
-- another, and the most cells and the highest penalty that it takes.
pub record Meaning : Type 0 where
  pub start : ℕ
  pub step : ℕ → ℕ → ℕ
  pub no_worse : ℕ → ℕ → Bool
  pub most_cells : ℕ
  pub highest_penalty : ℕ

-- The laws of a score. `transitive` and `either`: totals can be ranked from best to worst. `steady`: a no worse
-- total stays no worse after the same step. `cheaper`: a smaller penalty never makes the result of a step worse. And a total
-- is below 2^64.
pub record Laws (s : Meaning) : Type 0 where
  pub transitive : (t u v : ℕ) → s.no_worse t u ≡ true → s.no_worse u v ≡ true → s.no_worse t v ≡ true
  pub either : (t u : ℕ) → (s.no_worse t u ≡ true) ⊎ (s.no_worse u t ≡ true)
  pub steady : (t u p : ℕ) → s.no_worse t u ≡ true → s.no_worse (s.step t p) (s.step u p) ≡ true
  pub cheaper : (t p q : ℕ) → p ≤ q → s.no_worse (s.step t p) (s.step t q) ≡ true
  pub start_fits : s.start < 2 ^ 64
  pub step_fits : (t p : ℕ) → s.step t p < 2 ^ 64

-- one total is better than another when it is no worse and the other is not
abbrev pub better_by : Meaning → ℕ → ℕ → Bool
better_by s t u = s.no_worse t u && not (s.no_worse u t)

-- how two totals compare: greater is what is better
abbrev pub compare : Meaning → ℕ → ℕ → Ordering
compare s t u =
    if s.no_worse t u then (if s.no_worse u t then Equal else Greater) else Less

-- Of every score that keeps its laws: a total is greater than another exactly when it is better,
-- less exactly when the other is better, and equal exactly when each is no worse than the other.
pub record BetterIsGreater : Type 0 where
  pub greater : (s : Meaning) → Laws s → (t u : ℕ)
      → (compare s t u ≡ Greater) ↔ (better_by s t u ≡ true)
  pub less : (s : Meaning) → Laws s → (t u : ℕ)
      → (compare s t u ≡ Less) ↔ (better_by s u t ≡ true)
  pub equal : (s : Meaning) → Laws s → (t u : ℕ)
      → (compare s t u ≡ Equal) ↔ ((s.no_worse t u ≡ true) × (s.no_worse u t ≡ true))

-- the total after the penalties ps, from the total t on
abbrev pub stepped : Meaning → ℕ → List ℕ → ℕ
stepped s t ps = fold s.step t ps

-- Of every score: with no penalty the total is the one from which it starts, and one penalty more, behind the others, is one
-- step more.
pub record Stepwise : Type 0 where
  pub none : (s : Meaning) (t : ℕ) → stepped s t [] ≡ t
  pub one_more : (s : Meaning) (t p : ℕ) (ps : List ℕ) → stepped s t (ps ++ (p ∷ [])) ≡ s.step (stepped s t ps) p

-- ps are at most as many penalties as the score takes cells, none above its highest
abbrev pub Taken : Meaning → List ℕ → Type 0
Taken s ps = (length ps ≤ s.most_cells) × All (λ p. p ≤ s.highest_penalty) ps

-- Sum: penalties are added, held at 4,294,967,295, and smaller is better
abbrev pub sum_meaning : Meaning
sum_meaning = record {
  start = 0;
  step = λ t p. min (t + p) 4_294_967_295;
  no_worse = λ t u. nat_le t u;
  most_cells = 24;
  highest_penalty = 65_535;
}

-- Shares: each penalty p takes the share 100 - p, p above 99 counting as 99, held at 10^18; larger is better
abbrev pub shares_meaning : Meaning
shares_meaning = record {
  start = 1;
  step = λ t p. min (t * (100 - min p 99)) 1_000_000_000_000_000_000;
  no_worse = λ t u. nat_le u t;
  most_cells = 9;
  highest_penalty = 99;
}

-- the sum of the penalties
abbrev pub penalty_sum : List ℕ → ℕ
penalty_sum ps = sum ps

-- the product of the shares that the penalties leave, 100 less each
abbrev pub share_product : List ℕ → ℕ
share_product [] = 1
share_product (p ∷ ps) = (100 - p) * share_product ps

-- Of the two scores Sum and Shares: within its two figures neither holds a total at its limit. Sum gives the sum of the
-- penalties, and Shares the product of the shares.
pub record Exact : Type 0 where
  pub sums : (ps : List ℕ) → Taken sum_meaning ps → stepped sum_meaning sum_meaning.start ps ≡ penalty_sum ps
  pub products : (ps : List ℕ) → Taken shares_meaning ps → stepped shares_meaning shares_meaning.start ps ≡ share_product ps
