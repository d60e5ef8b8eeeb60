-- The last raised cell, and what a change of one rank leaves and changes. Assumes nothing.
use Rattle.std.proofs.Common.{◌≡◌, ℕ, zero, suc, ◌<◌, ◌≤◌, true, ◌⊎◌, List, [], ◌∷◌, length, get_or, take, set, sym, refl, ap, ◌∙◌, subst, inl, inr, ⊎_elim, arith, length-set, Some, None, Option}
use Rattle.std.proofs.lemmas.List.{get_or-set_same, get_or-set_other}
use Rattle.std.proofs.lemmas.Bool.{cases_order, cases_eq}
use Rattle.std.specs.List.{AllByRecursion}
use Rattle.pages.specs.declared.lines.Alternative.{Alternative}
use Rattle.pages.specs.Shape.{Alternatives, well_formed_line}
use Rattle.pages.proofs.Shape.{Rises, WellFormedCell, line_parts}
use Rattle.scores.specs.Scores.{Meaning, Laws, stepped}
use Rattle.pages.specs.Shape.{Cells}
use Rattle.search.specs.Chains.{Chain, ChainOf, no_alt, text, penalties, lower, raised_from, last_raised}
use Rattle.search.proofs.Order.{lower_less, lower_same}

-- i is the place of the last raised cell of c
pub record Last (c : Chain) (i : ℕ) : Type 0 where
  pub inside : i < length c
  pub up : 0 < get_or c i 0
  pub flat : (j : ℕ) → i < j → get_or c j 0 ≡ 0

abbrev pub RaisedAt : Chain → Option ℕ → Type 0
RaisedAt c None = (j : ℕ) → get_or c j 0 ≡ 0
RaisedAt c (Some i) = Last c i

pub raised_at : (c : Chain) → RaisedAt c (last_raised c)
raised_at [] = λ j. refl
raised_at (r ∷ c) = go r (last_raised c) (raised_at c)
  where
    go : (r : ℕ) (o : Option ℕ) → RaisedAt c o → RaisedAt (r ∷ c) (raised_from r o)
    go r (Some i) h = record { inside = let z = h.inside in omega arith; up = h.up; flat = elim [ zero ↦ λ l. absurd (omega arith) | suc j ↦ λ l. h.flat j (omega arith) ] }
    go zero None h = elim [ zero ↦ refl | suc j ↦ h j ]
    go (suc r) None h = record { inside = omega arith; up = omega arith; flat = elim [ zero ↦ λ l. absurd (omega arith) | suc j ↦ λ l. h j ] }

pub last_of : (c : Chain) (i : ℕ) → last_raised c ≡ Some i → Last c i
last_of c i e = subst (RaisedAt c) e (raised_at c)

pub flat_of : (c : Chain) → last_raised c ≡ None → (j : ℕ) → get_or c j 0 ≡ 0
flat_of c e = subst (RaisedAt c) e (raised_at c)

pub is_last : (c : Chain) (i : ℕ) → Last c i → last_raised c ≡ Some i
is_last c i h = go (last_raised c) (raised_at c)
  where
    go : (o : Option ℕ) → RaisedAt c o → o ≡ Some i
    go None k = let z = k i in let u = h.up in absurd (omega arith)
    go (Some j) k = ⊎_elim (λ (e : i ≡ j). ap {B = Option ℕ} Some (sym e))
        (⊎_elim (λ (l : i < j). let z = h.flat j l in let u = k.up in absurd (omega arith))
        (λ (l : j < i). let z = k.flat i l in let u = h.up in absurd (omega arith)))
        (cases_order i j)

pub is_flat : (c : Chain) → ((j : ℕ) → get_or c j 0 ≡ 0) → last_raised c ≡ None
is_flat c h = go (last_raised c) (raised_at c)
  where
    go : (o : Option ℕ) → RaisedAt c o → o ≡ None
    go None k = refl
    go (Some j) k = let z = h j in let u = k.up in absurd (omega arith)

-- one rank changed
pub chain_set : (line : Cells) (c : Chain) (i r : ℕ) → ChainOf line c → r < length (get_or line i []) → ChainOf line (set c i r)
chain_set line c i r h l = record { long = length-set c i r ∙ h.long; within = λ j k. at j k (cases_eq j i) }
  where
    at : (j : ℕ) → j < length line → (j ≡ i) ⊎ (j ≡ i → ⊥) → get_or (set c i r) j 0 < length (get_or line j [])
    at j k (inl e) =
        let inside : i < length c = let z = h.long in omega arith in
        let same : get_or (set c i r) j 0 ≡ r = subst (λ n. get_or (set c i r) n 0 ≡ r) (sym e) (get_or-set_same c i r 0 inside) in
        rw same (rw e l)
    at j k (inr n) = rw (get_or-set_other c i j r 0 n) (h.within j k)

pub text_set : (line : Cells) (c : Chain) (i r : ℕ) → take i (text line (set c i r)) ≡ take i (text line c)
text_set [] c i r = refl
text_set (cell ∷ line) [] i r = refl
text_set (cell ∷ line) (x ∷ c) zero r = refl
text_set (cell ∷ line) (x ∷ c) (suc i) r = ap {B = List ℕ} (λ t. (get_or cell x no_alt).symbol ∷ t) (text_set line c i r)

pub lower_set : (c : Chain) (i r : ℕ) → r < get_or c i 0 → lower (set c i r) c ≡ true
lower_set [] i r h = absurd (omega arith)
lower_set (x ∷ c) zero r h = lower_less r x c c h
lower_set (x ∷ c) (suc i) r h = lower_same x x (set c i r) c refl (lower_set c i r h)

-- each cell has an alternative, and penalties never fall within a cell
abbrev pub Sound : Cells → Type 0
Sound line = AllByRecursion (λ cell. (1 ≤ length cell) × ((i j : ℕ) (d : Alternative) → i ≤ j → j < length cell → (get_or cell i d).penalty ≤ (get_or cell j d).penalty)) line

from_low : (low : ℕ) (cell : Alternatives) → Rises low cell → (j : ℕ) (d : Alternative) → j < length cell → low ≤ (get_or cell j d).penalty
from_low low [] h j d l = absurd (omega arith)
from_low low (a ∷ cell) h zero d l = h.0
from_low low (a ∷ cell) h (suc j) d l = let first = h.0 in let rest = from_low a.penalty cell h.1 j d (omega arith) in omega arith

never_fall : (low : ℕ) (cell : Alternatives) → Rises low cell → (i j : ℕ) (d : Alternative) → i ≤ j → j < length cell → (get_or cell i d).penalty ≤ (get_or cell j d).penalty
never_fall low [] h i j d le l = absurd (omega arith)
never_fall low (a ∷ cell) h zero zero d le l = omega arith
never_fall low (a ∷ cell) h zero (suc j) d le l = from_low a.penalty cell h.1 j d (omega arith)
never_fall low (a ∷ cell) h (suc i) zero d le l = absurd (omega arith)
never_fall low (a ∷ cell) h (suc i) (suc j) d le l = never_fall a.penalty cell h.1 i j d (omega arith) (omega arith)

pub sound : (line : Cells) → well_formed_line line ≡ true → Sound line
sound line e = each line (line_parts line e).cells
  where
    each : (cells : Cells) → AllByRecursion WellFormedCell cells → Sound cells
    each [] h = tt
    each (cell ∷ cells) h = ((h.0.some, never_fall 0 cell h.0.rises), each cells h.1)

module _ (s : Meaning) (laws : Laws s) where
  same_no_worse : (t : ℕ) → s.no_worse t t ≡ true
  same_no_worse t = ⊎_elim (λ h. h) (λ h. h) (laws.either t t)

  stepped_no_worse : (t u : ℕ) (ps : List ℕ) → s.no_worse t u ≡ true → s.no_worse (stepped s t ps) (stepped s u ps) ≡ true
  stepped_no_worse t u [] h = h
  stepped_no_worse t u (p ∷ ps) h = stepped_no_worse (s.step t p) (s.step u p) ps (laws.steady t u p h)

  -- a lower rank makes no total worse
  pub set_no_worse : (line : Cells) → Sound line → (c : Chain) → ChainOf line c → (i r : ℕ) → r ≤ get_or c i 0 → (t : ℕ) → s.no_worse (stepped s t (penalties line (set c i r))) (stepped s t (penalties line c)) ≡ true
  set_no_worse [] sound c h i r l t = same_no_worse t
  set_no_worse (cell ∷ line) sound [] h i r l t = same_no_worse t
  set_no_worse (cell ∷ line) sound (x ∷ c) h zero r l t =
      stepped_no_worse _ _ (penalties line c) (laws.cheaper t _ _ (sound.0.1 r x _ l (h.within 0 (omega arith))))
  set_no_worse (cell ∷ line) sound (x ∷ c) h (suc i) r l t =
      set_no_worse line sound.1 c (record { long = let z = h.long in omega arith; within = λ j k. h.within (suc j) (omega arith) }) i r l _
