-- The text, the penalties and the last raised cell of a chain, cell by cell. Assumes nothing.
use Rattle.std.proofs.Common.{◌≡◌, ℕ, zero, suc, ◌+◌, ◌-◌, ◌<◌, ◌≤◌, true, List, [], ◌∷◌, ◌++◌, map, length, get_or, take, drop, set, replicate, Some, None, Option, MatchOption, sym, refl, ap, ◌∙◌, ⊎_elim, arith}
use Rattle.std.specs.Option.{unwrap_or}
use Rattle.std.proofs.lemmas.List.{take_all, take-append-le, length-map, get_or-map, get_or_past, get_or-set_same}
use Rattle.std.proofs.lemmas.List.Sums.{fold-append}
use Rattle.std.proofs.lemmas.Bool.{cases_lt}
use lib.Seq.{take-suc}
use Rattle.pages.specs.declared.lines.Alternative.{Alternative}
use Rattle.pages.specs.Shape.{Cells}
use Rattle.scores.specs.Scores.{Meaning, stepped}
use Rattle.grammars.specs.Grammars.{Sets, Lawful}
use Rattle.search.specs.Chains.{Chain, ChainOf, no_alt, taken, text, penalties, total, last_raised, opens, live, raised, or_zero}
use Rattle.search.proofs.Raised.{Last, last_of, is_last, is_flat}

pub taken_long : (line : Cells) (c : Chain) → length c ≡ length line → length (taken line c) ≡ length line
taken_long [] c e = refl
taken_long (cell ∷ line) [] e = absurd (omega arith)
taken_long (cell ∷ line) (r ∷ c) e = ap suc (taken_long line c (omega arith))

pub text_long : (line : Cells) (c : Chain) → length c ≡ length line → length (text line c) ≡ length line
text_long line c e = length-map (taken line c) (λ a. a.symbol) ∙ taken_long line c e

-- bytes that are the text of a chain
pub text_fills : (line : Cells) (c : Chain) (t : List ℕ) → ChainOf line c → t ≡ text line c → length t ≡ length line
text_fills line c t chain e = ap length e ∙ text_long line c chain.long

pub penalties_long : (line : Cells) (c : Chain) → length c ≡ length line → length (penalties line c) ≡ length line
penalties_long line c e = length-map (taken line c) (λ a. a.penalty) ∙ taken_long line c e

-- what a chain takes in a cell
pub taken_at : (line : Cells) (c : Chain) (i : ℕ) → length c ≡ length line → get_or (taken line c) i no_alt ≡ get_or (get_or line i []) (get_or c i 0) no_alt
taken_at [] c i e = refl
taken_at (cell ∷ line) [] i e = absurd (omega arith)
taken_at (cell ∷ line) (r ∷ c) zero e = refl
taken_at (cell ∷ line) (r ∷ c) (suc i) e = taken_at line c i (omega arith)

-- a part of what it takes in a cell of the line
pub part_at : (f : Alternative → ℕ) (line : Cells) (c : Chain) (i : ℕ) → length c ≡ length line → i < length line → get_or (map f (taken line c)) i 0 ≡ f (get_or (get_or line i []) (get_or c i 0) no_alt)
part_at f line c i e lt = get_or-map f (taken line c) i no_alt 0 (omega (arith, taken_long line c e)) ∙ ap f (taken_at line c i e)

-- an array that is filled from the front, with one place more
pub filled_more : (xs : List ℕ) (i m n x : ℕ) → i < length xs → m ≡ suc n → x ≡ get_or xs i 0 → set (take i xs ++ replicate m 0) i x ≡ take (suc i) xs ++ replicate n 0
filled_more [] i m n x lt more e = absurd (omega arith)
filled_more (y ∷ xs) zero m n x lt more e = ap (λ k. set (replicate k 0) 0 x) more ∙ (λ j. e j ∷ replicate n 0)
filled_more (y ∷ xs) (suc i) m n x lt more e = ap (λ z. y ∷ z) (filled_more xs i m n x (omega arith) more e)

-- and with all of them
pub filled_all : (xs ys : List ℕ) (i n : ℕ) → ys ≡ take i xs ++ replicate (24 - i) 0 → i ≡ n → length xs ≡ n → ys ≡ xs ++ replicate (24 - n) 0
filled_all xs ys i n e end long = e ∙ ap (λ k. take k xs ++ replicate (24 - k) 0) end ∙ ap (λ z. z ++ replicate (24 - n) 0) (take_all n xs (omega arith))

-- the penalties with another rank in one cell
penalties_set : (line : Cells) (c : Chain) (i r : ℕ) → length c ≡ length line → i < length c
    → penalties line (set c i r) ≡ take i (penalties line c) ++ (get_or (get_or line i []) r no_alt).penalty ∷ drop (suc i) (penalties line c)
penalties_set [] c i r e lt = absurd (omega arith)
penalties_set (cell ∷ line) [] i r e lt = absurd (omega arith)
penalties_set (cell ∷ line) (x ∷ c) zero r e lt = refl
penalties_set (cell ∷ line) (x ∷ c) (suc i) r e lt = ap (λ ps. (get_or cell x no_alt).penalty ∷ ps) (penalties_set line c i r (omega arith) (omega arith))

-- the total of a child d of c, from the total before the raised cell, the penalty there and those behind it
pub child_total : (s : Meaning) (line : Cells) (c d : Chain) (i before p : ℕ) → length c ≡ length line → i < length line → d ≡ raised c i
    → before ≡ stepped s s.start (take i (penalties line c)) → p ≡ (get_or (get_or line i []) (get_or d i 0) no_alt).penalty
    → stepped s (s.step before p) (drop (i + 1) (penalties line c)) ≡ total s line d
child_total s line c d i before p long lt child first is =
    let r = get_or c i 0 + 1 in
    let ps = penalties line c in
    let inside : i < length c = omega arith in
    let next : suc i ≡ i + 1 = omega arith in
    let step : p ≡ (get_or (get_or line i []) r no_alt).penalty =
    is ∙ (λ j. (get_or (get_or line i []) (get_or (child j) i 0) no_alt).penalty) ∙ ap (λ n. (get_or (get_or line i []) n no_alt).penalty) (get_or-set_same c i r 0 inside) in
    (λ j. stepped s (s.step (first j) (step j)) (drop (i + 1) ps))
    ∙ sym (fold-append s.step s.start (take i ps) ((get_or (get_or line i []) r no_alt).penalty ∷ drop (i + 1) ps))
    ∙ ap (λ n. stepped s s.start (take i ps ++ (get_or (get_or line i []) r no_alt).penalty ∷ drop n ps)) (sym next)
    ∙ ap (stepped s s.start) (sym (penalties_set line c i r long inside))
    ∙ sym (ap (total s line) child)

-- the total before the next cell
pub before_next : (s : Meaning) (ps : List ℕ) (i before : ℕ) → i < length ps → before ≡ stepped s s.start (take i ps) → s.step before (get_or ps i 0) ≡ stepped s s.start (take (i + 1) ps)
before_next s ps i before lt e =
    let next : i + 1 ≡ suc i = omega arith in
    ap (λ t. s.step t (get_or ps i 0)) e
    ∙ sym (fold-append s.step s.start (take i ps) (get_or ps i 0 ∷ []))
    ∙ ap (stepped s s.start) (sym (take-suc ps i 0 lt))
    ∙ ap (λ n. stepped s s.start (take n ps)) (sym next)

-- the last rank that is not 0, from a search for it
pub last_found : (c : Chain) (r : Option ℕ) → MatchOption r ((k : ℕ) → k < length c → get_or c k 0 ≡ 0) (λ i. (i < length c) × (get_or c i 0 ≡ 0 → ⊥) × ((k : ℕ) → i < k → k < length c → get_or c k 0 ≡ 0))
    → unwrap_or r 0 ≡ or_zero (last_raised c)
last_found c None h = sym (ap or_zero (is_flat c (λ k. ⊎_elim (h k) (get_or_past c k 0) (cases_lt k (length c)))))
last_found c (Some i) h =
    sym (ap or_zero (is_last c i (record {
      inside = h.0;
      up = ⊎_elim (λ n. n) (λ le. absurd (h.1 (omega arith))) (cases_lt 0 (get_or c i 0));
      flat = λ k lt. ⊎_elim (h.2 k lt) (get_or_past c k 0) (cases_lt k (length c));
    })))

-- it is a cell of the chain, if there is one
pub raised_within : (c : Chain) → or_zero (last_raised c) ≤ length c
raised_within c = go (last_raised c) (last_of c)
  where
    go : (o : Option ℕ) → ((i : ℕ) → o ≡ Some i → Last c i) → or_zero o ≤ length c
    go None h = omega arith
    go (Some i) h = let k = (h i refl).inside in omega arith

-- in a live chain the opening before it is allowed
pub live_opens : (g : Sets) → Lawful g → (line : Cells) (c : Chain) → live g.allows line c ≡ true → g.allows (take (or_zero (last_raised c)) (text line c)) ≡ true
live_opens g lawful line c alive = go (last_raised c) alive
  where
    go : (o : Option ℕ) → opens g.allows (text line c) o ≡ true → g.allows (take (or_zero o) (text line c)) ≡ true
    go None h = lawful.empty
    go (Some i) h = h

pub front : (xs ys : List ℕ) (n : ℕ) → length xs ≡ n → take n (xs ++ ys) ≡ xs
front xs ys n e = take-append-le n xs ys (omega arith) ∙ take_all n xs (omega arith)
