-- What a chain takes cell by cell, that a chain and its text determine each other, what the last raised cell decides, and
-- that a chain whose text is admitted is live. Assumes nothing.
use Rattle.std.proofs.Common.{◌≡◌, ℕ, zero, suc, ◌<◌, true, [], ◌∷◌, ◌++◌, map, length, get_or, sym, refl, ap, ◌∙◌, ⊎_elim, arith, Some, None, Option}
use Rattle.std.specs.List.{AllByRecursion}
use Rattle.std.proofs.ByRecursion.{All-get_or}
use Rattle.std.proofs.lemmas.Bool.{cases_lt}
use Rattle.std.proofs.lemmas.List.{map-append, get_or_past}
use Rattle.std.proofs.lemmas.List.Sums.{fold-append}
use Rattle.pages.specs.Shape.{Alternatives, Cells}
use Rattle.pages.proofs.Shape.{Apart, WellFormedCell, line_parts}
use Rattle.scores.specs.Scores.{stepped}
use Rattle.search.specs.Chains.{Chain, ChainOf, no_alt, taken, text, penalties, last_raised, opens, lowered_at}
use Rattle.search.specs.Theorems.{TakenCellByCell, TextTellsChain, LastRaisedDecides, AdmissibleIsLive}
use Rattle.search.proofs.Raised.{is_last, is_flat}

taken_more : (line : Cells) (c : Chain) → length c ≡ length line → (cell : Alternatives) (r : ℕ) → taken (line ++ cell ∷ []) (c ++ r ∷ []) ≡ taken line c ++ get_or cell r no_alt ∷ []
taken_more [] [] e cell r = refl
taken_more [] (x ∷ c) e cell r = absurd (omega arith)
taken_more (here ∷ line) [] e cell r = absurd (omega arith)
taken_more (here ∷ line) (x ∷ c) e cell r = ap (λ more. get_or here x no_alt ∷ more) (taken_more line c (omega arith) cell r)

pub cell_by_cell : TakenCellByCell
cell_by_cell s = record {
  no_text = refl;
  start = refl;
  symbol = λ line c e cell r. ap (map (λ a. a.symbol)) (taken_more line c e cell r) ∙ map-append (λ a. a.symbol) (taken line c) (get_or cell r no_alt ∷ []);
  penalty = λ line c e cell r.
      ap (λ more. stepped s s.start (map (λ a. a.penalty) more)) (taken_more line c e cell r)
      ∙ ap (stepped s s.start) (map-append (λ a. a.penalty) (taken line c) (get_or cell r no_alt ∷ []))
      ∙ fold-append s.step s.start (penalties line c) ((get_or cell r no_alt).penalty ∷ []);
}

-- the symbol taken tells the rank
same_rank : (cell : Alternatives) → Apart cell → (q r : ℕ) → q < length cell → r < length cell → (get_or cell q no_alt).symbol ≡ (get_or cell r no_alt).symbol → q ≡ r
same_rank [] h q r lq lr e = absurd (omega arith)
same_rank (a ∷ cell) h zero zero lq lr e = refl
same_rank (a ∷ cell) h zero (suc r) lq lr e = absurd (All-get_or _ cell r no_alt (omega arith) h.0 (sym e))
same_rank (a ∷ cell) h (suc q) zero lq lr e = absurd (All-get_or _ cell q no_alt (omega arith) h.0 e)
same_rank (a ∷ cell) h (suc q) (suc r) lq lr e = ap suc (same_rank cell h.1 q r (omega arith) (omega arith) e)

same_chain : (line : Cells) → AllByRecursion WellFormedCell line → (a b : Chain) → ChainOf line a → ChainOf line b → text line a ≡ text line b → a ≡ b
same_chain [] h [] [] ca cb e = refl
same_chain [] h [] (y ∷ b) ca cb e = let z = cb.long in absurd (omega arith)
same_chain [] h (x ∷ a) b ca cb e = let z = ca.long in absurd (omega arith)
same_chain (cell ∷ line) h [] b ca cb e = let z = ca.long in absurd (omega arith)
same_chain (cell ∷ line) h (x ∷ a) [] ca cb e = let z = cb.long in absurd (omega arith)
same_chain (cell ∷ line) h (x ∷ a) (y ∷ b) ca cb e =
    let first : (get_or cell x no_alt).symbol ≡ (get_or cell y no_alt).symbol = cc in
    let others : text line a ≡ text line b = cc in
    let here = same_rank cell h.0.apart x y (ca.within 0 (omega arith)) (cb.within 0 (omega arith)) first in
    let rest = same_chain line h.1 a b (behind x a ca) (behind y b cb) others in
    λ i. here i ∷ rest i
  where
    behind : (r : ℕ) (c : Chain) → ChainOf (cell ∷ line) (r ∷ c) → ChainOf line c
    behind r c h = record { long = let z = h.long in omega arith; within = λ j k. h.within (suc j) (omega arith) }

pub text_tells : TextTellsChain
text_tells line well = same_chain line (line_parts line well).cells

pub last_raised_decides : LastRaisedDecides
last_raised_decides g line c = record {
  flat = λ flat. let none = is_flat c flat in (ap (opens g.allows (text line c)) none, ap (lowered_at c) none);
  raised = λ i up flat.
      let inside : i < length c = ⊎_elim (λ l. l) (λ le. let past = get_or_past c i 0 le in absurd (omega arith)) (cases_lt i (length c)) in
      let last = is_last c i (record { inside = inside; up = up; flat = flat }) in
      (ap (opens g.allows (text line c)) last, ap (lowered_at c) last);
}

pub admissible_live : AdmissibleIsLive
admissible_live g laws line c admitted = go (last_raised c)
  where
    go : (o : Option ℕ) → opens g.allows (text line c) o ≡ true
    go None = refl
    go (Some i) = laws.begun (text line c) i admitted
