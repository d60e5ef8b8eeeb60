-- Why no call is refused on a line of a good page, and what the next comes to. Assumes nothing.
use Rattle.std.proofs.Common.{◌≡◌, ℕ, ◌+◌, ◌*◌, ◌<◌, ◌≤◌, true, leb, ltb, List, [], ◌∷◌, ◌++◌, length, get_or, take, Some, None, Ok, Err, Option, Result, refl, ap, ◌∙◌, arith}
use Rattle.std.specs.List.{slice_get, AllByRecursion}
use Rattle.std.specs.Result.{IsOk}
use Rattle.std.proofs.lemmas.Grind.{common_steps}
use Rattle.std.proofs.lemmas.Option.{gets}
use Rattle.std.proofs.lemmas.List.{take_more}
use Rattle.std.proofs.ByRecursion.{All-get_or}
use Rattle.std.proofs.lemmas.Bool.{and_from, le-leb, le-ltb, cond-true, cond-false}
use Rattle.pages.specs.declared.faults.PageFault.{PageFault}
use Rattle.pages.specs.Shape.{Alternatives, Cells, Lines}
use Rattle.pages.specs.Reading.{onward, read_page}
use Rattle.pages.specs.Laws.{Accepted}
use Rattle.pages.proofs.Shape.{InRange, WellFormedCell, WellFormedLine, WellFormedPage, page_parts}
use Rattle.scores.specs.Scores.{sum_meaning}
use Rattle.grammars.specs.Dates.{date_sets}
use Rattle.search.specs.Chains.{Chain}
use Rattle.bench.specs.Searched.{admitted, first_passing}
use Rattle.reader.specs.declared.refusals.Refusal.TheVariants as refusal
use Rattle.reader.specs.Views.{View, loaded}
use Rattle.reader.specs.Calls.{light, all_light, takes, taken_by, loading, loaded_into, granting, granted_more, refuse_next, next_came, next_of}
use Rattle.lists.specs.Lists.{live_chains, reached}
use Rattle.lists.specs.Calls.{lines_of, lines_in, line_at, granted, came, seen_after}

-- the score takes every line
all_light_cell : (c : Alternatives) → AllByRecursion InRange c → light 65535 c ≡ true
all_light_cell [] h = refl
all_light_cell (a ∷ c) h = and_from (leb a.penalty 65535) (light 65535 c) (le-leb a.penalty 65535 (omega (arith, h.0.small))) (all_light_cell c h.1)

all_light_line : (l : Cells) → AllByRecursion WellFormedCell l → all_light 65535 l ≡ true
all_light_line [] h = refl
all_light_line (c ∷ l) h = and_from (light 65535 c) (all_light 65535 l) (all_light_cell c h.0.ranges) (all_light_line l h.1)

sum_takes : (l : Cells) → WellFormedLine l → takes sum_meaning l ≡ true
sum_takes l h = and_from (leb (length l) 24) (all_light 65535 l) (le-leb (length l) 24 h.few) (all_light_line l h.cells)

-- a page with a line of some number is good
good : (r : Result Lines PageFault) (n : ℕ) → n < length (lines_of r) → r ≡ Ok (lines_of r)
good (Ok lines) n h = refl
good (Err f) n h = absurd (omega arith)

there : {X : Type 0} (xs : List X) (n : ℕ) (d : X) → n < length xs → slice_get xs n ≡ Some (get_or xs n d)
there xs n d h = grind (arith, common_steps, gets)

module _ (page : List ℕ) (accepted : Accepted page) (n : ℕ) (h : n < length (lines_in page)) where
  read : read_page page ≡ Ok (lines_in page)
  read = good (read_page page) n h

  pub well : WellFormedPage (lines_in page)
  well = page_parts (lines_in page) ((accepted (lines_in page)).0 read).1

  pub line_well : WellFormedLine (line_at page n)
  line_well = All-get_or _ (lines_in page) n [] h well.lines

  pub loads : loading sum_meaning page n ≡ Ok (line_at page n)
  loads =
      ap (λ r. onward r refusal.Page (λ lines. taken_by sum_meaning (slice_get lines n))) read
      ∙ ap (taken_by sum_meaning) (there (lines_in page) n [] h)
      ∙ cond-true (takes sum_meaning (line_at page n)) (Ok (line_at page n)) (Err refusal.Score) (sum_takes (line_at page n) line_well)

pub grants : (l : Cells) → length l ≤ 24 → granting (loaded l) 170 ≡ Ok tt
grants l few = cond-true (leb (length l * (0 + 170)) 4095) (Ok tt) (Err refusal.Grant) (le-leb _ 4095 (omega arith))

comes : (l : Cells) (place : List ℕ) → length l ≤ length place → next_of sum_meaning date_sets (granted l) place ≡ came l place
comes l place long = cond-false (ltb (length place) (length l)) (refuse_next (granted l) place refusal.Place) (came l place) (le-ltb (length place) (length l) long)

-- with room for it the next is not refused
pub came_ok : (l : Cells) (place : List ℕ) → IsOk (came l place).answer
came_ok l place = go (first_passing (admitted date_sets l) (reached l))
  where
    go : (o : Option (ℕ × Chain)) → IsOk (next_came sum_meaning l (granted l) place (length (live_chains l)) o).answer
    go None = refl
    go (Some found) = refl

-- what is seen of the reader after the load, and after the grant; and what the next comes to
module _ (page : List ℕ) (accepted : Accepted page) (n : ℕ) (h : n < length (lines_in page)) (was : View) {one : View} where
  pub after_load : one ≡ loaded_into was (loading sum_meaning page n) → one ≡ loaded (line_at page n)
  after_load e = e ∙ ap (loaded_into was) (loads page accepted n h)

  after_grant : {two : View} → one ≡ loaded_into was (loading sum_meaning page n) → two ≡ granted_more one 170 (granting one 170) → two ≡ granted (line_at page n)
  after_grant e f =
      let l = line_at page n in
      f
      ∙ ap (λ v. granted_more v 170 (granting v 170)) (after_load e)
      ∙ ap (granted_more (loaded l) 170) (grants l (line_well page accepted n h).few)

  pub next_comes : {two : View} (place : List ℕ) → 24 ≤ length place → one ≡ loaded_into was (loading sum_meaning page n) → two ≡ granted_more one 170 (granting one 170)
      → next_of sum_meaning date_sets two place ≡ came (line_at page n) place
  next_comes place room e f =
      let few = (line_well page accepted n h).few in
      ap (λ v. next_of sum_meaning date_sets v place) (after_grant e f) ∙ comes (line_at page n) place (omega arith)

-- what is then seen of the reader does not hang on the place
pub came_state : (l : Cells) (p q : List ℕ) → (came l p).state ≡ (came l q).state
came_state l p q = go (first_passing (admitted date_sets l) (reached l))
  where
    go : (o : Option (ℕ × Chain)) → (next_came sum_meaning l (granted l) p (length (live_chains l)) o).state ≡ (next_came sum_meaning l (granted l) q (length (live_chains l)) o).state
    go None = refl
    go (Some found) = refl

seen_push : (v : View) (lines : Lines) (l : Cells) → seen_after v (lines ++ l ∷ []) ≡ (came l []).state
seen_push v [] l = refl
seen_push v (x ∷ lines) l = seen_push (came x []).state lines l

-- with one line more
pub seen_more : (v : View) (lines : Lines) (n : ℕ) → n < length lines → seen_after v (take (n + 1) lines) ≡ (came (get_or lines n []) []).state
seen_more v lines n h = ap (seen_after v) (take_more lines n [] h) ∙ seen_push v (take n lines) (get_or lines n [])
