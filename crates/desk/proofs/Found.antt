-- What a next finds under the grammar of a sheet, and that a desk stays ready. Assumes nothing.
use Rattle.std.proofs.Common.{◌≡◌, ℕ, ◌≤◌, Bool, true, false, cond, ◌&&◌, ltb, leb, arith, List, ◌++◌, length, take, drop, replicate, Some, None, Ok, Err, Option, Result, sym, refl, ap, ◌∙◌, subst, rules, ◌==◌}
use Rattle.std.specs.Option.{option_map}
use Rattle.std.proofs.lemmas.Bool.{and_parts, eqb-true, le-ltb, leb-true}
use Rattle.pages.specs.declared.lines.Line.{Line}
use Rattle.pages.specs.Answers.{line_of}
use Rattle.pages.specs.Shape.{Cells, one_to, well_formed_line}
use Rattle.scores.specs.Scores.{Meaning, Laws, sum_meaning}
use Rattle.positions.specs.Positions.{is_position, pair_of}
use Rattle.grammars.specs.Grammars.{Sets}
use Rattle.grammars.specs.Sheets.{holds, on_sheet}
use Rattle.positions.specs.declared.angles.Axis.{Axis}
use Rattle.grammars.specs.declared.Both.{Both}
use Rattle.grammars.specs.declared.Then.{Then}
use Rattle.grammars.specs.declared.sheet.Sheet.{Sheet}
use Rattle.search.specs.Chains.{Chain, text, ranking}
use Rattle.bench.specs.Searched.{admitted, due, first_passing}
use Rattle.bench.proofs.Searches.{passing_first, due_chain}
use Rattle.bench.proofs.Texts.{text_long, front}
use Rattle.descriptions.specs.Kinds.{charted}
use Rattle.reader.specs.declared.calls.Outcome.{Outcome}
use Rattle.reader.specs.declared.calls.Outcome.TheVariants.{Found, Spent, Exhausted}
use Rattle.reader.specs.declared.refusals.Refusal.{Refusal}
use Rattle.reader.specs.declared.refusals.Refusal.TheVariants as refusal
use Rattle.reader.specs.Views.{View, view, loaded, Kept, Agrees}
use Rattle.reader.specs.Calls.{Nexted, answered, granted_more, loaded_into, refuse_next, next_came, next_on, next_of}
use Rattle.desk.specs.declared.desk.Desk.{Desk}
use Rattle.desk.specs.declared.desk.Standing.{Standing}
use Rattle.desk.specs.Desks.{positions_on, sets_of, Ready, Shows, Looks}

-- a text of n symbols that the grammar admits stands at the start of the place
record Came (g : Sets) (place : List ℕ) (n : ℕ) (x : Nexted) : Type 0 where
  words : List ℕ
  long : length words ≡ n
  put : x.place ≡ words ++ drop n place
  passes : g.admits words ≡ true

neither : (b : Bool) (n : ℕ) → ◌≡◌ {A = Result Outcome Refusal} (Ok (cond b Spent Exhausted)) (Ok (Found n)) → ⊥
neither true n e = cc
neither false n e = cc

module _ (s : Meaning) (laws : Laws s) (g : Sets) (v : View) (place : List ℕ) where
  abbrev Tells : Nexted → Type 0
  Tells x = (n : ℕ) → x.answer ≡ Ok (Found n) → Came g place n x

  came : (l : Cells) (o : Option (ℕ × Chain)) → first_passing (admitted g l) (due s g l v.looked v.granted) ≡ o
      → Tells (next_came s l v place (length (ranking s g.allows l)) o)
  came l (Some at) q n e =
      let first = passing_first (admitted g l) (due s g l v.looked v.granted) at.0 at.1 q in
      let long : length (text l at.1) ≡ length l = text_long l at.1 (due_chain s laws g l v.looked v.granted at.0 at.1 first).long in
      let same : length l ≡ n = cc in
      record { words = text l at.1; long = long ∙ same; put = ap (λ k. text l at.1 ++ drop k place) same; passes = first.passes }
  came l None q n e = absurd (neither (ltb v.granted (length (ranking s g.allows l))) n e)

  judged : (l : Cells) (b : Bool)
      → Tells (cond b (refuse_next v place refusal.Place) (next_came s l v place (length (ranking s g.allows l)) (first_passing (admitted g l) (due s g l v.looked v.granted))))
  judged l true n e = absurd cc
  judged l false n e = came l _ refl n e

  -- a next leaves the line, and with a line that has room it is not refused
  came_keeps : (l : Cells) (live : ℕ) (o : Option (ℕ × Chain)) → (next_came s l v place live o).state.line ≡ v.line
  came_keeps l live (Some at) = refl
  came_keeps l live None = refl

  judged_keeps : (l : Cells) (live : ℕ) (o : Option (ℕ × Chain)) (b : Bool) → (cond b (refuse_next v place refusal.Place) (next_came s l v place live o)).state.line ≡ v.line
  judged_keeps l live o true = refl
  judged_keeps l live o false = came_keeps l live o

  next_keeps : (o : Option Cells) → (next_on s g v place o).state.line ≡ v.line
  next_keeps None = refl
  next_keeps (Some l) = judged_keeps l _ _ (ltb (length place) (length l))

  came_answers : (l : Cells) (live : ℕ) (o : Option (ℕ × Chain)) → (x : Outcome) × ((next_came s l v place live o).answer ≡ Ok x)
  came_answers l live (Some at) = (Found (length l), refl)
  came_answers l live None = (cond (ltb v.granted live) Spent Exhausted, refl)

  judged_answers : (l : Cells) (live : ℕ) (o : Option (ℕ × Chain)) (b : Bool) → b ≡ false
      → (x : Outcome) × ((cond b (refuse_next v place refusal.Place) (next_came s l v place live o)).answer ≡ Ok x)
  judged_answers l live o true e = absurd cc
  judged_answers l live o false e = came_answers l live o

  next_answers : (o : Option Cells) → ((l : Cells) → o ≡ Some l → length l ≤ length place) → (l : Cells) → o ≡ Some l → (x : Outcome) × ((next_on s g v place o).answer ≡ Ok x)
  next_answers None room l e = absurd cc
  next_answers (Some m) room l e = judged_answers m _ _ (ltb (length place) (length m)) (le-ltb (length place) (length m) (room m refl))

  next_tells : (o : Option Cells) → Tells (next_on s g v place o)
  next_tells None n e = absurd cc
  next_tells (Some l) n e = judged l (ltb (length place) (length l)) n e

sum_laws : Laws sum_meaning
sum_laws = search rules

-- what is found under the grammar of a sheet is the text of a position on it
pub record Seen (t : Sheet) (n : ℕ) (x : Nexted) : Type 0 where
  pub cells : n ≡ 17
  pub position : is_position (take 17 x.place) ≡ true
  pub admits : (charted t).admits (take 17 x.place) ≡ true

pub seen : (t : Sheet) (v : View) (place : List ℕ) (n : ℕ) → (next_of sum_meaning (charted t) v place).answer ≡ Ok (Found n)
    → Seen t n (next_of sum_meaning (charted t) v place)
seen t v place n e =
    let found = next_tells sum_meaning sum_laws (charted t) v place v.line n e in
    let w = found.words in
    let both = and_parts _ (holds t && (is_position w && on_sheet t (pair_of w))) found.passes in
    let inside = and_parts (holds t) (is_position w && on_sheet t (pair_of w)) both.1 in
    let is = (and_parts (is_position w) (on_sheet t (pair_of w)) inside.1).0 in
    let long : length w ≡ 17 = eqb-true (length w) 17 (and_parts (length w == 17) _ is).0 in
    let words : take 17 (next_of sum_meaning (charted t) v place).place ≡ w = ap (take 17) found.put ∙ front w (drop n place) 17 long in
    record {
      cells = sym found.long ∙ long;
      position = ap is_position words ∙ is;
      admits = ap (λ u. (charted t).admits u) words ∙ found.passes;
    }

-- a desk whose reader is of the grammar of its sheet
pub made_ready : (d : Desk) (g : Both (Then Axis Axis) Sheet) → d.reader.grammar ≡ g → g ≡ positions_on d.sheet → (l : Cells) → (view d.reader).line ≡ Some l
    → Agrees sum_meaning (sets_of g) d.reader → Ready d
made_ready d g same of_sheet l line agrees = record {
  grammar = same ∙ of_sheet;
  line = (l, line);
  agrees = subst (λ h. Agrees sum_meaning (sets_of h) d.reader) (sym same) agrees;
}

-- a desk whose reader was called is ready as before
pub still_ready : (was is : Desk) → Ready was → is.sheet ≡ was.sheet → (view is.reader).line ≡ (view was.reader).line → Kept was.reader is.reader
    → Agrees sum_meaning (sets_of was.reader.grammar) is.reader → Ready is
still_ready was is ready sheet line kept agrees =
    made_ready is was.reader.grammar kept.grammar (ready.grammar ∙ ap positions_on (sym sheet)) ready.line.0 (line ∙ ready.line.1) agrees

-- the line of a desk has 1 to 24 cells
bounded : (o : Option Line) (l : Cells) → option_map line_of o ≡ Some l → (1 ≤ length l) × (length l ≤ 24)
unfolding well_formed_line
bounded None l e = absurd cc
bounded (Some x) l e =
    let same : line_of x ≡ l = cc in
    let both = and_parts (one_to 24 (length (line_of x))) _ x.sound in
    let cells = and_parts (leb 1 (length (line_of x))) (leb (length (line_of x)) 24) both.0 in
    let Few = λ (m : Cells). (1 ≤ length m) × (length m ≤ 24) in
    subst Few same (leb-true 1 (length (line_of x)) cells.0, leb-true (length (line_of x)) 24 cells.1)

pub line_bounds : (d : Desk) (l : Cells) → (view d.reader).line ≡ Some l → (1 ≤ length l) × (length l ≤ 24)
line_bounds d l e = bounded d.reader.line l e

-- the reader of a ready desk seeks the positions on its sheet
module _ (d : Desk) (ready : Ready d) (place : List ℕ) where
  abbrev Nexts : Sets → Nexted
  Nexts g = next_of sum_meaning g (view d.reader) place

  seeks : sets_of d.reader.grammar ≡ charted d.sheet
  seeks = ap sets_of ready.grammar

  pub seen_by : (n : ℕ) → (Nexts (sets_of d.reader.grammar)).answer ≡ Ok (Found n) → Seen d.sheet n (Nexts (sets_of d.reader.grammar))
  seen_by n e = subst (λ g. Seen d.sheet n (Nexts g)) (sym seeks) (seen d.sheet (view d.reader) place n (sym (ap (λ g. (Nexts g).answer) seeks) ∙ e))

  pub line_kept : (Nexts (sets_of d.reader.grammar)).state.line ≡ (view d.reader).line
  line_kept = next_keeps sum_meaning sum_laws (sets_of d.reader.grammar) (view d.reader) place (view d.reader).line

  pub not_refused : 24 ≤ length place → (x : Outcome) × ((Nexts (sets_of d.reader.grammar)).answer ≡ Ok x)
  not_refused long =
      next_answers sum_meaning sum_laws (sets_of d.reader.grammar) (view d.reader) place (view d.reader).line
      (λ l e. omega (arith, (line_bounds d l e).1)) ready.line.0 ready.line.1

  pub state_by : (Nexts (sets_of d.reader.grammar)).state ≡ (Nexts (charted d.sheet)).state
  state_by = ap (λ g. (Nexts g).state) seeks

  pub shown_by : (standing : Standing) → Shows d.sheet (Nexts (sets_of d.reader.grammar)) standing → Shows d.sheet (Nexts (charted d.sheet)) standing
  shown_by standing = subst (λ g. Shows d.sheet (Nexts g) standing) seeks

-- a desk that shows what a next of its reader came to has looked
pub looks_by : (was is : Desk) → Ready was → is.sheet ≡ was.sheet → view is.reader ≡ (next_of sum_meaning (sets_of was.reader.grammar) (view was.reader) (replicate 24 0)).state
    → Shows was.sheet (next_of sum_meaning (sets_of was.reader.grammar) (view was.reader) (replicate 24 0)) is.standing → Looks was is
looks_by was is ready sheet state shows = record {
  sheet = sheet;
  state = state ∙ state_by was ready (replicate 24 0);
  shows = shown_by was ready (replicate 24 0) is.standing shows;
}

pub granted_keeps : (v : View) (n : ℕ) (r : Result (Unit {0}) Refusal) → (granted_more v n r).line ≡ v.line
granted_keeps v n (Ok done) = refl
granted_keeps v n (Err e) = refl

-- a load that answers no refusal took a line
pub taken : (v : View) (r : Result Cells Refusal) → answered r ≡ Ok tt → (l : Cells) × (r ≡ Ok l) × (loaded_into v r ≡ loaded l)
taken v (Ok l) e = (l, refl, refl)
taken v (Err r) e = absurd cc
