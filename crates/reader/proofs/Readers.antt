-- What the calls of a reader rest on. Assumes nothing.
use Rattle.std.proofs.Common.{Bor, ◌≡◌, ℕ, ◌+◌, ◌*◌, ◌≤◌, min, Bool, true, false, cond, ◌&&◌, ltb, leb, List, [], ◌∷◌, ◌++◌, length, take, drop, Some, None, Ok, Err, Option, Result, ⊎_elim, sym, refl, ap, ◌∙◌, subst, mul-le-mul_right, arith}
use Rattle.std.specs.Option.{option_copied, option_map}
use Rattle.std.specs.List.{slice_get}
use Rattle.std.proofs.lemmas.List.{drop_more, length-take-le, take-append-drop}
use Rattle.std.proofs.lemmas.Option.{slice_get_within, get_or_from_slice_get}
use Rattle.std.proofs.lemmas.Bool.{cases_Bool, leb-true, le-ltb, and_parts, cond-false}
use Rattle.pages.specs.declared.lines.Line.{Line}
use Rattle.pages.specs.declared.faults.PageFault.{PageFault}
use Rattle.pages.specs.Shape.{Cells, Lines}
use Rattle.pages.specs.Answers.{line_of}
use Rattle.pages.specs.Reading.{onward, read_page}
use Rattle.pages.specs.Writing.{page_bytes}
use Rattle.pages.specs.Laws.{Accepted}
use Rattle.pages.proofs.Shape.{line_parts}
use Rattle.scores.specs.Scores.{Meaning, Laws}
use Rattle.grammars.specs.Grammars.{Sets, Lawful}
use Rattle.search.specs.Chains.{Chain, ranking}
use Rattle.bench.specs.declared.Sought.{Sought}
use Rattle.bench.specs.Held.{in_use, reading_of}
use Rattle.bench.specs.Searched.{admitted, due, first_passing, came_to, sought_of}
use Rattle.reader.specs.declared.calls.Reader.{Reader}
use Rattle.reader.specs.declared.calls.Outcome.TheVariants.{Spent, Exhausted}
use Rattle.reader.specs.declared.refusals.Refusal.TheVariants as refusal
use Rattle.reader.specs.Views.{View, view, OnLine, AgreesWith, Agrees}
use Rattle.bench.proofs.Searches.{few_on}
use Rattle.reader.specs.Calls.{takes, taken_by, loading, FromPage, granting_to, refuse_next, next_came, next_on, cells_of, PlacesInUse}

-- the line that is lent is the one held
pub line_is : {held : Option Line} {lent : Option (Bor Line)} (line : Bor Line) → option_copied lent ≡ held → lent ≡ Some line → held ≡ Some line.now
line_is line same is = sym same ∙ ap option_copied is

module _ {G S : Type 0} (s : Meaning) (g : Sets) (r : Reader G S) (line : Line) (e : r.line ≡ Some line) where
  pub on_line : Agrees s g r → OnLine s g r (line_of line)
  on_line h = subst (λ o. AgreesWith s g r (option_map line_of o)) e h.agrees

  pub agrees_on : OnLine s g r (line_of line) → Agrees s g r
  agrees_on h = record { room = h.bench.holds.room; agrees = subst (λ o. AgreesWith s g r (option_map line_of o)) (sym e) h }

  pub line_seen : (view r).line ≡ Some (line_of line)
  line_seen = ap (option_map line_of) e

-- a grant is small, and so is its product with a line's cells
module _ {G S : Type 0} (s : Meaning) (g : Sets) (r : Reader G S) (line : Line) (e : r.line ≡ Some line) (h : Agrees s g r) where
  pub grant_small : r.granted ≤ 4095
  grant_small =
      let most = (on_line s g r line e h).bench.room in
      let more : 1 * r.granted ≤ length (line_of line) * r.granted = mul-le-mul_right r.granted (line_parts (line_of line) line.sound).some in
      omega arith

-- what a report says of the line, and of the places in use
pub counted : (lent : Option (Bor Line)) (n : ℕ) → (lent ≡ None → n ≡ 0) → ((line : Bor Line) → lent ≡ Some line → n ≡ length (line_of line.now)) → n ≡ cells_of (option_map line_of (option_copied lent))
counted None n none some = none refl
counted (Some line) n none some = some line refl

pub places_used : {G S : Type 0} (s : Meaning) (laws : Laws s) (g : Sets) (lawful : Lawful g) (r : Reader G S) → Agrees s g r → PlacesInUse (view r).line r.looked (in_use r.bench)
places_used s laws g lawful r h = go r.line refl
  where
    go : (held : Option Line) → r.line ≡ held → PlacesInUse (option_map line_of held) r.looked (in_use r.bench)
    go None e = (subst (λ o. AgreesWith s g r (option_map line_of o)) e h.agrees).1
    go (Some line) e = few_on s laws g lawful (line_of line) line.sound r.looked r.granted r.bench (on_line s g r line e h).bench

-- a grant is refused where it is 0 or more than the line has room for
pub grant_refused : (l : Cells) (granted n : ℕ) → (1 ≤ n → length l * (granted + n) ≤ 4095 → ⊥) → granting_to (Some l) granted n ≡ Err refusal.Grant
grant_refused l granted n never = cond-false (leb 1 n && leb (length l * (granted + n)) 4095) (Ok tt) (Err refusal.Grant)
    (⊎_elim (λ yes. let both = and_parts (leb 1 n) (leb (length l * (granted + n)) 4095) yes in absurd (never (leb-true 1 n both.0) (leb-true _ 4095 both.1))) (λ not. not)
    (cases_Bool (leb 1 n && leb (length l * (granted + n)) 4095)))

-- the line of a number stands behind those before it
parted : (lines : Lines) (n : ℕ) (l : Cells) → slice_get lines n ≡ Some l → lines ≡ take n lines ++ l ∷ drop (n + 1) lines
parted lines n l e =
    let next = drop_more lines n [] (slice_get_within lines n l e) ∙ ap (λ x. x ∷ drop (n + 1) lines) (get_or_from_slice_get lines n l [] e) in
    sym (take-append-drop n lines) ∙ ap (λ rest. take n lines ++ rest) next

pub from_page : (s : Meaning) (page : List ℕ) (n : ℕ) → Accepted page → FromPage page n (loading s page n)
from_page s page n accepted = go (read_page page) refl
  where
    taken : (lines : Lines) → page ≡ page_bytes lines → (l : Cells) → slice_get lines n ≡ Some l → (b : Bool) → FromPage page n (cond b (Ok l) (Err refusal.Score))
    taken lines bytes l e true =
        (take n lines, drop (n + 1) lines, length-take-le n lines (omega (arith, slice_get_within lines n l e)), bytes ∙ ap page_bytes (parted lines n l e))
    taken lines bytes l e false = tt

    numbered : (lines : Lines) → page ≡ page_bytes lines → (o : Option Cells) → slice_get lines n ≡ o → FromPage page n (taken_by s o)
    numbered lines bytes None e = tt
    numbered lines bytes (Some l) e = taken lines bytes l e (takes s l)

    go : (read : Result Lines PageFault) → read_page page ≡ read → FromPage page n (onward read refusal.Page (λ lines. taken_by s (slice_get lines n)))
    go (Ok lines) e = numbered lines ((accepted lines).0 e).0 (slice_get lines n) refl
    go (Err f) e = tt

-- What a next comes to that finds no reading: spent, or exhausted where no live chain is left, and by then the search has looked
-- at as many chains as were granted, or all.
module _ (s : Meaning) (g : Sets) (v : View) (l : Cells) (line : v.line ≡ Some l) (place : List ℕ) where
  pub next_long : length l ≤ length place
      → next_on s g v place v.line ≡ next_came s l v place (length (ranking s g.allows l)) (first_passing (admitted g l) (due s g l v.looked v.granted))
  next_long h = ap (next_on s g v place) line ∙ cond-false (ltb (length place) (length l)) (refuse_next v place refusal.Place) _ (le-ltb (length place) (length l) h)

  nothing : (live : ℕ) (sought : Sought) (o : Option (ℕ × Chain)) → sought ≡ came_to s l v.looked v.granted live o → sought.reading ≡ None → (o ≡ None) × (sought.looked ≡ min v.granted live)
  nothing live sought None e is = (refl, ap (λ x. x.looked) e)
  nothing live sought (Some found) e is =
      let same : Some (reading_of s l found.1) ≡ None = sym (ap (λ x. x.reading) e) ∙ is in
      cc

  pub next_nothing : length l ≤ length place → (sought : Sought) → sought ≡ sought_of s g l v.looked v.granted → sought.reading ≡ None
      → ((next_on s g v place v.line).answer ≡ Ok (cond (ltb v.granted (length (ranking s g.allows l))) Spent Exhausted)) × (sought.looked ≡ min v.granted (length (ranking s g.allows l)))
  next_nothing h sought e is =
      let live = length (ranking s g.allows l) in
      let out = nothing live sought (first_passing (admitted g l) (due s g l v.looked v.granted)) e is in
      (ap (λ x. x.answer) (next_long h ∙ ap (next_came s l v place live) out.0), out.1)
