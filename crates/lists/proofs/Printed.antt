-- The row of a line: that it is what the next came to, and how long it is; and the rows of a page. Assumes nothing.
use Rattle.std.proofs.Common.{◌≡◌, ℕ, zero, suc, ◌+◌, ◌*◌, ◌<◌, ◌≤◌, min, Bool, true, false, cond, ltb, List, [], ◌∷◌, ◌++◌, length, get_or, take, drop, Some, None, Ok, Option, codes, decimal, sym, refl, ap, ◌∙◌, append_assoc, append-nil, arith, rules, length-append}
use Rattle.std.specs.List.{AllByRecursion}
use Rattle.std.proofs.lemmas.List.{length-take, take_more}
use Rattle.pages.specs.Shape.{Cells, Lines}
use Rattle.pages.proofs.Shape.{WellFormedLine, WellFormedPage}
use Rattle.scores.specs.Scores.{Laws, stepped, sum_meaning}
use Rattle.grammars.specs.Dates.{date_sets}
use Rattle.search.specs.Chains.{Chain, text, penalties, total}
use Rattle.bench.specs.Searched.{admitted, first_passing}
use Rattle.bench.proofs.Searches.{passing_first, due_at, due_chain}
use Rattle.bench.proofs.Texts.{text_long, front}
use Rattle.reader.specs.declared.calls.Outcome.{Outcome}
use Rattle.reader.specs.declared.calls.Outcome.TheVariants.{Found, Spent, Exhausted}
use Rattle.reader.specs.Views.{View}
use Rattle.reader.specs.Calls.{Nexted, next_came}
use Rattle.lists.specs.declared.rows.Row.{Row}
use Rattle.lists.specs.Lists.{printed, live_chains, reached, without_reading, row_of, row, header, rows}
use Rattle.lists.specs.Calls.{granted, came, reading_word, total_word, outcome_word, row_words}
use Rattle.lists.proofs.Words.{two_digits, three_digits, ten_digits}

sum_laws : Laws sum_meaning
sum_laws = search rules

-- a total is held at 4,294,967,295
held : (ps : List ℕ) (t : ℕ) → t ≤ 4294967295 → stepped sum_meaning t ps ≤ 4294967295
held [] t h = h
held (p ∷ ps) t h = held ps (min (t + p) 4294967295) (omega arith)

outcome_short : (more : Bool) → length (cond more (codes "spent") (codes "exhausted")) ≤ 9
outcome_short true = omega arith
outcome_short false = omega arith

module _ (l : Cells) where
  -- a reading is one of the chains reached, and a chain of the line
  pub record IsFound (found : ℕ × Chain) : Type 0 where
    pub before : found.0 < 170
    pub long : length (text l found.1) ≡ length l

  is_found : (found : ℕ × Chain) → first_passing (admitted date_sets l) (reached l) ≡ Some found → IsFound found
  is_found found e =
      let first = passing_first (admitted date_sets l) (reached l) found.0 found.1 e in
      let chain = due_chain sum_meaning sum_laws date_sets l 0 170 found.0 found.1 first in
      record {
        before = (due_at found.0 170 (live_chains l) found.1 _ first.here).0;
        long = text_long l found.1 chain.long;
      }

  abbrev came_by : List ℕ → Option (ℕ × Chain) → Nexted
  came_by place o = next_came sum_meaning l (granted l) place (length (live_chains l)) o

  -- the words of the row that is printed of what the next came to
  abbrev words : ℕ → List ℕ → Option ℕ → ℕ → List ℕ → List ℕ
  words number reading total looked outcome = printed (decimal number ∷ reading ∷ total_word total ∷ decimal looked ∷ outcome ∷ [])

  abbrev shown : ℕ → Outcome → Nexted → List ℕ
  shown number outcome x = words number (reading_word outcome x.place) x.state.last_total x.state.looked (outcome_word outcome)

  row_by : (number : ℕ) (place : List ℕ) (o : Option (ℕ × Chain)) → ((found : ℕ × Chain) → o ≡ Some found → IsFound found)
      → (outcome : Outcome) → Ok outcome ≡ (came_by place o).answer → shown number outcome (came_by place o) ≡ row_of number l o
  row_by number place (Some found) is outcome e =
      let same : outcome ≡ Found (length l) = cc in
      let read : reading_word outcome (text l found.1 ++ drop (length l) place) ≡ text l found.1 =
      ap (λ o. reading_word o (text l found.1 ++ drop (length l) place)) same ∙ front (text l found.1) (drop (length l) place) (length l) (is found refl).long in
      let word : outcome_word outcome ≡ codes "found" = ap outcome_word same in
      let seen : 0 + found.0 + 1 ≡ found.0 + 1 = omega arith in
      λ i. words number (read i) (Some (total sum_meaning l found.1)) (seen i) (word i)
  row_by number place None is outcome e =
      let same : outcome ≡ cond (ltb 170 (length (live_chains l))) Spent Exhausted = cc in
      ap (λ o. shown number o (came_by place None)) same ∙ go (ltb 170 (length (live_chains l)))
    where
      seen : min 170 (length (live_chains l)) ≡ length (reached l)
      seen = sym (length-take 170 (live_chains l))

      go : (more : Bool) → shown number (cond more Spent Exhausted) (came_by place None)
          ≡ words number (codes "-") None (length (reached l)) (cond more (codes "spent") (codes "exhausted"))
      go true = ap (λ k. words number (codes "-") None k (codes "spent")) seen
      go false = ap (λ k. words number (codes "-") None k (codes "exhausted")) seen

  row_is : (number : ℕ) (place : List ℕ) (outcome : Outcome) → Ok outcome ≡ (came l place).answer → shown number outcome (came l place) ≡ row number l
  unfolding row
  row_is number place outcome e = row_by number place (first_passing (admitted date_sets l) (reached l)) is_found outcome e

  -- word by word
  pub row_told : (was : List ℕ) (outcome : Outcome) (place : List ℕ) (v : View) (r : Row)
      → Ok outcome ≡ (came l was).answer → v ≡ (came l was).state → place ≡ (came l was).place
      → r.reading.now ≡ reading_word outcome place → r.total ≡ v.last_total → r.looked ≡ v.looked → r.outcome.now ≡ outcome_word outcome
      → row_words r ≡ row r.number l
  row_told was outcome place v r answer state left one two three four =
      (λ i. words r.number (one i) (two i) (three i) (four i))
      ∙ (λ i. words r.number (reading_word outcome (left i)) (state i).last_total (state i).looked (outcome_word outcome))
      ∙ row_is r.number was outcome answer

  -- and it is short
  row_short_by : (number : ℕ) (o : Option (ℕ × Chain)) → ((found : ℕ × Chain) → o ≡ Some found → IsFound found) → number < 100 → length l ≤ 24 → length (row_of number l o) ≤ 49
  row_short_by number (Some found) is small few =
      let f = is found refl in
      let one = two_digits number small in
      let two : length (text l found.1) ≤ 24 = omega (arith, f.long) in
      let three = ten_digits (total sum_meaning l found.1) (held (penalties l found.1) 0 (omega arith)) in
      let four = three_digits (found.0 + 1) (omega (arith, f.before)) in
      simp length-append (omega arith)
  row_short_by number None is small few =
      let one = two_digits number small in
      let four = three_digits (length (reached l)) (omega (arith, length-take 170 (live_chains l))) in
      let five : length (without_reading l) ≤ 9 = outcome_short (ltb 170 (length (live_chains l))) in
      simp length-append (omega arith)

  pub row_short : (number : ℕ) → number < 100 → length l ≤ 24 → length (row number l) ≤ 49
  unfolding row
  row_short number small few = row_short_by number (first_passing (admitted date_sets l) (reached l)) is_found small few

-- a line more is a row more
rows_push : (number : ℕ) (lines : Lines) (l : Cells) → rows number (lines ++ l ∷ []) ≡ rows number lines ++ row (number + length lines) l
unfolding rows
rows_push number [] l =
    let here : number + 0 ≡ number = omega arith in
    append-nil (row number l) ∙ ap (λ n. row n l) (sym here)
rows_push number (m ∷ lines) l =
    let next : (number + 1) + length lines ≡ number + suc (length lines) = omega arith in
    ap (λ rest. row number m ++ rest) (rows_push (number + 1) lines l ∙ ap (λ n. rows (number + 1) lines ++ row n l) next)
    ∙ sym (append_assoc (row number m) (rows (number + 1) lines) (row (number + suc (length lines)) l))

pub rows_none : rows 0 [] ≡ []
unfolding rows
rows_none = refl

pub rows_more : (lines : Lines) (n : ℕ) → n < length lines → rows 0 (take (n + 1) lines) ≡ rows 0 (take n lines) ++ row n (get_or lines n [])
rows_more lines n h =
    let long : 0 + length (take n lines) ≡ n = omega (arith, length-take n lines) in
    ap (rows 0) (take_more lines n [] h)
    ∙ rows_push 0 (take n lines) (get_or lines n [])
    ∙ ap (λ k. rows 0 (take n lines) ++ row k (get_or lines n [])) long

-- so many rows of a page are short
pub rows_short : (number : ℕ) (lines : Lines) (n : ℕ) → AllByRecursion WellFormedLine lines → number + length lines ≤ 100 → length (rows number (take n lines)) ≤ 49 * n
unfolding rows
rows_short number lines zero well few = omega arith
rows_short number [] (suc n) well few = omega arith
rows_short number (l ∷ lines) (suc n) well few =
    let here = row_short l number (omega arith) well.0.few in
    let rest = rows_short (number + 1) lines n well.1 (omega arith) in
    omega (arith, length-append (row number l) (rows (number + 1) (take n lines)))

pub list_short : (lines : Lines) (n : ℕ) → WellFormedPage lines → length (header ++ rows 0 (take n lines)) ≤ 34 + 49 * n
unfolding header
list_short lines n well = let rest = rows_short 0 lines n well.lines (omega (arith, well.few)) in omega arith
