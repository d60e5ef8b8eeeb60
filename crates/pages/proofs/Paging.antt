-- What the readings of specs/Reading.antt come to from line to line. Assumes nothing.
use Rattle.std.proofs.Common.{◌≡◌, ℕ, zero, suc, ◌+◌, ◌-◌, ◌<◌, ◌≤◌, Bool, true, false, cond, ltb, List, [], ◌∷◌, ◌++◌, length, IfOk, Some, None, Ok, Err, Option, Result, sym, refl, ap, ◌∙◌, subst, ⊎_elim, append_assoc, append-nil, arith}
use Rattle.std.specs.Option.{option_map}
use Rattle.std.specs.List.{slice_get}
use Rattle.std.specs.Result.{MatchResult, is_ok, result_transpose}
use Rattle.std.proofs.lemmas.Grind.{common_steps}
use Rattle.std.proofs.lemmas.Option.{gets}
use Rattle.std.proofs.lemmas.List.{length_push}
use Rattle.std.proofs.lemmas.Bool.{lt-ltb, le-ltb, cases_eq, cases_lt, cond-true, cond-false}
use Rattle.pages.specs.declared.lines.Line.{Line}
use Rattle.pages.specs.declared.faults.CountFault.{CountFault}
use Rattle.pages.specs.declared.faults.LineFault.{LineFault}
use Rattle.pages.specs.declared.faults.PageFault.{PageFault}
use Rattle.pages.specs.declared.faults.PageFault.TheVariants as page
use Rattle.pages.specs.declared.faults.Numbered.{Numbered}
use Rattle.pages.specs.declared.page_reader.PageLines.{PageLines}
use Rattle.pages.specs.Shape.{Cells, Lines}
use Rattle.pages.specs.Writing.{line_bytes}
use Rattle.pages.specs.Laws.{Stands}
use Rattle.pages.specs.Reading.{onward, read_count, lines_due, read_line, read_lines, page_end, read_page, before_lines, line_numbered}
use Rattle.pages.specs.Answers.{line_of, LineRead, ahead, next_of, BeforeFirst, NextLine, answer_of, answers_on, answers_due, answers_left, gathered}
use Rattle.pages.proofs.Steps.{one_due, none_due, counts}

-- the count of a page opens it, or refuses it
pub no_page : (bytes : List ℕ) (f : CountFault) → read_count 40 bytes 0 ≡ Err f → (lines_due bytes ≡ Err (page.Count f)) × (read_page bytes ≡ Err (page.Count f))
unfolding read_page
no_page bytes f e = (ap (λ r. onward r page.Count Ok) e, ap (λ r. onward r page.Count (λ due. read_lines bytes due 1 0)) e)

pub some_lines : (bytes : List ℕ) (count : ℕ) → read_count 40 bytes 0 ≡ Ok count → lines_due bytes ≡ Ok count
some_lines bytes count e = ap (λ r. onward r page.Count Ok) e

-- which is at most 40
due_count : (bytes : List ℕ) (count : ℕ) → lines_due bytes ≡ Ok count → count ≤ 40
due_count bytes count e = go (read_count 40 bytes 0) refl e where
  go : (r : Result ℕ CountFault) → read_count 40 bytes 0 ≡ r → onward r page.Count Ok ≡ Ok count → count ≤ 40
  go (Ok n) is e = let same : n ≡ count = cc in omega (arith, (counts 40 bytes 0 n is).high)
  go (Err f) is e = cc

pub first_line : (bytes : List ℕ) (count : ℕ) → read_count 40 bytes 0 ≡ Ok count → read_page bytes ≡ read_lines bytes (count - 0) 1 0
unfolding read_page
first_line bytes count e =
    ap (λ r. onward r page.Count (λ due. read_lines bytes due 1 0)) e ∙ ap (λ n. read_lines bytes n 1 0) (omega arith)

-- what a line's answer, numbered where it is a fault, says of the line's reading
pub good_line : (r : Result (Line × ℕ) LineFault) {numbered : Result (Line × ℕ) (Numbered LineFault)} (Q : LineFault → Type 0)
    → MatchResult r (λ x. numbered ≡ Ok x) Q → is_ok numbered ≡ is_ok r → (bytes : List ℕ) (at : ℕ) (got : Line × ℕ) → numbered ≡ Ok got
    → LineRead r bytes at → IfOk r (λ g. Stands bytes at (line_bytes (line_of g.0)) g.1)
    → (read_line bytes at ≡ Ok (line_of got.0, got.1)) × Stands bytes at (line_bytes (line_of got.0)) got.1
good_line (Ok x) Q cases alike bytes at got e read stands =
    let same : x ≡ got = cc in
    (read ∙ ap (λ y. Ok (line_of y.0, y.1)) same, subst (λ y. Stands bytes at (line_bytes (line_of y.0)) y.1) same stands)
good_line (Err f) Q cases alike bytes at got e read stands = let good = ap is_ok e in cc

pub refused_line : (r : Result (Line × ℕ) LineFault) {numbered : Result (Line × ℕ) (Numbered LineFault)} (Q : LineFault → Type 0)
    → MatchResult r (λ x. numbered ≡ Ok x) Q → (bytes : List ℕ) (at number : ℕ) (e : Numbered LineFault) → numbered ≡ Err e
    → ((f : LineFault) → Q f → numbered ≡ Err (record { number = number; fault = f })) → LineRead r bytes at
    → (e ≡ record { number = number; fault = e.fault }) × (read_line bytes at ≡ Err e.fault)
refused_line (Ok x) Q cases bytes at number e is told read = cc
refused_line (Err f) Q cases bytes at number e is told read =
    let met = told f cases in
    let so : e ≡ record { number = number; fault = f } = cc in
    let cause : f ≡ e.fault = sym (ap (λ x. x.fault) so) in
    (so ∙ ap (λ x. record { number = number; fault = x }) cause, read ∙ ap Err cause)

-- what is met next, and what all that is ahead comes to
module _ (p : PageLines) where
  abbrev line_fault : LineFault → PageFault
  line_fault f = page.Line (record { number = p.number; fault = f })

  -- where a line is due
  at_line : (r : Result (Cells × ℕ) LineFault) → p.number < p.count → read_line p.bytes.now p.place ≡ r
      → (next_of p ≡ onward r line_fault (λ l. Ok (Some l)))
      × (ahead p ≡ onward r line_fault (λ l. before_lines l.0 (read_lines p.bytes.now (p.count - (p.number + 1)) l.1 (p.number + 1))))
  unfolding read_lines
  at_line r lt e = (
    cond-true (ltb p.number p.count) _ _ (lt-ltb p.number p.count lt) ∙ ap (λ x. onward x line_fault (λ l. Ok (Some l))) e,
    ap (λ n. read_lines p.bytes.now n p.place p.number) (one_due p.count p.number lt)
        ∙ ap (λ x. onward x line_fault (λ l. before_lines l.0 (read_lines p.bytes.now (p.count - (p.number + 1)) l.1 (p.number + 1)))) e,
  )

  pub meets : (got : Cells × ℕ) → p.number < p.count → read_line p.bytes.now p.place ≡ Ok got
      → (next_of p ≡ Ok (Some got)) × (ahead p ≡ before_lines got.0 (read_lines p.bytes.now (p.count - (p.number + 1)) got.1 (p.number + 1)))
  meets got lt e = at_line (Ok got) lt e

  pub refuses : (e : Numbered LineFault) → p.number < p.count
      → (e ≡ record { number = p.number; fault = e.fault }) × (read_line p.bytes.now p.place ≡ Err e.fault)
      → (next_of p ≡ Err (page.Line e)) × (ahead p ≡ Err (page.Line e))
  refuses e lt h =
      let told = at_line (Err e.fault) lt h.1 in
      (told.0 ∙ ap (λ x. Err (page.Line x)) (sym h.0), told.1 ∙ ap (λ x. Err (page.Line x)) (sym h.0))

  -- behind the last line
  at_end : p.count ≤ p.number
      → (next_of p ≡ cond (ltb p.place (length p.bytes.now)) (Err (page.Excess p.place)) (Ok None)) × (ahead p ≡ page_end p.bytes.now p.place)
  unfolding read_lines
  at_end le = (
    cond-false (ltb p.number p.count) _ _ (le-ltb p.number p.count le),
    ap (λ n. read_lines p.bytes.now n p.place p.number) (none_due p.count p.number le),
  )

  pub overruns : p.count ≤ p.number → p.place < length p.bytes.now → (next_of p ≡ Err (page.Excess p.place)) × (ahead p ≡ Err (page.Excess p.place))
  overruns le lt =
      let test = lt-ltb p.place (length p.bytes.now) lt in
      ((at_end le).0 ∙ cond-true _ _ _ test, (at_end le).1 ∙ cond-true _ _ _ test)

  pub ends : p.count ≤ p.number → length p.bytes.now ≤ p.place → (next_of p ≡ Ok None) × (ahead p ≡ Ok [])
  ends le ge =
      let test = le-ltb p.place (length p.bytes.now) ge in
      ((at_end le).0 ∙ cond-false _ _ _ test, (at_end le).1 ∙ cond-false _ _ _ test)

  -- the answers still to come begin with what is met next
  abbrev then_answers : Result (Option (Cells × ℕ)) PageFault → (Cells × ℕ → List (Result Cells PageFault)) → List (Result Cells PageFault)
  then_answers (Ok (Some l)) behind = Ok l.0 ∷ behind l
  then_answers (Ok None) behind = []
  then_answers (Err f) behind = Err f ∷ []

  abbrev behind : Cells × ℕ → List (Result Cells PageFault)
  behind l = answers_due p.bytes.now (p.count - (p.number + 1)) l.1 (p.number + 1)

  begin_answers : answers_left (Some p) ≡ then_answers (next_of p) behind
  unfolding answers_due
  begin_answers =
      ⊎_elim
      (λ lt.
      ap (λ n. answers_due p.bytes.now n p.place p.number) (one_due p.count p.number lt) ∙ on_line (read_line p.bytes.now p.place)
      ∙ ap (λ r. then_answers r behind) (sym (at_line (read_line p.bytes.now p.place) lt refl).0))
      (λ le.
      ap (λ n. answers_due p.bytes.now n p.place p.number) (none_due p.count p.number le) ∙ on_end (ltb p.place (length p.bytes.now))
      ∙ ap (λ r. then_answers r behind) (sym (at_end le).0)) (cases_lt p.number p.count)
    where
      on_line : (r : Result (Cells × ℕ) LineFault) → answers_on r p.number behind ≡ then_answers (onward r line_fault (λ l. Ok (Some l))) behind
      on_line (Ok l) = refl
      on_line (Err f) = refl

      on_end : (t : Bool) → cond {A = List (Result Cells PageFault)} t (Err (page.Excess p.place) ∷ []) [] ≡ then_answers (cond t (Err (page.Excess p.place)) (Ok None)) behind
      on_end true = refl
      on_end false = refl

  -- so they begin with what `next_line` answers
  pub no_answer : (q : PageLines) (r : Result (Option Line) PageFault) → NextLine r p q → result_transpose r ≡ None → answers_left (Some p) ≡ []
  no_answer q (Ok (Some line)) h e = cc
  no_answer q (Ok None) h e = begin_answers ∙ ap (λ r. then_answers r behind) h.0
  no_answer q (Err f) h e = cc

  pub some_answer : (q : PageLines) (r : Result (Option Line) PageFault) (a : Result Line PageFault) → NextLine r p q → result_transpose r ≡ Some a
      → answers_left (Some p) ≡ answer_of a ∷ cond (is_ok a) (answers_left (Some q)) []
  some_answer q (Ok (Some line)) a h e =
      let is : Ok line ≡ a = cc in
      begin_answers ∙ ap (λ r. then_answers r behind) h.met
      ∙ (λ i. Ok (line_of line) ∷ answers_due (sym h.page i) (sym h.lines i - (sym h.one i)) q.place (sym h.one i))
      ∙ ap (λ x. answer_of x ∷ cond (is_ok x) (answers_left (Some q)) []) is
  some_answer q (Ok None) a h e = cc
  some_answer q (Err f) a h e =
      let is : Err f ≡ a = cc in
      begin_answers ∙ ap (λ r. then_answers r behind) h.0 ∙ ap (λ x. answer_of x ∷ cond (is_ok x) (answers_left (Some q)) []) is

-- the answers that are left, where one of them was given
pub given_answer : {left : Option PageLines} (p q : PageLines) (r : Result (Option Line) PageFault) (a : Result Line PageFault) {line : Bool} → left ≡ Some p → NextLine r p q
    → result_transpose r ≡ Some a → is_ok a ≡ line → answers_left left ≡ answer_of a ∷ cond line (answers_left (Some q)) []
given_answer p q r a is h e ok = ap answers_left is ∙ some_answer p q r a h e ∙ ap (λ b. answer_of a ∷ cond b (answers_left (Some q)) []) ok

-- one for each line that is due and at most one more
answers_few : (bytes : List ℕ) (due at number : ℕ) → length (answers_due bytes due at number) ≤ due + 1
unfolding answers_due
answers_few bytes zero at number = go (ltb at (length bytes)) where
  go : (t : Bool) → length (cond {A = List (Result Cells PageFault)} t (Err (page.Excess at) ∷ []) []) ≤ 1
  go true = omega arith
  go false = omega arith
answers_few bytes (suc due) at number = go (λ next. answers_few bytes due next (number + 1)) (read_line bytes at) where
  go : ((next : ℕ) → length (answers_due bytes due next (number + 1)) ≤ due + 1) → (r : Result (Cells × ℕ) LineFault)
      → length (answers_on r number (λ l. answers_due bytes due l.1 (number + 1))) ≤ suc due + 1
  go again (Ok l) = omega (arith, again l.1)
  go again (Err f) = omega arith

pub left_few : (bytes : List ℕ) {left : Option PageLines} (p : PageLines) → left ≡ Some p → BeforeFirst bytes p → length (answers_left left) ≤ 41
left_few bytes p is h =
    omega (arith, ap (λ l. length (answers_left l)) is, answers_few p.bytes.now (p.count - p.number) p.place p.number, due_count bytes p.count h.lines)

-- the lines that were passed, before those to come
abbrev pub after_lines : Lines → Result Lines PageFault → Result Lines PageFault
after_lines passed (Ok more) = Ok (passed ++ more)
after_lines passed (Err f) = Err f

pub after_none : (r : Result Lines PageFault) → after_lines [] r ≡ r
after_none (Ok more) = refl
after_none (Err f) = refl

pub after_push : (passed : Lines) (l : Cells) (r : Result Lines PageFault) → after_lines passed (before_lines l r) ≡ after_lines (passed ++ l ∷ []) r
after_push passed l (Ok more) = ap Ok (sym (append_assoc passed (l ∷ []) more))
after_push passed l (Err f) = refl

nth_push : {X : Type 0} (xs : List X) (x : X) → slice_get (xs ++ x ∷ []) (length xs) ≡ Some x
nth_push xs x = grind (arith, common_steps, gets)

nth_push_other : {X : Type 0} (xs : List X) (x : X) (i : ℕ) → (length xs ≡ i → ⊥) → slice_get (xs ++ x ∷ []) i ≡ slice_get xs i
nth_push_other xs x i ne = grind (arith, common_steps, gets)

-- they come to what the page is read as
pub all_gathered : (bytes : List ℕ) (due at number : ℕ) → gathered (answers_due bytes due at number) ≡ read_lines bytes due at number
unfolding answers_due read_lines
all_gathered bytes zero at number = go (ltb at (length bytes)) where
  go : (t : Bool) → gathered (cond t (Err (page.Excess at) ∷ []) []) ≡ cond {A = Result Lines PageFault} t (Err (page.Excess at)) (Ok [])
  go true = refl
  go false = refl
all_gathered bytes (suc due) at number = go (λ next. all_gathered bytes due next (number + 1)) (read_line bytes at) where
  go : ((next : ℕ) → gathered (answers_due bytes due next (number + 1)) ≡ read_lines bytes due next (number + 1)) → (r : Result (Cells × ℕ) LineFault)
      → gathered (answers_on r number (λ l. answers_due bytes due l.1 (number + 1)))
      ≡ onward r (λ f. page.Line (record { number = number; fault = f })) (λ l. before_lines l.0 (read_lines bytes due l.1 (number + 1)))
  go again (Ok l) = ap (before_lines l.0) (again l.1)
  go again (Err f) = refl

-- some lines are passed, so many, and of them the one wanted is kept; `rest` is what is still to be answered
pub record Keeping (bytes : List ℕ) (wanted number : ℕ) (rest : List (Result Cells PageFault)) (found : Option Line) : Type 0 where
  pub lines : Lines
  pub long : length lines ≡ number
  pub whole : read_page bytes ≡ after_lines lines (gathered rest)
  pub kept : option_map line_of found ≡ slice_get lines wanted

module _ {bytes : List ℕ} {wanted number : ℕ} {rest : List (Result Cells PageFault)} {found : Option Line} (h : Keeping bytes wanted number rest found) where
  pub keep_more : (line : Line) {next : ℕ} (more : List (Result Cells PageFault)) (then : Option Line) → rest ≡ Ok (line_of line) ∷ more → next ≡ number + 1
      → (number ≡ wanted → then ≡ Some line) → ((number ≡ wanted → ⊥) → then ≡ found) → Keeping bytes wanted next more then
  keep_more line more then e one this other =
      let l = line_of line in
      let lines = h.lines in
      let long = h.long in
      record {
        lines = lines ++ l ∷ [];
        long = length_push lines l ∙ ap (λ n. n + 1) long ∙ sym one;
        whole = h.whole ∙ ap (λ r. after_lines lines (gathered r)) e ∙ after_push lines l (gathered more);
        kept =
            ⊎_elim (λ is. ap (option_map line_of) (this is) ∙ sym (ap (slice_get (lines ++ l ∷ [])) (sym (long ∙ is)) ∙ nth_push lines l))
            (λ ne. ap (option_map line_of) (other ne) ∙ h.kept ∙ sym (nth_push_other lines l wanted (λ is. ne (sym long ∙ is)))) (cases_eq number wanted);
      }

  pub keep_bad : {f : PageFault} (more : List (Result Cells PageFault)) → rest ≡ Err f ∷ more → read_page bytes ≡ Err f
  keep_bad more e = h.whole ∙ ap (λ r. after_lines h.lines (gathered r)) e

  pub keep_all : rest ≡ [] → Ok (option_map line_of found) ≡ line_numbered wanted (read_page bytes)
  keep_all e = ap Ok h.kept ∙ sym (ap (line_numbered wanted) (h.whole ∙ ap (λ r. after_lines h.lines (gathered r)) e ∙ ap Ok (append-nil h.lines)))
