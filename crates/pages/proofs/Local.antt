-- Each reading depends on no byte behind those that it judged. Assumes nothing.
use Rattle.std.proofs.Common.{◌≡◌, ℕ, zero, suc, ◌+◌, ◌<◌, ◌≤◌, Bool, true, false, cond, ◌||◌, ltb, leb, ◌⊎◌, List, [], ◌∷◌, ◌++◌, length, get_or, take, Ok, Err, Result, sym, refl, ap, ◌∙◌, subst, inl, inr, ⊎_elim, arith}
use Rattle.std.proofs.lemmas.List.{length-take, length-take-le, take-take, take-append-le, get_or-take}
use Rattle.std.proofs.lemmas.Bool.{leb-false, ltb-true, lt-ltb, lt-leb, cond-true, cond-false}
use Rattle.pages.specs.declared.lines.Alternative.{Alternative}
use Rattle.pages.specs.declared.faults.CountFault.{CountFault}
use Rattle.pages.specs.declared.faults.CountFault.TheVariants as count
use Rattle.pages.specs.declared.faults.AlternativeFault.{AlternativeFault}
use Rattle.pages.specs.declared.faults.AlternativeFault.TheVariants as alternative
use Rattle.pages.specs.declared.faults.CellFault.{CellFault}
use Rattle.pages.specs.declared.faults.CellFault.TheVariants as cell
use Rattle.pages.specs.declared.faults.LineFault.{LineFault}
use Rattle.pages.specs.declared.faults.LineFault.TheVariants as line
use Rattle.pages.specs.declared.faults.PageFault.{PageFault}
use Rattle.pages.specs.declared.faults.PageFault.TheVariants as page
use Rattle.pages.specs.Shape.{Alternatives, Cells, Lines, seen}
use Rattle.pages.specs.Faults.{count_returns, alternative_returns, cell_returns, line_returns, page_returns}
use Rattle.pages.specs.Reading.{last_penalty, symbol_at, penalty_at, onward, read_alternative, read_count, read_alternatives, read_cell, read_cells, read_line, read_lines, page_end, read_page, before_lines}
use Rattle.pages.specs.Laws.{count_judged, alternative_judged, cell_judged, line_judged, page_judged}

-- a reading from a place on, with how far it judged, and whether a byte was missing
abbrev pub Ends : {A E : Type 0} → (Result A E → ℕ) → (Result A E → Type 0) → Result A E → ℕ → Type 0
Ends judged short r size = ((judged r ≤ size) × (short r → ⊥)) ⊎ ((judged r ≡ size + 1) × short r)

pub record Local {A E : Type 0} (R : List ℕ → Result A E) (low : ℕ) (judged : Result A E → ℕ) (short : Result A E → Type 0) : Type 0 where
  pub same : (b o : List ℕ) → low ≤ length b → judged (R b) ≤ length b → take (judged (R b)) o ≡ take (judged (R b)) b → R o ≡ R b
  pub past : (b : List ℕ) → low ≤ length b → low ≤ judged (R b)
  pub within : (b : List ℕ) → low ≤ length b → Ends judged short (R b) (length b)

-- what agrees so far agrees before
pub shorter : (m n : ℕ) (o b : List ℕ) → m ≤ n → take n o ≡ take n b → take m o ≡ take m b
shorter m n o b le e = sym (take-take m n o le) ∙ ap (take m) e ∙ take-take m n b le

-- and is as long, and has the same bytes
reaches : (n : ℕ) (o b : List ℕ) → n ≤ length b → take n o ≡ take n b → n ≤ length o
reaches n o b le e = omega (arith, ap length e, length-take-le n b le, length-take n o)

alike : (n i : ℕ) (o b : List ℕ) → i < n → take n o ≡ take n b → get_or o i 0 ≡ get_or b i 0
alike n i o b lt e = sym (get_or-take n o i 0 lt) ∙ ap (λ l. get_or l i 0) e ∙ get_or-take n b i 0 lt

-- a value that was read is read too with a byte more
pub still_read : {A E : Type 0} {R : List ℕ → Result A E} {low : ℕ} {judged : Result A E → ℕ} {short : Result A E → Type 0} → Local R low judged short
    → (b : List ℕ) (x : A) (next : ℕ) → low ≤ length b → R b ≡ Ok x → (short (Ok x) → ⊥) → R (b ++ next ∷ []) ≡ Ok x
still_read {R = R} {judged = judged} {short = short} here b x next at is whole =
    let fits : judged (R b) ≤ length b = ⊎_elim (λ p. p.0) (λ out. absurd (whole (subst short is out.1))) (here.within b at) in
    here.same b (b ++ next ∷ []) at fits (take-append-le (judged (R b)) b (next ∷ []) fits) ∙ is

-- one reading behind another
module _ {A B E F : Type 0} (R : List ℕ → Result A E) (up : E → F) (S : A → List ℕ → Result B F) (low : ℕ) (mid : A → ℕ)
    (jR : Result A E → ℕ) (sR : Result A E → Type 0) (jS : Result B F → ℕ) (sS : Result B F → Type 0)
    (okay : (x : A) → jR (Ok x) ≡ mid x) (whole : (x : A) → sR (Ok x) → ⊥)
    (bad : (e : E) → jS (Err (up e)) ≡ jR (Err e)) (miss : (e : E) → sR (Err e) → sS (Err (up e))) (missed : (e : E) → sS (Err (up e)) → sR (Err e))
    (first : Local R low jR sR) (then : (x : A) → Local (S x) (mid x) jS sS) where
  abbrev Both : List ℕ → Result B F
  Both b = onward (R b) up (λ x. S x b)

  at_ok : (b : List ℕ) (x : A) → R b ≡ Ok x → Both b ≡ S x b
  at_ok b x e = ap (λ r. onward r up (λ y. S y b)) e

  at_err : (b : List ℕ) (f : E) → R b ≡ Err f → Both b ≡ Err (up f)
  at_err b f e = ap (λ r. onward r up (λ y. S y b)) e

  -- a value was read from bytes that are there
  there : (b : List ℕ) (x : A) → R b ≡ Ok x → low ≤ length b → mid x ≤ length b
  there b x is at =
      ⊎_elim (λ fits. omega (arith, fits.0, ap jR is, okay x)) (λ out. absurd (whole x (subst sR is out.1))) (first.within b at)

  both_same : (r : Result A E) (b o : List ℕ) → R b ≡ r → low ≤ length b → jS (Both b) ≤ length b → take (jS (Both b)) o ≡ take (jS (Both b)) b → Both o ≡ Both b
  both_same (Ok x) b o is at le e =
      let t = at_ok b x is in
      let end : jS (Both b) ≡ jS (S x b) = ap jS t in
      let mine : jR (R b) ≡ mid x = ap jR is ∙ okay x in
      let room = there b x is at in
      let before : jR (R b) ≤ jS (Both b) = omega (arith, (then x).past b room, end, mine) in
      let one = first.same b o at (omega (arith, before, le)) (shorter (jR (R b)) (jS (Both b)) o b before e) in
      let two = (then x).same b o room (omega (arith, end, le)) (subst (λ n. take n o ≡ take n b) end e) in
      at_ok o x (one ∙ is) ∙ two ∙ sym t
  both_same (Err f) b o is at le e =
      let t = at_err b f is in
      let end : jS (Both b) ≡ jR (R b) = ap jS t ∙ bad f ∙ sym (ap jR is) in
      let one = first.same b o at (omega (arith, end, le)) (subst (λ n. take n o ≡ take n b) end e) in
      at_err o f (one ∙ is) ∙ sym t

  both_past : (r : Result A E) (b : List ℕ) → R b ≡ r → low ≤ length b → low ≤ jS (Both b)
  both_past (Ok x) b is at = omega (arith, first.past b at, (then x).past b (there b x is at), ap jR is, okay x, ap jS (at_ok b x is))
  both_past (Err f) b is at = omega (arith, first.past b at, ap jR is, bad f, ap jS (at_err b f is))

  both_within : (r : Result A E) (b : List ℕ) → R b ≡ r → low ≤ length b → Ends jS sS (Both b) (length b)
  both_within (Ok x) b is at = subst (λ r. Ends jS sS r (length b)) (sym (at_ok b x is)) ((then x).within b (there b x is at))
  both_within (Err f) b is at =
      subst (λ r. Ends jS sS r (length b)) (sym (at_err b f is))
      (⊎_elim
      (λ fits. inl (omega (arith, fits.0, ap jR is, bad f), λ gone. fits.1 (subst sR (sym is) (missed f gone))))
      (λ out. inr (omega (arith, out.0, ap jR is, bad f), miss f (subst sR is out.1)))
      (first.within b at))

  bind : Local Both low jS sS
  bind = record { same = λ b o at le e. both_same (R b) b o refl at le e; past = λ b at. both_past (R b) b refl at; within = λ b at. both_within (R b) b refl at }

-- a reading behind a test
module _ {A E : Type 0} (judged : Result A E → ℕ) (short : Result A E → Type 0) where
  -- that a byte is there
  module _ (low k : ℕ) (gone : ℕ → E) (R : List ℕ → Result A E) (ends : (n : ℕ) → judged (Err (gone n)) ≡ n + 1) (is : (n : ℕ) → short (Err (gone n)))
      (le : low ≤ k + 1) (rest : Local R (k + 1) judged short) where
    abbrev Missing : List ℕ → Result A E
    Missing b = cond (leb (length b) k) (Err (gone (length b))) (R b)

    missing_same : (t : Bool) (b o : List ℕ) → leb (length b) k ≡ t → judged (Missing b) ≤ length b → take (judged (Missing b)) o ≡ take (judged (Missing b)) b → Missing o ≡ Missing b
    missing_same true b o test fits e = absurd (omega (arith, fits, ap judged (cond-true (leb (length b) k) (Err (gone (length b))) (R b) test), ends (length b)))
    missing_same false b o test fits e =
        let here = cond-false (leb (length b) k) (Err (gone (length b))) (R b) test in
        let end : judged (Missing b) ≡ judged (R b) = ap judged here in
        let room : k + 1 ≤ length b = omega (arith, leb-false (length b) k test) in
        let far : k + 1 ≤ judged (Missing b) = omega (arith, end, rest.past b room) in
        let long : judged (Missing b) ≤ length o = reaches (judged (Missing b)) o b fits e in
        cond-false (leb (length o) k) _ _ (lt-leb (length o) k (omega (arith, far, long)))
        ∙ rest.same b o room (omega (arith, end, fits)) (subst (λ n. take n o ≡ take n b) end e)
        ∙ sym here

    missing_past : (t : Bool) (b : List ℕ) → leb (length b) k ≡ t → low ≤ length b → low ≤ judged (Missing b)
    missing_past true b test at = omega (arith, at, ap judged (cond-true (leb (length b) k) (Err (gone (length b))) (R b) test), ends (length b))
    missing_past false b test at =
        let room : k + 1 ≤ length b = omega (arith, leb-false (length b) k test) in
        omega (arith, le, rest.past b room, ap judged (cond-false (leb (length b) k) (Err (gone (length b))) (R b) test))

    missing_within : (t : Bool) (b : List ℕ) → leb (length b) k ≡ t → Ends judged short (Missing b) (length b)
    missing_within true b test = subst (λ r. Ends judged short r (length b)) (sym (cond-true (leb (length b) k) (Err (gone (length b))) (R b) test)) (inr (ends (length b), is (length b)))
    missing_within false b test =
        let room : k + 1 ≤ length b = omega (arith, leb-false (length b) k test) in
        subst (λ r. Ends judged short r (length b)) (sym (cond-false (leb (length b) k) (Err (gone (length b))) (R b) test)) (rest.within b room)

    missing : Local Missing low judged short
    missing =
        record {
          same = λ b o at fits e. missing_same (leb (length b) k) b o refl fits e;
          past = λ b at. missing_past (leb (length b) k) b refl at;
          within = λ b at. missing_within (leb (length b) k) b refl;
        }

  -- that the bytes before `n` are good
  module _ (n : ℕ) (f : E) (test : List ℕ → Bool) (R : List ℕ → Result A E) (ends : judged (Err f) ≡ n) (is : short (Err f) → ⊥)
      (sees : (b o : List ℕ) → take n o ≡ take n b → test o ≡ test b) (rest : Local R n judged short) where
    abbrev Judging : List ℕ → Result A E
    Judging b = cond (test b) (Err f) (R b)

    judging_same : (t : Bool) (b o : List ℕ) → test b ≡ t → n ≤ length b → judged (Judging b) ≤ length b → take (judged (Judging b)) o ≡ take (judged (Judging b)) b → Judging o ≡ Judging b
    judging_same true b o was at fits e =
        let here = cond-true (test b) (Err f) (R b) was in
        let end : judged (Judging b) ≡ n = ap judged here ∙ ends in
        cond-true (test o) _ _ (sees b o (subst (λ m. take m o ≡ take m b) end e) ∙ was) ∙ sym here
    judging_same false b o was at fits e =
        let here = cond-false (test b) (Err f) (R b) was in
        let end : judged (Judging b) ≡ judged (R b) = ap judged here in
        let far : n ≤ judged (Judging b) = omega (arith, end, rest.past b at) in
        cond-false (test o) _ _ (sees b o (shorter n (judged (Judging b)) o b far e) ∙ was)
        ∙ rest.same b o at (omega (arith, end, fits)) (subst (λ m. take m o ≡ take m b) end e)
        ∙ sym here

    judging_past : (t : Bool) (b : List ℕ) → test b ≡ t → n ≤ length b → n ≤ judged (Judging b)
    judging_past true b was at = omega (arith, ends, ap judged (cond-true (test b) (Err f) (R b) was))
    judging_past false b was at = omega (arith, rest.past b at, ap judged (cond-false (test b) (Err f) (R b) was))

    judging_within : (t : Bool) (b : List ℕ) → test b ≡ t → n ≤ length b → Ends judged short (Judging b) (length b)
    judging_within true b was at = subst (λ r. Ends judged short r (length b)) (sym (cond-true (test b) (Err f) (R b) was)) (inl (omega (arith, ends, at), is))
    judging_within false b was at = subst (λ r. Ends judged short r (length b)) (sym (cond-false (test b) (Err f) (R b) was)) (rest.within b at)

    judging : Local Judging n judged short
    judging =
        record {
          same = λ b o at fits e. judging_same (test b) b o refl at fits e;
          past = λ b at. judging_past (test b) b refl at;
          within = λ b at. judging_within (test b) b refl at;
        }

  -- and then the value
  value : (n : ℕ) (v : List ℕ → A) → ((b : List ℕ) → judged (Ok (v b)) ≡ n) → ((b : List ℕ) → short (Ok (v b)) → ⊥) → ((b o : List ℕ) → take n o ≡ take n b → v o ≡ v b)
      → Local (λ b. Ok (v b)) n judged short
  value n v ends is sees =
      record {
        same = λ b o at fits e. ap Ok (sees b o (subst (λ m. take m o ≡ take m b) (ends b) e));
        past = λ b at. omega (arith, ends b);
        within = λ b at. inl (omega (arith, ends b, at), is b);
      }

-- an alternative
abbrev pub jA : ℕ → Result Alternative AlternativeFault → ℕ
jA at (Ok a) = at + 3
jA at (Err f) = alternative_judged f

abbrev pub sA : Result Alternative AlternativeFault → Type 0
sA (Ok a) = ⊥
sA (Err f) = (alternative_returns f).number ≡ 1

not_one : (n : ℕ) → 1 < n → n ≡ 1 → ⊥
not_one n lt e = omega arith

pub alternative_local : (at : ℕ) (before : Alternatives) → Local (λ b. read_alternative b at before) at (jA at) sA
alternative_local at before =
    missing (jA at) sA at at alternative.Short _ (λ n. refl) (λ n. refl) (omega arith)
    (judging (jA at) sA (at + 1) (alternative.Symbol at) (λ b. ltb (symbol_at b at) 33 || ltb 126 (symbol_at b at)) _ refl (not_one 3 (omega arith))
    (λ b o e. ap (λ s. ltb s 33 || ltb 126 s) (alike (at + 1) at o b (omega arith) e))
    (judging (jA at) sA (at + 1) (alternative.Twice at) (λ b. seen (symbol_at b at) before) _ refl (not_one 4 (omega arith))
    (λ b o e. ap (λ s. seen s before) (alike (at + 1) at o b (omega arith) e))
    (missing (jA at) sA (at + 1) (at + 2) alternative.Short _ (λ n. refl) (λ n. refl) (omega arith)
    (subst (λ n. Local (λ b. cond (ltb (penalty_at b at) (last_penalty before)) (Err (alternative.Order (at + 1))) (Ok (record { symbol = symbol_at b at; penalty = penalty_at b at }))) n (jA at) sA) three
    (judging (jA at) sA (at + 3) (alternative.Order (at + 1)) (λ b. ltb (penalty_at b at) (last_penalty before)) _ (omega arith) (not_one 5 (omega arith))
    (λ b o e. ap (λ p. ltb p (last_penalty before)) (penalties b o e))
    (value (jA at) sA (at + 3) (λ b. record { symbol = symbol_at b at; penalty = penalty_at b at }) (λ b. refl) (λ b none. none)
    (λ b o e. λ i. record { symbol = alike (at + 3) at o b (omega arith) e i; penalty = penalties b o e i })))))))
  where
    three : at + 3 ≡ (at + 2) + 1
    three = omega arith

    penalties : (b o : List ℕ) → take (at + 3) o ≡ take (at + 3) b → penalty_at o at ≡ penalty_at b at
    penalties b o e = let high = alike (at + 3) (at + 1) o b (omega arith) e in let low = alike (at + 3) (at + 2) o b (omega arith) e in omega arith

-- a count
abbrev pub jN : ℕ → Result ℕ CountFault → ℕ
jN at (Ok n) = at + 1
jN at (Err f) = count_judged f

abbrev pub sN : Result ℕ CountFault → Type 0
sN (Ok n) = ⊥
sN (Err f) = (count_returns f).number ≡ 1

pub count_local : (most at : ℕ) → Local (λ b. read_count most b at) at (jN at) sN
count_local most at =
    missing (jN at) sN at at count.Short _ (λ n. refl) (λ n. refl) (omega arith)
    (judging (jN at) sN (at + 1) (count.Count at) (λ b. ltb (get_or b at 0) 1 || ltb most (get_or b at 0)) _ refl (not_one 2 (omega arith))
    (λ b o e. ap (λ n. ltb n 1 || ltb most n) (alike (at + 1) at o b (omega arith) e))
    (value (jN at) sN (at + 1) (λ b. get_or b at 0) (λ b. refl) (λ b none. none) (λ b o e. alike (at + 1) at o b (omega arith) e)))

-- a cell
abbrev pub jC : Result (Alternatives × ℕ) CellFault → ℕ
jC (Ok got) = got.1
jC (Err f) = cell_judged f

abbrev pub sC : Result (Alternatives × ℕ) CellFault → Type 0
sC (Ok got) = ⊥
sC (Err f) = (cell_returns f).number ≡ 1

alternatives_local : (due at : ℕ) (before : Alternatives) → Local (λ b. read_alternatives b due at before) at jC sC
unfolding read_alternatives
alternatives_local zero at before = value jC sC at (λ b. (before, at)) (λ b. refl) (λ b none. none) (λ b o e. refl)
alternatives_local (suc due) at before =
    bind (λ b. read_alternative b at before) cell.Alternative (λ a b. read_alternatives b due (at + 3) (before ++ a ∷ [])) at (λ a. at + 3) (jA at) sA jC sC
    (λ a. refl) (λ a none. none) (λ f. refl) (λ f e. e) (λ f e. e) (alternative_local at before) (λ a. alternatives_local due (at + 3) (before ++ a ∷ []))

pub cell_local : (at : ℕ) → Local (λ b. read_cell b at) at jC sC
unfolding read_cell
cell_local at =
    bind (λ b. read_count 8 b at) cell.Count (λ due b. read_alternatives b due (at + 1) []) at (λ due. at + 1) (jN at) sN jC sC
    (λ n. refl) (λ n none. none) (λ f. refl) (λ f e. e) (λ f e. e) (count_local 8 at) (λ due. alternatives_local due (at + 1) [])

-- a line
abbrev pub jL : Result (Cells × ℕ) LineFault → ℕ
jL (Ok got) = got.1
jL (Err f) = line_judged f

abbrev pub sL : Result (Cells × ℕ) LineFault → Type 0
sL (Ok got) = ⊥
sL (Err f) = (line_returns f).number ≡ 1

cells_local : (due at : ℕ) (before : Cells) → Local (λ b. read_cells b due at before) at jL sL
unfolding read_cells
cells_local zero at before = value jL sL at (λ b. (before, at)) (λ b. refl) (λ b none. none) (λ b o e. refl)
cells_local (suc due) at before =
    bind (λ b. read_cell b at) (λ f. line.Cell (record { number = length before; fault = f })) (λ c b. read_cells b due c.1 (before ++ c.0 ∷ [])) at (λ c. c.1) jC sC jL sL
    (λ c. refl) (λ c none. none) (λ f. refl) (λ f e. e) (λ f e. e) (cell_local at) (λ c. cells_local due c.1 (before ++ c.0 ∷ []))

pub line_local : (at : ℕ) → Local (λ b. read_line b at) at jL sL
unfolding read_line
line_local at =
    bind (λ b. read_count 24 b at) line.Count (λ due b. read_cells b due (at + 1) []) at (λ due. at + 1) (jN at) sN jL sL
    (λ n. refl) (λ n none. none) (λ f. refl) (λ f e. e) (λ f e. e) (count_local 24 at) (λ due. cells_local due (at + 1) [])

-- a page that is refused
abbrev pub PageEnds : PageFault → ℕ → Type 0
PageEnds f size = ((page_judged f ≤ size) × ((page_returns f).number ≡ 1 → ⊥)) ⊎ ((page_judged f ≡ size + 1) × ((page_returns f).number ≡ 1))

pub record Refused (R : List ℕ → Result (Lines) PageFault) (low : ℕ) (b : List ℕ) (f : PageFault) : Type 0 where
  pub past : low ≤ page_judged f
  pub within : PageEnds f (length b)
  pub same : (o : List ℕ) → page_judged f ≤ length b → take (page_judged f) o ≡ take (page_judged f) b → R o ≡ Err f

pub bad_before : (l : Cells) (r : Result (Lines) PageFault) {f : PageFault} → before_lines l r ≡ Err f → r ≡ Err f
bad_before l (Ok more) e = cc
bad_before l (Err g) e = e

end_refused : (t : Bool) (at : ℕ) (b : List ℕ) (f : PageFault) → ltb at (length b) ≡ t → cond {A = Result (Lines) PageFault} t (Err (page.Excess at)) (Ok []) ≡ Err f → Refused (λ o. page_end o at) at b f
end_refused true at b f test e =
    let is : page.Excess at ≡ f = cc in
    let room : at < length b = ltb-true at (length b) test in
    subst (Refused (λ o. page_end o at) at b) is
    (record {
      past = omega arith;
      within = inl (omega arith, not_one 6 (omega arith));
      same = λ o fits agree. cond-true (ltb at (length o)) _ _ (lt-ltb at (length o) (omega (arith, reaches (at + 1) o b fits agree)));
    })
end_refused false at b f test e = cc

line_refused : (due at number : ℕ) (b : List ℕ) (f : PageFault)
    → ((next : ℕ) → next ≤ length b → read_lines b due next (number + 1) ≡ Err f → Refused (λ o. read_lines o due next (number + 1)) next b f)
    → (r : Result (Cells × ℕ) LineFault) → at ≤ length b → read_line b at ≡ r
    → onward r (λ g. page.Line (record { number = number; fault = g })) (λ l. before_lines l.0 (read_lines b due l.1 (number + 1))) ≡ Err f
    → Refused (λ o. onward (read_line o at) (λ g. page.Line (record { number = number; fault = g })) (λ l. before_lines l.0 (read_lines o due l.1 (number + 1)))) at b f
line_refused due at number b f behind (Ok l) le is e =
    let here = line_local at in
    let past = here.past b le in
    let next : jL (read_line b at) ≡ l.1 = ap jL is in
    let room : l.1 ≤ length b = ⊎_elim (λ fits. omega (arith, fits.0, next)) (λ out. absurd (subst sL is out.1)) (here.within b le) in
    let rest = behind l.1 room (bad_before l.0 _ e) in
    record {
      past = omega (arith, past, next, rest.past);
      within = rest.within;
      same =
          λ o fits agree.
          let so = here.same b o le (omega (arith, next, room)) (shorter (jL (read_line b at)) (page_judged f) o b (omega (arith, next, rest.past)) agree) in
          ap (λ r. onward r (λ g. page.Line (record { number = number; fault = g })) (λ x. before_lines x.0 (read_lines o due x.1 (number + 1)))) (so ∙ is)
          ∙ ap (before_lines l.0) (rest.same o fits agree);
    }
line_refused due at number b f behind (Err g) le is e =
    let here = line_local at in
    let up : page.Line (record { number = number; fault = g }) ≡ f = cc in
    let next : jL (read_line b at) ≡ line_judged g = ap jL is in
    subst (Refused (λ o. onward (read_line o at) (λ h. page.Line (record { number = number; fault = h })) (λ l. before_lines l.0 (read_lines o due l.1 (number + 1)))) at b) up
    (record {
      past = omega (arith, here.past b le, next);
      within = subst (λ r. Ends jL sL r (length b)) is (here.within b le);
      same =
          λ o fits agree.
          let so = here.same b o le (omega (arith, next, fits)) (subst (λ n. take n o ≡ take n b) (sym next) agree) in
          ap (λ r. onward r (λ h. page.Line (record { number = number; fault = h })) (λ x. before_lines x.0 (read_lines o due x.1 (number + 1)))) (so ∙ is);
    })

lines_refused : (due at number : ℕ) (b : List ℕ) (f : PageFault) → at ≤ length b → read_lines b due at number ≡ Err f → Refused (λ o. read_lines o due at number) at b f
unfolding read_lines
lines_refused zero at number b f le e = end_refused (ltb at (length b)) at b f refl e
lines_refused (suc due) at number b f le e =
    line_refused due at number b f (λ next room is. lines_refused due next (number + 1) b f room is) (read_line b at) le refl e

count_refused : (b : List ℕ) (f : PageFault) (r : Result ℕ CountFault) → read_count 40 b 0 ≡ r → onward r page.Count (λ due. read_lines b due 1 0) ≡ Err f
    → Refused (λ o. onward (read_count 40 o 0) page.Count (λ due. read_lines o due 1 0)) 0 b f
count_refused b f (Ok n) is e =
    let here = count_local 40 0 in
    let next : jN 0 (read_count 40 b 0) ≡ 1 = ap (jN 0) is in
    let room : 1 ≤ length b = ⊎_elim (λ fits. omega (arith, fits.0, next)) (λ out. absurd (subst sN is out.1)) (here.within b (omega arith)) in
    let rest = lines_refused n 1 0 b f room e in
    record {
      past = omega arith;
      within = rest.within;
      same =
          λ o fits agree.
          let so = here.same b o (omega arith) (omega (arith, next, room)) (shorter (jN 0 (read_count 40 b 0)) (page_judged f) o b (omega (arith, next, rest.past)) agree) in
          ap (λ r. onward r page.Count (λ due. read_lines o due 1 0)) (so ∙ is) ∙ rest.same o fits agree;
    }
count_refused b f (Err g) is e =
    let here = count_local 40 0 in
    let up : page.Count g ≡ f = cc in
    let next : jN 0 (read_count 40 b 0) ≡ count_judged g = ap (jN 0) is in
    subst (Refused (λ o. onward (read_count 40 o 0) page.Count (λ due. read_lines o due 1 0)) 0 b) up
    (record {
      past = omega arith;
      within =
          ⊎_elim (λ fits. inl (omega (arith, fits.0, next), λ one. fits.1 (subst sN (sym is) one)))
          (λ out. inr (omega (arith, out.0, next), subst sN is out.1)) (here.within b (omega arith));
      same =
          λ o fits agree.
          let so = here.same b o (omega arith) (omega (arith, next, fits)) (subst (λ n. take n o ≡ take n b) (sym next) agree) in
          ap (λ r. onward r page.Count (λ due. read_lines o due 1 0)) (so ∙ is);
    })

pub page_refused : (b : List ℕ) (f : PageFault) → read_page b ≡ Err f → Refused read_page 0 b f
unfolding read_page
page_refused b f e = count_refused b f (read_count 40 b 0) refl e
