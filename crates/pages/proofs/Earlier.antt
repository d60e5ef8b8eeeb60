-- A refusal names the first thing wrong: what stands before its place can be completed to a good page. Assumes nothing.
use Rattle.std.proofs.Common.{◌≡◌, ℕ, zero, suc, ◌+◌, ◌-◌, ◌*◌, ◌/◌, ◌%◌, ◌<◌, ◌≤◌, Bool, true, false, cond, eqb, ltb, ◌⊎◌, List, [], ◌∷◌, ◌++◌, length, get_or, take, drop, Ok, Err, Result, sym, refl, ap, ◌∙◌, subst, inl, inr, ⊎_elim, arith, length-drop}
use Rattle.std.specs.List.{flat_map, AllByRecursion}
use Rattle.std.proofs.lemmas.List.{length-take, length-take-le, take-append-le, take_all, take_more, drop_more, length_push, get_or_push, get_or_append_left}
use Rattle.std.proofs.lemmas.Bool.{eqb-true, ne_eqb, or_parts, or_from, or_cases, cond-true, cond-false, cases_lt}
use Rattle.std.proofs.lemmas.Bool.Decides.{nat_tests}
use Rattle.pages.specs.declared.lines.Alternative.{Alternative}
use Rattle.pages.specs.declared.faults.CountFault.{CountFault}
use Rattle.pages.specs.declared.faults.AlternativeFault.{AlternativeFault}
use Rattle.pages.specs.declared.faults.AlternativeFault.TheVariants as alternative
use Rattle.pages.specs.declared.faults.CellFault.{CellFault}
use Rattle.pages.specs.declared.faults.CellFault.TheVariants as cell
use Rattle.pages.specs.declared.faults.LineFault.{LineFault}
use Rattle.pages.specs.declared.faults.LineFault.TheVariants as line
use Rattle.pages.specs.declared.faults.PageFault.{PageFault}
use Rattle.pages.specs.declared.faults.PageFault.TheVariants as page
use Rattle.pages.specs.declared.faults.Returned.{Returned}
use Rattle.pages.specs.Shape.{Alternatives, Cells, Lines, seen}
use Rattle.pages.specs.Faults.{count_returns, alternative_returns, cell_returns, line_returns, page_returns}
use Rattle.pages.specs.Reading.{last_penalty, symbol_at, onward, read_alternative, read_count, read_alternatives, read_cell, read_cells, read_line, read_lines, read_page, before_lines}
use Rattle.pages.specs.Writing.{alternative_bytes, cell_bytes, line_bytes, page_bytes}
use Rattle.pages.specs.Laws.{Stands, Begins, alternative_judged, cell_judged, line_judged, page_judged, HalfPenaltyTooLow, FirstWrong}
use Rattle.pages.proofs.Shape.{InRange, WellFormedCell, WellFormedLine, WellFormedPage, page_parts, page_from}
use Rattle.pages.proofs.Steps.{counts}
use Rattle.pages.proofs.Causes.{Symbolled}
use Rattle.pages.proofs.Behind.{page_met}
use Rattle.pages.proofs.Round.{Octets, Fair, fair_cell, reads, alternative_stands, fair_one, got_cell, line_read, last_push, page_back}
use Rattle.pages.proofs.Local.{shorter, still_read, alternative_local, count_local, cell_local, line_local, jC, jL, bad_before, page_refused}

-- a free symbol: one that is seen is taken out, and with it one of those to choose from
abbrev without : ℕ → Alternatives → Alternatives
without s [] = []
without s (a ∷ more) = cond (eqb a.symbol s) more (a ∷ without s more)

fewer : (s : ℕ) (l : Alternatives) → seen s l ≡ true → length (without s l) + 1 ≡ length l
fewer s [] e = cc
fewer s (a ∷ more) e = go (fewer s more) (eqb a.symbol s) refl where
  go : (seen s more ≡ true → length (without s more) + 1 ≡ length more) → (t : Bool) → eqb a.symbol s ≡ t → length (cond (eqb a.symbol s) more (a ∷ without s more)) + 1 ≡ suc (length more)
  go again true is = omega (arith, ap length (cond-true (eqb a.symbol s) more (a ∷ without s more) is))
  go again false is =
      let later : seen s more ≡ true = ⊎_elim (λ (here : eqb a.symbol s ≡ true). cc) (λ h. h) (or_cases _ _ e) in
      omega (arith, ap length (cond-false (eqb a.symbol s) more (a ∷ without s more) is), again later)

still : (s t : ℕ) (l : Alternatives) → (t ≡ s → ⊥) → seen t (without s l) ≡ false → seen t l ≡ false
still s t [] ne e = refl
still s t (a ∷ more) ne e = go (still s t more ne) (eqb a.symbol s) refl where
  go : (seen t (without s more) ≡ false → seen t more ≡ false) → (b : Bool) → eqb a.symbol s ≡ b → seen t (a ∷ more) ≡ false
  go again true is =
      let same = eqb-true a.symbol s is in
      or_from _ _ (ne_eqb a.symbol t (λ h. ne (sym h ∙ same))) (sym (ap (seen t) (cond-true (eqb a.symbol s) more (a ∷ without s more) is)) ∙ e)
  go again false is =
      let p = or_parts _ _ (sym (ap (seen t) (cond-false (eqb a.symbol s) more (a ∷ without s more) is)) ∙ e) in
      or_from _ _ p.0 (again p.1)

record Free (k : ℕ) (l : Alternatives) : Type 0 where
  symbol : ℕ
  low : 33 ≤ symbol
  high : symbol < 33 + k
  fresh : seen symbol l ≡ false

free : (k : ℕ) (l : Alternatives) → length l < k → Free k l
free zero l h = absurd (omega arith)
free (suc k) l h = go (free k (without (33 + k) l)) (seen (33 + k) l) refl where
  go : (length (without (33 + k) l) < k → Free k (without (33 + k) l)) → (t : Bool) → seen (33 + k) l ≡ t → Free (suc k) l
  go again false is = record { symbol = 33 + k; low = omega arith; high = omega arith; fresh = is }
  go again true is =
      let f = again (omega (arith, fewer (33 + k) l is)) in
      let below = f.high in
      record { symbol = f.symbol; low = f.low; high = omega (arith, f.high); fresh = still (33 + k) f.symbol l (λ e. omega arith) f.fresh }

-- alternatives that may stand behind those before
record Filled (before : Alternatives) (n : ℕ) : Type 0 where
  more : Alternatives
  long : length more ≡ n
  fair : Fair before more

fill : (n : ℕ) (before : Alternatives) → length before + n ≤ 8 → last_penalty before < 65536 → Filled before n
fill zero before h small = record { more = []; long = refl; fair = tt }
fill (suc n) before h small =
    let s = free 8 before (omega arith) in
    let a : Alternative = record { symbol = s.symbol; penalty = last_penalty before } in
    let rest = fill n (before ++ a ∷ []) (omega (arith, length_push before a)) (omega (arith, last_push before a)) in
    record { more = a ∷ rest.more; long = ap suc rest.long; fair = (record { low = s.low; high = omega (arith, s.high); small = small }, s.fresh, omega arith, rest.fair) }

-- bytes that agree so far
behind : (p y d : List ℕ) (k : ℕ) → take (k - length p) y ≡ take (k - length p) d → take k (p ++ y) ≡ take k (p ++ d)
behind [] y d k e = let same : k - 0 ≡ k = omega arith in subst (λ n. take n y ≡ take n d) same e
behind (x ∷ p) y d zero e = refl
behind (x ∷ p) y d (suc k) e =
    let same : suc k - suc (length p) ≡ k - length p = omega arith in
    ap (λ l. x ∷ l) (behind p y d k (subst (λ n. take n y ≡ take n d) same e))

-- what agrees with bytes that are there goes on agreeing, whatever stands behind it
beyond : (k : ℕ) (x y d : List ℕ) → k ≤ length d → take k x ≡ take k d → take k (x ++ y) ≡ take k d
beyond k x y d le e = take-append-le k x y (omega (arith, ap length e, length-take k x, length-take-le k d le)) ∙ e

nothing : (k : ℕ) (x y : List ℕ) → k ≡ 0 → take k x ≡ take k y
nothing k x y e = subst (λ n. take n x ≡ take n y) (sym e) refl

-- whatever byte is put behind, the reading is refused for the order of a penalty whose high byte is the last one there
abbrev Doomed : {A E : Type 0} → (E → Returned) → (List ℕ → Result A E) → List ℕ → Type 0
Doomed {A} {E} returns R b = (next : ℕ) → next < 256 → (f : E) × (R (b ++ next ∷ []) ≡ Err f) × (returns f ≡ record { number = 5; place = length b - 1 })

-- so it is where a byte is missing behind such a high byte
abbrev Lost : {A E : Type 0} → (E → Returned) → (List ℕ → Result A E) → List ℕ → E → Type 0
Lost returns R b f = ((returns f).number ≡ 1) × Doomed returns R b

-- the first n bytes can be completed; or all but the last of them, and then the reading is lost
abbrev Outcome : (ℕ → Type 0) → Type 0 → ℕ → Type 0
Outcome Done Bad n = Done n ⊎ (Done (n - 1) × Bad)

onto : (D E : ℕ → Type 0) {P Q : Type 0} (n : ℕ) → ((m : ℕ) → m ≤ n → D m → E m) → (P → Q) → Outcome D P n → Outcome E Q n
onto D E n f g (inl d) = inl (f n (omega arith) d)
onto D E n f g (inr p) = inr (f (n - 1) (omega arith) p.0, g p.1)

-- a reading is lost with the fault below it, and with the reading behind a value
module _ {A B E F : Type 0} (R : List ℕ → Result A E) (up : E → F) (S : A → List ℕ → Result B F) (low : E → Returned) (high : F → Returned) (b : List ℕ) where
  lost_up : ((e : E) → high (up e) ≡ low e) → (f : E) → Lost low R b f → Lost high (λ o. onward (R o) up (λ x. S x o)) b (up f)
  lost_up same f h = (
    ap (λ r. r.number) (same f) ∙ h.0,
    λ next lt. let p = h.1 next lt in (up p.0, ap (λ r. onward r up (λ x. S x (b ++ next ∷ []))) p.1, same p.0 ∙ p.2),
  )

  lost_behind : (x : A) → ((next : ℕ) → R (b ++ next ∷ []) ≡ Ok x) → (f : F) → Lost high (S x) b f → Lost high (λ o. onward (R o) up (λ y. S y o)) b f
  lost_behind x still f h = (
    h.0,
    λ next lt. let p = h.1 next lt in (p.0, ap (λ r. onward r up (λ y. S y (b ++ next ∷ []))) (still next) ∙ p.1, p.2),
  )

-- an alternative refused: its symbol was not judged good, or only its penalty was not, or of that only half is there
abbrev place_of : AlternativeFault → ℕ
place_of g = (alternative_returns g).place

refused_alternative : (b : List ℕ) (at : ℕ) (before : Alternatives) (g : AlternativeFault) → read_alternative b at before ≡ Err g
    → (place_of g ≤ at) ⊎ (Symbolled b at before × ((place_of g ≤ at + 1) ⊎ ((length b ≡ at + 2) × (alternative.Short (length b) ≡ g))))
refused_alternative b at before g e = grind (arith, nat_tests)

-- where its high byte is too low, no low byte helps
too_low : (b : List ℕ) (at : ℕ) (before : Alternatives) → Symbolled b at before → length b ≡ at + 2 → get_or b (at + 1) 0 * 256 + 255 < last_penalty before
    → Doomed alternative_returns (λ o. read_alternative o at before) b
too_low b at before s long lt next small =
    let o = b ++ next ∷ [] in
    let size : length o ≡ at + 3 = omega (arith, length_push b next) in
    let symbol : symbol_at o at ≡ symbol_at b at = get_or_append_left b (next ∷ []) 0 at s.room in
    let high : get_or o (at + 1) 0 ≡ get_or b (at + 1) 0 = get_or_append_left b (next ∷ []) 0 (at + 1) (omega arith) in
    let low : get_or o (at + 2) 0 ≡ next = get_or_push b next 0 (at + 2) long in
    let back : at + 1 ≡ length b - 1 = omega arith in (
      alternative.Order (at + 1),
      grind (arith, nat_tests, s.room, s.low, s.high, s.fresh),
      ap (λ n. record { number = 5; place = n }) back,
    )

-- alternatives that complete those read so far
record AlternativesDone (b : List ℕ) (at : ℕ) (before : Alternatives) (due n : ℕ) : Type 0 where
  more : Alternatives
  long : length more ≡ due
  fair : Fair before more
  agrees : take (n - at) (flat_map alternative_bytes more) ≡ take (n - at) (drop at b)

module _ (b : List ℕ) (at : ℕ) (before : Alternatives) (due : ℕ) (room : length before + suc due ≤ 8) (small : last_penalty before < 65536) where
  -- no byte of them is there
  none_there : (n : ℕ) → n ≤ at → AlternativesDone b at before (suc due) n
  none_there n le =
      let f = fill (suc due) before room small in
      record { more = f.more; long = f.long; fair = f.fair; agrees = nothing (n - at) _ _ (omega arith) }

  -- the symbol is
  symbol_there : (n : ℕ) → n ≤ at + 1 → Symbolled b at before → AlternativesDone b at before (suc due) n
  symbol_there n le s =
      let a : Alternative = record { symbol = symbol_at b at; penalty = last_penalty before } in
      let f = fill due (before ++ a ∷ []) (omega (arith, length_push before a)) (omega (arith, last_push before a)) in
      record {
        more = a ∷ f.more;
        long = ap suc f.long;
        fair = (record { low = s.low; high = s.high; small = small }, s.fresh, omega arith, f.fair);
        agrees =
            behind (symbol_at b at ∷ []) _ (drop (at + 1) b) (n - at) (nothing ((n - at) - 1) _ _ (omega arith))
            ∙ ap (take (n - at)) (sym (drop_more b at 0 s.room));
      }

  -- and the penalty's high byte, high enough
  half_there : Octets b → length b ≡ at + 2 → Symbolled b at before → last_penalty before ≤ get_or b (at + 1) 0 * 256 + 255 → AlternativesDone b at before (suc due) (length b)
  half_there all long s le =
      let h = get_or b (at + 1) 0 in
      let octet : h < 256 = all (at + 1) in
      let a : Alternative = record { symbol = symbol_at b at; penalty = h * 256 + 255 } in
      let high : (h * 256 + 255) / 256 ≡ h = omega arith in
      let f = fill due (before ++ a ∷ []) (omega (arith, length_push before a)) (omega (arith, last_push before a)) in
      let rest : List ℕ = (h * 256 + 255) % 256 ∷ flat_map alternative_bytes f.more in
      let k = length b - at in
      let second : (at + 1) + 1 ≡ at + 2 = omega arith in
      let there : drop at b ≡ symbol_at b at ∷ h ∷ drop (at + 2) b =
      drop_more b at 0 s.room ∙ ap (λ l. symbol_at b at ∷ l) (drop_more b (at + 1) 0 (omega arith) ∙ ap (λ i. h ∷ drop i b) second) in
      record {
        more = a ∷ f.more;
        long = ap suc f.long;
        fair = (record { low = s.low; high = s.high; small = omega arith }, s.fresh, le, f.fair);
        agrees =
            ap (λ v. take k (symbol_at b at ∷ v ∷ rest)) high
            ∙ behind (symbol_at b at ∷ h ∷ []) rest (drop (at + 2) b) k (nothing (k - 2) _ _ (omega arith))
            ∙ ap (take k) (sym there);
      }

completed : (b : List ℕ) (at : ℕ) (before : Alternatives) (due : ℕ) (g : AlternativeFault) → Octets b → length before + suc due ≤ 8 → last_penalty before < 65536
    → read_alternative b at before ≡ Err g
    → Outcome (AlternativesDone b at before (suc due)) (Lost alternative_returns (λ o. read_alternative o at before) b g) (place_of g)
completed b at before due g all room small e =
    ⊎_elim (λ le. inl (none_there b at before due room small (place_of g) le))
    (λ s.
    ⊎_elim (λ le. inl (symbol_there b at before due room small (place_of g) le s.0))
    (λ half.
    subst (λ x. Outcome (AlternativesDone b at before (suc due)) (Lost alternative_returns (λ o. read_alternative o at before) b x) (place_of x)) half.1
    (⊎_elim (λ low. inr (symbol_there b at before due room small (length b - 1) (omega (arith, half.0)) s.0, (refl, too_low b at before s.0 half.0 low)))
    (λ high. inl (half_there b at before due room small all half.0 s.0 high)) (cases_lt (get_or b (at + 1) 0 * 256 + 255) (last_penalty before))))
    s.1)
    (refused_alternative b at before g e)

-- one of the alternatives due, and those behind it
alternatives_step : (b : List ℕ) (due at : ℕ) (before : Alternatives) (f : CellFault) → Octets b → at ≤ length b → length before + suc due ≤ 8 → last_penalty before < 65536
    → ((a : Alternative) → at + 3 ≤ length b → length (before ++ a ∷ []) + due ≤ 8 → last_penalty (before ++ a ∷ []) < 65536
    → read_alternatives b due (at + 3) (before ++ a ∷ []) ≡ Err f
    → Outcome (AlternativesDone b (at + 3) (before ++ a ∷ []) due) (Lost cell_returns (λ o. read_alternatives o due (at + 3) (before ++ a ∷ [])) b f) (cell_returns f).place)
    → (r : Result Alternative AlternativeFault) → read_alternative b at before ≡ r → onward r cell.Alternative (λ a. read_alternatives b due (at + 3) (before ++ a ∷ [])) ≡ Err f
    → Outcome (AlternativesDone b at before (suc due))
    (Lost cell_returns (λ o. onward (read_alternative o at before) cell.Alternative (λ a. read_alternatives o due (at + 3) (before ++ a ∷ []))) b f) (cell_returns f).place
alternatives_step b due at before f all le room small again (Ok a) is e =
    let r = reads b at before a is in
    let s = alternative_stands b at before a all r in
    let range = (fair_one b at before [] a all r tt).0 in
    let low = range.small in
    onto (AlternativesDone b (at + 3) (before ++ a ∷ []) due) (AlternativesDone b at before (suc due)) (cell_returns f).place
    (λ n upto g.
    let left : n - (at + 3) ≡ (n - at) - 3 = omega arith in
    record {
      more = a ∷ g.more;
      long = ap suc g.long;
      fair = fair_one b at before g.more a all r g.fair;
      agrees =
          behind (alternative_bytes a) (flat_map alternative_bytes g.more) (drop (at + 3) b) (n - at) (subst (λ k. take k (flat_map alternative_bytes g.more) ≡ take k (drop (at + 3) b)) left g.agrees)
          ∙ ap (take (n - at)) (sym s.here);
    })
    (lost_behind (λ o. read_alternative o at before) cell.Alternative (λ x o. read_alternatives o due (at + 3) (before ++ x ∷ [])) alternative_returns cell_returns b a
    (λ next. still_read (alternative_local at before) b a next le is (λ none. none)) f)
    (again a r.room (omega (arith, length_push before a)) (omega (arith, last_push before a)) e)
alternatives_step b due at before f all le room small again (Err g) is e =
    let up : cell.Alternative g ≡ f = cc in
    subst
    (λ x. Outcome (AlternativesDone b at before (suc due))
    (Lost cell_returns (λ o. onward (read_alternative o at before) cell.Alternative (λ a. read_alternatives o due (at + 3) (before ++ a ∷ []))) b x) (cell_returns x).place) up
    (onto (AlternativesDone b at before (suc due)) (AlternativesDone b at before (suc due)) (place_of g) (λ n upto d. d)
    (lost_up (λ o. read_alternative o at before) cell.Alternative (λ x o. read_alternatives o due (at + 3) (before ++ x ∷ [])) alternative_returns cell_returns b (λ h. refl) g)
    (completed b at before due g all room small is))

alternatives_complete : (b : List ℕ) (due at : ℕ) (before : Alternatives) (f : CellFault) → Octets b → at ≤ length b → length before + due ≤ 8 → last_penalty before < 65536
    → read_alternatives b due at before ≡ Err f
    → Outcome (AlternativesDone b at before due) (Lost cell_returns (λ o. read_alternatives o due at before) b f) (cell_returns f).place
unfolding read_alternatives
alternatives_complete b zero at before f all le room small e = cc
alternatives_complete b (suc due) at before f all le room small e =
    alternatives_step b due at before f all le room small (λ a le2 room2 small2 is. alternatives_complete b due (at + 3) (before ++ a ∷ []) f all le2 room2 small2 is) (read_alternative b at before) refl e

-- a count refused
refused_count : (most : ℕ) (b : List ℕ) (at : ℕ) (g : CountFault) → read_count most b at ≡ Err g → (count_returns g).place ≤ at
refused_count most b at g e = grind (arith, nat_tests)

-- a count that stands, and what agrees behind it
counted : (b : List ℕ) (at v n : ℕ) (y : List ℕ) → at < length b → get_or b at 0 ≡ v → take (n - (at + 1)) y ≡ take (n - (at + 1)) (drop (at + 1) b) → take (n - at) (v ∷ y) ≡ take (n - at) (drop at b)
counted b at v n y room is e =
    let left : n - (at + 1) ≡ (n - at) - 1 = omega arith in
    behind (v ∷ []) y (drop (at + 1) b) (n - at) (subst (λ k. take k y ≡ take k (drop (at + 1) b)) left e)
    ∙ ap (take (n - at)) (sym (drop_more b at 0 room ∙ ap (λ x. x ∷ drop (at + 1) b) is))

-- cells, lines and pages that complete those read so far
blank_cell : Filled [] 1
blank_cell = fill 1 [] (omega arith) (omega arith)

blank_fair : WellFormedCell blank_cell.more
blank_fair = fair_cell blank_cell.more (omega (arith, blank_cell.long)) (omega (arith, blank_cell.long)) blank_cell.fair

record CellDone (b : List ℕ) (at n : ℕ) : Type 0 where
  alternatives : Alternatives
  well : WellFormedCell alternatives
  agrees : take (n - at) (cell_bytes alternatives) ≡ take (n - at) (drop at b)

cell_step : (b : List ℕ) (at : ℕ) (f : CellFault) → Octets b → at ≤ length b → (r : Result ℕ CountFault) → read_count 8 b at ≡ r
    → onward r cell.Count (λ due. read_alternatives b due (at + 1) []) ≡ Err f
    → Outcome (CellDone b at) (Lost cell_returns (λ o. onward (read_count 8 o at) cell.Count (λ due. read_alternatives o due (at + 1) [])) b f) (cell_returns f).place
cell_step b at f all le (Ok due) is e =
    let k = counts 8 b at due is in
    onto (AlternativesDone b (at + 1) [] due) (CellDone b at) (cell_returns f).place
    (λ n upto g.
    record {
      alternatives = g.more;
      well = fair_cell g.more (omega (arith, g.long, k.low)) (omega (arith, g.long, k.high)) g.fair;
      agrees = counted b at (length g.more) n _ k.room (k.is ∙ sym g.long) g.agrees;
    })
    (lost_behind (λ o. read_count 8 o at) cell.Count (λ x o. read_alternatives o x (at + 1) []) count_returns cell_returns b due (λ next. still_read (count_local 8 at) b due next le is (λ none. none)) f)
    (alternatives_complete b due (at + 1) [] f all (omega (arith, k.room)) (omega (arith, k.high)) (omega arith) e)
cell_step b at f all le (Err g) is e =
    let up : cell.Count g ≡ f = cc in
    let none = refused_count 8 b at g is in
    inl (record { alternatives = blank_cell.more; well = blank_fair; agrees = nothing ((cell_returns f).place - at) _ _ (omega (arith, none, ap (λ x. (cell_returns x).place) up)) })

cell_complete : (b : List ℕ) (at : ℕ) (f : CellFault) → Octets b → at ≤ length b → read_cell b at ≡ Err f
    → Outcome (CellDone b at) (Lost cell_returns (λ o. read_cell o at) b f) (cell_returns f).place
unfolding read_cell
cell_complete b at f all le e = cell_step b at f all le (read_count 8 b at) refl e

-- the place of a fault is not behind the page's end
alternative_upto : (f : AlternativeFault) → (alternative_returns f).place + 1 ≤ alternative_judged f
alternative_upto (alternative.Short place) = omega arith
alternative_upto (alternative.Symbol place) = omega arith
alternative_upto (alternative.Twice place) = omega arith
alternative_upto (alternative.Order place) = omega arith

cell_upto : (f : CellFault) → (cell_returns f).place + 1 ≤ cell_judged f
cell_upto (cell.Count f) = omega arith
cell_upto (cell.Alternative f) = alternative_upto f

line_upto : (f : LineFault) → (line_returns f).place + 1 ≤ line_judged f
line_upto (line.Count f) = omega arith
line_upto (line.Cell f) = cell_upto f.fault

cell_size : (b : List ℕ) (at : ℕ) (f : CellFault) → at ≤ length b → read_cell b at ≡ Err f → (cell_returns f).place ≤ length b
cell_size b at f le e =
    let is = ap jC e in
    ⊎_elim (λ p. omega (arith, p.0, is, cell_upto f)) (λ p. omega (arith, p.0, is, cell_upto f)) ((cell_local at).within b le)

line_size : (b : List ℕ) (at : ℕ) (f : LineFault) → at ≤ length b → read_line b at ≡ Err f → (line_returns f).place ≤ length b
line_size b at f le e =
    let is = ap jL e in
    ⊎_elim (λ p. omega (arith, p.0, is, line_upto f)) (λ p. omega (arith, p.0, is, line_upto f)) ((line_local at).within b le)

record Blanks {X : Type 0} (P : X → Type 0) (n : ℕ) : Type 0 where
  more : List X
  long : length more ≡ n
  good : AllByRecursion P more

blanks : {X : Type 0} (P : X → Type 0) (x : X) → P x → (n : ℕ) → Blanks P n
blanks P x p zero = record { more = []; long = refl; good = tt }
blanks P x p (suc n) = let rest = blanks P x p n in record { more = x ∷ rest.more; long = ap suc rest.long; good = (p, rest.good) }

-- a part that stands, and what agrees behind it
joined_on : (b : List ℕ) (at next n : ℕ) (part y : List ℕ) → Stands b at part next → take (n - next) y ≡ take (n - next) (drop next b) → take (n - at) (part ++ y) ≡ take (n - at) (drop at b)
joined_on b at next n part y s e =
    let left : n - next ≡ (n - at) - length part = omega (arith, s.size) in
    behind part y (drop next b) (n - at) (subst (λ k. take k y ≡ take k (drop next b)) left e) ∙ ap (take (n - at)) (sym s.here)

record CellsDone (b : List ℕ) (at due n : ℕ) : Type 0 where
  more : Cells
  long : length more ≡ due
  well : AllByRecursion WellFormedCell more
  agrees : take (n - at) (flat_map cell_bytes more) ≡ take (n - at) (drop at b)

cells_step : (b : List ℕ) (due at : ℕ) (before : Cells) (f : LineFault) → Octets b → at ≤ length b
    → ((c : Alternatives) (next : ℕ) → next ≤ length b → read_cells b due next (before ++ c ∷ []) ≡ Err f
    → Outcome (CellsDone b next due) (Lost line_returns (λ o. read_cells o due next (before ++ c ∷ [])) b f) (line_returns f).place)
    → (r : Result (Alternatives × ℕ) CellFault) → read_cell b at ≡ r
    → onward r (λ g. line.Cell (record { number = length before; fault = g })) (λ c. read_cells b due c.1 (before ++ c.0 ∷ [])) ≡ Err f
    → Outcome (CellsDone b at (suc due))
    (Lost line_returns (λ o. onward (read_cell o at) (λ g. line.Cell (record { number = length before; fault = g })) (λ c. read_cells o due c.1 (before ++ c.0 ∷ []))) b f) (line_returns f).place
cells_step b due at before f all le again (Ok c) is e =
    let one = got_cell b at c.0 c.1 all is in
    onto (CellsDone b c.1 due) (CellsDone b at (suc due)) (line_returns f).place
    (λ n upto g.
    record { more = c.0 ∷ g.more; long = ap suc g.long; well = (one.0, g.well); agrees = joined_on b at c.1 n (cell_bytes c.0) (flat_map cell_bytes g.more) one.1 g.agrees })
    (lost_behind (λ o. read_cell o at) (λ g. line.Cell (record { number = length before; fault = g })) (λ x o. read_cells o due x.1 (before ++ x.0 ∷ [])) cell_returns line_returns b c
    (λ next. still_read (cell_local at) b c next le is (λ none. none)) f)
    (again c.0 c.1 one.1.fits e)
cells_step b due at before f all le again (Err g) is e =
    let up : line.Cell (record { number = length before; fault = g }) ≡ f = cc in
    let rest = blanks WellFormedCell blank_cell.more blank_fair due in
    let size = cell_size b at g le is in
    subst
    (λ x. Outcome (CellsDone b at (suc due))
    (Lost line_returns (λ o. onward (read_cell o at) (λ h. line.Cell (record { number = length before; fault = h })) (λ c. read_cells o due c.1 (before ++ c.0 ∷ []))) b x) (line_returns x).place) up
    (onto (CellDone b at) (CellsDone b at (suc due)) (cell_returns g).place
    (λ n upto d.
    record {
      more = d.alternatives ∷ rest.more;
      long = ap suc rest.long;
      well = (d.well, rest.good);
      agrees = beyond (n - at) (cell_bytes d.alternatives) (flat_map cell_bytes rest.more) (drop at b) (omega (arith, size, length-drop at b)) d.agrees;
    })
    (lost_up (λ o. read_cell o at) (λ h. line.Cell (record { number = length before; fault = h })) (λ x o. read_cells o due x.1 (before ++ x.0 ∷ [])) cell_returns line_returns b (λ h. refl) g)
    (cell_complete b at g all le is))

cells_complete : (b : List ℕ) (due at : ℕ) (before : Cells) (f : LineFault) → Octets b → at ≤ length b → read_cells b due at before ≡ Err f
    → Outcome (CellsDone b at due) (Lost line_returns (λ o. read_cells o due at before) b f) (line_returns f).place
unfolding read_cells
cells_complete b zero at before f all le e = cc
cells_complete b (suc due) at before f all le e =
    cells_step b due at before f all le (λ c next room is. cells_complete b due next (before ++ c ∷ []) f all room is) (read_cell b at) refl e

record LineDone (b : List ℕ) (at n : ℕ) : Type 0 where
  cells : Cells
  well : WellFormedLine cells
  agrees : take (n - at) (line_bytes cells) ≡ take (n - at) (drop at b)

blank_line : Cells
blank_line = blank_cell.more ∷ []

blank_well : WellFormedLine blank_line
unfolding blank_line
blank_well = record { some = omega arith; few = omega arith; cells = (blank_fair, tt) }

line_step : (b : List ℕ) (at : ℕ) (f : LineFault) → Octets b → at ≤ length b → (r : Result ℕ CountFault) → read_count 24 b at ≡ r
    → onward r line.Count (λ due. read_cells b due (at + 1) []) ≡ Err f
    → Outcome (LineDone b at) (Lost line_returns (λ o. onward (read_count 24 o at) line.Count (λ due. read_cells o due (at + 1) [])) b f) (line_returns f).place
line_step b at f all le (Ok due) is e =
    let k = counts 24 b at due is in
    onto (CellsDone b (at + 1) due) (LineDone b at) (line_returns f).place
    (λ n upto g.
    record {
      cells = g.more;
      well = record { some = omega (arith, g.long, k.low); few = omega (arith, g.long, k.high); cells = g.well };
      agrees = counted b at (length g.more) n _ k.room (k.is ∙ sym g.long) g.agrees;
    })
    (lost_behind (λ o. read_count 24 o at) line.Count (λ x o. read_cells o x (at + 1) []) count_returns line_returns b due (λ next. still_read (count_local 24 at) b due next le is (λ none. none)) f)
    (cells_complete b due (at + 1) [] f all (omega (arith, k.room)) e)
line_step b at f all le (Err g) is e =
    let up : line.Count g ≡ f = cc in
    let none = refused_count 24 b at g is in
    inl (record { cells = blank_line; well = blank_well; agrees = nothing ((line_returns f).place - at) _ _ (omega (arith, none, ap (λ x. (line_returns x).place) up)) })

line_complete : (b : List ℕ) (at : ℕ) (f : LineFault) → Octets b → at ≤ length b → read_line b at ≡ Err f
    → Outcome (LineDone b at) (Lost line_returns (λ o. read_line o at) b f) (line_returns f).place
unfolding read_line
line_complete b at f all le e = line_step b at f all le (read_count 24 b at) refl e

record LinesDone (b : List ℕ) (at due n : ℕ) : Type 0 where
  more : Lines
  long : length more ≡ due
  well : AllByRecursion WellFormedLine more
  agrees : take (n - at) (flat_map line_bytes more) ≡ take (n - at) (drop at b)

-- lines behind a line are lost with it
lost_before : (l : Cells) (R : List ℕ → Result Lines PageFault) (b : List ℕ) (f : PageFault) → Lost page_returns R b f → Lost page_returns (λ o. before_lines l (R o)) b f
lost_before l R b f h = (h.0, λ next lt. let p = h.1 next lt in (p.0, ap (before_lines l) p.1, p.2))

lines_step : (b : List ℕ) (due at number : ℕ) (f : PageFault) → Octets b → at ≤ length b
    → ((next : ℕ) → next ≤ length b → read_lines b due next (number + 1) ≡ Err f
    → Outcome (LinesDone b next due) (Lost page_returns (λ o. read_lines o due next (number + 1)) b f) (page_returns f).place)
    → (r : Result (Cells × ℕ) LineFault) → read_line b at ≡ r
    → onward r (λ g. page.Line (record { number = number; fault = g })) (λ l. before_lines l.0 (read_lines b due l.1 (number + 1))) ≡ Err f
    → Outcome (LinesDone b at (suc due))
    (Lost page_returns (λ o. onward (read_line o at) (λ g. page.Line (record { number = number; fault = g })) (λ l. before_lines l.0 (read_lines o due l.1 (number + 1)))) b f) (page_returns f).place
lines_step b due at number f all le again (Ok l) is e =
    let one = line_read b at l.0 l.1 all is in
    onto (LinesDone b l.1 due) (LinesDone b at (suc due)) (page_returns f).place
    (λ n upto g.
    record { more = l.0 ∷ g.more; long = ap suc g.long; well = (one.0, g.well); agrees = joined_on b at l.1 n (line_bytes l.0) (flat_map line_bytes g.more) one.1 g.agrees })
    (λ h.
    lost_behind (λ o. read_line o at) (λ g. page.Line (record { number = number; fault = g })) (λ x o. before_lines x.0 (read_lines o due x.1 (number + 1))) line_returns page_returns b l
    (λ next. still_read (line_local at) b l next le is (λ none. none)) f (lost_before l.0 (λ o. read_lines o due l.1 (number + 1)) b f h))
    (again l.1 one.1.fits (bad_before l.0 _ e))
lines_step b due at number f all le again (Err g) is e =
    let up : page.Line (record { number = number; fault = g }) ≡ f = cc in
    let rest = blanks WellFormedLine blank_line blank_well due in
    let size = line_size b at g le is in
    subst
    (λ x. Outcome (LinesDone b at (suc due))
    (Lost page_returns (λ o. onward (read_line o at) (λ h. page.Line (record { number = number; fault = h })) (λ l. before_lines l.0 (read_lines o due l.1 (number + 1)))) b x) (page_returns x).place) up
    (onto (LineDone b at) (LinesDone b at (suc due)) (line_returns g).place
    (λ n upto d.
    record {
      more = d.cells ∷ rest.more;
      long = ap suc rest.long;
      well = (d.well, rest.good);
      agrees = beyond (n - at) (line_bytes d.cells) (flat_map line_bytes rest.more) (drop at b) (omega (arith, size, length-drop at b)) d.agrees;
    })
    (lost_up (λ o. read_line o at) (λ h. page.Line (record { number = number; fault = h })) (λ x o. before_lines x.0 (read_lines o due x.1 (number + 1))) line_returns page_returns b (λ h. refl) g)
    (line_complete b at g all le is))

lines_end : (t : Bool) (b : List ℕ) (at : ℕ) (f : PageFault) → cond {A = Result Lines PageFault} t (Err (page.Excess at)) (Ok []) ≡ Err f → LinesDone b at 0 (page_returns f).place
lines_end true b at f e =
    let up : page.Excess at ≡ f = cc in
    record { more = []; long = refl; well = tt; agrees = nothing ((page_returns f).place - at) _ _ (omega (arith, ap (λ x. (page_returns x).place) up)) }
lines_end false b at f e = cc

lines_complete : (b : List ℕ) (due at number : ℕ) (f : PageFault) → Octets b → at ≤ length b → read_lines b due at number ≡ Err f
    → Outcome (LinesDone b at due) (Lost page_returns (λ o. read_lines o due at number) b f) (page_returns f).place
unfolding read_lines
lines_complete b zero at number f all le e = inl (lines_end (ltb at (length b)) b at f e)
lines_complete b (suc due) at number f all le e =
    lines_step b due at number f all le (λ next room is. lines_complete b due next (number + 1) f all room is) (read_line b at) refl e

page_step : (b : List ℕ) (f : PageFault) → Octets b → (r : Result ℕ CountFault) → read_count 40 b 0 ≡ r → onward r page.Count (λ due. read_lines b due 1 0) ≡ Err f
    → Outcome (Begins b) (Lost page_returns (λ o. onward (read_count 40 o 0) page.Count (λ due. read_lines o due 1 0)) b f) (page_returns f).place
page_step b f all (Ok due) is e =
    let k = counts 40 b 0 due is in
    onto (LinesDone b 1 due) (Begins b) (page_returns f).place
    (λ n upto g.
    let whole : n - 0 ≡ n = omega arith in (
      g.more,
      page_from g.more (record { some = omega (arith, g.long, k.low); few = omega (arith, g.long, k.high); lines = g.well }),
      subst (λ m. take m (page_bytes g.more) ≡ take m b) whole (counted b 0 (length g.more) n _ k.room (k.is ∙ sym g.long) g.agrees),
    ))
    (lost_behind (λ o. read_count 40 o 0) page.Count (λ x o. read_lines o x 1 0) count_returns page_returns b due (λ next. still_read (count_local 40 0) b due next (omega arith) is (λ none. none)) f)
    (lines_complete b due 1 0 f all (omega (arith, k.room)) e)
page_step b f all (Err g) is e =
    let up : page.Count g ≡ f = cc in
    let none = refused_count 40 b 0 g is in
    inl (
      blank_line ∷ [],
      page_from (blank_line ∷ []) (record { some = omega arith; few = omega arith; lines = (blank_well, tt) }),
      nothing (page_returns f).place _ _ (omega (arith, none, ap (λ x. (page_returns x).place) up)),
    )

begins : (b : List ℕ) (f : PageFault) → Octets b → read_page b ≡ Err f → Outcome (Begins b) (Lost page_returns read_page b f) (page_returns f).place
unfolding read_page
begins b f all e = page_step b f all (read_count 40 b 0) refl e

-- the bytes of a well-formed page are bytes
all_joined : {X : Type 0} (P : X → Type 0) (Q : ℕ → Type 0) (f : X → List ℕ) → ((x : X) → P x → AllByRecursion Q (f x)) → (xs : List X) → AllByRecursion P xs → AllByRecursion Q (flat_map f xs)
all_joined P Q f each [] h = tt
all_joined P Q f each (x ∷ xs) h = both (f x) (flat_map f xs) (each x h.0) (all_joined P Q f each xs h.1) where
  both : (a b : List ℕ) → AllByRecursion Q a → AllByRecursion Q b → AllByRecursion Q (a ++ b)
  both [] b p q = q
  both (x ∷ a) b p q = (p.0, both a b p.1 q)

octet_at : (bytes : List ℕ) → AllByRecursion (λ v. v < 256) bytes → Octets bytes
octet_at [] h i = omega arith
octet_at (x ∷ bytes) h zero = h.0
octet_at (x ∷ bytes) h (suc i) = octet_at bytes h.1 i

page_octets : (p : Lines) → WellFormedPage p → Octets (page_bytes p)
page_octets p h =
    octet_at (page_bytes p) (
      omega (arith, h.few),
      all_joined WellFormedLine (λ v. v < 256) line_bytes
          (λ l w. (
            omega (arith, w.few),
            all_joined WellFormedCell (λ v. v < 256) cell_bytes
                (λ c v. (omega (arith, v.few), all_joined InRange (λ n. n < 256) alternative_bytes (λ a r. (omega (arith, r.high), (omega (arith, r.small), (omega arith, tt)))) c v.ranges)) l w.cells,
          )) p h.lines,
    )

-- bytes that no byte more helps begin no good page
no_page_begins : (b : List ℕ) (f : PageFault) → read_page b ≡ Err f → HalfPenaltyTooLow b → Begins b (length b) → ⊥
no_page_begins b f e doomed (lines, well, agree) =
    let sheet = page_bytes lines in
    let good : read_page sheet ≡ Ok lines = page_back sheet lines (refl, well) in
    let same : take (length b) sheet ≡ b = agree ∙ take_all (length b) b (omega arith) in
    ⊎_elim
    (λ more.
    let next = get_or sheet (length b) 0 in
    let p = doomed next (page_octets lines (page_parts lines well) (length b)) in
    let front : take (length b + 1) sheet ≡ b ++ next ∷ [] = take_more sheet (length b) 0 more ∙ ap (λ l. l ++ next ∷ []) same in
    let size = length_push b next in
    let told = page_refused (b ++ next ∷ []) p.0 p.1 in
    let five : (page_returns p.0).number ≡ 5 = ap (λ r. r.number) p.2 in
    let fits : page_judged p.0 ≤ length (b ++ next ∷ []) = ⊎_elim (λ in1. in1.0) (λ out. absurd (omega (arith, out.1))) told.within in
    let alike : take (length b + 1) sheet ≡ take (length b + 1) (b ++ next ∷ []) = front ∙ sym (take_all (length b + 1) (b ++ next ∷ []) (omega arith)) in
    let bad = told.same sheet fits (shorter (page_judged p.0) (length b + 1) sheet (b ++ next ∷ []) (omega arith) alike) in
    cc)
    (λ less.
    let is : sheet ≡ b = sym (take_all (length b) sheet less) ∙ same in
    let bad : read_page sheet ≡ Err f = ap read_page is ∙ e in
    cc)
    (cases_lt (length b) (length sheet))

-- fewer bytes of a good page begin one too
begins_less : (b : List ℕ) (m n : ℕ) → m ≤ n → Begins b n → Begins b m
begins_less b m n le (lines, well, agree) = (lines, well, shorter m n (page_bytes lines) b le agree)

-- of a missing byte
alternative_short : (f : AlternativeFault) → (alternative_returns f).number ≡ 1 → alternative_judged f ≡ (alternative_returns f).place + 1
alternative_short (alternative.Short place) e = refl
alternative_short (alternative.Symbol place) e = refl
alternative_short (alternative.Twice place) e = refl
alternative_short (alternative.Order place) e = absurd (omega arith)

cell_short : (f : CellFault) → (cell_returns f).number ≡ 1 → cell_judged f ≡ (cell_returns f).place + 1
cell_short (cell.Count f) e = refl
cell_short (cell.Alternative f) e = alternative_short f e

line_short : (f : LineFault) → (line_returns f).number ≡ 1 → line_judged f ≡ (line_returns f).place + 1
line_short (line.Count f) e = refl
line_short (line.Cell f) e = cell_short f.fault e

page_short : (f : PageFault) → (page_returns f).number ≡ 1 → page_judged f ≡ (page_returns f).place + 1
page_short (page.Count f) e = refl
page_short (page.Line f) e = line_short f.fault e
page_short (page.Excess place) e = refl

pub first_wrong : (bytes : List ℕ) (f : PageFault) → Octets bytes → read_page bytes ≡ Err f → FirstWrong bytes f
first_wrong bytes f all e =
    let told = page_refused bytes f e in
    record {
      met = page_met bytes f all e;
      missing =
          λ one.
          let end : (page_returns f).place ≡ length bytes = ⊎_elim (λ fits. absurd (fits.1 one)) (λ out. omega (arith, out.0, page_short f one)) told.within in
          let so = subst (λ n. Outcome (Begins bytes) (Lost page_returns read_page bytes f) n) end (begins bytes f all e) in
          record {
            at_end = end;
            good_before = ⊎_elim (λ d. begins_less bytes (length bytes - 1) (length bytes) (omega arith) d) (λ p. p.0) so;
            last_byte = ⊎_elim (λ d. inl (d, λ half. no_page_begins bytes f e half d)) (λ p. inr (p.1.1, no_page_begins bytes f e p.1.1)) so;
          };
      wrong =
          λ other.
          let fits : page_judged f ≤ length bytes = ⊎_elim (λ p. p.0) (λ out. absurd (other out.1)) told.within in
          record {
            there = fits;
            always = λ o agree. told.same o fits agree;
            good_before = ⊎_elim (λ d. d) (λ p. absurd (other p.1.0)) (begins bytes f all e);
          };
    }
