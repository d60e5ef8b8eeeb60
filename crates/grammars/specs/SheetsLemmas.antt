-- The laws of the sheet.
use Rattle.std.specs.Prelude.{◌≡◌, ℕ, Bool, true, false, ◌&&◌, List, [], length, take, ℤ, Ok, Err, ◌==◌, nat_le, MatchResult}
use Rattle.std.proofs.Common.{sym, ap, ◌∙◌, ⊎_elim, subst, arith, length-take}
use Rattle.std.proofs.lemmas.List.{take_all}
use Rattle.std.proofs.lemmas.Bool.{cases_Bool, cond-true, cond-false, le-leb, leb-true, eqb-true, eq-eqb, and_parts, and_from}
use Rattle.positions.specs.declared.Refusal.{Refusal}
use Rattle.positions.specs.declared.Refusal.TheVariants.{Position}
use Rattle.positions.specs.Positions.{is_position, pair_of, reading}
use Rattle.grammars.specs.declared.sheet.Sheet.{Sheet}
use Rattle.positions.proofs.Round.{pair_back, pair_again}
use Rattle.grammars.specs.Grammars.{from_length, Shut}
use Rattle.grammars.specs.declared.Refusal.TheVariants.{Table}
use Rattle.grammars.specs.Sheets.{holds, on_sheet, checking, admits_sheet, allows_sheet, sheet_sets, Covers}
use Rattle.grammars.specs.Openings.{from_holds, from_gives}

-- what a reading says of its text
read_good : (s : List ℕ) → is_position s ≡ true → reading s ≡ Ok (pair_of s)
read_good s h = cond-true (is_position s) (Ok (pair_of s)) (Err Position) h

read_bad : (s : List ℕ) → is_position s ≡ false → reading s ≡ Err Position
read_bad s h = cond-false (is_position s) (Ok (pair_of s)) (Err Position) h

pub read_ok : (s : List ℕ) (p : ℤ × ℤ) → reading s ≡ Ok p → (is_position s ≡ true) × (p ≡ pair_of s)
read_ok s p e =
    ⊎_elim
    (λ (good : is_position s ≡ true). let r = read_good s good in (good, cc))
    (λ (bad : is_position s ≡ false). let r = read_bad s bad in let z : ◌≡◌ {A = ℕ} 0 1 = cc in let none : ⊥ = omega arith in absurd none)
    (cases_Bool (is_position s))

read_err : (s : List ℕ) (f : Refusal) → reading s ≡ Err f → is_position s ≡ false
read_err s f e =
    ⊎_elim
    (λ (good : is_position s ≡ true). let r = read_good s good in let z : ◌≡◌ {A = ℕ} 0 1 = cc in let none : ⊥ = omega arith in absurd none)
    (λ (bad : is_position s ≡ false). bad)
    (cases_Bool (is_position s))

pub inside_is : (t : Sheet) (s : List ℕ) (p : ℤ × ℤ) → holds t ≡ true → reading s ≡ Ok p → on_sheet t p ≡ admits_sheet t s
inside_is t s p h e =
    let r = read_ok s p e in
    ap (on_sheet t) r.1 ∙ sym (λ i. h i && (r.0 i && on_sheet t (pair_of s)))

pub outside_is : (t : Sheet) (s : List ℕ) (f : Refusal) → holds t ≡ true → reading s ≡ Err f → false ≡ admits_sheet t s
outside_is t s f h e = sym (λ i. h i && (read_err s f e i && on_sheet t (pair_of s)))

module _ (t : Sheet) where
  abbrev opening : List ℕ → Bool
  opening s = nat_le (length s) 17 && from_length 17 s (admits_sheet t s)

  at_sound : (s : List ℕ) → holds t ≡ true → allows_sheet t s ≡ opening s
  at_sound s h = cond-true (holds t) (opening s) (length s == 0) h

  at_failed : (s : List ℕ) → holds t ≡ false → allows_sheet t s ≡ (length s == 0)
  at_failed s h = cond-false (holds t) (opening s) (length s == 0) h

  pub sheet_empty : allows_sheet t [] ≡ true
  sheet_empty = ⊎_elim (at_sound []) (at_failed []) (cases_Bool (holds t))

  open_shorter : (s : List ℕ) (n : ℕ) → opening s ≡ true → opening (take n s) ≡ true
  open_shorter s n h =
      let len = length-take n s in
      let p = and_parts (nat_le (length s) 17) (from_length 17 s (admits_sheet t s)) h in
      let short = leb-true (length s) 17 p.0 in
      let whole = from_gives 17 s (admits_sheet t s) p.1 in
      and_from (nat_le (length (take n s)) 17) (from_length 17 (take n s) (admits_sheet t (take n s)))
      (le-leb (length (take n s)) 17 (omega (arith, len)))
      (from_holds 17 (take n s) (admits_sheet t (take n s)) (λ l. ap (admits_sheet t) (take_all n s (omega (arith, len))) ∙ whole (omega (arith, len))))

  pub sheet_shorter : (s : List ℕ) (n : ℕ) → allows_sheet t s ≡ true → allows_sheet t (take n s) ≡ true
  sheet_shorter s n h =
      ⊎_elim
      (λ (yes' : holds t ≡ true). at_sound (take n s) yes' ∙ open_shorter s n (sym (at_sound s yes') ∙ h))
      (λ (no' : holds t ≡ false).
      let none = eqb-true (length s) 0 (sym (at_failed s no') ∙ h) in
      at_failed (take n s) no' ∙ eq-eqb (length (take n s)) 0 (omega (arith, length-take n s)))
      (cases_Bool (holds t))

  pub sheet_allowed : (s : List ℕ) → admits_sheet t s ≡ true → allows_sheet t s ≡ true
  sheet_allowed s h =
      let p = and_parts (holds t) (is_position s && on_sheet t (pair_of s)) h in
      let q = and_parts (is_position s) (on_sheet t (pair_of s)) p.1 in
      let long = eqb-true (length s) 17 (and_parts (length s == 17) _ q.0).0 in
      at_sound s p.0
      ∙ and_from (nat_le (length s) 17) (from_length 17 s (admits_sheet t s)) (le-leb (length s) 17 (omega arith)) (from_holds 17 s (admits_sheet t s) (λ _. h))

  -- a failing table shuts the sheet
  pub shut : holds t ≡ false → Shut (sheet_sets t)
  shut h s = ((λ i. h i && (is_position s && on_sheet t (pair_of s))), at_failed s h)

  -- a table that holds admits the texts of the positions inside its limits or on them
  pub covers : holds t ≡ true → Covers t
  covers h s = (
    λ admitted.
        let p = and_parts (is_position s) (on_sheet t (pair_of s)) (and_parts (holds t) (is_position s && on_sheet t (pair_of s)) admitted).1 in
        let says = pair_again s p.0 in
        (pair_of s, p.1, (says.0, sym says.1)),
    λ w.
        let read : reading s ≡ Ok w.0 = ap reading w.2.1 ∙ pair_back w.0.0 w.0.1 w.2.0 in
        sym (inside_is t s w.0 h read) ∙ w.1,
  )

  -- so the check of its table tells which of the two it is
  pub checked : MatchResult (checking t) (λ _. Covers t) (λ _. Shut (sheet_sets t))
  checked =
      ⊎_elim
      (λ (good : holds t ≡ true). subst (λ q. MatchResult q (λ _. Covers t) (λ _. Shut (sheet_sets t))) (sym (cond-true (holds t) (Ok tt) (Err Table) good)) (covers good))
      (λ (bad : holds t ≡ false). subst (λ q. MatchResult q (λ _. Covers t) (λ _. Shut (sheet_sets t))) (sym (cond-false (holds t) (Ok tt) (Err Table) bad)) (shut bad))
      (cases_Bool (holds t))
