-- What is said of a text is true of it.
use Rattle.std.proofs.Common.{◌≡◌, ℕ, Bool, true, false, cond, ◌&&◌, eqb, leb, List, length, take, drop, ℤ, Ok, Err, Result, sym, ap, ◌∙◌, subst, arith, length-take}
use Rattle.std.proofs.lemmas.Bool.Decides.{not_from_Decides}
use Rattle.std.proofs.lemmas.Bool.{and_parts, and_from, cond_both, eqb-true, le-leb}
use Rattle.positions.specs.declared.Refusal.{Refusal}
use Rattle.positions.specs.declared.angles.Axis.TheVariants as axes
use Rattle.positions.specs.Angles.{is_angle}
use Rattle.positions.specs.Positions.{is_position, pair_of, reading, Says}
use Rattle.positions.proofs.Round.{angle_written, pair_back, Said, said}
use Rattle.grammars.specs.declared.sheet.Sheet.{Sheet}
use Rattle.grammars.specs.Dates.{admits_date}
use Rattle.grammars.specs.Grammars.{split_at}
use Rattle.grammars.specs.Sheets.{holds, on_sheet, admits_sheet}
use Rattle.grammars.proofs.Calendar.{admitted_dated}
use Rattle.grammars.specs.SheetsLemmas.{read_ok, covers}
use Rattle.descriptions.specs.declared.Kind.{Kind}
use Rattle.descriptions.specs.declared.Kind.TheVariants.{Date, Latitude, Longitude, OnSheet, OffSheet, Entry, Other}
use Rattle.descriptions.specs.Kinds.{charted, entry, kind_at, kind_read, kind_of, lies_on, Entered, TrueOf}

module _ (t : Sheet) where
  -- a position is on the sheet by the combined grammar where its pair lies on it
  charted_is : (s : List ℕ) (p : ℤ × ℤ) → reading s ≡ Ok p → (charted t).admits s ≡ lies_on t p.0 p.1
  charted_is s p e =
      let r = read_ok s p e in
      let parts = and_parts (eqb (length s) 17) (is_angle axes.Latitude (take 8 s) && is_angle axes.Longitude (drop 8 s)) r.0 in
      let long = eqb-true (length s) 17 parts.0 in
      let both-angles : split_at 8 (is_angle axes.Latitude) (is_angle axes.Longitude) s ≡ true = and_from (leb 8 (length s)) _ (le-leb 8 (length s) (omega arith)) parts.1 in
      let pair = sym r.1 in
      λ i. both-angles i && (holds t && (r.0 i && on_sheet t (pair i)))

  entry_true : (s : List ℕ) → (entry t).admits s ≡ true → Entered t s
  entry_true s h =
      let parts = and_parts (admits_date (take 8 s)) ((charted t).admits (drop 8 s)) (and_parts (leb 8 (length s)) (admits_date (take 8 s) && (charted t).admits (drop 8 s)) h).1 in
      let on = (and_parts (split_at 8 (is_angle axes.Latitude) (is_angle axes.Longitude) (drop 8 s)) (admits_sheet t (drop 8 s)) parts.1).1 in
      let sound = (and_parts (holds t) (is_position (drop 8 s) && on_sheet t (pair_of (drop 8 s))) on).0 in
      let found = (covers t sound (drop 8 s)).0 on in
      ((admitted_dated (take 8 s)).0 parts.0, (found.0.0, found.0.1, found.2, and_from (holds t) (on_sheet t found.0) sound found.1))

  entry_from : (s : List ℕ) → Entered t s → (entry t).admits s ≡ true
  entry_from s w =
      let date = (admitted_dated (take 8 s)).1 w.0 in
      let eight = eqb-true (length (take 8 s)) 8 (and_parts (eqb (length (take 8 s)) 8) _ date).0 in
      let says = w.1.2 in
      let read : reading (drop 8 s) ≡ Ok (w.1.0, w.1.1) = ap reading says.1 ∙ pair_back w.1.0 w.1.1 says.0 in
      and_from (leb 8 (length s)) (admits_date (take 8 s) && (charted t).admits (drop 8 s)) (le-leb 8 (length s) (omega (arith, length-take 8 s)))
      (and_from (admits_date (take 8 s)) ((charted t).admits (drop 8 s)) date (charted_is (drop 8 s) (w.1.0, w.1.1) read ∙ w.1.3))

module _ (t : Sheet) (s : List ℕ) where
  true_at : admits_date s ≡ false → is_angle axes.Latitude s ≡ false → is_angle axes.Longitude s ≡ false → (r : Result (ℤ × ℤ) Refusal) → reading s ≡ r → TrueOf t s (kind_at t s r)
  true_at d y x (Ok p) e =
      let says : Says s p.0 p.1 = subst (Said s) e (said s) in
      cond_both ((charted t).admits s) (OnSheet p.0 p.1) (OffSheet p.0 p.1) (TrueOf t s)
      (λ h. (says, sym (charted_is t s p e) ∙ h))
      (λ h. (says, sym (charted_is t s p e) ∙ h))
  true_at d y x (Err f) e =
      cond_both ((entry t).admits s) Entry Other (TrueOf t s) (entry_true t s)
      (λ h. (
        not_from_Decides (admits_date s) (admitted_dated s) d,
        not_from_Decides (is_angle axes.Latitude s) (angle_written axes.Latitude s) y,
        not_from_Decides (is_angle axes.Longitude s) (angle_written axes.Longitude s) x,
        subst (Said s) e (said s),
        not_from_Decides ((entry t).admits s) (entry_true t s, entry_from t s) h,
      ))

  pub true_of : TrueOf t s (kind_of t s)
  true_of =
      cond_both (admits_date s) Date (cond (is_angle axes.Latitude s) Latitude (cond (is_angle axes.Longitude s) Longitude (kind_read t s))) (TrueOf t s)
      (admitted_dated s).0
      (λ d.
      cond_both (is_angle axes.Latitude s) Latitude (cond (is_angle axes.Longitude s) Longitude (kind_read t s)) (TrueOf t s)
      (angle_written axes.Latitude s).0
      (λ y.
      cond_both (is_angle axes.Longitude s) Longitude (kind_read t s) (TrueOf t s)
      (angle_written axes.Longitude s).0
      (λ x. true_at d y x (reading s) (λ i. reading s))))

  pub true_as : (k : Kind) → k ≡ kind_of t s → TrueOf t s k
  true_as k is = subst (TrueOf t s) (sym is) true_of

  -- a text that is no date and no angle, and reads as a position, is on the sheet or off it
  pub placed_as : (p : ℤ × ℤ) (on : Bool) → admits_date s ≡ false → is_angle axes.Latitude s ≡ false → is_angle axes.Longitude s ≡ false → reading s ≡ Ok p → (charted t).admits s ≡ on
      → cond on (OnSheet p.0 p.1) (OffSheet p.0 p.1) ≡ kind_of t s
  placed_as p on d y x e h =
      sym ((λ i. cond (d i) Date (cond (y i) Latitude (cond (x i) Longitude (kind_at t s (e i))))) ∙ (λ i. cond (h i) (OnSheet p.0 p.1) (OffSheet p.0 p.1)))
