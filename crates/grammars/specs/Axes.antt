-- The laws of latitude and longitude, once for both axes.
use Rattle.std.specs.Prelude.{◌≡◌, ℕ, ◌+◌, ◌-◌, ◌*◌, ◌<◌, ◌≤◌, true, leb, List, [], ◌∷◌, length, take, nat_le, slice_index, refl}
use Rattle.std.proofs.Common.{sym, ap, ◌∙◌, ⊎_elim, arith, length-take}
use Rattle.std.proofs.lemmas.List.{take_all, take-take, get_or-take, drop_more}
use Rattle.std.proofs.lemmas.Bool.{cases_lt, le-leb}
use Rattle.positions.specs.declared.angles.Axis.{Axis}
use Rattle.positions.specs.Numerals.{digits, number_of}
use Rattle.positions.specs.Angles.{figures_of, most_of, width_of, degrees_of, minutes_of, angle_of, is_angle}
use Rattle.positions.proofs.Figures.{digits_take}
use Rattle.positions.proofs.Round.{near, parts, size_is}
use Rattle.positions.specs.declared.angles.Axis.TheVariants.{Latitude, Longitude}
use Rattle.grammars.specs.Grammars.{Lawful}
use Rattle.grammars.specs.Angles.{opening_digits, allows_angle, angle_sets}
use Rattle.grammars.specs.Openings.{Judged, opened, closed}

module _ (a : Axis) where
  -- the parts of an opening that is allowed
  abbrev pub Open : List ℕ → Type 0
  Open s = Judged (width_of a) (figures_of a) (figures_of a + 1) s (opening_digits a s) (nat_le (degrees_of a s) (most_of a)) (nat_le (slice_index s (figures_of a)) 53) (is_angle a s)

  open_parts : (s : List ℕ) → allows_angle a s ≡ true → Open s
  open_parts s = opened (width_of a) (figures_of a) (figures_of a + 1) s (opening_digits a s) (nat_le (degrees_of a s) (most_of a)) (nat_le (slice_index s (figures_of a)) 53) (is_angle a s)

  is_open : (s : List ℕ) → Open s → allows_angle a s ≡ true
  is_open s = closed (width_of a) (figures_of a) (figures_of a + 1) s (opening_digits a s) (nat_le (degrees_of a s) (most_of a)) (nat_le (slice_index s (figures_of a)) 53) (is_angle a s)

  digits_shorter : (m n : ℕ) (s : List ℕ) → digits (take m s) ≡ true → digits (take m (take n s)) ≡ true
  digits_shorter m n s h =
      let len = length-take n s in
      ⊎_elim
      (λ (lt : m < n). let le : m ≤ n = omega arith in ap digits (take-take m n s le) ∙ h)
      (λ (le : n ≤ m). ap digits (take_all m (take n s) (omega (arith, len)) ∙ sym (take-take n m s le)) ∙ digits_take n (take m s) h)
      (cases_lt m n)

  pub angle_shorter : (s : List ℕ) (n : ℕ) → allows_angle a s ≡ true → allows_angle a (take n s) ≡ true
  angle_shorter s n h =
      let p = open_parts s h in
      let k = figures_of a in
      let len = length-take n s in
      is_open (take n s) (record {
        short = omega (arith, len, p.short);
        digital = digits_shorter (k + 5) n s p.digital;
        by_one = λ l. ap (λ t. leb (number_of t) (most_of a)) (take-take k n s (omega (arith, len))) ∙ p.by_one (omega (arith, len));
        by_other = λ l. ap (λ c. leb c 53) (get_or-take n s k 0 (omega (arith, len))) ∙ p.by_other (omega (arith, len));
        by_whole = λ l. ap (is_angle a) (take_all n s (omega (arith, len, p.short))) ∙ p.by_whole (omega (arith, len));
      })

  -- the minutes by their two figures
  minutes_are : (s : List ℕ) → figures_of a + 2 ≤ length s → minutes_of a s ≡ (slice_index s (figures_of a) - 48) * 10 + (slice_index s (figures_of a + 1) - 48)
  minutes_are s l =
      let k = figures_of a in
      ap (λ t. number_of (take 2 t)) (drop_more s k 0 (omega arith) ∙ ap (λ t. slice_index s k ∷ t) (drop_more s (k + 1) 0 (omega arith))) ∙ omega arith

  pub angle_allowed : (s : List ℕ) → is_angle a s ≡ true → allows_angle a s ≡ true
  angle_allowed s h =
      let p = parts a s h in
      let long = p.long in
      let minute = p.minute in
      let most = near a (angle_of a s) p.ranged in
      let size = size_is a s in
      let tens = minutes_are s (omega arith) in
      is_open s (record {
        short = omega arith;
        digital = p.digital;
        by_one = λ _. le-leb (degrees_of a s) (most_of a) (omega arith);
        by_other = λ _. le-leb (slice_index s (figures_of a)) 53 (omega arith);
        by_whole = λ _. h;
      })

angle_empty : (a : Axis) → allows_angle a [] ≡ true
angle_empty Latitude = refl
angle_empty Longitude = refl

pub angle_laws : (a : Axis) → Lawful (angle_sets a)
angle_laws a = record {
  empty = angle_empty a;
  shorter = angle_shorter a;
  begun = λ s n h. angle_shorter a s n (angle_allowed a s h);
}
