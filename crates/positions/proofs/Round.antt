-- Texts and angles correspond one to one, for either axis.
use Rattle.std.proofs.Common.{◌≡◌, ℕ, zero, suc, ◌+◌, ◌*◌, ◌/◌, ◌%◌, ◌^◌, ◌<◌, ◌≤◌, Bool, true, false, cond, ◌&&◌, ◌==◌, eqb, ltb, leb, List, [], ◌∷◌, ◌++◌, length, get_or, take, drop, ℤ, pos, negsuc, neg_ℤ, nat_abs, Some, None, Ok, Err, Decides, Result, sym, refl, ap, ◌∙◌, subst, ⊎_elim, arith, MatchResult}
use Rattle.std.proofs.Math.Bool.{and-false}
use Rattle.std.proofs.lemmas.List.{append_assoc, length-append, length-take, length-drop, take_at, drop_at, drop-drop, take-append-drop, get_or_at, drop_more, drop_all}
use Rattle.std.proofs.lemmas.Bool.{leb-true, ltb-true, lt-ltb, le-ltb, eqb-true, eq-eqb, and_parts, and_from, cond-true, cond-false, cond_both, cases_Bool}
use Rattle.std.specs.Option.{ok_or, option_zip}
use Rattle.positions.specs.declared.angles.Axis.{Axis}
use Rattle.positions.specs.declared.angles.Axis.TheVariants.{Latitude, Longitude}
use Rattle.positions.specs.Numerals.{digits, number_of, numeral}
use Rattle.positions.specs.Angles.{figures_of, most_of, in_range, positive_of, negative_of, letter_for, width_of, degrees_of, minutes_of, thousandths_of, letter_of, magnitude_of, angle_of, fitting, is_angle, angle_text, angle_read, Written}
use Rattle.positions.specs.declared.Refusal.{Refusal}
use Rattle.positions.specs.declared.Refusal.TheVariants.{Position}
use Rattle.positions.specs.Positions.{is_position, pair_of, reading, is_pair, position_text, Says}
use Rattle.positions.proofs.Figures.{length_numeral, number_numeral, digits_numeral, digits_append, field_digits, numeral_number}

-- what holds of both axes

-- the degrees have room in their figures
room : (a : Axis) → most_of a < 10 ^ figures_of a
room Latitude = omega arith
room Longitude = omega arith

apart : (a : Axis) → eqb (positive_of a) (negative_of a) ≡ false
apart Latitude = refl
apart Longitude = refl

pub near : (a : Axis) (z : ℤ) → in_range a z ≡ true → nat_abs z ≤ most_of a * 60000
near Latitude (pos n) h = leb-true n 5400000 h
near Latitude (negsuc n) h = let l = leb-true n 5399999 (and_parts (leb n 5399999) true h).0 in omega arith
near Longitude (pos n) h = leb-true n 10800000 h
near Longitude (negsuc n) h = let l = leb-true n 10799998 (and_parts (leb n 10799998) true h).0 in omega arith

-- the parts of a text: three fields and a letter
module _ (k : ℕ) (x y t : List ℕ) (h : ℕ) (lx : length x ≡ k) (ly : length y ≡ 2) (lt : length t ≡ 3) where
  abbrev whole : List ℕ
  whole = x ++ (y ++ (t ++ (h ∷ [])))

  first : take k whole ≡ x
  first = take_at x (y ++ (t ++ (h ∷ []))) k lx

  past_first : drop k whole ≡ y ++ (t ++ (h ∷ []))
  past_first = drop_at x (y ++ (t ++ (h ∷ []))) k lx

  second : take 2 (drop k whole) ≡ y
  second = ap (take 2) past_first ∙ take_at y (t ++ (h ∷ [])) 2 ly

  past_second : drop (k + 2) whole ≡ t ++ (h ∷ [])
  past_second = sym (drop-drop 2 k whole) ∙ ap (drop 2) past_first ∙ drop_at y (t ++ (h ∷ [])) 2 ly

  third : take 3 (drop (k + 2) whole) ≡ t
  third = ap (take 3) past_second ∙ take_at t (h ∷ []) 3 lt

  joined : whole ≡ (x ++ (y ++ t)) ++ (h ∷ [])
  joined = sym (append_assoc x (y ++ t) (h ∷ []) ∙ ap (λ s. x ++ s) (append_assoc y t (h ∷ [])))

  long : length (x ++ (y ++ t)) ≡ k + 5
  long = omega (arith, length-append x (y ++ t), length-append y t)

  figures : take (k + 5) whole ≡ x ++ (y ++ t)
  figures = ap (take (k + 5)) joined ∙ take_at (x ++ (y ++ t)) (h ∷ []) (k + 5) long

  last : get_or whole (k + 5) 0 ≡ h
  last = ap (λ s. get_or s (k + 5) 0) joined ∙ get_or_at (x ++ (y ++ t)) h [] 0 (k + 5) long

  width : length whole ≡ k + 6
  width = ap length joined ∙ length-append (x ++ (y ++ t)) (h ∷ []) ∙ (let l = long in omega arith)

-- the value of a size on the side of its letter
abbrev side : Axis → ℕ → ℕ → ℤ
side a h m = cond (eqb h (negative_of a)) (neg_ℤ (pos m)) (pos m)

side_size : (a : Axis) (h m : ℕ) → nat_abs (side a h m) ≡ m
side_size a h m =
    ⊎_elim
    (λ e. ap nat_abs (cond-true (eqb h (negative_of a)) (neg_ℤ (pos m)) (pos m) e) ∙ down m)
    (λ e. ap nat_abs (cond-false (eqb h (negative_of a)) (neg_ℤ (pos m)) (pos m) e))
    (cases_Bool (eqb h (negative_of a)))
  where
    down : (n : ℕ) → nat_abs (neg_ℤ (pos n)) ≡ n
    down zero = refl
    down (suc n) = refl

-- an angle is its size on the side of its letter
side_of : (a : Axis) (z : ℤ) → side a (letter_for a z) (nat_abs z) ≡ z
side_of a (pos n) =
    ap (λ h. side a h n) (cond-false (ltb n 0) (negative_of a) (positive_of a) (le-ltb n 0 (omega arith)))
    ∙ cond-false (eqb (positive_of a) (negative_of a)) (neg_ℤ (pos n)) (pos n) (apart a)
side_of a (negsuc n) = cond-true (eqb (negative_of a) (negative_of a)) (neg_ℤ (pos (suc n))) (pos (suc n)) (eq-eqb (negative_of a) (negative_of a) refl)

-- what is written reads back
module _ (a : Axis) (z : ℤ) (h : in_range a z ≡ true) where
  abbrev m : ℕ
  m = nat_abs z

  abbrev x : List ℕ
  x = numeral (figures_of a) (m / 60000)

  abbrev y : List ℕ
  y = numeral 2 (m / 1000 % 60)

  abbrev t : List ℕ
  t = numeral 3 (m % 1000)

  lx : length x ≡ figures_of a
  lx = length_numeral (figures_of a) (m / 60000)

  ly : length y ≡ 2
  ly = length_numeral 2 (m / 1000 % 60)

  lt : length t ≡ 3
  lt = length_numeral 3 (m % 1000)

  abbrev s : List ℕ
  s = angle_text a z

  degrees_back : degrees_of a s ≡ m / 60000
  degrees_back =
      ap number_of (first (figures_of a) x y t (letter_for a z) lx ly lt)
      ∙ number_numeral (figures_of a) (m / 60000) (let n = near a z h in let r = room a in omega arith)

  minutes_back : minutes_of a s ≡ m / 1000 % 60
  minutes_back = ap number_of (second (figures_of a) x y t (letter_for a z) lx ly lt) ∙ number_numeral 2 (m / 1000 % 60) (omega arith)

  thousandths_back : thousandths_of a s ≡ m % 1000
  thousandths_back = ap number_of (third (figures_of a) x y t (letter_for a z) lx ly lt) ∙ number_numeral 3 (m % 1000) (omega arith)

  size_back : magnitude_of a s ≡ m
  size_back = let d = degrees_back in let n = minutes_back in let u = thousandths_back in omega arith

  letter_back : letter_of a s ≡ letter_for a z
  letter_back = last (figures_of a) x y t (letter_for a z) lx ly lt

  pub angle_back : angle_of a s ≡ z
  angle_back = (λ i. side a (letter_back i) (size_back i)) ∙ side_of a z

  pub text_width : length s ≡ width_of a
  text_width = width (figures_of a) x y t (letter_for a z) lx ly lt

  pub text_is_angle : is_angle a s ≡ true
  text_is_angle =
      and_from (eqb (length s) (width_of a)) _ (eq-eqb (length s) (width_of a) text_width)
      (and_from (digits (take (figures_of a + 5) s)) _
      (ap digits (figures (figures_of a) x y t (letter_for a z) lx ly lt)
      ∙ digits_append x (y ++ t) (digits_numeral (figures_of a) (m / 60000)) (digits_append y t (digits_numeral 2 (m / 1000 % 60)) (digits_numeral 3 (m % 1000))))
      (and_from (ltb (minutes_of a s) 60) _ (lt-ltb (minutes_of a s) 60 (let n = minutes_back in omega arith))
      ((λ i. fitting a (letter_back i) (angle_back i))
      ∙ and_from (in_range a z) (eqb (letter_for a z) (letter_for a z)) h (eq-eqb (letter_for a z) (letter_for a z) refl))))

-- a text of k + 6 symbols is its parts
parts_of : (k : ℕ) (s : List ℕ) → length s ≡ k + 6 → take k s ++ (take 2 (drop k s) ++ (take 3 (drop (k + 2) s) ++ (get_or s (k + 5) 0 ∷ []))) ≡ s
parts_of k s l =
    let end : drop (k + 5) s ≡ get_or s (k + 5) 0 ∷ [] =
    drop_more s (k + 5) 0 (omega arith) ∙ ap (λ q. get_or s (k + 5) 0 ∷ q) (drop_all (k + 5 + 1) s (omega arith)) in
    let third : take 3 (drop (k + 2) s) ++ (get_or s (k + 5) 0 ∷ []) ≡ drop (k + 2) s =
    ap (λ q. take 3 (drop (k + 2) s) ++ q) (sym end ∙ ap (λ n. drop n s) (omega arith) ∙ sym (drop-drop 3 (k + 2) s)) ∙ take-append-drop 3 (drop (k + 2) s) in
    let second : take 2 (drop k s) ++ drop (k + 2) s ≡ drop k s =
    ap (λ q. take 2 (drop k s) ++ q) (sym (drop-drop 2 k s)) ∙ take-append-drop 2 (drop k s) in
    ap (λ q. take k s ++ (take 2 (drop k s) ++ q)) third ∙ ap (λ q. take k s ++ q) second ∙ take-append-drop k s

-- the parts of an admitted text
pub record Parts (a : Axis) (s : List ℕ) : Type 0 where
  pub long : length s ≡ width_of a
  pub digital : digits (take (figures_of a + 5) s) ≡ true
  pub minute : minutes_of a s < 60
  pub ranged : in_range a (angle_of a s) ≡ true
  pub lettered : letter_of a s ≡ letter_for a (angle_of a s)

pub parts : (a : Axis) (s : List ℕ) → is_angle a s ≡ true → Parts a s
parts a s h =
    let p = and_parts (eqb (length s) (width_of a)) _ h in
    let q = and_parts (digits (take (figures_of a + 5) s)) _ p.1 in
    let r = and_parts (ltb (minutes_of a s) 60) _ q.1 in
    let t = and_parts (in_range a (angle_of a s)) (eqb (letter_of a s) (letter_for a (angle_of a s))) r.1 in
    record {
      long = eqb-true (length s) (width_of a) p.0;
      digital = q.0;
      minute = ltb-true (minutes_of a s) 60 r.0;
      ranged = t.0;
      lettered = eqb-true (letter_of a s) (letter_for a (angle_of a s)) t.1;
    }

-- the size of a text on either side is that of its angle
pub size_is : (a : Axis) (s : List ℕ) → nat_abs (angle_of a s) ≡ magnitude_of a s
size_is a s = side_size a (letter_of a s) (magnitude_of a s)

-- what is read is written out again
pub text_back : (a : Axis) (s : List ℕ) → is_angle a s ≡ true → angle_text a (angle_of a s) ≡ s
text_back a s h =
    let p = parts a s h in
    let k = figures_of a in
    let m = nat_abs (angle_of a s) in
    let size = size_is a s in
    let minute = p.minute in
    let l : length s ≡ k + 6 = p.long in
    let x = numeral_number k (take k s) (length-take k s ∙ omega arith) (field_digits (k + 5) 0 k s (omega arith) p.digital) in
    let y = numeral_number 2 (take 2 (drop k s)) (length-take 2 (drop k s) ∙ omega (arith, length-drop k s)) (field_digits (k + 5) k 2 s (omega arith) p.digital) in
    let t = numeral_number 3 (take 3 (drop (k + 2) s)) (length-take 3 (drop (k + 2) s) ∙ omega (arith, length-drop (k + 2) s)) (field_digits (k + 5) (k + 2) 3 s (omega arith) p.digital) in
    let below : thousandths_of a s < 1000 = t.1 in
    let degrees : m / 60000 ≡ degrees_of a s = omega arith in
    let minutes : m / 1000 % 60 ≡ minutes_of a s = omega arith in
    let thousandths : m % 1000 ≡ thousandths_of a s = omega arith in
    (λ i. (ap (numeral k) degrees ∙ x.0) i ++ ((ap (numeral 2) minutes ∙ y.0) i ++ ((ap (numeral 3) thousandths ∙ t.0) i ++ (sym p.lettered i ∷ []))))
    ∙ parts_of k s l

-- the texts of angles in range are those that are read
pub angle_written : (a : Axis) (s : List ℕ) → Decides (is_angle a s) (Written a s)
angle_written a s = (
  λ h. (angle_of a s, (parts a s h).ranged, sym (text_back a s h)),
  λ w. ap (is_angle a) w.2 ∙ text_is_angle a w.0 w.1,
)

-- positions

pub pair_back : (y x : ℤ) → is_pair y x ≡ true → reading (position_text y x) ≡ Ok (y, x)
pair_back y x h =
    let p = and_parts (in_range Latitude y) (in_range Longitude x) h in
    let s = angle_text Latitude y in
    let t = angle_text Longitude x in
    let ls : length s ≡ 8 = text_width Latitude y p.0 in
    let lt : length t ≡ 9 = text_width Longitude x p.1 in
    let head = take_at s t 8 ls in
    let tail = drop_at s t 8 ls in
    cond-true (is_position (s ++ t)) (Ok (pair_of (s ++ t))) (Err Position)
    (and_from (eqb (length (s ++ t)) 17) _ (eq-eqb (length (s ++ t)) 17 (length-append s t ∙ omega arith))
    (and_from (is_angle Latitude (take 8 (s ++ t))) (is_angle Longitude (drop 8 (s ++ t)))
    (ap (is_angle Latitude) head ∙ text_is_angle Latitude y p.0)
    (ap (is_angle Longitude) tail ∙ text_is_angle Longitude x p.1)))
    ∙ (λ i. Ok ((ap (angle_of Latitude) head ∙ angle_back Latitude y p.0) i, (ap (angle_of Longitude) tail ∙ angle_back Longitude x p.1) i))

pub pair_again : (s : List ℕ) → is_position s ≡ true → (is_pair (pair_of s).0 (pair_of s).1 ≡ true) × (position_text (pair_of s).0 (pair_of s).1 ≡ s)
pair_again s h =
    let p = and_parts (is_angle Latitude (take 8 s)) (is_angle Longitude (drop 8 s)) (and_parts (eqb (length s) 17) _ h).1 in
    let y = parts Latitude (take 8 s) p.0 in
    let x = parts Longitude (drop 8 s) p.1 in (
      and_from (in_range Latitude (angle_of Latitude (take 8 s))) (in_range Longitude (angle_of Longitude (drop 8 s))) y.ranged x.ranged,
      (λ i. text_back Latitude (take 8 s) p.0 i ++ text_back Longitude (drop 8 s) p.1 i) ∙ take-append-drop 8 s,
    )

-- two angles read are a pair
both_read : (a b : Bool) (y x : ℤ) → ok_or (option_zip (cond a (Some y) None) (cond b (Some x) None)) Position ≡ cond (a && b) (Ok (y, x)) (Err Position)
both_read true true y x = refl
both_read true false y x = refl
both_read false true y x = refl
both_read false false y x = refl

-- what the first 8 symbols and the others read as is what the text reads as: two angles are 17 symbols long
pub angles_read : (s : List ℕ) → ok_or (option_zip (angle_read Latitude (take 8 s)) (angle_read Longitude (drop 8 s))) Position ≡ reading s
angles_read s =
    let y = take 8 s in
    let x = drop 8 s in
    let both = is_angle Latitude y && is_angle Longitude x in
    let long : both ≡ (length s == 17 && both) =
    ⊎_elim
    (λ (yes' : both ≡ true).
    let p = and_parts (is_angle Latitude y) (is_angle Longitude x) yes' in
    let front = eqb-true (length y) 8 (and_parts (length y == 8) _ p.0).0 in
    let back = eqb-true (length x) 9 (and_parts (length x == 9) _ p.1).0 in
    sym (λ i. eq-eqb (length s) 17 (omega (arith, length-take 8 s, length-drop 8 s, front, back)) i && both))
    (λ (no' : both ≡ false). no' ∙ sym ((λ i. length s == 17 && no' i) ∙ and-false (length s == 17)))
    (cases_Bool both) in
    both_read (is_angle Latitude y) (is_angle Longitude x) (angle_of Latitude y) (angle_of Longitude x) ∙ (λ i. cond (long i) (Ok (pair_of s)) (Err Position))

-- what is read is the pair of its text, and what is refused is the text of no pair
abbrev pub Said : List ℕ → Result (ℤ × ℤ) Refusal → Type 0
Said s r = MatchResult r (λ p. Says s p.0 p.1) (λ _. (y x : ℤ) → Says s y x → ⊥)

pub said : (s : List ℕ) → Said s (reading s)
said s =
    cond_both (is_position s) (Ok (pair_of s)) (Err Position) (Said s)
    (λ h. let p = pair_again s h in (p.0, sym p.1))
    (λ bad y x says.
    let read : reading s ≡ Ok (y, x) = ap reading says.1 ∙ pair_back y x says.0 in
    let none : reading s ≡ Err Position = cond-false (is_position s) (Ok (pair_of s)) (Err Position) bad in
    let z : ◌≡◌ {A = ℕ} 0 1 = cc in
    omega arith)

-- a text that reads as a pair is the pair's text
pub one_text : (y x : ℤ) (s : List ℕ) → reading s ≡ Ok (y, x) → s ≡ position_text y x
one_text y x s e = (subst (Said s) e (said s)).1

pub text_long : (y x : ℤ) → is_pair y x ≡ true → length (position_text y x) ≡ 17
text_long y x h =
    let r = and_parts (in_range Latitude y) (in_range Longitude x) h in
    let ls : length (angle_text Latitude y) ≡ 8 = text_width Latitude y r.0 in
    let lt : length (angle_text Longitude x) ≡ 9 = text_width Longitude x r.1 in
    length-append (angle_text Latitude y) (angle_text Longitude x) ∙ omega arith
