-- The admitted dates are the days of the calendar.
use Rattle.std.proofs.Common.{◌≡◌, ℕ, zero, suc, ◌+◌, ◌-◌, ◌<◌, ◌≤◌, Bool, true, false, cond, not, ◌&&◌, eqb, ltb, List, ◌++◌, length, take, drop, Decides, sym, refl, ap, ◌∙◌, subst, ⊎_elim, add-one, arith}
use Rattle.std.proofs.lemmas.List.{length-take, length-drop, take_all, take-append-drop, drop-drop}
use Rattle.std.proofs.lemmas.Bool.{cases_lt, cond-true, cond-false, cond_both, lt-ltb, le-ltb, eqb-true, and_parts, and_from}
use Rattle.positions.specs.Numerals.{within, digits, number_of, numeral}
use Rattle.positions.proofs.Figures.{digits_numeral, digits_append, digits_take, field_digits, numeral_number}
use Rattle.grammars.specs.Dates.{day_of, month_of, year_of, longest, leap, length_of, is_day, admits_date}
use Rattle.grammars.specs.Calendar.{Day, thirty, days_in, tomorrow, nth_day, date_text, Dated, Calendar}
use Rattle.grammars.specs.Days.{within_gives, within_holds}

-- what comes before the k-th of a row of spans
abbrev before : (ℕ → ℕ) → ℕ → ℕ
before f zero = 0
before f (suc k) = before f k + f k

-- a number before the k-th lies in one of the spans before it
pub record Split (f : ℕ → ℕ) (k n : ℕ) : Type 0 where
  pub span : ℕ
  pub rest : ℕ
  pub early : span < k
  pub inside : rest < f span
  pub sum : n ≡ before f span + rest

split : (f : ℕ → ℕ) (k n : ℕ) → n < before f k → Split f k n
split f zero n h = let none : ⊥ = omega arith in absurd none
split f (suc k) n h =
    ⊎_elim
    (λ (lt : n < before f k). let t = split f k n lt in let e = t.early in record { span = t.span; rest = t.rest; early = omega arith; inside = t.inside; sum = t.sum })
    (λ (le : before f k ≤ n). record { span = k; rest = n - before f k; early = omega arith; inside = omega arith; sum = omega arith })
    (cases_lt n (before f k))

mono : (f : ℕ → ℕ) (j k : ℕ) → j ≤ k → before f j ≤ before f k
mono f j zero h = let e : j ≡ 0 = omega arith in subst (λ i. before f i ≤ 0) (sym e) (omega arith)
mono f j (suc k) h =
    ⊎_elim
    (λ (lt : j < suc k). let m = mono f j k (omega arith) in omega arith)
    (λ (le : suc k ≤ j). let e : j ≡ suc k = omega arith in subst (λ i. before f i ≤ before f (suc k)) (sym e) (omega arith))
    (cases_lt j (suc k))

-- the months of a year, and the years from 1900 on
abbrev month_span : ℕ → ℕ → ℕ
month_span y i = days_in (i + 1) y

abbrev year_span : ℕ → ℕ
year_span j = before (month_span (1900 + j)) 12

all_years : before year_span 200 ≡ 73049
all_years = refl

days_some : (m y : ℕ) → 1 ≤ days_in m y
days_some m y =
    cond_both (eqb m 2) (cond (leap y) 29 28) (cond (thirty m) 30 31) (λ k. 1 ≤ k)
    (λ _. cond_both (leap y) 29 28 (λ k. 1 ≤ k) (λ _. omega arith) (λ _. omega arith))
    (λ _. cond_both (thirty m) 30 31 (λ k. 1 ≤ k) (λ _. omega arith) (λ _. omega arith))

-- one day on
next : (n : ℕ) (t : Day) → nth_day n ≡ t → nth_day (n + 1) ≡ tomorrow t
unfolding nth_day
next n t e = ap nth_day (add-one n) ∙ ap tomorrow e

in_month : (k m y : ℕ) → nth_day k ≡ (1, m, y) → (i : ℕ) → i < days_in m y → nth_day (k + i) ≡ (i + 1, m, y)
in_month k m y e zero h = ap nth_day (omega arith) ∙ e
in_month k m y e (suc i) h =
    let before-it = in_month k m y e i (omega arith) in
    let count : i + 1 + 1 ≡ suc i + 1 = omega arith in
    ap nth_day (omega arith)
    ∙ next (k + i) (i + 1, m, y) before-it
    ∙ cond-true (ltb (i + 1) (days_in m y)) (i + 1 + 1, m, y) (cond (ltb m 12) (1, m + 1, y) (1, 1, y + 1)) (lt-ltb (i + 1) (days_in m y) (omega arith))
    ∙ (λ j. (count j, m, y))

-- past the last day of a month
past_month : (k m y : ℕ) → nth_day k ≡ (1, m, y) → nth_day (k + days_in m y) ≡ cond (ltb m 12) (1, m + 1, y) (1, 1, y + 1)
past_month k m y e =
    let some = days_some m y in
    let n = days_in m y - 1 in
    let here = in_month k m y e n (omega arith) in
    ap nth_day (omega arith)
    ∙ next (k + n) (n + 1, m, y) here
    ∙ cond-false (ltb (n + 1) (days_in m y)) (n + 1 + 1, m, y) (cond (ltb m 12) (1, m + 1, y) (1, 1, y + 1)) (le-ltb (n + 1) (days_in m y) (omega arith))

in_year : (k y : ℕ) → nth_day k ≡ (1, 1, y) → (i : ℕ) → i < 12 → nth_day (k + before (month_span y) i) ≡ (1, i + 1, y)
in_year k y e zero h = ap nth_day (omega arith) ∙ e
in_year k y e (suc i) h =
    let count : i + 1 + 1 ≡ suc i + 1 = omega arith in
    ap nth_day (omega arith)
    ∙ past_month (k + before (month_span y) i) (i + 1) y (in_year k y e i (omega arith))
    ∙ cond-true (ltb (i + 1) 12) (1, i + 1 + 1, y) (1, 1, y + 1) (lt-ltb (i + 1) 12 (omega arith))
    ∙ (λ j. (1, count j, y))

first_day : nth_day 0 ≡ (1, 1, 1900)
unfolding nth_day
first_day = refl

new_year : (j : ℕ) → nth_day (before year_span j) ≡ (1, 1, 1900 + j)
new_year zero = first_day
new_year (suc j) =
    let y = 1900 + j in
    let count : y + 1 ≡ 1900 + suc j = omega arith in
    ap nth_day (omega arith)
    ∙ past_month (before year_span j + before (month_span y) 11) 12 y (in_year (before year_span j) y (new_year j) 11 (omega arith))
    ∙ (λ i. (1, 1, count i))

-- the number of days before the day i + 1 of the month m + 1 of the year 1900 + j
abbrev number : ℕ → ℕ → ℕ → ℕ
number j m i = before year_span j + before (month_span (1900 + j)) m + i

the_day : (j m i : ℕ) → m < 12 → i < days_in (m + 1) (1900 + j) → nth_day (number j m i) ≡ (i + 1, m + 1, 1900 + j)
the_day j m i hm hi =
    in_month (before year_span j + before (month_span (1900 + j)) m) (m + 1) (1900 + j) (in_year (before year_span j) (1900 + j) (new_year j) m hm) i hi

-- each of the days has a year, a month and a day
pub record Located (n : ℕ) : Type 0 where
  pub j : ℕ
  pub m : ℕ
  pub i : ℕ
  pub in_years : j < 200
  pub in_months : m < 12
  pub in_days : i < days_in (m + 1) (1900 + j)
  pub numbered : n ≡ number j m i

located : (n : ℕ) → n < 73049 → Located n
located n h =
    let years = split year_span 200 n (subst (λ k. n < k) (sym all_years) h) in
    let months = split (month_span (1900 + years.span)) 12 years.rest years.inside in
    let a = years.sum in
    let b = months.sum in
    record {
      j = years.span;
      m = months.span;
      i = months.rest;
      in_years = years.early;
      in_months = months.early;
      in_days = months.inside;
      numbered = omega arith;
    }

-- and each such day is one of them
number_small : (j m i : ℕ) → j < 200 → m < 12 → i < days_in (m + 1) (1900 + j) → number j m i < 73049
number_small j m i hj hm hi =
    let a = mono (month_span (1900 + j)) (suc m) 12 (omega arith) in
    let b = mono year_span (suc j) 200 (omega arith) in
    let c : before year_span 200 ≡ 73049 = all_years in
    omega arith

-- what holds of each number below k
abbrev Upto : (ℕ → Type 0) → ℕ → Type 0
Upto P zero = Unit {0}
Upto P (suc k) = Upto P k × P k

each : (P : ℕ → Type 0) (k : ℕ) → Upto P k → (m : ℕ) → m < k → P m
each P zero a m h = let none : ⊥ = omega arith in absurd none
each P (suc k) a m h =
    ⊎_elim
    (λ (lt : m < k). each P k a.0 m lt)
    (λ (le : k ≤ m). let e : k ≡ m = omega arith in subst P e a.1)
    (cases_lt m k)

-- the length of a month, by the table
february : (b : Bool) → ◌≡◌ {A = ℕ} (cond b 29 28) (cond (not b) 28 29)
february true = refl
february false = refl

days_are : (m y : ℕ) → m < 12 → days_in (m + 1) y ≡ length_of (m + 1) y
unfolding longest
days_are m y h =
    each (λ i. days_in (i + 1) y ≡ length_of (i + 1) y) 12
    ((((((((((((tt, refl), february (leap y)), refl), refl), refl), refl), refl), refl), refl), refl), refl), refl) m h

-- the text of a date, and the date of a text
module _ (d m y : ℕ) (hd : d < 100) (hm : m < 100) (hy : y < 10000) where
  day_back : day_of (date_text (d, m, y)) ≡ d
  unfolding numeral
  day_back = omega arith

  month_back : month_of (date_text (d, m, y)) ≡ m
  unfolding numeral
  month_back = omega arith

  year_back : year_of (date_text (d, m, y)) ≡ y
  unfolding numeral
  year_back = omega arith

  length_back : length (date_text (d, m, y)) ≡ 8
  unfolding numeral
  length_back = refl

  pub day_admitted : is_day d m y ≡ true → admits_date (date_text (d, m, y)) ≡ true
  day_admitted h =
      let s = date_text (d, m, y) in
      and_from (eqb (length s) 8) (digits s && is_day (day_of s) (month_of s) (year_of s)) (ap (λ n. eqb n 8) length_back)
      (and_from (digits s) (is_day (day_of s) (month_of s) (year_of s))
      (digits_append (numeral 2 d) (numeral 2 m ++ numeral 4 y) (digits_numeral 2 d) (digits_append (numeral 2 m) (numeral 4 y) (digits_numeral 2 m) (digits_numeral 4 y)))
      ((λ i. is_day (day_back i) (month_back i) (year_back i)) ∙ h))

text_again : (s : List ℕ) → length s ≡ 8 → digits s ≡ true → s ≡ date_text (day_of s, month_of s, year_of s)
text_again s l h =
    let digital : digits (take 8 s) ≡ true = digits_take 8 s h in
    let field : (i m : ℕ) → i + m ≤ 8 → numeral m (number_of (take m (drop i s))) ≡ take m (drop i s) =
    λ i m fits. (numeral_number m (take m (drop i s)) (length-take m (drop i s) ∙ omega (arith, length-drop i s)) (field_digits 8 i m s fits digital)).0 in
    let rest : drop 2 s ≡ take 2 (drop 2 s) ++ take 4 (drop 4 s) =
    sym (take-append-drop 2 (drop 2 s)) ∙ ap (λ t. take 2 (drop 2 s) ++ t) (drop-drop 2 2 s ∙ sym (take_all 4 (drop 4 s) (omega (arith, length-drop 4 s)))) in
    sym (take-append-drop 2 s)
    ∙ ap (λ t. take 2 s ++ t) rest
    ∙ sym (λ i. field 0 2 (omega arith) i ++ (field 2 2 (omega arith) i ++ field 4 4 (omega arith) i))

-- the parts of an admitted date
pub record Bounds (d m y : ℕ) : Type 0 where
  pub year_low : 1900 ≤ y
  pub year_high : y ≤ 2099
  pub month_low : 1 ≤ m
  pub month_high : m ≤ 12
  pub day_low : 1 ≤ d
  pub day_high : d ≤ length_of m y

day_parts : (d m y : ℕ) → is_day d m y ≡ true → Bounds d m y
day_parts d m y h =
    let p = and_parts (within 1900 2099 y) (within 1 12 m && within 1 (length_of m y) d) h in
    let q = and_parts (within 1 12 m) (within 1 (length_of m y) d) p.1 in
    let a = within_gives 1900 2099 y p.0 in
    let b = within_gives 1 12 m q.0 in
    let c = within_gives 1 (length_of m y) d q.1 in
    record { year_low = a.0; year_high = a.1; month_low = b.0; month_high = b.1; day_low = c.0; day_high = c.1 }

day_from : (d m y : ℕ) → Bounds d m y → is_day d m y ≡ true
day_from d m y p =
    and_from (within 1900 2099 y) (within 1 12 m && within 1 (length_of m y) d) (within_holds 1900 2099 y p.year_low p.year_high)
    (and_from (within 1 12 m) (within 1 (length_of m y) d) (within_holds 1 12 m p.month_low p.month_high) (within_holds 1 (length_of m y) d p.day_low p.day_high))

days_few : (m y : ℕ) → days_in m y ≤ 31
days_few m y =
    cond_both (eqb m 2) (cond (leap y) 29 28) (cond (thirty m) 30 31) (λ k. k ≤ 31)
    (λ _. cond_both (leap y) 29 28 (λ k. k ≤ 31) (λ _. omega arith) (λ _. omega arith))
    (λ _. cond_both (thirty m) 30 31 (λ k. k ≤ 31) (λ _. omega arith) (λ _. omega arith))

-- a date that is real is one of the days
numbered : (d m y : ℕ) → Bounds d m y → (n : ℕ) × (n < 73049) × (nth_day n ≡ (d, m, y))
numbered d m y p =
    let yl = p.year_low in
    let yh = p.year_high in
    let ml = p.month_low in
    let mh = p.month_high in
    let dl = p.day_low in
    let dh = p.day_high in
    let j = y - 1900 in
    let k = m - 1 in
    let i = d - 1 in
    let ey : 1900 + j ≡ y = omega arith in
    let em : k + 1 ≡ m = omega arith in
    let ed : i + 1 ≡ d = omega arith in
    let span : days_in (k + 1) (1900 + j) ≡ length_of m y = days_are k (1900 + j) (omega arith) ∙ (λ t. length_of (em t) (ey t)) in
    let room : i < days_in (k + 1) (1900 + j) = omega arith in
    (number j k i, number_small j k i (omega arith) (omega arith) room, the_day j k i (omega arith) room ∙ (λ t. (ed t, em t, ey t)))

-- what is known of the n-th day
module _ (n : ℕ) (h : n < 73049) where
  abbrev place : Located n
  place = located n h

  shown : nth_day n ≡ (place.i + 1, place.m + 1, 1900 + place.j)
  shown = ap nth_day place.numbered ∙ the_day place.j place.m place.i place.in_months place.in_days

  text_shown : date_text (nth_day n) ≡ date_text (place.i + 1, place.m + 1, 1900 + place.j)
  text_shown = ap date_text shown

  small_day : place.i + 1 < 100
  small_day = let a = place.in_days in let b = days_few (place.m + 1) (1900 + place.j) in omega arith

  small_month : place.m + 1 < 100
  small_month = let a = place.in_months in omega arith

  small_year : 1900 + place.j < 10000
  small_year = let a = place.in_years in omega arith

  pub nth_admitted : admits_date (date_text (nth_day n)) ≡ true
  nth_admitted =
      let a = place.in_days in
      let b = place.in_months in
      let c = place.in_years in
      let e = days_are place.m (1900 + place.j) b in
      ap admits_date text_shown
      ∙ day_admitted (place.i + 1) (place.m + 1) (1900 + place.j) small_day small_month small_year
      (day_from (place.i + 1) (place.m + 1) (1900 + place.j) (record { year_low = omega arith; year_high = omega arith; month_low = omega arith; month_high = omega arith; day_low = omega arith; day_high = omega arith }))

  day_is : day_of (date_text (nth_day n)) ≡ place.i + 1
  day_is = ap day_of text_shown ∙ day_back (place.i + 1) (place.m + 1) (1900 + place.j) small_day small_month small_year

  month_is : month_of (date_text (nth_day n)) ≡ place.m + 1
  month_is = ap month_of text_shown ∙ month_back (place.i + 1) (place.m + 1) (1900 + place.j) small_day small_month small_year

  year_is : year_of (date_text (nth_day n)) ≡ 1900 + place.j
  year_is = ap year_of text_shown ∙ year_back (place.i + 1) (place.m + 1) (1900 + place.j) small_day small_month small_year

once : (m n : ℕ) → m < 73049 → n < 73049 → date_text (nth_day m) ≡ date_text (nth_day n) → m ≡ n
once m n hm hn e =
    let a = located m hm in
    let b = located n hn in
    let i-same : a.i ≡ b.i = omega (arith, day_is m hm, day_is n hn, ap day_of e) in
    let m-same : a.m ≡ b.m = omega (arith, month_is m hm, month_is n hn, ap month_of e) in
    let j-same : a.j ≡ b.j = omega (arith, year_is m hm, year_is n hn, ap year_of e) in
    a.numbered ∙ (λ t. number (j-same t) (m-same t) (i-same t)) ∙ sym b.numbered

dated : (s : List ℕ) → admits_date s ≡ true → Dated s
dated s h =
    let p = and_parts (eqb (length s) 8) (digits s && is_day (day_of s) (month_of s) (year_of s)) h in
    let q = and_parts (digits s) (is_day (day_of s) (month_of s) (year_of s)) p.1 in
    let r = numbered (day_of s) (month_of s) (year_of s) (day_parts (day_of s) (month_of s) (year_of s) q.1) in
    (r.0, r.1, text_again s (eqb-true (length s) 8 p.0) q.0 ∙ ap date_text (sym r.2))

-- the admitted texts are those of these days
pub admitted_dated : (s : List ℕ) → Decides (admits_date s) (Dated s)
admitted_dated s = (dated s, λ d. ap admits_date d.2 ∙ nth_admitted d.0 d.1)

pub calendar : Calendar
calendar = record {
  last = the_day 199 11 30 (omega arith) (omega arith);
  once = once;
}
