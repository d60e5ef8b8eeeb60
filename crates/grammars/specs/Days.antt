-- The laws of Date.
use Rattle.std.specs.Prelude.{◌≡◌, ℕ, ◌-◌, ◌≤◌, true, not, ◌&&◌, List, length, take, ◌==◌, nat_le}
use Rattle.std.proofs.Common.{sym, ap, subst, ◌∙◌, arith, rules, lit≤, length-take}
use Rattle.std.proofs.ByRecursion.{All-get_or}
use Rattle.std.proofs.lemmas.List.{take_all}
use Rattle.std.proofs.lemmas.Bool.{cond_both, le-leb, leb-true, eqb-true, and_parts, and_from}
use Rattle.positions.specs.Numerals.{within, digits, number_of}
use Rattle.positions.proofs.Figures.{digits_take, field_take}
use Rattle.grammars.specs.Openings.{Judged, opened, closed}
use Rattle.grammars.specs.Dates.{day_of, month_of, year_of, months, longest, leap, length_of, is_day, admits_date, can_fall, allows_date}

pub within_gives : (low high n : ℕ) → within low high n ≡ true → (low ≤ n) × (n ≤ high)
within_gives low high n h = let p = and_parts (nat_le low n) (nat_le n high) h in (leb-true low n p.0, leb-true n high p.1)

pub within_holds : (low high n : ℕ) → low ≤ n → n ≤ high → within low high n ≡ true
within_holds low high n p q = and_from (nat_le low n) (nat_le n high) (le-leb low n p) (le-leb n high q)

longest_most : (m : ℕ) → 1 ≤ m → m ≤ 12 → longest m ≤ 31
unfolding longest
longest_most m p q = All-get_or (λ x. x ≤ 31) months (m - 1) 0 (omega arith) (search rules)

length_of_most : (m y : ℕ) → length_of m y ≤ longest m
unfolding longest
length_of_most m y =
    cond_both
    (m == 2 && not (leap y))
    28
    (longest m)
    (λ k. k ≤ longest m)
    (λ e. let two_th : m ≡ 2 = eqb-true m 2 (and_parts (m == 2) (not (leap y)) e).0 in subst (λ k. 28 ≤ longest k) (sym two_th) (lit≤ tt))
    (λ e. omega arith)

-- the parts of an opening that is allowed
abbrev pub Parts : List ℕ → Type 0
Parts s = Judged 8 2 4 s (digits s) (within 1 31 (day_of s)) (can_fall (day_of s) (month_of s)) (admits_date s)

parts : (s : List ℕ) → allows_date s ≡ true → Parts s
parts s = opened 8 2 4 s (digits s) (within 1 31 (day_of s)) (can_fall (day_of s) (month_of s)) (admits_date s)

joined : (s : List ℕ) → Parts s → allows_date s ≡ true
joined s = closed 8 2 4 s (digits s) (within 1 31 (day_of s)) (can_fall (day_of s) (month_of s)) (admits_date s)

pub date_shorter : (s : List ℕ) (n : ℕ) → allows_date s ≡ true → allows_date (take n s) ≡ true
date_shorter s n h =
    let p = parts s h in
    let len = length-take n s in
    joined (take n s) (record {
      short = omega (arith, len, p.short);
      digital = digits_take n s p.digital;
      by_one = λ l. ap (λ t. within 1 31 (number_of t)) (field_take n 0 2 s (omega (arith, len))) ∙ p.by_one (omega (arith, len));
      by_other = λ l. (λ k. can_fall (number_of (field_take n 0 2 s (omega (arith, len)) k)) (number_of (field_take n 2 2 s (omega (arith, len)) k))) ∙ p.by_other (omega (arith, len));
      by_whole = λ l. ap admits_date (take_all n s (omega (arith, len, p.short))) ∙ p.by_whole (omega (arith, len));
    })

pub admitted_allowed : (s : List ℕ) → admits_date s ≡ true → allows_date s ≡ true
admitted_allowed s h =
    let p = and_parts (length s == 8) (digits s && is_day (day_of s) (month_of s) (year_of s)) h in
    let q = and_parts (digits s) (is_day (day_of s) (month_of s) (year_of s)) p.1 in
    let r = and_parts (within 1900 2099 (year_of s)) (within 1 12 (month_of s) && within 1 (length_of (month_of s) (year_of s)) (day_of s)) q.1 in
    let t = and_parts (within 1 12 (month_of s)) (within 1 (length_of (month_of s) (year_of s)) (day_of s)) r.1 in
    let m = within_gives 1 12 (month_of s) t.0 in
    let d = within_gives 1 (length_of (month_of s) (year_of s)) (day_of s) t.1 in
    let eight : length s ≡ 8 = eqb-true (length s) 8 p.0 in
    let most = longest_most (month_of s) m.0 m.1 in
    let some = length_of_most (month_of s) (year_of s) in
    joined s (record {
      short = omega arith;
      digital = q.0;
      by_one = λ _. within_holds 1 31 (day_of s) d.0 (omega (arith, d.1));
      by_other = λ _. and_from (within 1 12 (month_of s)) (within 1 (longest (month_of s)) (day_of s)) t.0 (within_holds 1 (longest (month_of s)) (day_of s) d.0 (omega (arith, d.1)));
      by_whole = λ _. h;
    })
