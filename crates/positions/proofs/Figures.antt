-- Numerals of a fixed width: what is written reads as the number, and what is read is written again.
use Rattle.std.proofs.Common.{◌≡◌, ℕ, zero, suc, ◌+◌, ◌-◌, ◌*◌, ◌/◌, ◌%◌, ◌^◌, ◌<◌, ◌≤◌, min, true, leb, List, [], ◌∷◌, ◌++◌, length, get_or, take, drop, set, sym, refl, ap, ◌∙◌, ⊎_elim, pow-suc, add-one, arith}
use Rattle.std.specs.List.{fold}
use Rattle.std.proofs.Math.Nat.{mul_assoc, mul-le-mul_right, pow-succ'}
use borrow.Rule.Slice.PartMut.{put_mid, post_of}
use Rattle.std.proofs.lemmas.List.{append_assoc, length-append, length-take, take_all, take_more, drop-set, take_at, drop_at, set_at, drop_more, drop_all, drop-take, take-take, length-drop, take-append-drop}
use Rattle.std.proofs.lemmas.List.Folds.{list_all-append}
use Rattle.std.proofs.lemmas.List.Sums.{fold-append}
use Rattle.std.proofs.lemmas.Bool.{cases_lt, leb-true, le-leb, and_parts, and_from}
use Rattle.positions.specs.Numerals.{within, digits, number_after, number_of, numeral}

pub length_numeral : (k n : ℕ) → length (numeral k n) ≡ k
unfolding numeral
length_numeral zero n = refl
length_numeral (suc k) n = length-append (numeral k (n / 10)) ((48 + n % 10) ∷ []) ∙ (let h = length_numeral k (n / 10) in omega arith)

-- a numeral has the figures that its length says
pub as_numeral : (s : List ℕ) (k l m n : ℕ) → s ≡ numeral l m → length s ≡ k → m ≡ n → s ≡ numeral k n
as_numeral s k l m n e h q =
    let same : l ≡ k = sym (length_numeral l m) ∙ sym (ap length e) ∙ h in
    e ∙ (λ i. numeral (same i) (q i))

-- one figure more, written from the back
written_at : (j n : ℕ) (p : List ℕ) → j < length p → numeral (suc j) n ++ drop (suc j) p ≡ numeral j (n / 10) ++ drop j (set p j (48 + n % 10))
unfolding numeral
written_at j n p h =
    append_assoc (numeral j (n / 10)) ((48 + n % 10) ∷ []) (drop (suc j) p)
    ∙ ap (λ t. numeral j (n / 10) ++ t) (ap (λ i. (48 + n % 10) ∷ drop i p) (sym (add-one j)) ∙ sym (drop-set p j (48 + n % 10) h))

pub written_more : (i n : ℕ) (p : List ℕ) → 0 < i → i ≤ length p → numeral i n ++ drop i p ≡ numeral (i - 1) (n / 10) ++ drop (i - 1) (set p (i - 1) (48 + n % 10))
written_more i n p h l =
    let e : i ≡ suc (i - 1) = omega arith in
    ap (λ j. numeral j n ++ drop j p) e ∙ written_at (i - 1) n p (omega arith)

-- y written behind x, over the beginning of q
pub put_next : (m n : ℕ) (x q y : List ℕ) → length x ≡ m → put_mid m n (x ++ q) y ≡ (x ++ y) ++ drop n q
put_next m n x q y l =
    (λ i. take_at x q m l i ++ (y ++ drop n (drop_at x q m l i))) ∙ sym (append_assoc x y (drop n q))

last_one : (q : List ℕ) → length q ≡ 1 → q ≡ get_or q 0 0 ∷ []
last_one q l = drop_more q 0 0 (omega arith) ∙ ap (λ t. get_or q 0 0 ∷ t) (drop_all 1 q (omega arith))

-- three parts and a last symbol, written one after another into a place that they fill
pub filled : (k i j : ℕ) (p a b c : List ℕ) (h : ℕ) → length p ≡ k + 6 → length a ≡ k → length b ≡ 2 → length c ≡ 3 → i ≡ 2 → j ≡ 3 → set (put_mid (k + 2) j (put_mid k i (a ++ post_of 0 (k - 0) p) b) c) (k + 5) h ≡ a ++ (b ++ (c ++ (h ∷ [])))
filled k i j p a b c h lp la lb lc ei ej =
    let q = drop (k - 0) p in
    let rest = drop j (drop i q) in
    let ab : length (a ++ b) ≡ k + 2 = omega (arith, length-append a b) in
    let abc : length ((a ++ b) ++ c) ≡ k + 5 = omega (arith, length-append (a ++ b) c) in
    let one : length rest ≡ 1 = omega (arith, length-drop j (drop i q), length-drop i q, length-drop (k - 0) p) in
    ap (λ t. set (put_mid (k + 2) j t c) (k + 5) h) (put_next k i a q b la)
    ∙ ap (λ t. set t (k + 5) h) (put_next (k + 2) j (a ++ b) (drop i q) c ab)
    ∙ ap (λ t. set (((a ++ b) ++ c) ++ t) (k + 5) h) (last_one rest one)
    ∙ set_at ((a ++ b) ++ c) (get_or rest 0 0) [] h (k + 5) abc
    ∙ append_assoc (a ++ b) c (h ∷ [])
    ∙ append_assoc a b (c ++ (h ∷ []))

pub digits_append : (s t : List ℕ) → digits s ≡ true → digits t ≡ true → digits (s ++ t) ≡ true
digits_append s t p q = list_all-append (within 48 57) s t ∙ and_from (digits s) (digits t) p q

-- of digits both the beginning is made and the rest
digits_parts : (n : ℕ) (s : List ℕ) → digits s ≡ true → (digits (take n s) ≡ true) × (digits (drop n s) ≡ true)
digits_parts n s h = and_parts (digits (take n s)) (digits (drop n s)) (sym (list_all-append (within 48 57) (take n s) (drop n s)) ∙ ap digits (take-append-drop n s) ∙ h)

pub digits_take : (n : ℕ) (s : List ℕ) → digits s ≡ true → digits (take n s) ≡ true
digits_take n s h = (digits_parts n s h).0

pub digits_drop : (n : ℕ) (s : List ℕ) → digits s ≡ true → digits (drop n s) ≡ true
digits_drop n s h = (digits_parts n s h).1

-- m symbols from place i on, of a text that is cut off behind them
pub field_take : (n i m : ℕ) (s : List ℕ) → i + m ≤ n → take m (drop i (take n s)) ≡ take m (drop i s)
field_take n i m s l = sym (drop-take i m (take n s)) ∙ ap (drop i) (take-take (i + m) n s l) ∙ drop-take i m s

-- and of a text that begins with digits
pub field_digits : (n i m : ℕ) (s : List ℕ) → i + m ≤ n → digits (take n s) ≡ true → digits (take m (drop i s)) ≡ true
field_digits n i m s l h = ap digits (sym (field_take n i m s l)) ∙ digits_take m (drop i (take n s)) (digits_drop i (take n s) h)

pub digit_at : (s : List ℕ) (i : ℕ) → digits s ≡ true → i < length s → (48 ≤ get_or s i 0) × (get_or s i 0 ≤ 57)
digit_at s i h l =
    let w = and_parts (within 48 57 (get_or s i 0)) (digits (drop (i + 1) s)) (sym (ap digits (drop_more s i 0 l)) ∙ digits_drop i s h) in
    let p = and_parts (leb 48 (get_or s i 0)) (leb (get_or s i 0) 57) w.0 in
    (leb-true 48 (get_or s i 0) p.0, leb-true (get_or s i 0) 57 p.1)

-- figures never make a number smaller, so that one past the limit m stays past it
number_grows : (n : ℕ) (s : List ℕ) → n ≤ number_after n s
number_grows n [] = omega arith
number_grows n (c ∷ s) = let h = number_grows (n * 10 + (c - 48)) s in omega arith

pub number_held : (m n : ℕ) (s : List ℕ) → min (number_after n s) m ≡ min (number_after (min n m) s) m
number_held m n s =
    ⊎_elim
    (λ (lt : m < n).
    let e : min n m ≡ m = omega arith in
    let past = number_grows n s in
    let at = number_grows m s in
    let whole : min (number_after n s) m ≡ m = omega arith in
    let held : min (number_after m s) m ≡ m = omega arith in
    whole ∙ sym held ∙ ap (λ k. min (number_after k s) m) (sym e))
    (λ (le : n ≤ m). let e : min n m ≡ n = omega arith in ap (λ k. min (number_after k s) m) (sym e))
    (cases_lt m n)

number_push : (n : ℕ) (s : List ℕ) (c : ℕ) → number_after n (s ++ (c ∷ [])) ≡ number_after n s * 10 + (c - 48)
number_push n s c = fold-append (λ m d. m * 10 + (d - 48)) n s (c ∷ [])

-- the figures but the last, and the last
number_last : (s : List ℕ) (k : ℕ) → length s ≡ suc k → number_of s ≡ number_of (take k s) * 10 + (get_or s k 0 - 48)
number_last s k l =
    ap number_of (sym (take_all (k + 1) s (omega arith)) ∙ take_more s k 0 (omega arith)) ∙ number_push 0 (take k s) (get_or s k 0)

-- a number of at most k figures is what its numeral says
pub number_numeral : (k n : ℕ) → n < 10 ^ k → number_of (numeral k n) ≡ n
unfolding numeral
number_numeral zero n h = omega arith
number_numeral (suc k) n h =
    let below : n / 10 < 10 ^ k = omega (arith, pow-suc 10 k) in
    let e = number_numeral k (n / 10) below in
    number_push 0 (numeral k (n / 10)) (48 + n % 10) ∙ omega arith

pub digits_numeral : (k n : ℕ) → digits (numeral k n) ≡ true
unfolding numeral
digits_numeral zero n = refl
digits_numeral (suc k) n =
    digits_append (numeral k (n / 10)) ((48 + n % 10) ∷ []) (digits_numeral k (n / 10))
    (and_from (within 48 57 (48 + n % 10)) true (and_from (leb 48 (48 + n % 10)) (leb (48 + n % 10) 57) (le-leb 48 (48 + n % 10) (omega arith)) (le-leb (48 + n % 10) 57 (omega arith))) refl)

-- figures are the numeral of the number that they write, which has no more figures
pub numeral_number : (k : ℕ) (s : List ℕ) → length s ≡ k → digits s ≡ true → (numeral k (number_of s) ≡ s) × (number_of s < 10 ^ k)
unfolding numeral
numeral_number zero [] l h = (refl, omega arith)
numeral_number zero (c ∷ s) l h = let none : ⊥ = omega arith in absurd none
numeral_number (suc k) s l h =
    let t = take k s in
    let c = get_or s k 0 in
    let d = digit_at s k h (omega arith) in
    let rest = numeral_number k t (length-take k s ∙ omega arith) (digits_take k s h) in
    let e = number_last s k l in
    let front : number_of s / 10 ≡ number_of t = omega (arith, d.0, d.1) in
    let last : 48 + number_of s % 10 ≡ c = omega (arith, d.0, d.1) in (
      (λ i. (ap (numeral k) front ∙ rest.0) i ++ (last i ∷ [])) ∙ sym (take_more s k 0 (omega arith)) ∙ take_all (k + 1) s (omega arith),
      omega (arith, pow-suc 10 k, rest.1, d.1),
    )

-- one figure more, held at the largest `u32`
abbrev pub held : ℕ → ℕ → ℕ
held n c = min (min (n * 10) 4294967295 + (c - 48)) 4294967295

pub fold_held : (n : ℕ) (s : List ℕ) → n ≤ 4294967295 → fold held n s ≡ min (number_after n s) 4294967295
fold_held n [] h = omega arith
fold_held n (c ∷ s) h =
    let step : held n c ≡ min (n * 10 + (c - 48)) 4294967295 = omega arith in
    fold_held (held n c) s (omega arith)
    ∙ ap (λ k. min (number_after k s) 4294967295) step
    ∙ sym (number_held 4294967295 (n * 10 + (c - 48)) s)

-- a symbol counts as 207 at most
pub number_small : (n : ℕ) (s : List ℕ) → ((i : ℕ) → get_or s i 0 < 256) → number_after n s + 23 ≤ (n + 23) * 10 ^ length s
number_small n [] h = omega arith
number_small n (c ∷ s) h =
    let m = n * 10 + (c - 48) in
    let p = 10 ^ length s in
    let rest : number_after m s + 23 ≤ (m + 23) * p = number_small m s (λ i. h (suc i)) in
    let step : m + 23 ≤ (n + 23) * 10 = omega (arith, h 0) in
    let more : (m + 23) * p ≤ (n + 23) * 10 * p = mul-le-mul_right p step in
    let same : (n + 23) * 10 * p ≡ (n + 23) * 10 ^ suc (length s) = mul_assoc (n + 23) 10 p ∙ ap (λ q. (n + 23) * q) (sym (pow-succ' 10 (length s))) in
    omega (arith, rest, more, same)
