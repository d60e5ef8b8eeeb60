-- How many more chains may be granted. Assumes nothing.
use Rattle.std.proofs.Common.{◌≡◌, ℕ, zero, suc, ◌+◌, ◌-◌, ◌*◌, ◌/◌, ◌<◌, ◌≤◌, max, cond, ◌&&◌, leb, length, Some, Ok, Err, sym, refl, ap, ◌∙◌, ⊎_elim, arith}
use Rattle.std.proofs.lemmas.Bool.{cases_lt, le-leb, lt-leb}
use Rattle.std.proofs.lemmas.Nat.{le-div}
use Rattle.std.proofs.Math.Nat.{div-mul-le_self, mul-le-mul_left}
use Rattle.pages.specs.Shape.{Cells}
use Rattle.reader.specs.declared.refusals.Refusal.TheVariants as refusal
use Rattle.reader.specs.Views.{View}
use Rattle.reader.specs.Calls.{granting, granting_to, cells_of}
use Rattle.desk.specs.Desks.{room_of, up_to}

-- cells times granted stays within 4,095 just where the grant stays within what is left of the quotient
fits : (c g n : ℕ) → 1 ≤ c → leb (c * (g + suc n)) 4095 ≡ leb (suc n) (4095 / c - g)
fits c g n low = ⊎_elim
    (λ over.
    let above : 4095 / c - g < suc n = ⊎_elim
    (λ h. h)
    (λ h. absurd (omega (arith, over, mul-le-mul_left c (within h), div-mul-le_self 4095 c)))
    (cases_lt (4095 / c - g) (suc n)) in
    lt-leb _ 4095 over ∙ sym (lt-leb (suc n) (4095 / c - g) above))
    (λ under.
    let whole : g + suc n ≤ 4095 / c = le-div (g + suc n) 4095 c (omega (arith, low)) (omega (arith, under)) in
    le-leb _ 4095 under ∙ sym (le-leb (suc n) (4095 / c - g) (omega (arith, whole))))
    (cases_lt 4095 (c * (g + suc n)))
  where
    within : suc n ≤ 4095 / c - g → g + suc n ≤ 4095 / c
    within h = omega (arith, h)

judged : (c g n : ℕ) → 1 ≤ c → (leb 1 n && leb (c * (g + n)) 4095) ≡ (leb 1 n && leb n (4095 / max c 1 - g))
judged c g zero low = refl
judged c g (suc n) low =
    let whole : max c 1 ≡ c = omega (arith, low) in
    ap (λ b. leb 1 (suc n) && b) (fits c g n low ∙ ap (λ k. leb (suc n) (4095 / k - g)) (sym whole))

-- what is said to be the room is granted, and no more
pub room_law : (v : View) (l : Cells) → v.line ≡ Some l → 1 ≤ length l → (n : ℕ) → granting v n ≡ up_to (room_of v) n
room_law v l line low n =
    ap (λ o. granting_to o v.granted n) line
    ∙ ap (λ b. cond b (Ok tt) (Err refusal.Grant)) (judged (length l) v.granted n low)
    ∙ ap (λ o. up_to (4095 / max (cells_of o) 1 - v.granted) n) (sym line)
