-- Within the two figures of a score no total is held at its limit.
use Rattle.std.proofs.Common.{◌≡◌, ℕ, ◌+◌, ◌-◌, ◌*◌, ◌^◌, ◌≤◌, min, List, [], ◌∷◌, length, ap, ◌∙◌, mul-le-mul_right, mul_assoc, mul-le-mul_left, one-mul, pow-suc, mul-one, arith}
use native.Mathlib.Nat.{pow-le-pow_right}
use Rattle.std.specs.List.{AllByRecursion}
use Rattle.std.proofs.lemmas.List.Elements.{recursion_from_All}
use Rattle.std.proofs.lemmas.List.Sums.{sum_by-cons, sum_by-le}
use Rattle.scores.specs.Scores.{Taken, stepped, sum_meaning, shares_meaning, penalty_sum, share_product, Exact}

sum_from : (ps : List ℕ) (t : ℕ) → t + penalty_sum ps ≤ 4294967295 → stepped sum_meaning t ps ≡ t + penalty_sum ps
sum_from [] t h = omega arith
sum_from (p ∷ ps) t h =
    let first = sum_by-cons (λ x. x) p ps in
    let e : min (t + p) 4294967295 ≡ t + p = omega arith in
    ap (λ k. stepped sum_meaning k ps) e ∙ sum_from ps (t + p) (omega arith) ∙ omega arith

sum_exact : (ps : List ℕ) → Taken sum_meaning ps → stepped sum_meaning 0 ps ≡ penalty_sum ps
sum_exact ps h =
    let few = h.0 in
    let most = sum_by-le (λ p. p) 65535 ps h.1 in
    sum_from ps 0 (omega arith) ∙ omega arith

product_some : (ps : List ℕ) → AllByRecursion (λ p. p ≤ 99) ps → 1 ≤ share_product ps
product_some [] h = omega arith
product_some (p ∷ ps) h =
    let share : 1 ≤ 100 - p = omega (arith, h.0) in
    let rest = product_some ps h.1 in
    let more : 1 * share_product ps ≤ (100 - p) * share_product ps = mul-le-mul_right (share_product ps) share in
    omega (arith, one-mul (share_product ps))

product_most : (ps : List ℕ) → share_product ps ≤ 100 ^ length ps
product_most [] = omega arith
product_most (p ∷ ps) =
    let share : 100 - p ≤ 100 = omega arith in
    let more : (100 - p) * share_product ps ≤ 100 * share_product ps = mul-le-mul_right (share_product ps) share in
    let rest = product_most ps in
    omega (arith, pow-suc 100 (length ps))

shares_from : (ps : List ℕ) (t : ℕ) → AllByRecursion (λ p. p ≤ 99) ps → t * share_product ps ≤ 1000000000000000000 → stepped shares_meaning t ps ≡ t * share_product ps
shares_from [] t h small = omega arith
shares_from (p ∷ ps) t h small =
    let x = t * (100 - p) in
    let same = mul_assoc t (100 - p) (share_product ps) in
    let some = product_some ps h.1 in
    let more : x * 1 ≤ x * share_product ps = mul-le-mul_left x some in
    let p-is : min p 99 ≡ p = omega (arith, h.0) in
    let fits : min x 1000000000000000000 ≡ x = omega (arith, mul-one x) in
    ap (λ k. stepped shares_meaning (min (t * (100 - k)) 1000000000000000000) ps) p-is
    ∙ ap (λ k. stepped shares_meaning k ps) fits
    ∙ shares_from ps x h.1 (omega arith)
    ∙ same

shares_exact : (ps : List ℕ) → Taken shares_meaning ps → stepped shares_meaning 1 ps ≡ share_product ps
shares_exact ps h =
    let few = h.0 in
    let most = product_most ps in
    let limit : 100 ^ length ps ≤ 100 ^ 9 = pow-le-pow_right (omega arith) few in
    let one = one-mul (share_product ps) in
    shares_from ps 1 (recursion_from_All _ ps h.1) (omega arith) ∙ one

pub exact : Exact
exact = record { sums = sum_exact; products = shares_exact }
