-- What a hole with leading zeros writes of a number: the numeral of its width.
use Rattle.std.proofs.Common.{◌≡◌, ℕ, zero, suc, ◌+◌, ◌-◌, ◌/◌, ◌%◌, ◌^◌, ◌<◌, ◌≤◌, false, List, [], ◌∷◌, ◌++◌, length, replicate, decimal, refl, ap, sym, ◌∙◌, arith}
use Rattle.std.proofs.lemmas.List.{length-append, append-nil, append_assoc, replicate_more}
use Rattle.std.proofs.lemmas.Fmt.{decimal_by_steps, length-decimal-le}
use Rattle.std.specs.Fmt.{char_count, format_spec, padded_integral}
use Rattle.positions.specs.Numerals.{numeral}

numeral_of_zero : (k : ℕ) → numeral k 0 ≡ replicate k 48
unfolding numeral
numeral_of_zero zero = refl
numeral_of_zero (suc k) =
    let next : k + 1 ≡ suc k = omega arith in
    ap (λ t. t ++ (48 ∷ [])) (numeral_of_zero k) ∙ replicate_more k 48 ∙ ap (λ m. replicate m 48) next

-- the numeral of n is its figures behind zeros
zeros_before : (n : ℕ) → n < 2 ^ 64 → (k : ℕ) → length (decimal n) ≤ k → numeral k n ≡ replicate (k - length (decimal n)) 48 ++ decimal n
unfolding numeral
zeros_before = decimal_by_steps (λ n ds. (k : ℕ) → length ds ≤ k → numeral k n ≡ replicate (k - length ds) 48 ++ ds) one more
  where
    one : (n : ℕ) → n < 10 → (k : ℕ) → 1 ≤ k → numeral k n ≡ replicate (k - 1) 48 ++ ((48 + n) ∷ [])
    one n small zero some = absurd (omega arith)
    one n small (suc k) some =
        let none : n / 10 ≡ 0 = omega arith in
        let last : n % 10 ≡ n = omega arith in
        let zeros : k ≡ suc k - 1 = omega arith in
        λ i. (ap (numeral k) none ∙ numeral_of_zero k ∙ ap (λ m. replicate m 48) zeros) i ++ ((48 + last i) ∷ [])

    more : (n : ℕ) (ds : List ℕ) → 10 ≤ n → ((k : ℕ) → length ds ≤ k → numeral k (n / 10) ≡ replicate (k - length ds) 48 ++ ds) → (k : ℕ) → length (ds ++ ((48 + n % 10) ∷ [])) ≤ k → numeral k n ≡ replicate (k - length (ds ++ ((48 + n % 10) ∷ []))) 48 ++ (ds ++ ((48 + n % 10) ∷ []))
    more n ds large front zero fits = absurd (omega (arith, length-append ds ((48 + n % 10) ∷ [])))
    more n ds large front (suc k) fits =
        let same : k - length ds ≡ suc k - length (ds ++ ((48 + n % 10) ∷ [])) = omega (arith, length-append ds ((48 + n % 10) ∷ [])) in
        ap (λ t. t ++ ((48 + n % 10) ∷ [])) (front k (omega (arith, length-append ds ((48 + n % 10) ∷ []))))
        ∙ append_assoc (replicate (k - length ds) 48) ds ((48 + n % 10) ∷ [])
        ∙ ap (λ m. replicate m 48 ++ (ds ++ ((48 + n % 10) ∷ []))) same

pub padded_numeral : (k n : ℕ) → 0 < k → n < 10 ^ k → n < 2 ^ 64 → padded_integral (format_spec 32 0 4 k (2 ^ 64 - 1)) false [] (decimal n) ≡ numeral k n
unfolding padded_integral char_count
padded_numeral k n some small bound =
    let short : k - length (decimal n) - 0 - 0 ≡ k - length (decimal n) = omega arith in
    ap (λ m. replicate m 48 ++ (decimal n ++ [])) short
    ∙ ap (λ t. replicate (k - length (decimal n)) 48 ++ t) (append-nil (decimal n))
    ∙ sym (zeros_before n bound k (length-decimal-le k n some small bound))
