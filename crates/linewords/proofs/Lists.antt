-- Lists of at least one, and of three, four and five: words as they are told apart by their number. Assumes nothing.
use Rattle.std.proofs.Common.{◌≡◌, ◌<◌, ◌≤◌, List, [], ◌∷◌, length, get_or, drop, refl, ap, arith}

pub some : {A : Type 0} (d : A) (xs : List A) → 1 ≤ length xs → xs ≡ get_or xs 0 d ∷ drop 1 xs
some d [] low = absurd (omega arith)
some d (a ∷ xs) low = refl

pub three : {A : Type 0} (d : A) (xs : List A) → 3 ≤ length xs → length xs < 4 → xs ≡ get_or xs 0 d ∷ get_or xs 1 d ∷ get_or xs 2 d ∷ []
three d [] low high = absurd (omega arith)
three d (a ∷ []) low high = absurd (omega arith)
three d (a ∷ b ∷ []) low high = absurd (omega arith)
three d (a ∷ b ∷ c ∷ []) low high = refl
three d (a ∷ b ∷ c ∷ e ∷ xs) low high = absurd (omega arith)

pub four : {A : Type 0} (d : A) (xs : List A) → 4 ≤ length xs → length xs < 5
    → xs ≡ get_or xs 0 d ∷ get_or xs 1 d ∷ get_or xs 2 d ∷ get_or xs 3 d ∷ []
four d [] low high = absurd (omega arith)
four d (a ∷ xs) low high = ap (λ ys. a ∷ ys) (three d xs (omega arith) (omega arith))

pub five : {A : Type 0} (d : A) (xs : List A) → 5 ≤ length xs → length xs < 6
    → xs ≡ get_or xs 0 d ∷ get_or xs 1 d ∷ get_or xs 2 d ∷ get_or xs 3 d ∷ get_or xs 4 d ∷ []
five d [] low high = absurd (omega arith)
five d (a ∷ xs) low high = ap (λ ys. a ∷ ys) (four d xs (omega arith) (omega arith))
