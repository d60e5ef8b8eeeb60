-- A number is what its four bytes say.
use Rattle.std.proofs.Common.{◌≡◌, ℕ, suc, ◌-◌, ◌<◌, cond, ltb, ℤ, pos, negsuc, neg_ℤ, refl, ap, sym, ◌∙◌, arith, w32, SFits, of_z, to_z}
use Rattle.std.proofs.Math.Facts.{Fits-of_z}
use Rattle.std.proofs.lemmas.Int.{to_z-of_z}
use Rattle.std.proofs.lemmas.Nat.{from_be_bytes-to_be_bytes_4}
use Rattle.marks.specs.declared.Confirmed.{Confirmed}
use Rattle.marks.specs.Marks.{word, word_bytes, word_of, number_of_word, mark_bytes, plotted}

pub bits_are : (z : ℤ) → of_z w32 z ≡ word z
bits_are (pos n) = refl
bits_are (negsuc n) = refl

bytes_back : (n : ℕ) → n < 4294967296 → word_of (word_bytes n) ≡ n
bytes_back n h = omega (arith, from_be_bytes-to_be_bytes_4 n h)

number_is : (n : ℕ) → n < 4294967296 → number_of_word n ≡ to_z w32 n
number_is n h =
    let below : 4294967296 - n ≡ suc (4294967296 - suc n) = omega arith in
    ap (λ m. cond (ltb n 2147483648) (pos n) (neg_ℤ (pos m))) below

number_back : (z : ℤ) → SFits w32 z → number_of_word (word_of (word_bytes (word z))) ≡ z
number_back z f =
    let n = of_z w32 z in
    let h : n < 4294967296 = (Fits-of_z f).fits in
    ap (λ m. number_of_word (word_of (word_bytes m))) (sym (bits_are z)) ∙ ap number_of_word (bytes_back n h) ∙ number_is n h ∙ to_z-of_z w32 z f

pub pair_back : (m : Confirmed) → SFits w32 m.latitude → SFits w32 m.longitude → plotted (mark_bytes m) ≡ (m.latitude, m.longitude)
pair_back m f g = λ i. (number_back m.latitude f i, number_back m.longitude g i)
