-- The words that are read of a line are those that stand between its blanks. Assumes nothing.
use Rattle.std.proofs.Common.{◌≡◌, ℕ, ◌<◌, ◌≤◌, ⊎_elim, true, false, cond, ◌||◌, nat_le, nat_lt, List, [], ◌∷◌, ◌++◌, length, get_or, filter, sym, refl, ap, ◌∙◌, subst, arith, append-nil}
use Rattle.std.specs.List.{All, AllPass, slice_split}
use Rattle.std.specs.Char.{is_ascii_whitespace}
use Rattle.std.specs.Str.{NoCharPasses}
use Rattle.std.specs.Str.Iter.{split_ascii_whitespace_steps, split_ascii_whitespace_text}
use Rattle.std.proofs.lemmas.Bool.{and_right, cases_lt, lt-leb, lt-ltb}
use Rattle.std.proofs.lemmas.Iterator.{YieldsList}
use Rattle.std.proofs.lemmas.Iterator.Consumers.{YieldsList-from_shown}
use Rattle.std.proofs.lemmas.List.{nil_from_length, get_or_default}
use Rattle.std.proofs.lemmas.List.Elements.{All-tail}
use Rattle.std.proofs.lemmas.List.Splits.{slice_split_none, slice_split_at, slice_split-cons_yes}
use Rattle.std.proofs.lemmas.Str.{NoCharPasses-byte}
use Rattle.linewords.specs.Words.{words_of}

-- blanks in front part nothing
passed : (gap line : List ℕ) → AllPass is_ascii_whitespace gap → words_of (gap ++ line) ≡ words_of line
passed [] line h = refl
passed (b ∷ gap) line h =
    ap (filter (λ w. nat_lt 0 (length w))) (slice_split-cons_yes is_ascii_whitespace b (gap ++ line) (h 0 0 (omega arith)))
    ∙ passed gap line (All-tail (λ x. is_ascii_whitespace x ≡ true) b gap h)

kept : (w : List ℕ) (parts : List (List ℕ)) → 0 < length w → filter (λ v. nat_lt 0 (length v)) (w ∷ parts) ≡ w ∷ filter (λ v. nat_lt 0 (length v)) parts
kept w parts long = ap (λ t. cond t (w ∷ filter (λ v. nat_lt 0 (length v)) parts) (filter (λ v. nat_lt 0 (length v)) parts)) (lt-ltb 0 (length w) long)

high : (b : ℕ) → 128 ≤ b → is_ascii_whitespace b ≡ false
high b h =
    let line = and_right (nat_le 9 b) (nat_le b 10) (lt-leb b 10 (omega arith)) in
    let feed = and_right (nat_le 12 b) (nat_le b 13) (lt-leb b 13 (omega arith)) in
    let space = and_right (nat_le 32 b) (nat_le b 32) (lt-leb b 32 (omega arith)) in
    λ i. (line i || feed i) || space i

-- no byte of a word is a blank
no_blank : (w : List ℕ) → NoCharPasses is_ascii_whitespace w → All (λ b. is_ascii_whitespace b ≡ false) w
no_blank w h k d l =
    ap is_ascii_whitespace (get_or_default w k d 0 l)
    ∙ ⊎_elim (λ low. NoCharPasses-byte is_ascii_whitespace w k h l low) (λ up. high (get_or w k 0) up) (cases_lt (get_or w k 0) 128)

-- a word, and the blank behind it if any
first : (w sep rest : List ℕ) → 0 < length w → All (λ b. is_ascii_whitespace b ≡ false) w → AllPass is_ascii_whitespace sep → length sep ≤ 1 → (length sep ≡ 0 → length rest ≡ 0)
    → words_of (w ++ (sep ++ rest)) ≡ w ∷ words_of rest
first w [] rest long word blank one last =
    let none : rest ≡ [] = nil_from_length rest (last refl) in
    ap (λ t. words_of (w ++ t)) none
    ∙ ap words_of (append-nil w)
    ∙ ap (filter (λ v. nat_lt 0 (length v))) (slice_split_none is_ascii_whitespace w word)
    ∙ kept w [] long
    ∙ ap (λ t. w ∷ words_of t) (sym none)
first w (b ∷ []) rest long word blank one last =
    ap (filter (λ v. nat_lt 0 (length v))) (slice_split_at is_ascii_whitespace w b rest word (blank 0 0 (omega arith)))
    ∙ kept w (slice_split is_ascii_whitespace rest) long
first w (b ∷ c ∷ sep) rest long word blank one last = absurd (omega arith)

blanks : (line : List ℕ) → AllPass is_ascii_whitespace line → words_of line ≡ []
blanks line h = ap words_of (sym (append-nil line)) ∙ passed line [] h

-- the words that are read of a text, one after another
pub words_read : {s : _} (line : List ℕ) → split_ascii_whitespace_text s ≡ line → YieldsList split_ascii_whitespace_steps (λ x. x.now) s (words_of line)
words_read {s} line is =
    let Whole = λ (t : List ℕ). YieldsList split_ascii_whitespace_steps (λ x. x.now) s (words_of t) in
    subst Whole is
    (YieldsList-from_shown split_ascii_whitespace_steps (λ x. x.now) (λ t. words_of (split_ascii_whitespace_text t))
    (λ t u k. ap length (blanks (split_ascii_whitespace_text t) k.0))
    (λ t x u k.
    let cut = k.3 in
    ap words_of cut.2
    ∙ passed cut.0 (x.now ++ (cut.1 ++ split_ascii_whitespace_text u)) cut.3
    ∙ first x.now cut.1 (split_ascii_whitespace_text u) k.0 (no_blank x.now k.1) cut.4.0 cut.4.1 cut.4.2)
    s)
