-- What a well-formed line says, part by part. Assumes nothing.
use Rattle.std.proofs.Common.{◌≡◌, ℕ, ◌<◌, ◌≤◌, Bool, true, false, List, [], ◌∷◌, length, refl, arith}
use Rattle.std.specs.List.{AllByRecursion}
use Rattle.std.proofs.lemmas.Bool.{and_parts, and_from, or_parts, or_from, leb-true, le-leb, eqb-false, ne_eqb, not-true, not_from_false}
use Rattle.std.proofs.lemmas.Bool.Decides.{nat_tests}
use Rattle.pages.specs.declared.lines.Alternative.{Alternative}
use Rattle.pages.specs.Shape.{Alternatives, Cells, Lines, seen, in_range, once, rising, every, one_to, well_formed_alternatives, well_formed_cell, well_formed_line, well_formed_page}

-- a test that holds of each, and what it tells
pub all_every : {X : Type 0} (test : X → Bool) (P : X → Type 0) → ((x : X) → test x ≡ true → P x) → (xs : List X) → every test xs ≡ true → AllByRecursion P xs
all_every test P tells [] e = tt
all_every test P tells (x ∷ xs) e = let p = and_parts _ _ e in (tells x p.0, all_every test P tells xs p.1)

pub every_all : {X : Type 0} (test : X → Bool) (P : X → Type 0) → ((x : X) → P x → test x ≡ true) → (xs : List X) → AllByRecursion P xs → every test xs ≡ true
every_all test P shows [] all = refl
every_all test P shows (x ∷ xs) all = and_from _ _ (shows x all.0) (every_all test P shows xs all.1)

-- no symbol comes twice
abbrev pub Apart : Alternatives → Type 0
Apart [] = Unit {0}
Apart (a ∷ more) = AllByRecursion (λ b. b.symbol ≡ a.symbol → ⊥) more × Apart more

-- no penalty is below the one before it, the first not below `low`
abbrev pub Rises : ℕ → Alternatives → Type 0
Rises low [] = Unit {0}
Rises low (a ∷ more) = (low ≤ a.penalty) × Rises a.penalty more

pub record InRange (a : Alternative) : Type 0 where
  pub low : 33 ≤ a.symbol
  pub high : a.symbol ≤ 126
  pub small : a.penalty < 65536

pub record WellFormedAlternatives (c : Alternatives) : Type 0 where
  pub ranges : AllByRecursion InRange c
  pub apart : Apart c
  pub rises : Rises 0 c

pub record WellFormedCell (c : Alternatives) : Type 0 where
  pub some : 1 ≤ length c
  pub few : length c ≤ 8
  pub ranges : AllByRecursion InRange c
  pub apart : Apart c
  pub rises : Rises 0 c

pub record WellFormedLine (l : Cells) : Type 0 where
  pub some : 1 ≤ length l
  pub few : length l ≤ 24
  pub cells : AllByRecursion WellFormedCell l

pub record WellFormedPage (p : Lines) : Type 0 where
  pub some : 1 ≤ length p
  pub few : length p ≤ 40
  pub lines : AllByRecursion WellFormedLine p

unseen_others : (s : ℕ) (l : Alternatives) → seen s l ≡ false → AllByRecursion (λ b. b.symbol ≡ s → ⊥) l
unseen_others s [] e = tt
unseen_others s (a ∷ more) e = let p = or_parts _ _ e in (eqb-false a.symbol s p.0, unseen_others s more p.1)

others_unseen : (s : ℕ) (l : Alternatives) → AllByRecursion (λ b. b.symbol ≡ s → ⊥) l → seen s l ≡ false
others_unseen s [] all = refl
others_unseen s (a ∷ more) all = or_from _ _ (ne_eqb a.symbol s all.0) (others_unseen s more all.1)

once_apart : (c : Alternatives) → once c ≡ true → Apart c
once_apart [] e = tt
once_apart (a ∷ more) e = let p = and_parts _ _ e in (unseen_others a.symbol more (not-true _ p.0), once_apart more p.1)

apart_once : (c : Alternatives) → Apart c → once c ≡ true
apart_once [] h = refl
apart_once (a ∷ more) h = and_from _ _ (not_from_false _ (others_unseen a.symbol more h.0)) (apart_once more h.1)

rising_rises : (low : ℕ) (c : Alternatives) → rising low c ≡ true → Rises low c
rising_rises low [] e = tt
rising_rises low (a ∷ more) e = let p = and_parts _ _ e in (leb-true low a.penalty p.0, rising_rises a.penalty more p.1)

rises_rising : (low : ℕ) (c : Alternatives) → Rises low c → rising low c ≡ true
rises_rising low [] h = refl
rises_rising low (a ∷ more) h = and_from _ _ (le-leb low a.penalty h.0) (rises_rising a.penalty more h.1)

range_parts : (a : Alternative) → in_range a ≡ true → InRange a
range_parts a e = record { low = grind (arith, nat_tests); high = grind (arith, nat_tests); small = grind (arith, nat_tests) }

range_from : (a : Alternative) → InRange a → in_range a ≡ true
range_from a h = grind (arith, nat_tests)

one_to_parts : (most n : ℕ) → one_to most n ≡ true → (1 ≤ n) × (n ≤ most)
one_to_parts most n e = (grind (arith, nat_tests), grind (arith, nat_tests))

one_to_from : (most n : ℕ) → 1 ≤ n → n ≤ most → one_to most n ≡ true
one_to_from most n some few = grind (arith, nat_tests)

pub alternatives_parts : (c : Alternatives) → well_formed_alternatives c ≡ true → WellFormedAlternatives c
unfolding well_formed_alternatives
alternatives_parts c e =
    let p = and_parts _ _ e in
    let q = and_parts _ _ p.0 in
    record { ranges = all_every in_range InRange range_parts c q.0; apart = once_apart c q.1; rises = rising_rises 0 c p.1 }

pub alternatives_from : (c : Alternatives) → WellFormedAlternatives c → well_formed_alternatives c ≡ true
unfolding well_formed_alternatives
alternatives_from c h =
    and_from _ _ (and_from _ _ (every_all in_range InRange range_from c h.ranges) (apart_once c h.apart)) (rises_rising 0 c h.rises)

pub cell_parts : (c : Alternatives) → well_formed_cell c ≡ true → WellFormedCell c
unfolding well_formed_cell
cell_parts c e =
    let p = and_parts _ _ e in
    let n = one_to_parts 8 (length c) p.0 in
    let whole = alternatives_parts c p.1 in
    record { some = n.0; few = n.1; ranges = whole.ranges; apart = whole.apart; rises = whole.rises }

pub cell_from : (c : Alternatives) → WellFormedCell c → well_formed_cell c ≡ true
unfolding well_formed_cell
cell_from c h =
    and_from _ _ (one_to_from 8 (length c) h.some h.few) (alternatives_from c (record { ranges = h.ranges; apart = h.apart; rises = h.rises }))

pub line_parts : (l : Cells) → well_formed_line l ≡ true → WellFormedLine l
unfolding well_formed_line
line_parts l e =
    let p = and_parts _ _ e in
    let n = one_to_parts 24 (length l) p.0 in
    record { some = n.0; few = n.1; cells = all_every well_formed_cell WellFormedCell cell_parts l p.1 }

pub line_from : (l : Cells) → WellFormedLine l → well_formed_line l ≡ true
unfolding well_formed_line
line_from l h = and_from _ _ (one_to_from 24 (length l) h.some h.few) (every_all well_formed_cell WellFormedCell cell_from l h.cells)

pub page_parts : (p : Lines) → well_formed_page p ≡ true → WellFormedPage p
unfolding well_formed_page
page_parts p e =
    let q = and_parts _ _ e in
    let n = one_to_parts 40 (length p) q.0 in
    record { some = n.0; few = n.1; lines = all_every well_formed_line WellFormedLine line_parts p q.1 }

pub page_from : (p : Lines) → WellFormedPage p → well_formed_page p ≡ true
unfolding well_formed_page
page_from p h = and_from _ _ (one_to_from 40 (length p) h.some h.few) (every_all well_formed_line WellFormedLine line_from p h.lines)
