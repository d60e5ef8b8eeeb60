-- Openings judged from a number of symbols on.
use Rattle.std.specs.Prelude.{◌≡◌, ℕ, ◌≤◌, Bool, true, ◌&&◌, List, length, nat_le, refl}
use Rattle.std.proofs.Common.{sym, ◌∙◌}
use Rattle.std.proofs.lemmas.Bool.{cond-true, cond_both, le-leb, leb-true, and_parts, and_from}
use Rattle.grammars.specs.Grammars.{from_length}

pub from_holds : (n : ℕ) (s : List ℕ) (t : Bool) → (n ≤ length s → t ≡ true) → from_length n s t ≡ true
from_holds n s t h = cond_both (nat_le n (length s)) t true (λ b. b ≡ true) (λ e. h (leb-true n (length s) e)) (λ e. refl)

pub from_gives : (n : ℕ) (s : List ℕ) (t : Bool) → from_length n s t ≡ true → n ≤ length s → t ≡ true
from_gives n s t h l = sym (cond-true (nat_le n (length s)) t true (le-leb n (length s) l)) ∙ h

-- an opening of at most w symbols, each of them right, with two fields and the whole judged once they are there
module _ (w m n : ℕ) (s : List ℕ) (every one other whole : Bool) where
  pub record Judged : Type 0 where
    pub short : length s ≤ w
    pub digital : every ≡ true
    pub by_one : m ≤ length s → one ≡ true
    pub by_other : n ≤ length s → other ≡ true
    pub by_whole : w ≤ length s → whole ≡ true

  abbrev rest : Bool
  rest = from_length n s other && from_length w s whole

  abbrev pub judged : Bool
  judged = nat_le (length s) w && (every && (from_length m s one && rest))

  pub opened : judged ≡ true → Judged
  opened h =
      let p = and_parts (nat_le (length s) w) (every && (from_length m s one && rest)) h in
      let q = and_parts every (from_length m s one && rest) p.1 in
      let r = and_parts (from_length m s one) rest q.1 in
      let t = and_parts (from_length n s other) (from_length w s whole) r.1 in
      record {
        short = leb-true (length s) w p.0;
        digital = q.0;
        by_one = from_gives m s one r.0;
        by_other = from_gives n s other t.0;
        by_whole = from_gives w s whole t.1;
      }

  pub closed : Judged → judged ≡ true
  closed p =
      and_from (nat_le (length s) w) (every && (from_length m s one && rest)) (le-leb (length s) w p.short)
      (and_from every (from_length m s one && rest) p.digital
      (and_from (from_length m s one) rest (from_holds m s one p.by_one)
      (and_from (from_length n s other) (from_length w s whole) (from_holds n s other p.by_other) (from_holds w s whole p.by_whole))))
