-- A text that `Then` admits is cut where its first part ends.
use Rattle.std.proofs.Common.{◌≡◌, ℕ, Bool, true, ◌&&◌, List, ◌++◌, length, take, drop, Decides, sym, ap, ◌∙◌, arith}
use Rattle.std.specs.Prelude.{nat_le}
use Rattle.std.proofs.Math.Seq.{take-append_seam, drop-append_seam}
use Rattle.std.proofs.lemmas.List.{length-append, length-take-le, take-append-drop}
use Rattle.std.proofs.lemmas.Bool.{le-leb, leb-true, and_parts, and_from}
use Rattle.std.proofs.lemmas.Bool.Decides.{Decides-at}
use Rattle.grammars.specs.Grammars.{Texts, split_at, Joined}

split_joined : (n : ℕ) (a b : Texts) (s : List ℕ) → Decides (split_at n a b s) (Joined n a b s)
split_joined n a b s = (
  λ admitted.
      let p = and_parts (nat_le n (length s)) (a (take n s) && b (drop n s)) admitted in
      let q = and_parts (a (take n s)) (b (drop n s)) p.1 in
      (take n s, drop n s, length-take-le n s (leb-true n (length s) p.0), q.0, q.1, sym (take-append-drop n s)),
  λ w.
      let head = w.0 in
      let tail = w.1 in
      let whole : split_at (length head) a b (head ++ tail) ≡ true =
      and_from (nat_le (length head) (length (head ++ tail))) (a (take (length head) (head ++ tail)) && b (drop (length head) (head ++ tail)))
      (le-leb (length head) (length (head ++ tail)) (omega (arith, length-append head tail)))
      (and_from (a (take (length head) (head ++ tail))) (b (drop (length head) (head ++ tail)))
      (ap a (take-append_seam head tail) ∙ w.3)
      (ap b (drop-append_seam head tail) ∙ w.4)) in
      (λ i. split_at (sym w.2 i) a b (w.5 i)) ∙ whole,
)

-- so of an answer that is the set's
pub joined : (n : ℕ) (a b : Texts) (s : List ℕ) (answer : Bool) → answer ≡ split_at n a b s → Decides answer (Joined n a b s)
joined n a b s answer h = Decides-at answer (split_at n a b s) h (split_joined n a b s)
