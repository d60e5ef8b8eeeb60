-- `chains` lists the chains of a line, each once. Assumes nothing.
use Rattle.std.proofs.Common.{◌≡◌, ℕ, zero, suc, ◌<◌, ◌≤◌, Contains, List, [], ◌∷◌, map, length, get_or, sym, refl, ap, ◌∙◌, subst, ⊎_elim, arith}
use Rattle.std.proofs.lemmas.Bool.{cases_lt}
use Rattle.std.proofs.lemmas.List.{length-map, get_or-map}
use Rattle.std.proofs.lemmas.List.Elements.{Contains-get_or, Contains-append_left, Contains-append_right, Contains-append_cases}
use Rattle.search.specs.Members.{Distinct}
use Rattle.pages.specs.Shape.{Cells}
use Rattle.search.specs.Chains.{Chain, ChainOf, headed, chains}
use Rattle.search.specs.Theorems.{ChainsListed}
use Rattle.search.proofs.Members.{Contains-first, no_member, distinct_append}

to_map : (n : ℕ) (c : Chain) (rest : List Chain) → Contains rest c → Contains (map (λ c. n ∷ c) rest) (n ∷ c)
to_map n c rest (k, l, e) = (k, omega (arith, length-map rest (λ c. n ∷ c)), get_or-map (λ c. n ∷ c) rest k c (n ∷ c) l ∙ ap {B = Chain} (λ z. n ∷ z) e)

from_map : (n : ℕ) (z : Chain) (rest : List Chain) → Contains (map (λ c. n ∷ c) rest) z → (c : Chain) × (z ≡ n ∷ c) × Contains rest c
from_map n z rest (k, l, e) =
    let inside : k < length rest = omega (arith, length-map rest (λ c. n ∷ c)) in
    (get_or rest k z, sym e ∙ get_or-map (λ c. n ∷ c) rest k z z inside, Contains-get_or rest k z inside)

distinct_map : (n : ℕ) (rest : List Chain) → Distinct rest → Distinct (map (λ c. n ∷ c) rest)
distinct_map n [] d = tt
distinct_map n (x ∷ rest) d = (λ m. let (c, e, k) = from_map n (n ∷ x) rest m in let same : c ≡ x = cc in d.0 (subst (Contains rest) same k), distinct_map n rest d.1)

to_headed : (n r : ℕ) (c : Chain) (rest : List Chain) → r < n → Contains rest c → Contains (headed n rest) (r ∷ c)
to_headed zero r c rest l m = absurd (omega arith)
to_headed (suc n) r c rest l m = ⊎_elim
    (λ (k : r < n). Contains-append_left (headed n rest) (map (λ c. n ∷ c) rest) (r ∷ c) (to_headed n r c rest k m))
    (λ (k : n ≤ r). let e : r ≡ n = omega arith in rw e (Contains-append_right (headed n rest) (map (λ c. n ∷ c) rest) (n ∷ c) (to_map n c rest m)))
    (cases_lt r n)

from_headed : (n : ℕ) (z : Chain) (rest : List Chain) → Contains (headed n rest) z → (r : ℕ) × (c : Chain) × (r < n) × (z ≡ r ∷ c) × Contains rest c
from_headed zero z rest h = absurd (no_member z h)
from_headed (suc n) z rest h = ⊎_elim
    (λ a. let (r, c, l, e, m) = from_headed n z rest a in (r, c, omega arith, e, m))
    (λ b. let (c, e, m) = from_map n z rest b in (n, c, omega arith, e, m))
    (Contains-append_cases (headed n rest) (map (λ c. n ∷ c) rest) z h)

distinct_headed : (n : ℕ) (rest : List Chain) → Distinct rest → Distinct (headed n rest)
distinct_headed zero rest d = tt
distinct_headed (suc n) rest d = distinct_append (headed n rest) (map (λ c. n ∷ c) rest) (distinct_headed n rest d) (distinct_map n rest d)
    (λ z a b. let (r, c, l, e, m) = from_headed n z rest a in let (c', q, m') = from_map n z rest b in let same : r ≡ n = cc in omega arith)

listed_once : (line : Cells) → Distinct (chains line)
listed_once [] = (no_member [], tt)
listed_once (cell ∷ line) = distinct_headed (length cell) (chains line) (listed_once line)

listed : (line : Cells) (z : Chain) → Contains (chains line) z → ChainOf line z
listed [] z (zero, l, e) = subst (ChainOf []) e (record { long = refl; within = λ i l. absurd (omega arith) })
listed [] z (suc k, l, e) = absurd (omega arith)
listed (cell ∷ line) z h =
    let (r, c, l, e, m) = from_headed (length cell) z (chains line) h in
    let rest = listed line c m in
    subst (ChainOf (cell ∷ line)) (sym e) (record { long = ap suc rest.long; within = elim [ zero ↦ λ k. l | suc i ↦ λ k. rest.within i (omega arith) ] })

lists : (line : Cells) (c : Chain) → ChainOf line c → Contains (chains line) c
lists [] [] h = Contains-first [] []
lists [] (r ∷ c) h = let z = h.long in absurd (omega arith)
lists (cell ∷ line) [] h = let z = h.long in absurd (omega arith)
lists (cell ∷ line) (r ∷ c) h =
    to_headed (length cell) r c (chains line) (h.within 0 (omega arith))
    (lists line c (record { long = let z = h.long in omega arith; within = λ i l. h.within (suc i) (omega arith) }))

pub chains_listed : ChainsListed
chains_listed line = (listed_once line, λ c. (listed line c, lists line c))
