-- Best-first enumeration of candidates of any kind: they stand in a strict order, and each but the root grows from a
-- parent that stands before it. Assumes nothing.
use Rattle.std.specs.Prelude.{◌≡◌, ℕ, ◌+◌, ◌-◌, ◌*◌, ◌<◌, ◌≤◌, Bool, true, false, ◌⊎◌, ◌↔◌, Contains, List, [], ◌∷◌, ◌++◌, length, take, drop, Some, None, Option}
use Rattle.search.specs.Members.{Distinct, Alike, Without, Ascending}

-- What is enumerated: the candidates of `ranking` in their order, the parent of each (`lowered`) and its children.
pub record Growth {C : Type 0} (before : C → C → Bool) (lowered : C → Option C) (children : C → List C) (root : C) (ranking : List C) : Type 0 where
  pub irreflexive : (a : C) → before a a ≡ false
  pub transitive : (a b c : C) → before a b ≡ true → before b c ≡ true → before a c ≡ true
  pub ascending : Ascending before ranking
  pub root_ranked : Contains ranking root
  pub root_first : lowered root ≡ None
  pub one_root : (c : C) → Contains ranking c → lowered c ≡ None → c ≡ root
  pub parent_ranked : (c p : C) → Contains ranking c → lowered c ≡ Some p → Contains ranking p
  pub parent_before : (c p : C) → Contains ranking c → lowered c ≡ Some p → before p c ≡ true
  pub children_are : (p : C) → Contains ranking p → (c : C) → Contains (children p) c ↔ (Contains ranking c × (lowered c ≡ Some p))
  pub children_once : (p : C) → Contains ranking p → Distinct (children p)

-- The frontier once the first k of the ranking have been looked at: each once, the later ones whose parent is among
-- those k, or that have no parent.
pub record Frontier {C : Type 0} (lowered : C → Option C) (ranking : List C) (k : ℕ) (bench : List C) : Type 0 where
  pub reached : k ≤ length ranking
  pub once : Distinct bench
  pub holds : (c : C) → Contains bench c ↔ (Contains (drop k ranking) c × ((p : C) → lowered c ≡ Some p → Contains (take k ranking) p))

-- m is on the bench, and none there stands before it
abbrev pub Unbeaten : {C : Type 0} → (C → C → Bool) → C → List C → Type 0
Unbeaten {C} before m bench = Contains bench m × ((c : C) → Contains bench c → before c m ≡ false)

-- m is on the bench, and stands before every other there
abbrev pub Least : {C : Type 0} → (C → C → Bool) → C → List C → Type 0
Least {C} before m bench = Contains bench m × ((c : C) → Contains bench c → (c ≡ m) ⊎ (before m c ≡ true))

-- The theorem. At first the frontier is the root alone. It is empty exactly when all have been looked at. Otherwise its
-- least is the next of the ranking, and with that one exchanged for its children it is the frontier once one more has been
-- looked at. The order in which it is held does not matter. Where none has more than w children it never grows past
-- 1 + k × (w − 1).
pub record BestFirst {C : Type 0} (before : C → C → Bool) (lowered : C → Option C) (children : C → List C) (root : C) (ranking : List C) : Type 0 where
  pub starts : Frontier lowered ranking 0 (root ∷ [])
  pub ends : (k : ℕ) (bench : List C) → Frontier lowered ranking k bench → (bench ≡ []) ↔ (k ≡ length ranking)
  pub least : (k : ℕ) (bench : List C) (m : C) → Frontier lowered ranking k bench → Unbeaten before m bench → Least before m bench
  pub next : (k : ℕ) (bench : List C) (m : C) → Frontier lowered ranking k bench → Least before m bench → (k < length ranking) × (drop k ranking ≡ m ∷ drop (k + 1) ranking)
  pub grows : (k : ℕ) (bench rest : List C) (m : C) → Frontier lowered ranking k bench → Least before m bench → Without m bench rest
      → Frontier lowered ranking (k + 1) (rest ++ children m)
  pub shuffles : (k : ℕ) (bench other : List C) → Frontier lowered ranking k bench → Distinct other → Alike bench other → Frontier lowered ranking k other
  pub small : (w k : ℕ) (bench : List C) → 1 ≤ w → ((p : C) → Contains ranking p → length (children p) ≤ w)
      → Frontier lowered ranking k bench → length bench ≤ 1 + k * (w - 1)

-- it holds of candidates of a kind C, however they grow
abbrev pub BestFirstOf : Type 0 → Type 0
BestFirstOf C =
    (before : C → C → Bool) (lowered : C → Option C) (children : C → List C) (root : C) (ranking : List C)
    → Growth before lowered children root ranking → BestFirst before lowered children root ranking
