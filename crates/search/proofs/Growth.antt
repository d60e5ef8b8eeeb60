-- How the live chains grow from one another. Assumes nothing.
use Rattle.std.proofs.Common.{◌≡◌, ℕ, zero, suc, ◌+◌, ◌-◌, ◌<◌, ◌≤◌, Bool, true, false, cond, ltb, Contains, List, [], ◌∷◌, ◌++◌, length, get_or, take, set, replicate, sym, refl, ap, ◌∙◌, subst, inr, ⊎_elim, append-nil, arith, length-append, length-set, Some, None, Option}
use Rattle.std.proofs.lemmas.Option.{same_Some, none-some}
use lib.ListN.{length-replicate, get_or-replicate}
use Rattle.std.proofs.lemmas.List.{get_or-set_same, get_or-set_other, set-set, set-get_or, take-take, get_or_past}
use Rattle.std.proofs.ByRecursion.{All-get_or}
use Rattle.std.proofs.lemmas.Bool.{both_ways, cases_lt, cases_Bool, and_parts, and_from, and_right, and_left, leb-true, le-leb, ltb-true, lt-ltb, false≢true}
use Rattle.search.specs.Members.{Distinct}
use Rattle.scores.specs.Scores.{Meaning, Laws}
use Rattle.grammars.specs.Grammars.{Texts}
use Rattle.pages.specs.Shape.{Cells}
use Rattle.search.specs.Chains.{Chain, ChainOf, text, before, last_raised, opens, live, lowered_at, lowered, root, raised, or_zero, may_raise, children_below, children, ranking}
use Rattle.search.specs.Theorems.{Ranked, LiveChainsGrow, ChildrenAreFew, BestFirstOfChains, FrontierIsSmall}
use Rattle.pages.proofs.Shape.{line_parts}
use Rattle.std.proofs.lemmas.List.Elements.{Contains-append_left, Contains-append_right, Contains-append_cases}
use Rattle.search.proofs.Members.{Contains-first, no_member, distinct_append}
use Rattle.search.proofs.Order.{before_from, before_self, before_trans}
use Rattle.search.proofs.Ranking.{ranked}
use Rattle.search.proofs.Raised.{Sound, sound, Last, last_of, flat_of, is_last, is_flat, chain_set, text_set, lower_set, set_no_worse}
use Rattle.search.proofs.BestFirst.{best_first}

-- every beginning of an allowed opening is allowed
abbrev Shortens : Texts → Type 0
Shortens allows = (t : List ℕ) (n : ℕ) → allows t ≡ true → allows (take n t) ≡ true

-- p is c with its last raised cell, i, lowered
record Lowered (c p : Chain) (i : ℕ) : Type 0 where
  place : last_raised c ≡ Some i
  is : p ≡ set c i (get_or c i 0 - 1)

from_lowered : (c p : Chain) → lowered c ≡ Some p → (i : ℕ) × Lowered c p i
from_lowered c p e = go (last_raised c) refl e
  where
    go : (o : Option ℕ) → last_raised c ≡ o → lowered_at c o ≡ Some p → (i : ℕ) × Lowered c p i
    go None q h = absurd (none-some p h)
    go (Some i) q h = (i, record { place = q; is = sym (same_Some _ p h) })

to_lowered : (c p : Chain) (i : ℕ) → Lowered c p i → lowered c ≡ Some p
to_lowered c p i h = ap (lowered_at c) h.place ∙ ap {B = Option Chain} Some (sym h.is)

none_lowered : (c : Chain) → lowered c ≡ None → last_raised c ≡ None
none_lowered c e = go (last_raised c) e
  where
    go : (o : Option ℕ) → lowered_at c o ≡ None → o ≡ None
    go None h = refl
    go (Some i) h = absurd (none-some _ (sym h))

-- below the last raised cell of c, and at it, p may be raised; behind it p is flat as c is
lowered_flat : (c p : Chain) (i : ℕ) → Lowered c p i → (j : ℕ) → i < j → get_or p j 0 ≡ 0
lowered_flat c p i h j l =
    let last = last_of c i h.place in
    let other : j ≡ i → ⊥ = omega arith in
    ap (λ q. get_or q j 0) h.is ∙ get_or-set_other c i j (get_or c i 0 - 1) 0 other ∙ last.flat j l

lowered_place : (c p : Chain) (i : ℕ) → Lowered c p i → or_zero (last_raised p) ≤ i
lowered_place c p i h = go (last_raised p) refl
  where
    go : (o : Option ℕ) → last_raised p ≡ o → or_zero o ≤ i
    go None e = omega arith
    go (Some j) e = ⊎_elim (λ (l : i < j). let z = lowered_flat c p i h j l in let u = (last_of p j e).up in absurd (omega arith)) (λ l. l) (cases_lt i j)

lowered_text : (line : Cells) (c p : Chain) (i : ℕ) → Lowered c p i → take i (text line p) ≡ take i (text line c)
lowered_text line c p i h = ap (λ q. take i (text line q)) h.is ∙ text_set line c i (get_or c i 0 - 1)

live_opening : (allows : Texts) (line : Cells) (c : Chain) (i : ℕ) → last_raised c ≡ Some i → live allows line c ≡ allows (take i (text line c))
live_opening allows line c i e = ap (opens allows (text line c)) e

-- the parent is a live chain of the line, and stands before
parent_chain : (line : Cells) (c p : Chain) (i : ℕ) → Lowered c p i → ChainOf line c → ChainOf line p
parent_chain line c p i h chain =
    let last = last_of c i h.place in
    let inside = last.inside in
    let long = chain.long in
    let below = chain.within i (omega arith) in
    subst (ChainOf line) (sym h.is) (chain_set line c i (get_or c i 0 - 1) chain (omega arith))

parent_live : (allows : Texts) → Shortens allows → (line : Cells) (c p : Chain) (i : ℕ) → Lowered c p i → live allows line c ≡ true → live allows line p ≡ true
parent_live allows shorter line c p i h alive = go (last_raised p) (lowered_place c p i h)
  where
    open_i : allows (take i (text line p)) ≡ true
    open_i = ap allows (lowered_text line c p i h) ∙ sym (live_opening allows line c i h.place) ∙ alive

    go : (o : Option ℕ) → or_zero o ≤ i → opens allows (text line p) o ≡ true
    go None l = refl
    go (Some j) l = ap allows (sym (take-take j i (text line p) l)) ∙ shorter (take i (text line p)) j open_i

parent_first : (s : Meaning) → Laws s → (line : Cells) → Sound line → (c p : Chain) (i : ℕ) → Lowered c p i → ChainOf line c → before s line p c ≡ true
parent_first s laws line sound c p i h chain =
    let last = last_of c i h.place in
    let up = last.up in
    subst (λ q. before s line q c ≡ true) (sym h.is)
    (before_from s laws line (set c i (get_or c i 0 - 1)) c (set_no_worse s laws line sound c chain i (get_or c i 0 - 1) (omega arith) _)
    (inr (lower_set c i (get_or c i 0 - 1) (omega arith))))

-- the root
root_flat : (n j : ℕ) → get_or {A = ℕ} (replicate n 0) j 0 ≡ 0
root_flat n j = ⊎_elim (λ l. get_or-replicate n j 0 0 l) (λ (l : n ≤ j). get_or_past (replicate {A = ℕ} n 0) j 0 (let e : length (replicate {A = ℕ} n 0) ≡ n = length-replicate n 0 in omega arith)) (cases_lt j n)

pub root_chain : (line : Cells) → Sound line → ChainOf line (root line)
root_chain line sound = record {
  long = length-replicate (length line) 0;
  within = λ i l. let wide = (All-get_or _ line i [] l sound).0 in let flat = root_flat (length line) i in omega arith;
}

flat_is_root : (line : Cells) (c : Chain) → length c ≡ length line → ((j : ℕ) → get_or c j 0 ≡ 0) → c ≡ root line
flat_is_root [] [] e flat = refl
flat_is_root [] (x ∷ c) e flat = absurd (omega arith)
flat_is_root (cell ∷ line) [] e flat = absurd (omega arith)
flat_is_root (cell ∷ line) (x ∷ c) e flat = let q = flat_is_root line c (omega arith) (λ j. flat (suc j)) in λ i. flat 0 i ∷ q i

-- what is among the children
record Child (allows : Texts) (line : Cells) (c d : Chain) (n i : ℕ) : Type 0 where
  below : i < n
  may : may_raise allows line c i ≡ true
  is : d ≡ raised c i

module _ (allows : Texts) (line : Cells) (c : Chain) where
  child_from : (n : ℕ) (d : Chain) → Contains (children_below allows line c n) d → (i : ℕ) × Child allows line c d n i
  child_from zero d h = absurd (no_member d h)
  child_from (suc n) d h = ⊎_elim (λ a. earlier (child_from n d a)) (λ b. here (may_raise allows line c n) refl b)
      (Contains-append_cases (children_below allows line c n) (cond (may_raise allows line c n) (raised c n ∷ []) []) d h)
    where
      earlier : (i : ℕ) × Child allows line c d n i → (i : ℕ) × Child allows line c d (suc n) i
      earlier r = let l = r.1.below in (r.0, record { below = omega arith; may = r.1.may; is = r.1.is })

      here : (b : Bool) → may_raise allows line c n ≡ b → Contains (cond b (raised c n ∷ []) []) d → (i : ℕ) × Child allows line c d (suc n) i
      here true e (zero, l, q) = (n, record { below = omega arith; may = e; is = sym q })
      here true e (suc k, l, q) = absurd (omega arith)
      here false e (k, l, q) = absurd (omega arith)

  child_to : (n : ℕ) (d : Chain) (i : ℕ) → Child allows line c d n i → Contains (children_below allows line c n) d
  child_to zero d i h = let l = h.below in absurd (omega arith)
  child_to (suc n) d i h = ⊎_elim
      (λ l. Contains-append_left (children_below allows line c n) (cond (may_raise allows line c n) (raised c n ∷ []) []) d (child_to n d i (record { below = l; may = h.may; is = h.is })))
      (λ (l : n ≤ i). let k = h.below in let e : i ≡ n = omega arith in
      Contains-append_right (children_below allows line c n) (cond (may_raise allows line c n) (raised c n ∷ []) []) d
      (here e (may_raise allows line c n) (ap (may_raise allows line c) (sym e) ∙ h.may)))
      (cases_lt i n)
    where
      here : i ≡ n → (b : Bool) → b ≡ true → Contains (cond b (raised c n ∷ []) []) d
      here e true q = rw (h.is ∙ ap (raised c) e) (Contains-first (raised c n) [])
      here e false q = absurd (false≢true q)

  raised_here : (i : ℕ) → i < length c → get_or (raised c i) i 0 ≡ get_or c i 0 + 1
  raised_here i l = get_or-set_same c i (get_or c i 0 + 1) 0 l

  children_once : (n : ℕ) → n ≤ length c → Distinct (children_below allows line c n)
  children_once zero l = tt
  children_once (suc n) l = distinct_append (children_below allows line c n) (cond (may_raise allows line c n) (raised c n ∷ []) [])
      (children_once n (omega arith)) (one (may_raise allows line c n)) (λ d a b. apart d (may_raise allows line c n) (child_from n d a) b)
    where
      one : (b : Bool) → Distinct (cond b (raised c n ∷ []) [])
      one true = (no_member (raised c n), tt)
      one false = tt

      apart : (d : Chain) (b : Bool) → (i : ℕ) × Child allows line c d n i → Contains (cond b (raised c n ∷ []) []) d → ⊥
      apart d true r (zero, w, q) =
          let i = r.0 in
          let below = r.1.below in
          let at_i : get_or d i 0 ≡ get_or c i 0 + 1 = ap (λ z. get_or z i 0) r.1.is ∙ raised_here i (omega arith) in
          let other : i ≡ n → ⊥ = omega arith in
          let kept : get_or d i 0 ≡ get_or c i 0 = ap (λ z. get_or z i 0) (sym q) ∙ get_or-set_other c n i (get_or c n 0 + 1) 0 other in
          omega arith
      apart d true r (suc k, w, q) = omega arith
      apart d false r (k, w, q) = omega arith

  pub children_few : (n : ℕ) → length (children_below allows line c n) ≤ n
  children_few zero = omega arith
  children_few (suc n) =
      let rest = children_few n in
      let one : length (cond (may_raise allows line c n) (raised c n ∷ []) []) ≤ 1 = at_most (may_raise allows line c n) in
      omega (arith, length-append (children_below allows line c n) (cond (may_raise allows line c n) (raised c n ∷ []) []))
    where
      at_most : (b : Bool) → length (cond b (raised c n ∷ []) []) ≤ 1
      at_most true = omega arith
      at_most false = omega arith

  children_stop : Shortens allows → (i : ℕ) → allows (take i (text line c)) ≡ false → (n : ℕ) → i ≤ n → children_below allows line c n ≡ children_below allows line c i
  children_stop shorter i shut zero l = ap (children_below allows line c) (let e : 0 ≡ i = omega arith in e)
  children_stop shorter i shut (suc n) l = ⊎_elim
      (λ (k : n < i). ap (children_below allows line c) (let e : suc n ≡ i = omega arith in e))
      (λ (k : i ≤ n). ap (λ b. children_below allows line c n ++ cond b (raised c n ∷ []) []) (not_here k) ∙ append-nil (children_below allows line c n) ∙ children_stop shorter i shut n k)
      (cases_lt n i)
    where
      not_open : i ≤ n → allows (take n (text line c)) ≡ false
      not_open k = ⊎_elim
          (λ (h : allows (take n (text line c)) ≡ true). absurd (both_ways _ shut (ap allows (sym (take-take i n (text line c) k)) ∙ shorter (take n (text line c)) i h)))
          (λ h. h) (cases_Bool (allows (take n (text line c))))

      not_here : i ≤ n → may_raise allows line c n ≡ false
      not_here k = and_right _ _ (and_left (allows (take n (text line c))) (ltb (get_or c n 0 + 1) (length (get_or line n []))) (not_open k))

pub few_children : ChildrenAreFew
few_children g laws line c = record {
  few = children_few g.allows line c (length line);
  stop = λ i l shut. children_stop g.allows line c laws.shorter i shut (length line) l;
}

-- a child is raised from its parent, which is the child lowered
module _ (allows : Texts) (line : Cells) (p : Chain) (chain : ChainOf line p) where
  child_last : (d : Chain) (i : ℕ) → Child allows line p d (length line) i → Last d i
  child_last d i h =
      let long = chain.long in
      let below = h.below in
      let inside : i < length p = omega arith in
      let at_i : get_or d i 0 ≡ get_or p i 0 + 1 = ap (λ z. get_or z i 0) h.is ∙ raised_here allows line p i inside in
      let long' : length d ≡ length p = ap length h.is ∙ length-set p i (get_or p i 0 + 1) in
      let told = leb-true _ i (and_parts _ _ h.may).0 in
      let place : or_zero (last_raised p) ≤ i = omega arith in
      record { inside = omega arith; up = omega arith; flat = λ j l. (let other : j ≡ i → ⊥ = omega arith in ap (λ z. get_or z j 0) h.is ∙ get_or-set_other p i j (get_or p i 0 + 1) 0 other) ∙ flat (last_raised p) refl j (let m : i < j = l in omega arith) }
    where
      flat : (o : Option ℕ) → last_raised p ≡ o → (j : ℕ) → or_zero o < j → get_or p j 0 ≡ 0
      flat None e j l = flat_of p e j
      flat (Some k) e j l = (last_of p k e).flat j l

  child_lowered : (d : Chain) (i : ℕ) → Child allows line p d (length line) i → Lowered d p i
  child_lowered d i h =
      let long = chain.long in
      let below = h.below in
      let inside : i < length p = omega arith in
      let at_i : get_or d i 0 ≡ get_or p i 0 + 1 = ap (λ z. get_or z i 0) h.is ∙ raised_here allows line p i inside in
      let less : get_or d i 0 - 1 ≡ get_or p i 0 = omega arith in
      record {
        place = is_last d i (child_last d i h);
        is = sym (ap (set d i) less ∙ ap (λ z. set z i (get_or p i 0)) h.is ∙ set-set p i (get_or p i 0 + 1) (get_or p i 0) ∙ set-get_or p i 0);
      }

  child_live : (d : Chain) (i : ℕ) → Child allows line p d (length line) i → live allows line d ≡ true
  child_live d i h =
      live_opening allows line d i (is_last d i (child_last d i h))
      ∙ ap allows (sym (lowered_text line d p i (child_lowered d i h)))
      ∙ (and_parts (allows (take i (text line p))) _ (and_parts _ _ h.may).1).0

  child_chain : (d : Chain) (i : ℕ) → Child allows line p d (length line) i → ChainOf line d
  child_chain d i h = subst (ChainOf line) (sym h.is)
      (chain_set line p i (get_or p i 0 + 1) chain (ltb-true _ _ (and_parts (allows (take i (text line p))) _ (and_parts _ _ h.may).1).1))

  lowered_child : (d : Chain) (i : ℕ) → ChainOf line d → live allows line d ≡ true → Lowered d p i → Child allows line p d (length line) i
  lowered_child d i dchain alive h =
      let last = last_of d i h.place in
      let inside = last.inside in
      let up = last.up in
      let dlong = dchain.long in
      let fits = dchain.within i (omega arith) in
      let at_i : get_or p i 0 ≡ get_or d i 0 - 1 = ap (λ z. get_or z i 0) h.is ∙ get_or-set_same d i (get_or d i 0 - 1) 0 inside in
      let more : get_or p i 0 + 1 ≡ get_or d i 0 = omega arith in
      record {
        below = omega arith;
        may = and_from _ _ (le-leb _ i (lowered_place d p i h))
            (and_from (allows (take i (text line p))) _ (ap allows (lowered_text line d p i h) ∙ sym (live_opening allows line d i h.place) ∙ alive)
            (lt-ltb _ _ (omega arith)));
        is = sym (ap (set p i) more ∙ ap (λ z. set z i (get_or d i 0)) h.is ∙ set-set d i (get_or d i 0 - 1) (get_or d i 0) ∙ set-get_or d i 0);
      }

pub growth : LiveChainsGrow
growth s laws g grammar line well = record {
  irreflexive = before_self s laws line;
  transitive = before_trans s laws line;
  ascending = known.in_order;
  root_ranked = (known.exactly_live (root line)).1 (root_chain line (sound line well), ap (opens g.allows (text line (root line))) root_none);
  root_first = ap (lowered_at (root line)) root_none;
  one_root = λ c m e. flat_is_root line c ((known.exactly_live c).0 m).0.long (flat_of c (none_lowered c e));
  parent_ranked = λ c p m e.
      let r = from_lowered c p e in
      let here = (known.exactly_live c).0 m in
      (known.exactly_live p).1 (parent_chain line c p r.0 r.1 here.0, parent_live g.allows grammar.shorter line c p r.0 r.1 here.1);
  parent_before = λ c p m e.
      let r = from_lowered c p e in
      parent_first s laws line (sound line well) c p r.0 r.1 ((known.exactly_live c).0 m).0;
  children_are = λ p m c.
      let chain = ((known.exactly_live p).0 m).0 in (
        λ h. let r = child_from g.allows line p (length line) c h in
            ((known.exactly_live c).1 (child_chain g.allows line p chain c r.0 r.1, child_live g.allows line p chain c r.0 r.1), to_lowered c p r.0 (child_lowered g.allows line p chain c r.0 r.1)),
        λ h. let here = (known.exactly_live c).0 h.0 in
            let r = from_lowered c p h.1 in
            child_to g.allows line p (length line) c r.0 (lowered_child g.allows line p chain c r.0 here.0 here.1 r.1),
      );
  children_once = λ p m. children_once g.allows line p (length line) (let e = ((known.exactly_live p).0 m).0.long in omega arith);
}
  where
    known : Ranked s g line
    known = ranked s laws g line

    root_none : last_raised (root line) ≡ None
    root_none = is_flat (root line) (root_flat (length line))

pub chains_best_first : BestFirstOfChains
chains_best_first s laws g grammar line well =
    best_first (before s line) lowered (children g.allows line) (root line) (ranking s g.allows line) (growth s laws g grammar line well)

pub small : FrontierIsSmall
small s laws g grammar line well k bench f =
    (chains_best_first s laws g grammar line well).small (length line) k bench (line_parts line well).some (λ p m. children_few g.allows line p (length line)) f
