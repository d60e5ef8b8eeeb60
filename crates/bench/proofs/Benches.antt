-- What a bench holds after a place is put onto it or taken from it. Assumes nothing.
use Rattle.std.proofs.Common.{◌≡◌, ℕ, zero, suc, ◌+◌, ◌<◌, ◌≤◌, Bool, true, false, cond, ◌&&◌, eqb, ltb, leb, Contains, List, [], ◌∷◌, ◌++◌, map, length, get_or, take, drop, replicate, ◌-◌, heap_items, sym, refl, ap, ◌∙◌, subst, inl, inr, ⊎_elim, Some, None, Option, IfSome, IfNone, arith, length-append, length-take, get_or-take}
use Rattle.std.specs.BinaryHeap.{heap_capacity, PopsGreatest}
use Rattle.std.specs.List.Sorted.{IsPermutation}
use Rattle.std.specs.List.{AllByRecursion}
use Rattle.std.proofs.lemmas.List.Sorted.{length_permutation}
use Rattle.std.proofs.ByRecursion.{all_shuffled}
use Rattle.std.proofs.lemmas.List.{length-map, take-take, append-nil, nil_from_length}
use Rattle.std.proofs.lemmas.Bool.{and_parts, and_left, and_from, and_right, or_cases, ltb-true, eqb-true, le-leb, lt-leb, lt-ltb, le-ltb, cond-false, cases_Bool, cases_lt, false≢true}
use Rattle.scores.specs.Scores.{Meaning}
use Rattle.grammars.specs.Grammars.{Texts, Sets, Lawful}
use Rattle.pages.specs.Shape.{Cells}
use Rattle.search.specs.Chains.{Chain, ChainOf, text, total, lower, before, last_raised, or_zero, raised, may_raise, children_below, children}
use Rattle.bench.specs.declared.places.Place.{Place}
use Rattle.bench.specs.declared.ranks.Ranks.{Ranks}
use Rattle.bench.specs.declared.Bench.{Bench}
use Rattle.bench.specs.Order.{standing, Ready, First, Before, Lower}
use Rattle.bench.specs.Ranks.{ranks_of, chain_in}
use Rattle.bench.specs.Held.{in_use, Roomy, Placed, on_bench, beside, times, Holds, Taken, Seen}
use Rattle.search.proofs.Members.{Contains-first}
use Rattle.search.proofs.Order.{before_parts}
use Rattle.search.proofs.Growth.{few_children}
use Rattle.bench.proofs.Counts.{times_append, times_shuffled}
use Rattle.bench.proofs.Orders.{begins}
use Rattle.bench.proofs.Texts.{text_fills}

-- what is in use, as chains
pub many_on : {S : Type 0} (l : Cells) (bench : Bench S) → length (on_bench l bench) ≡ in_use bench
many_on l bench = length-map (heap_items bench.places) (λ p. chain_in l p.ranks.0) ∙ sym bench.places.data.ok.0

abbrev chain_at : {S : Type 0} → Cells → Place S → Chain
chain_at l p = chain_in l p.ranks.0

module _ {S : Type 0} (s : Meaning) (l : Cells) where
  -- whatever it holds, it holds the chains on it
  pub holds_self : (bench : Bench S) (cs : List Chain) → Holds s l bench cs → Holds s l bench (on_bench l bench)
  holds_self bench cs h = record { ready = h.ready; room = h.room; places = h.places; chains = λ c. refl; many = refl }

  pub holds_same : (bench : Bench S) (cs ds : List Chain) → cs ≡ ds → Holds s l bench cs → Holds s l bench ds
  holds_same bench cs ds e h = subst (Holds s l bench) e h

-- those behind the first place, as chains
pub behind_first : {S : Type 0} (l : Cells) (xs : List (Place S)) → map (chain_at l) (drop 1 xs) ≡ drop 1 (map (chain_at l) xs)
behind_first l [] = refl
behind_first l (x ∷ xs) = refl

all_behind : {A : Type 0} (P : A → Type 0) (xs : List A) → AllByRecursion P xs → AllByRecursion P (drop 1 xs)
all_behind P [] h = tt
all_behind P (x ∷ xs) h = h.1

begins_with : {S : Type 0} (l : Cells) (xs : List (Place S)) (x : Place S) → xs ≡ x ∷ drop 1 xs → map (chain_at l) xs ≡ chain_at l x ∷ drop 1 (map (chain_at l) xs)
begins_with l xs x e = ap (map (chain_at l)) e ∙ ap (λ cs. chain_at l x ∷ cs) (behind_first l xs)

module _ {S : Type 0} (s : Meaning) (l : Cells) where
  -- without a place it holds no chain
  pub holds_none : (bench : Bench S) → Ready s (heap_items bench.places) → Roomy bench → heap_items bench.places ≡ [] → Holds s l bench (on_bench l bench)
  holds_none bench ready room none = record { ready = ready; room = room; places = subst (AllByRecursion (Placed s l)) (sym none) tt; chains = λ c. refl; many = refl }

  -- one more, beside places that are kept
  module _ (kept : List (Place S)) (placed : AllByRecursion (Placed s l) kept) (is : Bench S) (ready : Ready s (heap_items is.places)) (room : Roomy is) (p : Place S) (shuffled : IsPermutation (p ∷ kept) (heap_items is.places)) where
    holds_more : ChainOf l (chain_at l p) → p.grade.total ≡ total s l (chain_at l p) → Holds s l is (map (chain_at l) kept ++ chain_at l p ∷ [])
    holds_more chain sum =
        let ys = heap_items is.places in
        let cs = map (chain_at l) kept in
        record {
          ready = ready;
          room = room;
          places = all_shuffled (Placed s l) (p ∷ kept) ys shuffled ((chain, sum), placed);
          chains = λ c. let e = times_shuffled c (chain_at l) (p ∷ kept) ys shuffled in let f = times_append c cs (chain_at l p ∷ []) in omega (arith, e, f);
          many = omega (arith, length-map ys (chain_at l), length_permutation (p ∷ kept) ys shuffled, length-map kept (chain_at l), length-append cs (chain_at l p ∷ []));
        }

    -- a chain with its total
    pub holds_chain : (r : Ranks) → p.ranks.0 ≡ r → ChainOf l (chain_in l r) → p.grade.total ≡ total s l (chain_in l r) → Holds s l is (map (chain_at l) kept ++ chain_in l r ∷ [])
    holds_chain r e chain sum =
        subst (λ q. Holds s l is (map (chain_at l) kept ++ chain_in l q ∷ [])) e
        (holds_more (subst (λ q. ChainOf l (chain_in l q)) (sym e) chain) (sum ∙ ap (λ q. total s l (chain_in l q)) (sym e)))

  module _ (was is : Bench S) (h : Holds s l was (on_bench l was)) where
    -- a chain is put beside all others, or in place of the first
    module _ (ready : Ready s (heap_items is.places)) (room : Roomy is) (p : Place S) (r : Ranks) (e : p.ranks.0 ≡ r) (chain : ChainOf l (chain_in l r)) (sum : p.grade.total ≡ total s l (chain_in l r)) where
      pub holds_put : IsPermutation (p ∷ heap_items was.places) (heap_items is.places) → Holds s l is (on_bench l was ++ chain_in l r ∷ [])
      holds_put shuffled = holds_chain (heap_items was.places) h.places is ready room p shuffled r e chain sum

      pub holds_put_first : IsPermutation (p ∷ drop 1 (heap_items was.places)) (heap_items is.places) → Holds s l is (drop 1 (on_bench l was) ++ chain_in l r ∷ [])
      holds_put_first shuffled =
          subst (λ cs. Holds s l is (cs ++ chain_in l r ∷ [])) (behind_first l (heap_items was.places))
          (holds_chain (drop 1 (heap_items was.places)) (all_behind (Placed s l) (heap_items was.places) h.places) is ready room p shuffled r e chain sum)

    -- or the first is taken off
    pub holds_removed : (M : Type 0) (r : Option (Place S)) → heap_capacity is.places ≡ heap_capacity was.places → IfNone r (in_use was ≡ 0) → IfNone r ((heap_items is.places ≡ heap_items was.places) × M)
        → IfSome r (λ x. x ≡ get_or (heap_items was.places) 0 x) → IfSome r (λ x. IsPermutation (heap_items was.places) (x ∷ heap_items is.places))
        → IfSome r (λ x. PopsGreatest (standing s) (heap_items was.places) x (heap_items is.places)) → Holds s l is (drop 1 (on_bench l was))
    holds_removed M None wide none stays at shuffled order =
        let nothing : heap_items was.places ≡ [] = nil_from_length (heap_items was.places) (sym was.places.data.ok.0 ∙ none) in
        let same : on_bench l is ≡ drop 1 (on_bench l was) = ap (map (chain_at l)) (stays.0 ∙ nothing) ∙ sym (ap (λ xs. drop 1 (map (chain_at l) xs)) nothing) in
        record {
          ready = subst (Ready s) (sym stays.0) h.ready;
          room = omega (arith, wide, h.room);
          places = subst (AllByRecursion (Placed s l)) (sym stays.0) h.places;
          chains = λ c. ap (times c) same;
          many = ap length same;
        }
    holds_removed M (Some x) wide none stays at shuffled order =
        let xs = heap_items was.places in
        let ys = heap_items is.places in
        let some : suc (length ys) ≡ length xs = length_permutation xs (x ∷ ys) shuffled in
        let all : on_bench l was ≡ chain_at l x ∷ drop 1 (on_bench l was) = begins_with l xs x (begins xs x (omega (arith, some)) at) in
        record {
          ready = (order h.ready).0;
          room = omega (arith, wide, h.room);
          places = (all_shuffled (Placed s l) xs (x ∷ ys) shuffled h.places).1;
          chains = λ c. let e = times_shuffled c (chain_at l) xs (x ∷ ys) shuffled in let f = ap (times c) all in omega (arith, e, f);
          many = omega (arith, some, length-map ys (chain_at l), length-map xs (chain_at l), ap length all);
        }

-- the lower rank in the first cell where they differ
lower_at : (a b : Chain) → lower a b ≡ true → Lower a b
lower_at [] b h = absurd (false≢true h)
lower_at (x ∷ a) [] h = absurd (false≢true h)
lower_at (x ∷ a) (y ∷ b) h = ⊎_elim
    (λ less. (0, omega arith, omega arith, refl, ltb-true x y less))
    (λ q. let p = and_parts (eqb x y) (lower a b) q in
    let r = lower_at a b p.1 in
    let e = eqb-true x y p.0 in
    let k1 = r.1 in let k2 = r.2 in
    (suc r.0, omega arith, omega arith, (λ i. e i ∷ r.3 i), r.4))
    (or_cases (ltb x y) (eqb x y && lower a b) h)

lower_in : (n : ℕ) (xs ys : List ℕ) → Lower (take n xs) (take n ys) → Lower xs ys
lower_in n xs ys h =
    let k = h.0 in
    let in-x = h.1 in
    let in-y = h.2 in
    let le : k ≤ n = omega (arith, length-take n xs) in
    let lt : k < n = omega (arith, length-take n xs) in (
      k,
      omega (arith, length-take n xs),
      omega (arith, length-take n ys),
      sym (take-take k n xs le) ∙ h.3 ∙ take-take k n ys le,
      subst (λ z. z < get_or ys k 0) (get_or-take n xs k 0 lt) (subst (λ z. get_or (take n xs) k 0 < z) (get_or-take n ys k 0 lt) h.4),
    )

module _ {S : Type 0} (s : Meaning) (l : Cells) where
  -- of places with their totals, one whose chain stands before stands before
  before_places : (y x : Place S) → y.grade.total ≡ total s l (chain_in l y.ranks.0) → x.grade.total ≡ total s l (chain_in l x.ranks.0)
      → before s l (chain_in l y.ranks.0) (chain_in l x.ranks.0) ≡ true → Before s y x
  before_places y x ey ex h =
      let a = total s l (chain_in l y.ranks.0) in
      let b = total s l (chain_in l x.ranks.0) in
      let q = before_parts s l (chain_in l y.ranks.0) (chain_in l x.ranks.0) h in
      let one : s.no_worse y.grade.total x.grade.total ≡ true = (λ i. s.no_worse (ey i) (ex i)) ∙ q.0 in
      let back : s.no_worse x.grade.total y.grade.total ≡ s.no_worse b a = (λ i. s.no_worse (ex i) (ey i)) in
      ⊎_elim (λ e. inl (one, back ∙ e)) (λ e. inr (one, back ∙ e.0, lower_in (length l) (ranks_of y.ranks.0) (ranks_of x.ranks.0) (lower_at _ _ e.1))) q.1

  unbeaten_in : (x : Place S) → x.grade.total ≡ total s l (chain_in l x.ranks.0) → (ys : List (Place S)) → First s x ys → AllByRecursion (Placed s l) ys
      → (d : Chain) → Contains (map (chain_at l) ys) d → before s l d (chain_in l x.ranks.0) ≡ false
  unbeaten_in x ex [] first all d (k, w, e) = absurd (omega arith)
  unbeaten_in x ex (y ∷ ys) first all d (zero, w, e) =
      ⊎_elim (λ (h : before s l d (chain_in l x.ranks.0) ≡ true). absurd (first.0 (before_places y x all.0.1 ex (subst (λ z. before s l z (chain_in l x.ranks.0) ≡ true) (sym e) h))))
      (λ h. h) (cases_Bool (before s l d (chain_in l x.ranks.0)))
  unbeaten_in x ex (y ∷ ys) first all d (suc k, w, e) = unbeaten_in x ex ys first.1 all.1 d (k, omega arith, e)

module _ {S : Type 0} (s : Meaning) (l : Cells) (was : Bench S) (x : Place S) (h : Holds s l was (on_bench l was)) (begins : heap_items was.places ≡ x ∷ drop 1 (heap_items was.places)) where
  -- what the first place of a bench has
  pub placed_first : Placed s l x
  placed_first = (subst (AllByRecursion (Placed s l)) begins h.places).0

  -- it stands before all others, and those behind it are left
  pub taken_first : First s x (heap_items was.places) → Taken s l (on_bench l was) (chain_in l x.ranks.0) (drop 1 (on_bench l was))
  taken_first first =
      let all = begins_with l (heap_items was.places) x begins in
      record {
        first = (subst (λ cs. Contains cs (chain_at l x)) (sym all) (Contains-first (chain_at l x) (drop 1 (on_bench l was))), unbeaten_in s l x placed_first.1 (heap_items was.places) first h.places);
        others = λ d. ap (times d) all;
        fewer = omega (arith, ap length all);
      }

  -- it is looked at once its children stand in its place
  pub seen_first : (allows : Texts) (is : Bench S) (t : List ℕ) → t ≡ text l (chain_in l x.ranks.0) ++ replicate (24 - length l) 0 → First s x (heap_items was.places)
      → Holds s l is (drop 1 (on_bench l was) ++ children allows l (chain_in l x.ranks.0)) → Seen s allows l was is (record { text = t; total = x.grade.total })
  seen_first allows is t reads first holds = record {
    chain = chain_in l x.ranks.0;
    rest = drop 1 (on_bench l was);
    chosen = taken_first first;
    reads = λ i. record { text = reads i; total = placed_first.1 i };
    holds = holds;
  }

-- A bench while its first chain is exchanged for its children: beside the parent, where that still stands there, it holds the
-- chains cs, each as often.
pub record Exchanging {S : Type 0} (s : Meaning) (l : Cells) (is_first : Bool) (bench : Bench S) (cs : List Chain) : Type 0 where
  pub holds : Holds s l bench (on_bench l bench)
  pub some : 0 < in_use bench
  pub chains : (c : Chain) → times c (beside is_first l bench) ≡ times c cs
  pub many : length (beside is_first l bench) ≡ length cs

module _ {S : Type 0} (s : Meaning) (l : Cells) where
  pub exchanging_none : (bench : Bench S) → Holds s l bench (on_bench l bench) → 0 < in_use bench → Exchanging s l true bench (drop 1 (on_bench l bench))
  exchanging_none bench h some = record { holds = h; some = some; chains = λ c. refl; many = refl }

  pub exchanging_same : {f f' : Bool} {b b' : Bench S} {cs ds : List Chain} → f' ≡ f → b' ≡ b → cs ≡ ds → Exchanging s l f b cs → Exchanging s l f' b' ds
  exchanging_same {f} {b' = b'} {cs = cs} e q p h = subst (Exchanging s l _ b') p (subst (λ g. Exchanging s l g b' cs) (sym e) (subst (λ d. Exchanging s l f d cs) (sym q) h))

  -- a child more
  pub exchanging_more : (is_first : Bool) (was is : Bench S) (cs : List Chain) (c : Chain) → Exchanging s l is_first was cs → Holds s l is (beside is_first l was ++ c ∷ []) → Exchanging s l false is (cs ++ c ∷ [])
  exchanging_more is_first was is cs c e h =
      let old = beside is_first l was in
      record {
        holds = holds_self s l is (old ++ c ∷ []) h;
        some = omega (arith, many_on l is, h.many, length-append old (c ∷ []));
        chains = λ d. h.chains d ∙ times_append d old (c ∷ []) ∙ ap (λ n. n + times d (c ∷ [])) (e.chains d) ∙ sym (times_append d cs (c ∷ []));
        many = h.many ∙ length-append old (c ∷ []) ∙ ap (λ n. n + 1) e.many ∙ sym (length-append cs (c ∷ []));
      }

  -- all of them, and the parent taken off where it still stood there
  pub exchanged : (is_first : Bool) (bench : Bench S) {cs ds : List Chain} → Exchanging s l is_first bench cs → cs ≡ ds → (end : Bench S) → Holds s l end (beside is_first l bench) → Holds s l end ds
  exchanged is_first bench e same end h =
      holds_same s l end _ _ same (record { ready = h.ready; room = h.room; places = h.places; chains = λ c. h.chains c ∙ e.chains c; many = h.many ∙ e.many })

-- the children that raise one of the first cells, one cell more
module _ (allows : Texts) (l : Cells) (c : Chain) where
  pub children_none : (i : ℕ) → i ≤ or_zero (last_raised c) → children_below allows l c i ≡ []
  children_none zero h = refl
  children_none (suc i) h =
      ap (λ cs. cs ++ cond (may_raise allows l c i) (raised c i ∷ []) []) (children_none i (omega arith))
      ∙ cond-false (may_raise allows l c i) (raised c i ∷ []) [] (and_left (leb (or_zero (last_raised c)) i) _ (lt-leb (or_zero (last_raised c)) i (omega arith)))

  pub children_next : (i : ℕ) → children_below allows l c (i + 1) ≡ children_below allows l c i ++ cond (may_raise allows l c i) (raised c i ∷ []) []
  children_next i = let e : i + 1 ≡ suc i = omega arith in ap (children_below allows l c) e

  pub children_yes : (i : ℕ) → or_zero (last_raised c) ≤ i → allows (take i (text l c)) ≡ true → get_or c i 0 + 1 < length (get_or l i []) → children_below allows l c (i + 1) ≡ children_below allows l c i ++ raised c i ∷ []
  children_yes i le opened more =
      children_next i
      ∙ ap (λ b. children_below allows l c i ++ cond b (raised c i ∷ []) [])
      (and_from (leb (or_zero (last_raised c)) i) _ (le-leb _ i le) (and_from (allows (take i (text l c))) _ opened (lt-ltb _ _ more)))

  pub children_no : (i : ℕ) → length (get_or l i []) ≤ get_or c i 0 + 1 → children_below allows l c (i + 1) ≡ children_below allows l c i
  children_no i less =
      children_next i
      ∙ ap (λ b. children_below allows l c i ++ cond b (raised c i ∷ []) []) (and_right (leb (or_zero (last_raised c)) i) _ (and_right (allows (take i (text l c))) _ (le-ltb _ _ less)))
      ∙ append-nil (children_below allows l c i)

-- all children have been met where the cells end, and at the first opening that is not allowed
pub all_met : (g : Sets) → Lawful g → (l : Cells) {c : Chain} {t : List ℕ} {cell end : ℕ} → ChainOf l c → t ≡ text l c → cell ≡ end → end ≤ length t → (end < length t → g.allows (take end t) ≡ false)
    → children_below g.allows l c cell ≡ children g.allows l c
all_met g lawful l {c} {t} {cell} {end} chain is met within shut =
    let long = text_fills l c t chain is in
    ap (children_below g.allows l c) met
    ∙ ⊎_elim
    (λ (less : end < length t). sym ((few_children g lawful l c).stop end (omega (arith, long)) (sym (ap (λ u. g.allows (take end u)) is) ∙ shut less)))
    (λ (full : length t ≤ end). let e : end ≡ length l = omega (arith, long) in ap (children_below g.allows l c) e)
    (cases_lt end (length t))
