-- A look goes on in the ranking, and a search stops at the first that is admitted. Assumes nothing.
use Rattle.std.proofs.Common.{◌≡◌, ℕ, zero, suc, ◌+◌, ◌-◌, ◌*◌, ◌<◌, ◌≤◌, Bool, true, false, cond, Contains, List, [], ◌∷◌, ◌++◌, length, take, drop, Some, None, Option, sym, refl, ap, ◌∙◌, subst, ⊎_elim, mul_comm, mul-le-mul_left, mul-zero, mul-suc, arith}
use Rattle.std.specs.List.{AllByRecursion}
use Rattle.std.proofs.lemmas.List.{drop-drop, drop-take, nil_from_length}
use Rattle.std.proofs.lemmas.Bool.{cases_lt, cond-true, cond-false}
use Rattle.std.proofs.ByRecursion.{All-push}
use Rattle.scores.specs.Scores.{Meaning, Laws}
use Rattle.grammars.specs.Grammars.{Texts, Sets, Lawful}
use Rattle.pages.proofs.Shape.{line_parts}
use Rattle.search.specs.BestFirst.{Frontier, Least}
use Rattle.pages.specs.Shape.{Cells, well_formed_line}
use Rattle.search.specs.Chains as chains
use Rattle.search.specs.Chains.{Chain, ChainOf, before, children, lowered, ranking, root}
use Rattle.search.proofs.Members.{Contains-first, Contains-drop, take_next, drop_next}
use Rattle.search.proofs.Ranking.{ranked}
use Rattle.search.proofs.Growth.{chains_best_first, small}
use Rattle.bench.specs.declared.Bench.{Bench}
use Rattle.bench.specs.declared.Reading.{Reading}
use Rattle.bench.specs.Held.{in_use, on_bench, times, Holds, Seen}
use Rattle.bench.specs.Searched.{AgreesAt, admitted, due, one_further, first_passing}
use Rattle.bench.proofs.Counts.{without_times, alike_times, distinct_alike}
use Rattle.bench.proofs.Texts.{text_long, front}
use Rattle.bench.proofs.Benches.{holds_self, many_on}

-- what a look at the chain c gives, with k chains looked at before: c is the next of the ranking, the reading begins with
-- its text, and the bench agrees again
pub record LookGives {S : Type 0} (s : Meaning) (g : Sets) (l : Cells) (k granted : ℕ) (is : Bench S) (reading : Reading) (c : Chain) : Type 0 where
  pub next : (k < length (ranking s g.allows l)) × (drop k (ranking s g.allows l) ≡ c ∷ drop (k + 1) (ranking s g.allows l))
  pub text : (n : ℕ) → n ≡ length l → take n reading.text ≡ chains.text l c
  pub agrees : k < granted → AgreesAt s g.allows l (k + 1) granted is

module _ {S : Type 0} (s : Meaning) (laws : Laws s) (g : Sets) (lawful : Lawful g) (l : Cells) (well : well_formed_line l ≡ true) where
  -- the chains on the bench fit it, with room for the next look
  pub room_left : (k granted : ℕ) (bench : Bench S) → AgreesAt s g.allows l k granted bench → k < granted → length (on_bench l bench) + length l ≤ 4097
  room_left k granted bench h lt =
      let size = small s laws g lawful l well k (on_bench l bench) h.frontier in
      let more : length l * (k + 1) ≤ length l * granted = mul-le-mul_left (length l) (omega arith) in
      let wide = (line_parts l well).some in
      let most = h.room in
      bound (length l) k (length (on_bench l bench)) size (omega (arith, more)) wide
    where
      bound : (n k size : ℕ) → size ≤ 1 + k * (n - 1) → n * (k + 1) ≤ 4095 → 1 ≤ n → size + n ≤ 4097
      bound zero k size a b c = absurd (omega arith)
      bound (suc n) k size a b c =
          let e : suc n - 1 ≡ n = omega arith in
          let a' : size ≤ 1 + k * n = subst (λ m. size ≤ 1 + k * m) e a in
          let f : suc n * (k + 1) ≡ suc n * k + suc n = (let one : k + 1 ≡ suc k = omega arith in ap (λ m. suc n * m) one ∙ mul-suc (suc n) k) in
          let h : suc n * k ≡ k * suc n = mul_comm (suc n) k in
          let i : k * suc n ≡ k * n + k = mul-suc k n in
          omega arith

  -- the chains on it are live
  pub all_live : (k granted : ℕ) (bench : Bench S) → AgreesAt s g.allows l k granted bench → (c : Chain) → Contains (on_bench l bench) c → chains.live g.allows l c ≡ true
  all_live k granted bench h c here = (((ranked s laws g l).exactly_live c).0 (Contains-drop k (ranking s g.allows l) c ((h.frontier.holds c).0 here).0)).1

  module _ (k granted : ℕ) (was is : Bench S) (reading : Reading) (h : AgreesAt s g.allows l k granted was) (seen : Seen s g.allows l was is reading) where
    least : Least (before s l) seen.chain (on_bench l was)
    least = (chains_best_first s laws g lawful l well).least k (on_bench l was) seen.chain h.frontier seen.chosen.first

    -- the chain looked at is one of the line, and the reading begins with its text
    look_text : (n : ℕ) → n ≡ length l → take n reading.text ≡ chains.text l seen.chain
    look_text n e =
        let chain : ChainOf l seen.chain = (((ranked s laws g l).exactly_live seen.chain).0 (Contains-drop k (ranking s g.allows l) seen.chain ((h.frontier.holds seen.chain).0 seen.chosen.first.0).0)).0 in
        ap (λ r. take n r.text) seen.reads ∙ front (chains.text l seen.chain) _ n (text_long l seen.chain chain.long ∙ sym e)

    pub look_agrees : k < granted → AgreesAt s g.allows l (k + 1) granted is
    look_agrees lt =
        let best = chains_best_first s laws g lawful l well in
        let after = best.grows k (on_bench l was) seen.rest seen.chain h.frontier least (without_times seen.chain (on_bench l was) seen.rest h.frontier.once seen.chosen.others) in
        let cs = seen.rest ++ children g.allows l seen.chain in
        let as-often : (c : Chain) → times c cs ≡ times c (on_bench l is) = λ c. sym (seen.holds.chains c) in
        record {
          holds = holds_self s l is cs seen.holds;
          frontier = best.shuffles (k + 1) cs (on_bench l is) after (distinct_alike cs (on_bench l is) as-often after.once) (alike_times cs (on_bench l is) as-often);
          within = omega arith;
          room = h.room;
        }

    pub look_gives : LookGives s g l k granted is reading seen.chain
    look_gives = record {
      next = (chains_best_first s laws g lawful l well).next k (on_bench l was) seen.chain h.frontier least;
      text = look_text;
      agrees = look_agrees;
    }

  -- an empty bench has been through all of it
  pub look_ends : (k granted : ℕ) (bench : Bench S) → AgreesAt s g.allows l k granted bench → on_bench l bench ≡ [] → k ≡ length (ranking s g.allows l)
  look_ends k granted bench h e = ((chains_best_first s laws g lawful l well).ends k (on_bench l bench) h.frontier).0 e

  pub look_left : (k granted : ℕ) (bench : Bench S) → AgreesAt s g.allows l k granted bench → k ≡ length (ranking s g.allows l) → on_bench l bench ≡ []
  look_left k granted bench h e = ((chains_best_first s laws g lawful l well).ends k (on_bench l bench) h.frontier).1 e

pub agrees_empty : {S : Type 0} (s : Meaning) (allows : Texts) (l : Cells) (k granted : ℕ) (was is : Bench S) → AgreesAt s allows l k granted was → on_bench l was ≡ [] → Holds s l is [] → AgreesAt s allows l k granted is
agrees_empty s allows l k granted was is h e empty = record {
  holds = holds_self s l is [] empty;
  frontier = subst (Frontier lowered (ranking s allows l) k) (e ∙ sym (nil_from_length (on_bench l is) empty.many)) h.frontier;
  within = h.within;
  room = h.room;
}

module _ {S : Type 0} (s : Meaning) (laws : Laws s) (g : Sets) (lawful : Lawful g) (l : Cells) (well : well_formed_line l ≡ true) where
  -- a bench that holds the root alone agrees before any look
  pub agrees_root : (bench : Bench S) → Holds s l bench (root l ∷ []) → AgreesAt s g.allows l 0 0 bench
  agrees_root bench h =
      let best = chains_best_first s laws g lawful l well in
      let none : length l * 0 ≡ 0 = mul-zero (length l) in
      let as-often : (c : Chain) → times c (root l ∷ []) ≡ times c (on_bench l bench) = λ c. sym (h.chains c) in
      record {
        holds = holds_self s l bench (root l ∷ []) h;
        frontier = best.shuffles 0 (root l ∷ []) (on_bench l bench) best.starts (distinct_alike (root l ∷ []) (on_bench l bench) as-often best.starts.once) (alike_times (root l ∷ []) (on_bench l bench) as-often);
        within = omega arith;
        room = omega arith;
      }

  -- a bench that agrees is within its bound, and is empty exactly when no live chain is left
  module _ (k granted : ℕ) (bench : Bench S) (h : AgreesAt s g.allows l k granted bench) where
    pub few_on : in_use bench ≤ 1 + k * (length l - 1)
    few_on = let size = small s laws g lawful l well k (on_bench l bench) h.frontier in omega (arith, many_on l bench)

    pub empty_ends : in_use bench ≡ 0 → k ≡ length (ranking s g.allows l)
    empty_ends e = look_ends s laws g lawful l well k granted bench h (nil_from_length (on_bench l bench) (omega (arith, many_on l bench)))

    pub full_left : (in_use bench ≡ 0 → ⊥) → k < length (ranking s g.allows l)
    full_left n =
        let reached = h.frontier.reached in
        ⊎_elim (λ (lt : k < length (ranking s g.allows l)). lt)
        (λ (le : length (ranking s g.allows l) ≤ k). absurd (n (omega (arith, many_on l bench, ap length (look_left s laws g lawful l well k granted bench h (omega arith))))))
        (cases_lt k (length (ranking s g.allows l)))

-- those of a list from `looked` to k, and one more
module _ (P : Chain → Type 0) (rk : List Chain) (looked k : ℕ) (le : looked ≤ k) where
  dropped : drop (k - looked) (drop looked rk) ≡ drop k rk
  dropped = drop-drop (k - looked) looked rk ∙ (let e : looked + (k - looked) ≡ k = omega arith in ap (λ n. drop n rk) e)

  pub passed_more : (c : Chain) → drop k rk ≡ c ∷ drop (k + 1) rk → AllByRecursion P (take (k - looked) (drop looked rk)) → P c → AllByRecursion P (take ((k + 1) - looked) (drop looked rk))
  passed_more c here all p =
      let e : (k + 1) - looked ≡ (k - looked) + 1 = omega arith in
      subst (λ n. AllByRecursion P (take n (drop looked rk))) (sym e)
      (subst (AllByRecursion P) (sym (take_next (k - looked) (drop looked rk) c (drop (k + 1) rk) (dropped ∙ here))) (All-push P (take (k - looked) (drop looked rk)) c all p))

  pub here_in : (granted : ℕ) (c : Chain) → k < granted → drop k rk ≡ c ∷ drop (k + 1) rk
      → drop (k - looked) (take (granted - looked) (drop looked rk)) ≡ c ∷ drop ((k - looked) + 1) (take (granted - looked) (drop looked rk))
  here_in granted c lt here =
      let n = k - looked in
      let xs = drop looked rk in
      let next = dropped ∙ here in
      let j = granted - (k + 1) in
      let e : granted - looked ≡ n + suc j = omega arith in
      let f : granted - looked ≡ (n + 1) + j = omega arith in
      ap (λ m. drop n (take m xs)) e
      ∙ drop-take n (suc j) xs
      ∙ ap (take (suc j)) next
      ∙ ap (λ ys. c ∷ ys) (sym (ap (λ m. drop (n + 1) (take m xs)) f ∙ drop-take (n + 1) j xs ∙ ap (take j) (drop_next n xs c (drop (k + 1) rk) next)))

-- the first that passes, by those that do not
module _ (test : Chain → Bool) where
  pub none_passes : (cs : List Chain) → AllByRecursion (λ d. test d ≡ false) cs → first_passing test cs ≡ None
  none_passes [] h = refl
  none_passes (c ∷ cs) h = cond-false (test c) (Some (0, c)) (one_further (first_passing test cs)) h.0 ∙ ap one_further (none_passes cs h.1)

  pub passes_first : (n : ℕ) (cs : List Chain) (c : Chain) → AllByRecursion (λ d. test d ≡ false) (take n cs) → drop n cs ≡ c ∷ drop (n + 1) cs → test c ≡ true → first_passing test cs ≡ Some (n, c)
  passes_first zero [] c all here e = cc
  passes_first zero (x ∷ cs) c all here e =
      let same : x ≡ c = cc in
      cond-true (test x) (Some (0, x)) (one_further (first_passing test cs)) (ap test same ∙ e) ∙ ap (λ z. Some (0, z)) same
  passes_first (suc n) [] c all here e = cc
  passes_first (suc n) (x ∷ cs) c all here e =
      let next : suc n + 1 ≡ suc (n + 1) = omega arith in
      let one : n + 1 ≡ suc n = omega arith in
      cond-false (test x) (Some (0, x)) (one_further (first_passing test cs)) all.0
      ∙ ap one_further (passes_first n cs c all.1 (here ∙ ap (λ k. c ∷ drop k (x ∷ cs)) next) e)
      ∙ ap (λ k. Some (k, c)) one

-- the first n of the list fail the test, and c, which comes next, passes it
pub record FirstPassing (test : Chain → Bool) (cs : List Chain) (n : ℕ) (c : Chain) : Type 0 where
  pub passed_over : AllByRecursion (λ d. test d ≡ false) (take n cs)
  pub here : drop n cs ≡ c ∷ drop (n + 1) cs
  pub passes : test c ≡ true

-- what the first that passes tells, where there is one and where there is none
abbrev Passing : (Chain → Bool) → List Chain → Option (ℕ × Chain) → Type 0
Passing test cs (Some found) = FirstPassing test cs found.0 found.1
Passing test cs None = AllByRecursion (λ d. test d ≡ false) cs

module _ (test : Chain → Bool) where
  passing : (cs : List Chain) → Passing test cs (first_passing test cs)
  passing [] = tt
  passing (x ∷ cs) = go (test x) refl (first_passing test cs) (passing cs)
    where
      go : (b : Bool) → test x ≡ b → (o : Option (ℕ × Chain)) → Passing test cs o → Passing test (x ∷ cs) (cond b (Some (0, x)) (one_further o))
      go true e o rest = record { passed_over = tt; here = refl; passes = e }
      go false e None rest = (e, rest)
      go false e (Some found) rest =
          let one : found.0 + 1 ≡ suc found.0 = omega arith in
          let two : found.0 + 1 + 1 ≡ suc (found.0 + 1) = omega arith in
          record {
            passed_over = subst (λ n. AllByRecursion (λ d. test d ≡ false) (take n (x ∷ cs))) (sym one) (e, rest.passed_over);
            here = ap (λ n. drop n (x ∷ cs)) one ∙ rest.here ∙ ap (λ n. found.1 ∷ drop n (x ∷ cs)) (sym two);
            passes = rest.passes;
          }

  pub passing_first : (cs : List Chain) (n : ℕ) (c : Chain) → first_passing test cs ≡ Some (n, c) → FirstPassing test cs n c
  passing_first cs n c e = subst (Passing test cs) e (passing cs)

  pub passing_none : (cs : List Chain) → first_passing test cs ≡ None → AllByRecursion (λ d. test d ≡ false) cs
  passing_none cs e = subst (Passing test cs) e (passing cs)

-- where one stands in the beginning of a list, it stands in the list
pub due_at : (n m : ℕ) (xs : List Chain) (c : Chain) (ys : List Chain) → drop n (take m xs) ≡ c ∷ ys → (n < m) × (drop n xs ≡ c ∷ drop (n + 1) xs)
due_at zero zero xs c ys e = absurd cc
due_at zero (suc m) [] c ys e = absurd cc
due_at zero (suc m) (x ∷ xs) c ys e = let q : x ≡ c = cc in (omega arith, ap (λ z. z ∷ xs) q)
due_at (suc n) zero xs c ys e = absurd cc
due_at (suc n) (suc m) [] c ys e = absurd cc
due_at (suc n) (suc m) (x ∷ xs) c ys e =
    let r = due_at n m xs c ys e in
    let lt = r.0 in
    let f : suc n + 1 ≡ suc (n + 1) = omega arith in
    (omega arith, r.1 ∙ ap (λ j. c ∷ drop j (x ∷ xs)) (sym f))

-- one of those due is a chain of the line
pub due_chain : (s : Meaning) → Laws s → (g : Sets) (l : Cells) (looked granted n : ℕ) (c : Chain) → FirstPassing (admitted g l) (due s g l looked granted) n c → ChainOf l c
due_chain s laws g l looked granted n c first =
    let rk = ranking s g.allows l in
    let at = due_at n (granted - looked) (drop looked rk) c _ first.here in
    (((ranked s laws g l).exactly_live c).0 (Contains-drop looked rk c (Contains-drop n (drop looked rk) c (rw at.1 (Contains-first c _))))).0
