-- Why two runs of the same rows come to the same. Assumes nothing.
use Rattle.std.proofs.Common.{◌≡◌, ℕ, zero, suc, ◌≤◌, List, [], ◌∷◌, ◌++◌, length, drop, Some, None, Ok, Err, Option, Result, sym, refl, ap, ◌∙◌, subst, subst₂, inl, inr, ⊎_elim, arith, length-append}
use mathlib.Core.Path.{subst₃}
use Rattle.std.proofs.lemmas.List.{same_from_push}
use Rattle.std.proofs.lemmas.Bool.{both_ways}
use Rattle.scores.specs.Scores.{Meaning, Laws}
use Rattle.grammars.specs.Grammars.{Sets}
use Rattle.pages.specs.Shape.{Cells}
use Rattle.search.specs.Members.{Distinct}
use Rattle.search.specs.Chains.{Chain, text, before}
use Rattle.search.proofs.Members.{Contains-first, Contains-drop, ascending_distinct}
use Rattle.search.proofs.Order.{before_self, before_trans}
use Rattle.search.proofs.Ranking.{ranked}
use Rattle.reader.specs.declared.calls.Outcome.TheVariants.{Found}
use Rattle.reader.specs.declared.refusals.Refusal.{Refusal}
use Rattle.runs.specs.declared.rows.Call.{Call}
use Rattle.runs.specs.declared.rows.Answer.{Answer}
use Rattle.runs.specs.declared.rows.Answer.TheVariants as answer
use Rattle.runs.specs.declared.rows.Row.{Row}
use Rattle.runs.specs.Runs.{found, spent, exhausted, Moment, moment, line_in, IsNext, IsFound, live_chains, Lawful, cut, overwritten, NextRefused, CallMade, load_taken, load_refused, grant_taken, grant_refused, next_found, next_spent, next_exhausted, next_refused, report_made, Ran, none, one_more}
use Rattle.runs.specs.Determined.{AlikeAnswer, AlikeRows, SameEnd, Determined}

-- in a list without repetition each stands in one place
one_place : (j k : ℕ) (cs : List Chain) (c : Chain) (xs ys : List Chain) → Distinct cs → drop j cs ≡ c ∷ xs → drop k cs ≡ c ∷ ys → j ≡ k
one_place zero zero cs c xs ys d p q = refl
one_place zero (suc k) [] c xs ys d p q = cc
one_place zero (suc k) (x ∷ cs) c xs ys d p q =
    let here : x ≡ c = cc in
    absurd (d.0 (Contains-drop k cs x (rw (q, here) (Contains-first c ys))))
one_place (suc j) k [] c xs ys d p q = cc
one_place (suc j) zero (x ∷ cs) c xs ys d p q =
    let here : x ≡ c = cc in
    absurd (d.0 (Contains-drop j cs x (rw (p, here) (Contains-first c xs))))
one_place (suc j) (suc k) (x ∷ cs) c xs ys d p q = ap suc (one_place j k cs c xs ys d.1 p q)

-- the refusal of a next
one_refusal : (o : Option Cells) (place : List ℕ) (r q : Refusal) → NextRefused o place r → NextRefused o place q → r ≡ q
one_refusal None place r q a b = a ∙ sym b
one_refusal (Some l) place r q a b = a.0 ∙ sym b.0

module _ (s : Meaning) (laws : Laws s) (g : Sets) (h : List Moment) where
  -- two lawful nexts with the line l
  module _ (l : Cells) (el : line_in h ≡ Some l) where
    same_chain : (c d : Chain) (j k : ℕ) → Lawful s g h (moment (found c) j) → Lawful s g h (moment (found d) k) → c ≡ d
    same_chain c d j k a b =
        let p = a.best_unseen l c el refl in
        let q = b.best_unseen l d el refl in
        ⊎_elim (λ e. sym e)
        (λ first. ⊎_elim (λ e. e)
        (λ second. absurd (both_ways (before s l c c) (before_self s laws l c) (before_trans s laws l c d c first second)))
        (q.2 c p.0 p.1))
        (p.2 d q.0 q.1)

    same_looked : (c : Chain) (j k : ℕ) → Lawful s g h (moment (found c) j) → Lawful s g h (moment (found c) k) → j ≡ k
    same_looked c j k a b =
        let p = a.stops_there l c el refl in
        let q = b.stops_there l c el refl in
        let once = ascending_distinct (before s l) (before_self s laws l) (live_chains s g l) (ranked s laws g l).in_order in
        let same = one_place p.0 q.0 (live_chains s g l) c _ _ once p.3 q.3 in
        omega (arith, p.2, q.2, same)

    found_too : (x y : Moment) → IsNext x.event → IsNext y.event → Lawful s g h x → Lawful s g h y → IsFound x.event → IsFound y.event
    found_too x y nx ny a b f = (b.found_exactly_when l el ny).1 ((a.found_exactly_when l el nx).0 f)

    both_spent : (j k : ℕ) → Lawful s g h (moment spent j) → Lawful s g h (moment spent k) → j ≡ k
    both_spent j k a b = ((a.spent_exactly_when l el tt (λ f. f)).0 refl).1 ∙ sym ((b.spent_exactly_when l el tt (λ f. f)).0 refl).1

    both_exhausted : (j k : ℕ) → Lawful s g h (moment exhausted j) → Lawful s g h (moment exhausted k) → j ≡ k
    both_exhausted j k a b = omega (arith, a.never_past_end l el, (a.exhausted_exactly_when l el tt (λ f. f)).0 refl, b.never_past_end l el, (b.exhausted_exactly_when l el tt (λ f. f)).0 refl)

    spent_or_exhausted : (j k : ℕ) → Lawful s g h (moment spent j) → Lawful s g h (moment exhausted k) → ⊥
    spent_or_exhausted j k a b =
        let p = (a.spent_exactly_when l el tt (λ f. f)).0 refl in
        omega (arith, p.0, p.1, (b.exhausted_exactly_when l el tt (λ f. f)).0 refl, b.never_above_grant)

    has_room : (place : List ℕ) (r : Refusal) → length l ≤ length place → NextRefused (line_in h) place r → ⊥
    has_room place r room why = let short = (subst (λ o. NextRefused o place r) el why).1 in omega (arith, short)

  -- two calls after the same history, with the same places
  pub record SameCall (a b : Result Answer Refusal) (x y : Moment) (p q : List ℕ) : Type 0 where
    pub answer : AlikeAnswer (Some a) (Some b)
    pub moments : x ≡ y
    pub places : p ≡ q

  alike : {a b : Result Answer Refusal} {x y : Moment} {p q : List ℕ} → a ≡ b → x ≡ y → p ≡ q → SameCall a b x y p q
  alike answer moments places = record { answer = inl (ap Some answer); moments = moments; places = places }

  module _ (pages places : List ℕ) where
    same_call : {c : Call} {a b : Result Answer Refusal} {x y : Moment} {p q : List ℕ} → CallMade s g pages h places c a x p → CallMade s g pages h places c b y q → Lawful s g h x → Lawful s g h y → SameCall a b x y p q
    same_call (load_taken e) (load_taken f) lx ly = alike refl (cc) refl
    same_call (load_taken e) (load_refused f) lx ly = alike (cc) (cc) (cc)
    same_call (load_refused e) (load_taken f) lx ly = alike (cc) (cc) (cc)
    same_call (load_refused e) (load_refused f) lx ly = alike (cc) refl refl
    same_call (grant_taken e) (grant_taken f) lx ly = alike refl refl refl
    same_call (grant_taken e) (grant_refused f) lx ly = alike (cc) (cc) (cc)
    same_call (grant_refused e) (grant_taken f) lx ly = alike (cc) (cc) (cc)
    same_call (grant_refused e) (grant_refused f) lx ly = alike (cc) refl refl
    same_call (next_found {part = part} {l = l} {c = c} {k = j} e room) (next_found {l = l'} {c = d} {k = k} f room') lx ly =
        let el : l ≡ l' = cc in
        let ec : c ≡ d = same_chain l e c d j k lx ly in
        let ek : j ≡ k = same_looked l e d j k (subst (λ z. Lawful s g h (moment (found z) j)) ec lx) ly in
        alike (ap (λ z. Ok (answer.Next (Found (length z)))) el) (λ i. moment (found (ec i)) (ek i)) (λ i. overwritten places part (text (el i) (ec i)))
    same_call (next_found {l = l} e room) (next_spent f room') lx ly = absurd (found_too l e _ _ tt tt lx ly tt)
    same_call (next_found {l = l} e room) (next_exhausted f room') lx ly = absurd (found_too l e _ _ tt tt lx ly tt)
    same_call (next_found {l = l} e room) (next_refused why) lx ly = absurd (has_room l e _ _ room why)
    same_call (next_spent {l = l} e room) (next_found f room') lx ly = absurd (found_too l e _ _ tt tt ly lx tt)
    same_call (next_spent {l = l} e room) (next_spent f room') lx ly = alike refl (ap (moment spent) (both_spent l e _ _ lx ly)) refl
    same_call (next_spent {l = l} e room) (next_exhausted f room') lx ly = absurd (spent_or_exhausted l e _ _ lx ly)
    same_call (next_spent {l = l} e room) (next_refused why) lx ly = absurd (has_room l e _ _ room why)
    same_call (next_exhausted {l = l} e room) (next_found f room') lx ly = absurd (found_too l e _ _ tt tt ly lx tt)
    same_call (next_exhausted {l = l} e room) (next_spent f room') lx ly = absurd (spent_or_exhausted l e _ _ ly lx)
    same_call (next_exhausted {l = l} e room) (next_exhausted f room') lx ly = alike refl (ap (moment exhausted) (both_exhausted l e _ _ lx ly)) refl
    same_call (next_exhausted {l = l} e room) (next_refused why) lx ly = absurd (has_room l e _ _ room why)
    same_call (next_refused why) (next_found {l = l} f room) lx ly = absurd (has_room l f _ _ room why)
    same_call (next_refused why) (next_spent {l = l} f room) lx ly = absurd (has_room l f _ _ room why)
    same_call (next_refused why) (next_exhausted {l = l} f room) lx ly = absurd (has_room l f _ _ room why)
    same_call (next_refused {part = part} why) (next_refused why') lx ly = alike (ap Err (one_refusal (line_in h) (cut places part) _ _ why why')) refl refl
    same_call (report_made {r = r} e) (report_made {r = q} f) lx ly = record {
      answer = inr (
        r,
        q,
        refl,
        refl,
        record {
          cells = e.cells ∙ sym f.cells;
          granted = e.granted_is ∙ sym f.granted_is;
          looked = e.looked_is ∙ sym f.looked_is;
          handed = e.handed_is ∙ sym f.handed_is;
        },
      );
      moments = refl;
      places = refl;
    }

alike_more : (xs ys : List Row) (x y : Row) → AlikeRows xs ys → x.call ≡ y.call → AlikeAnswer x.answer y.answer → AlikeRows (xs ++ x ∷ []) (ys ++ y ∷ [])
alike_more [] [] x y rest c a = (c, a, tt)
alike_more [] (v ∷ vs) x y rest c a = absurd rest
alike_more (u ∷ us) [] x y rest c a = absurd rest
alike_more (u ∷ us) (v ∷ vs) x y rest c a = (rest.0, rest.1, alike_more us vs x y rest.2 c a)

module _ (s : Meaning) (laws : Laws s) (g : Sets) (pages places : List ℕ) where
  none_too : {rows rows' : List Row} {h : List Moment} {after : List ℕ} → Ran s g pages places rows rows' h after → rows ≡ [] → SameEnd [] [] places rows' h after
  none_too none e = record { history = refl; places = refl; rows = tt }
  none_too (one_more {rows = rs} row row' ran same told made lawful) e = absurd (omega (arith, ap length e, length-append rs (row ∷ [])))

  -- one row more on both sides
  module _ (rows rows₁ : List Row) (h₁ : List Moment) (between₁ after₁ : List ℕ) (x₁ : Moment) (row row₁ : Row)
      (so_far : (rows₂ : List Row) (h₂ : List Moment) (between₂ : List ℕ) → Ran s g pages places rows rows₂ h₂ between₂ → SameEnd rows₁ h₁ between₁ rows₂ h₂ between₂)
      {a₁ : Result Answer Refusal} (same₁ : row₁.call ≡ row.call) (told₁ : row₁.answer ≡ Some a₁) (made₁ : CallMade s g pages h₁ between₁ row.call a₁ x₁ after₁) (lawful₁ : Lawful s g h₁ x₁) where
    last_too : {all rows₂ : List Row} {h₂ : List Moment} {after₂ : List ℕ} → Ran s g pages places all rows₂ h₂ after₂ → all ≡ rows ++ row ∷ [] → SameEnd (rows₁ ++ row₁ ∷ []) (x₁ ∷ h₁) after₁ rows₂ h₂ after₂
    last_too none e = absurd (omega (arith, ap length e, length-append rows (row ∷ [])))
    last_too (one_more {rows = rs} {rows' = rs'} {h = h} {between = b} {after = p} {x = x} {answered = a₂} row₂ row₂' ran same told made lawful) e =
        let parts = same_from_push rs rows row₂ row e in
        let before = so_far rs' h b (subst (λ z. Ran s g pages places z rs' h b) parts.0 ran) in
        let call = ap (λ z. z.call) parts.1 in
        let made₂ = subst₃ (λ h b c. CallMade s g pages h b c a₂ x p) (sym before.history) (sym before.places) call made in
        let lawful₂ = subst (λ h. Lawful s g h x) (sym before.history) lawful in
        let now = same_call s laws g h₁ pages between₁ made₁ made₂ lawful₁ lawful₂ in
        record {
          history = λ i. now.moments i ∷ before.history i;
          places = now.places;
          rows = alike_more rows₁ rs' row₁ row₂' before.rows (same₁ ∙ sym call ∙ sym same) (subst₂ AlikeAnswer (sym told₁) (sym told) now.answer);
        }

  course : {rows rows₁ : List Row} {h₁ : List Moment} {after₁ : List ℕ} → Ran s g pages places rows rows₁ h₁ after₁
      → (rows₂ : List Row) (h₂ : List Moment) (after₂ : List ℕ) → Ran s g pages places rows rows₂ h₂ after₂ → SameEnd rows₁ h₁ after₁ rows₂ h₂ after₂
  course none rows₂ h₂ after₂ r = none_too r refl
  course (one_more {rows = rs} {rows' = rs'} {h = h} {between = b} {after = p} {x = x} row row' ran same told made lawful) rows₂ h₂ after₂ r =
      last_too rs rs' h b p x row row' (course ran) same told made lawful r refl

  pub determined : (rows : List Row) → Determined s g pages places rows
  determined rows rows₁ rows₂ h₁ h₂ after₁ after₂ a b = course a rows₂ h₂ after₂ b
