-- What each call makes of a history, by what its contract says that it comes to. Assumes nothing.
use Rattle.std.proofs.Common.{◌≡◌, ℕ, ◌+◌, ◌-◌, ◌≤◌, min, Bool, true, false, cond, ltb, List, ◌∷◌, ◌++◌, length, take, drop, Some, None, Ok, Err, Option, Result, sym, refl, ap, ◌∙◌, subst, subst₂, arith}
use Rattle.std.specs.Option.{option_map}
use Rattle.std.specs.Result.{result_map_both}
use Rattle.std.proofs.lemmas.Bool.{ltb-true, ltb-false}
use Rattle.scores.specs.Scores.{Meaning, Laws}
use Rattle.grammars.specs.Grammars as grammars
use Rattle.grammars.specs.Grammars.{Sets}
use Rattle.pages.specs.Shape.{Cells}
use Rattle.search.specs.Chains.{Chain, text, total}
use Rattle.reader.specs.declared.calls.Outcome.{Outcome}
use Rattle.reader.specs.declared.calls.Outcome.TheVariants.{Spent, Exhausted}
use Rattle.reader.specs.declared.calls.Report.{Report}
use Rattle.reader.specs.declared.refusals.Refusal.{Refusal}
use Rattle.reader.specs.declared.refusals.Refusal.TheVariants as refusal
use Rattle.runs.specs.declared.rows.Part.{Part}
use Rattle.runs.specs.declared.rows.Call.{Call}
use Rattle.runs.specs.declared.rows.Call.TheVariants as call
use Rattle.runs.specs.declared.rows.Answer.{Answer}
use Rattle.runs.specs.declared.rows.Answer.TheVariants as answer
use Rattle.bench.specs.Searched.{admitted, due, first_passing}
use Rattle.bench.proofs.Searches.{passing_first, passing_none, due_chain}
use Rattle.bench.proofs.Texts.{text_long}
use Rattle.reader.specs.Views.{View}
use Rattle.reader.specs.Calls.{loading, answered, loaded_into, granting, granting_to, granted_more, Nexted, refuse_next, next_came, next_on, next_of, Reports, cells_of, PlacesInUse}
use Rattle.runs.specs.Runs.{Reported, loaded, granted, found, spent, exhausted, reported, refused, Moment, moment, line_in, granted_in, handed_in, looked_in, seen_after, live_chains, Lawful, cut, overwritten, NextRefused, CallMade, load_taken, load_refused, grant_taken, grant_refused, next_found, next_spent, next_exhausted, next_refused, report_made}
use Rattle.runs.specs.Steps.{Tracks, Made}
use Rattle.runs.proofs.Parts.{cut_is, put_is, overwritten_rest, overwritten_same}
use Rattle.runs.proofs.Histories.{NoneAdmitted, tracks_after, refused_lawful, reported_lawful, granted_lawful, loaded_lawful, spent_lawful, exhausted_lawful, found_lawful}

-- What a call comes to: its answer, what is then seen of the reader, and the places.
pub record Step : Type 0 where
  pub answer : Result Answer Refusal
  pub state : View
  pub places : List ℕ

abbrev pub answering : {T : Type 0} → (T → Answer) → Result T Refusal → Result Answer Refusal
answering f = result_map_both f (λ r. r)

abbrev pub load_step : View → List ℕ → Result Cells Refusal → Step
load_step v places r = record { answer = answering (λ done. answer.Loaded) (answered r); state = loaded_into v r; places = places }

abbrev pub grant_step : View → List ℕ → ℕ → Result (Unit {0}) Refusal → Step
grant_step v places n r = record { answer = answering (λ done. answer.Granted) r; state = granted_more v n r; places = places }

abbrev pub next_step : List ℕ → Part → Nexted → Step
next_step places part x = record { answer = answering answer.Next x.answer; state = x.state; places = overwritten places part x.place }

abbrev pub report_step : View → List ℕ → Report → Step
report_step v places r = record { answer = Ok (answer.Reported r); state = v; places = places }

module _ (s : Meaning) (g : Sets) (pages places : List ℕ) where
  abbrev pub Makes : View → Call → Step → Type 0
  Makes v c x = Made s g pages v places c x.answer x.state x.places

  -- the same of one history alone
  abbrev MakesAfter : List Moment → Call → Step → Type 0
  MakesAfter h c x = (m : Moment) × CallMade s g pages h places c x.answer m x.places × Lawful s g h m × Tracks s g (m ∷ h) x.state

  -- it is enough to show it of what is seen after a history
  makes_seen : (c : Call) (x : View → Step) → ((h : List Moment) → Tracks s g h (seen_after s h) → MakesAfter h c (x (seen_after s h))) → (v : View) → Makes v c (x v)
  makes_seen c x makes v h t = subst (λ v. MakesAfter h c (x v)) (sym t.seen_is) (makes h (subst (Tracks s g h) t.seen_is t))

  -- a call makes a lawful moment, and what is then seen of the reader is as the history says
  makes_lawful : (h : List Moment) (c : Call) (x : Step) (m : Moment) → CallMade s g pages h places c x.answer m x.places → Lawful s g h m → x.state ≡ seen_after s (m ∷ h) → MakesAfter h c x
  makes_lawful h c x m made lawful seen_is = (m, made, lawful, tracks_after x.state lawful seen_is)

  pub load_makes : (part : Part) (n : ℕ) (v : View) → Makes v (call.Load part n) (load_step v places (loading s (cut pages part) n))
  load_makes part n = makes_seen (call.Load part n) (λ v. load_step v places (loading s (cut pages part) n)) (λ h t. by_answer h t _ refl)
    where
      by_answer : (h : List Moment) → Tracks s g h (seen_after s h) → (r : Result Cells Refusal) → loading s (cut pages part) n ≡ r → MakesAfter h (call.Load part n) (load_step (seen_after s h) places r)
      by_answer h t (Ok l) e = makes_lawful h _ _ (moment (loaded l) 0) (load_taken e) (loaded_lawful s g h (seen_after s h) t l) refl
      by_answer h t (Err r) e = makes_lawful h _ _ (moment refused (looked_in h)) (load_refused e) (refused_lawful s g h (seen_after s h) t) refl

  pub grant_makes : (n : ℕ) (v : View) → Makes v (call.Grant n) (grant_step v places n (granting v n))
  grant_makes n = makes_seen (call.Grant n) (λ v. grant_step v places n (granting v n)) (λ h t. by_answer h t _ refl)
    where
      by_answer : (h : List Moment) → Tracks s g h (seen_after s h) → (r : Result (Unit {0}) Refusal) → granting_to (line_in h) (granted_in h) n ≡ r → MakesAfter h (call.Grant n) (grant_step (seen_after s h) places n r)
      by_answer h t (Ok done) e = makes_lawful h _ _ (moment (granted n) (looked_in h)) (grant_taken e) (granted_lawful s g h (seen_after s h) t n) refl
      by_answer h t (Err r) e = makes_lawful h _ _ (moment refused (looked_in h)) (grant_refused e) (refused_lawful s g h (seen_after s h) t) refl

  pub report_makes : (r : Report) (v : View) → Reports v r → Makes v call.Report (report_step v places r)
  report_makes r v q h t = makes_lawful h _ _ (moment reported (looked_in h)) (report_made told) (reported_lawful s g h v t) t.seen_is
    where
      told : Reported h r
      told = record {
        cells = q.cells ∙ ap (λ v. cells_of v.line) t.seen_is;
        granted_is = q.granted ∙ ap (λ v. v.granted) t.seen_is;
        looked_is = q.looked ∙ ap (λ v. v.looked) t.seen_is;
        handed_is = q.handed ∙ ap (λ v. v.handed) t.seen_is;
        places = subst (λ v. PlacesInUse v.line v.looked r.places) t.seen_is q.places;
      }

  module _ (laws : Laws s) (lawful : grammars.Lawful g) (part : Part) where
    module _ (h : List Moment) (t : Tracks s g h (seen_after s h)) where
      abbrev v : View
      v = seen_after s h

      -- with so many looked at and handed out, and such a last total
      abbrev seen_with : ℕ → ℕ → Option ℕ → View
      seen_with looked handed last = record { line = v.line; granted = v.granted; looked = looked; handed = handed; last_total = last }

      abbrev Nexts : Nexted → Type 0
      Nexts x = MakesAfter h (call.Next part) (next_step places part x)

      -- where nothing is written
      same_place : {a : Result Answer Refusal} {m : Moment} → CallMade s g pages h places (call.Next part) a m places → CallMade s g pages h places (call.Next part) a m (overwritten places part (cut places part))
      same_place {a = a} {m = m} = subst (CallMade s g pages h places (call.Next part) a m) (sym (overwritten_same places part))

      next_not : (r : Refusal) → NextRefused (line_in h) (cut places part) r → Nexts (refuse_next v (cut places part) r)
      next_not r why = makes_lawful h _ _ (moment refused (looked_in h)) (same_place (next_refused why)) (refused_lawful s g h v t) refl

      module _ (l : Cells) (el : line_in h ≡ Some l) where
        module _ (room : length l ≤ length (cut places part)) where
          -- nothing found, and a live chain left or not
          left_or_not : NoneAdmitted g l (due s g l (looked_in h) (granted_in h)) → (b : Bool) → ltb (granted_in h) (length (live_chains s g l)) ≡ b
              → Nexts (record { answer = Ok (cond b Spent Exhausted); state = record { line = v.line; granted = v.granted; looked = min (granted_in h) (length (live_chains s g l)); handed = v.handed; last_total = v.last_total }; place = cut places part })
          left_or_not none true q =
              let left = ltb-true (granted_in h) (length (live_chains s g l)) q in
              let looked : min (granted_in h) (length (live_chains s g l)) ≡ granted_in h = omega arith in
              makes_lawful h _ _ (moment spent (granted_in h)) (same_place (next_spent el room)) (spent_lawful s laws g lawful l h v t el left none) (ap (λ k. seen_with k v.handed v.last_total) looked)
          left_or_not none false q =
              let end = ltb-false (granted_in h) (length (live_chains s g l)) q in
              let looked : min (granted_in h) (length (live_chains s g l)) ≡ length (live_chains s g l) = omega arith in
              makes_lawful h _ _ (moment exhausted (length (live_chains s g l))) (same_place (next_exhausted el room)) (exhausted_lawful s laws g lawful l h v t el end none) (ap (λ k. seen_with k v.handed v.last_total) looked)

          found_or_not : (o : Option (ℕ × Chain)) → first_passing (admitted g l) (due s g l (looked_in h) (granted_in h)) ≡ o → Nexts (next_came s l v (cut places part) (length (live_chains s g l)) o)
          found_or_not (Some at) q =
              let first = passing_first (admitted g l) (due s g l (looked_in h) (granted_in h)) at.0 at.1 q in
              let long : length (text l at.1) ≡ length l = text_long l at.1 (due_chain s laws g l (looked_in h) (granted_in h) at.0 at.1 first).long in
              let over = sym (overwritten_rest places part (text l at.1) (omega arith)) ∙ ap (λ n. overwritten places part (text l at.1 ++ drop n (cut places part))) long in
              let handed : v.handed + 1 ≡ length (at.1 ∷ handed_in h) = omega arith in
              let last : Some (total s l at.1) ≡ option_map (λ l. total s l at.1) (line_in h) = sym (ap (option_map (λ l. total s l at.1)) el) in
              makes_lawful h _ _ (moment (found at.1) (looked_in h + at.0 + 1)) (subst (CallMade s g pages h places (call.Next part) _ _) over (next_found el room)) (found_lawful s laws g lawful l h v t el at.0 at.1 first)
              (λ i. seen_with (v.looked + at.0 + 1) (handed i) (last i))
          found_or_not None q = left_or_not (passing_none (admitted g l) (due s g l (looked_in h) (granted_in h)) q) _ refl

        place_or_not : (b : Bool) → ltb (length (cut places part)) (length l) ≡ b
            → Nexts (cond b (refuse_next v (cut places part) refusal.Place) (next_came s l v (cut places part) (length (live_chains s g l)) (first_passing (admitted g l) (due s g l (looked_in h) (granted_in h)))))
        place_or_not true q = next_not refusal.Place (subst (λ o. NextRefused o (cut places part) refusal.Place) (sym el) (refl, ltb-true _ _ q))
        place_or_not false q = found_or_not (ltb-false _ _ q) _ refl

      line_or_not : (o : Option Cells) → line_in h ≡ o → Nexts (next_on s g v (cut places part) o)
      line_or_not None e = next_not refusal.NoLine (subst (λ o. NextRefused o (cut places part) refusal.NoLine) (sym e) refl)
      line_or_not (Some l) e = place_or_not l e _ refl

    pub next_makes : (v : View) → Makes v (call.Next part) (next_step places part (next_of s g v (cut places part)))
    next_makes = makes_seen (call.Next part) (λ v. next_step places part (next_of s g v (cut places part))) (λ h t. line_or_not h t _ refl)

  -- the same in other words
  pub made_as : {v v' : View} {c c' : Call} {a : Result Answer Refusal} {after : List ℕ} {x : Step} → c ≡ c' → a ≡ x.answer → v' ≡ x.state → after ≡ x.places → Makes v c' x → Made s g pages v places c a v' after
  made_as {v = v} {v' = v'} {c' = c'} {after = after} {x = x} ec ea ev ep made =
      subst₂ (λ c a. Made s g pages v places c a v' after) (sym ec) (sym ea) (subst₂ (λ v' p. Made s g pages v places c' x.answer v' p) (sym ev) (sym ep) made)

  -- of a load, a grant and a next, from the clauses of their contracts
  pub load_told : {v v' : View} {c : Call} {a : Result Answer Refusal} {part : Part} {n begin end : ℕ} {r : Result (Unit {0}) Refusal} → c ≡ call.Load part n
      → begin ≡ min part.start (length pages) → end ≡ begin + min part.length (length pages - begin)
      → r ≡ answered (loading s (take (end - begin) (drop begin pages)) n) → v' ≡ loaded_into v (loading s (take (end - begin) (drop begin pages)) n)
      → a ≡ answering (λ done. answer.Loaded) r → Made s g pages v places c a v' places
  load_told {v = v} {part = part} {n = n} {begin = begin} {end = end} ec eb ee er ev ea =
      let taken = ap (λ p. loading s p n) (cut_is pages part begin end eb ee) in
      made_as ec (ea ∙ ap (answering (λ done. answer.Loaded)) (er ∙ ap answered taken)) (ev ∙ ap (loaded_into v) taken) refl (load_makes part n v)

  pub grant_told : {v v' : View} {c : Call} {a : Result Answer Refusal} {n : ℕ} {r : Result (Unit {0}) Refusal} → c ≡ call.Grant n
      → r ≡ granting v n → v' ≡ granted_more v n (granting v n) → a ≡ answering (λ done. answer.Granted) r → Made s g pages v places c a v' places
  grant_told {v = v} {n = n} ec er ev ea = made_as ec (ea ∙ ap (answering (λ done. answer.Granted)) er) ev refl (grant_makes n v)

  pub next_told : (laws : Laws s) (lawful : grammars.Lawful g) {v v' : View} {c : Call} {a : Result Answer Refusal} {part : Part} {begin end : ℕ} {place : List ℕ} {r : Result Outcome Refusal} → c ≡ call.Next part
      → begin ≡ min part.start (length places) → end ≡ begin + min part.length (length places - begin) → length place ≡ length (take (end - begin) (drop begin places))
      → r ≡ (next_of s g v (take (end - begin) (drop begin places))).answer → v' ≡ (next_of s g v (take (end - begin) (drop begin places))).state → place ≡ (next_of s g v (take (end - begin) (drop begin places))).place
      → a ≡ answering answer.Next r → Made s g pages v places c a v' (take begin places ++ (place ++ drop (end - begin) (drop begin places)))
  next_told laws lawful {v = v} {part = part} {begin = begin} {end = end} {place = place} ec eb ee long er ev ep ea =
      let came = ap (next_of s g v) (cut_is places part begin end eb ee) in
      made_as ec (ea ∙ ap (answering answer.Next) (er ∙ ap (λ x. x.answer) came)) (ev ∙ ap (λ x. x.state) came)
      (put_is places part begin end eb ee place long ∙ ap (overwritten places part) (ep ∙ ap (λ x. x.place) came)) (next_makes laws lawful part v)
