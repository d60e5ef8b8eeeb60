-- Why each call makes a lawful moment. Assumes nothing.
use Rattle.std.proofs.Common.{◌≡◌, ℕ, suc, ◌+◌, ◌-◌, ◌<◌, ◌≤◌, true, false, ◌⊎◌, ◌↔◌, Contains, List, [], ◌∷◌, length, take, drop, Some, sym, refl, ap, ◌∙◌, subst, inl, inr, ⊎_elim, arith, length-drop}
use Rattle.std.specs.List.{AllByRecursion}
use Rattle.std.proofs.lemmas.List.{take-take, drop-drop}
use Rattle.std.proofs.lemmas.List.Elements.{All-contains, All-from_recursion, Contains-push, Contains-push_cases}
use Rattle.std.proofs.lemmas.Slice.{between_is}
use Rattle.std.proofs.lemmas.Bool.{both_ways, cases_lt}
use Rattle.scores.specs.Scores.{Meaning, Laws}
use Rattle.grammars.specs.Grammars as grammars
use Rattle.grammars.specs.Grammars.{Sets}
use Rattle.search.specs.Members.{Ascending}
use Rattle.pages.specs.Shape.{Cells}
use Rattle.search.specs.Chains.{Chain, ChainOf, before}
use Rattle.search.proofs.Members.{Contains-first, Contains-rest, Contains-cons_cases, no_member, Contains-halves, Contains-take, Contains-drop, take_next, ascending_across, ascending_next}
use Rattle.search.proofs.Order.{before_self}
use Rattle.search.proofs.Ranking.{ranked}
use Rattle.search.proofs.Texts as texts
use Rattle.bench.specs.Searched.{admitted, due}
use Rattle.bench.proofs.Searches.{FirstPassing, due_at}
use Rattle.reader.specs.Views.{View, unloaded}
use Rattle.runs.specs.Runs.{Event, loaded, granted, found, spent, exhausted, reported, refused, Moment, moment, line_after, line_in, granted_after, granted_in, handed_after, handed_in, looked_in, seen_after, IsNext, IsFound, looked_still, live_chains, Admissible, UnseenWithin, Lawful}
use Rattle.runs.specs.Steps.{Tracks}

-- none of the list is admitted
abbrev pub NoneAdmitted : Sets → Cells → List Chain → Type 0
NoneAdmitted g l cs = AllByRecursion (λ d. admitted g l d ≡ false) cs

shut : (g : Sets) (l : Cells) (cs : List Chain) (d : Chain) → NoneAdmitted g l cs → Contains cs d → admitted g l d ≡ true → ⊥
shut g l cs d none m = both_ways (admitted g l d) (All-contains (λ d. admitted g l d ≡ false) cs d (All-from_recursion (λ d. admitted g l d ≡ false) cs none) m)

looked_more : (c : Chain) (k m : ℕ) (cs : List Chain) → k ≤ m → Contains (take k cs) c → Contains (take m cs) c
looked_more c k m cs le h = Contains-take k (take m cs) c (rw (take-take k m cs le) h)

pub tracks_start : (s : Meaning) (g : Sets) → Tracks s g [] unloaded
tracks_start s g = record {
  seen_is = refl;
  within = omega arith;
  reached = λ l e. omega arith;
  seen = λ l e c. (λ m. absurd (no_member c m), λ q. absurd (no_member c q.0));
}

-- after a lawful moment the history agrees with what is then seen of the reader
pub tracks_after : {s : Meaning} {g : Sets} {h : List Moment} {x : Moment} (v : View) → Lawful s g h x → v ≡ seen_after s (x ∷ h) → Tracks s g (x ∷ h) v
tracks_after v lawful seen_is = record {
  seen_is = seen_is;
  within = lawful.never_above_grant;
  reached = lawful.never_past_end;
  seen = lawful.first_looked_handed;
}

module _ (s : Meaning) (g : Sets) (h : List Moment) (v : View) (t : Tracks s g h v) where
  -- a call that looks at nothing, and is no load
  quiet_lawful : (e : Event) → (IsNext e → ⊥) → line_after e (line_in h) ≡ line_in h → granted_in h ≤ granted_after e (granted_in h) → handed_after e (handed_in h) ≡ handed_in h
      → looked_still e (looked_in h) ≡ looked_in h → Lawful s g h (moment e (looked_in h))
  quiet_lawful e not_next same_line more same_handed same_looked = record {
    best_unseen = λ l c el ee. absurd (not_next (subst IsNext (sym ee) tt));
    never_above_grant = let k = t.within in omega arith;
    never_past_end = λ l el. t.reached l (sym same_line ∙ el);
    first_looked_handed = λ l el c. subst (λ cs. Contains cs c ↔ (Contains (take (looked_in h) (live_chains s g l)) c × (admitted g l c ≡ true))) (sym same_handed) (t.seen l (sym same_line ∙ el) c);
    found_exactly_when = λ l el n. absurd (not_next n);
    exhausted_exactly_when = λ l el n. absurd (not_next n);
    spent_exactly_when = λ l el n. absurd (not_next n);
    stops_there = λ l c el ee. absurd (not_next (subst IsNext (sym ee) tt));
    looks_only_in_next = λ n. sym same_looked;
  }

  pub refused_lawful : Lawful s g h (moment refused (looked_in h))
  refused_lawful = quiet_lawful refused (λ n. n) refl (omega arith) refl refl

  pub reported_lawful : Lawful s g h (moment reported (looked_in h))
  reported_lawful = quiet_lawful reported (λ n. n) refl (omega arith) refl refl

  pub granted_lawful : (n : ℕ) → Lawful s g h (moment (granted n) (looked_in h))
  granted_lawful n = quiet_lawful (granted n) (λ n. n) refl (omega arith) refl refl

  pub loaded_lawful : (l : Cells) → Lawful s g h (moment (loaded l) 0)
  loaded_lawful l = record {
    best_unseen = λ l' c el e. absurd (subst IsNext (sym e) tt);
    never_above_grant = omega arith;
    never_past_end = λ l' el. omega arith;
    first_looked_handed = λ l' el c. (λ m. absurd (no_member c m), λ q. absurd (no_member c q.0));
    found_exactly_when = λ l' el n. absurd n;
    exhausted_exactly_when = λ l' el n. absurd n;
    spent_exactly_when = λ l' el n. absurd n;
    stops_there = λ l' c el e. absurd (subst IsNext (sym e) tt);
    looks_only_in_next = λ n. refl;
  }

module _ (s : Meaning) (laws : Laws s) (g : Sets) (lawful : grammars.Lawful g) (l : Cells) where
  rising : Ascending (before s l) (live_chains s g l)
  rising = (ranked s laws g l).in_order

  -- by the third law of grammars what is admissible is live
  admissible_live : (c : Chain) → Admissible g l c → Contains (live_chains s g l) c
  admissible_live c a = ((ranked s laws g l).exactly_live c).1 (a.0, texts.admissible_live g lawful l c a.1)

  live_chain : (c : Chain) → Contains (live_chains s g l) c → ChainOf l c
  live_chain c m = (((ranked s laws g l).exactly_live c).0 m).0

  -- none stands both among the first k and behind them
  apart : (k : ℕ) (c : Chain) → Contains (take k (live_chains s g l)) c → Contains (drop k (live_chains s g l)) c → ⊥
  apart k c a b = both_ways (before s l c c) (before_self s laws l c) (ascending_across (before s l) k (live_chains s g l) rising c c a b)

  module _ (h : List Moment) (v : View) (t : Tracks s g h v) (el : line_in h ≡ Some l) where
    -- the line is this one
    this : (l' : Cells) → line_in h ≡ Some l' → l ≡ l'
    this l' q = cc

    -- one of the first m is among those looked at, or among the next m - looked
    split : (m : ℕ) (d : Chain) → Contains (take m (live_chains s g l)) d → Contains (take (looked_in h) (live_chains s g l)) d ⊎ Contains (take (m - looked_in h) (drop (looked_in h) (live_chains s g l))) d
    split m d mem = ⊎_elim
        (λ a. inl (back a))
        (λ b. inr (rw (between_is (live_chains s g l) (looked_in h) m) b))
        (Contains-halves (looked_in h) (take m (live_chains s g l)) d mem)
      where
        back : Contains (take (looked_in h) (take m (live_chains s g l))) d → Contains (take (looked_in h) (live_chains s g l)) d
        back a = ⊎_elim
            (λ (lt : m < looked_in h). looked_more d m (looked_in h) (live_chains s g l) (omega arith) mem)
            (λ (le : looked_in h ≤ m). rw (take-take (looked_in h) m (live_chains s g l) le) at a)
            (cases_lt m (looked_in h))

    -- a next that passes over all that is due, with m looked at in the end
    module _ (m : ℕ) (least : looked_in h ≤ m) (most : m ≤ granted_in h) (whole : m ≤ length (live_chains s g l)) (none : NoneAdmitted g l (due s g l (looked_in h) (granted_in h))) where
      none_handed : (d : Chain) → Contains (handed_in h) d ↔ (Contains (take m (live_chains s g l)) d × (admitted g l d ≡ true))
      none_handed d = (
        λ k. let q = (t.seen l el d).0 k in (looked_more d (looked_in h) m (live_chains s g l) least q.0, q.1),
        λ q. ⊎_elim
            (λ a. (t.seen l el d).1 (a, q.1))
            (λ b. absurd (shut g l (due s g l (looked_in h) (granted_in h)) d none (looked_more d (m - looked_in h) (granted_in h - looked_in h) (drop (looked_in h) (live_chains s g l)) (omega arith) b) q.1))
            (split m d q.0),
      )

      none_unseen : UnseenWithin s g h l (granted_in h) → ⊥
      none_unseen q = ⊎_elim
          (λ a. q.3 ((t.seen l el q.0).1 (a, q.2)))
          (λ b. shut g l (due s g l (looked_in h) (granted_in h)) q.0 none b q.2)
          (split (granted_in h) q.0 q.1)

      none_lawful : (e : Event) → IsNext e → (IsFound e → ⊥) → line_after e (line_in h) ≡ line_in h → granted_after e (granted_in h) ≡ granted_in h → handed_after e (handed_in h) ≡ handed_in h
          → ((e ≡ exhausted) ↔ (length (live_chains s g l) ≤ m)) → ((e ≡ spent) ↔ ((m < length (live_chains s g l)) × (m ≡ granted_in h))) → Lawful s g h (moment e m)
      none_lawful e is_next not_found same_line same_granted same_handed ex sp = record {
        best_unseen = λ l' c el' ee. absurd (not_found (subst IsFound (sym ee) tt));
        never_above_grant = omega (arith, same_granted);
        never_past_end = λ l' el'. subst (λ z. m ≤ length (live_chains s g z)) (this l' (sym same_line ∙ el')) whole;
        first_looked_handed = λ l' el' c. subst (λ cs. Contains cs c ↔ (Contains (take m (live_chains s g l')) c × (admitted g l' c ≡ true))) (sym same_handed)
            (subst (λ z. Contains (handed_in h) c ↔ (Contains (take m (live_chains s g z)) c × (admitted g z c ≡ true))) (this l' (sym same_line ∙ el')) (none_handed c));
        found_exactly_when = λ l' el' n. (λ f. absurd (not_found f), λ q. absurd (none_unseen (subst (λ z. UnseenWithin s g h z (granted_in h)) (sym (this l' el')) q)));
        exhausted_exactly_when = λ l' el' n f. subst (λ z. (e ≡ exhausted) ↔ (length (live_chains s g z) ≤ m)) (this l' el') ex;
        spent_exactly_when = λ l' el' n f. subst (λ z. (e ≡ spent) ↔ ((m < length (live_chains s g z)) × (m ≡ granted_in h))) (this l' el') sp;
        stops_there = λ l' c el' ee. absurd (not_found (subst IsFound (sym ee) tt));
        looks_only_in_next = λ n. absurd (n is_next);
      }

    pub spent_lawful : granted_in h < length (live_chains s g l) → NoneAdmitted g l (due s g l (looked_in h) (granted_in h)) → Lawful s g h (moment spent (granted_in h))
    spent_lawful left none = none_lawful (granted_in h) t.within (omega arith) (omega arith) none spent tt (λ f. f) refl refl refl
        (λ e. let z : ◌≡◌ {A = ℕ} 0 1 = cc in omega arith, λ k. absurd (omega arith)) (λ e. (left, refl), λ q. refl)

    pub exhausted_lawful : length (live_chains s g l) ≤ granted_in h → NoneAdmitted g l (due s g l (looked_in h) (granted_in h)) → Lawful s g h (moment exhausted (length (live_chains s g l)))
    exhausted_lawful all none = none_lawful (length (live_chains s g l)) (t.reached l el) all (omega arith) none exhausted tt (λ f. f) refl refl refl
        (λ e. omega arith, λ k. refl) (λ e. let z : ◌≡◌ {A = ℕ} 0 1 = cc in (omega arith, omega arith), λ q. let k = q.0 in absurd (omega arith))

    -- a next that finds one: n are passed over, and then comes c
    module _ (n : ℕ) (c : Chain) (first : FirstPassing (admitted g l) (due s g l (looked_in h) (granted_in h)) n c) where
      where_due : (n < granted_in h - looked_in h) × (drop n (drop (looked_in h) (live_chains s g l)) ≡ c ∷ drop (n + 1) (drop (looked_in h) (live_chains s g l)))
      where_due = due_at n (granted_in h - looked_in h) (drop (looked_in h) (live_chains s g l)) c _ first.here

      -- it stands at j in the ranking
      stands : drop (looked_in h + n) (live_chains s g l) ≡ c ∷ drop (looked_in h + n + 1) (live_chains s g l)
      stands =
          sym (drop-drop n (looked_in h) (live_chains s g l)) ∙ where_due.1
          ∙ ap (λ cs. c ∷ cs) (drop-drop (n + 1) (looked_in h) (live_chains s g l) ∙ (let e : looked_in h + (n + 1) ≡ looked_in h + n + 1 = omega arith in ap (λ k. drop k (live_chains s g l)) e))

      passed : NoneAdmitted g l (take n (drop (looked_in h) (live_chains s g l)))
      passed = let lt = where_due.0 in subst (NoneAdmitted g l) (take-take n (granted_in h - looked_in h) (drop (looked_in h) (live_chains s g l)) (omega arith)) first.passed_over

      c_behind : Contains (drop (looked_in h) (live_chains s g l)) c
      c_behind = Contains-drop n (drop (looked_in h) (live_chains s g l)) c (rw where_due.1 (Contains-first c _))

      c_live : Contains (live_chains s g l) c
      c_live = Contains-drop (looked_in h) (live_chains s g l) c c_behind

      c_new : Contains (handed_in h) c → ⊥
      c_new m = apart (looked_in h) c ((t.seen l el c).0 m).0 c_behind

      c_within : Contains (take (looked_in h + n + 1) (live_chains s g l)) c
      c_within = rw (take_next (looked_in h + n) (live_chains s g l) c _ stands) (Contains-push (take (looked_in h + n) (live_chains s g l)) c)

      in_grant : looked_in h + n + 1 ≤ granted_in h
      in_grant = let lt = where_due.0 in let w = t.within in omega arith

      in_all : looked_in h + n + 1 ≤ length (live_chains s g l)
      in_all = let e : length (drop (looked_in h + n) (live_chains s g l)) ≡ suc (length (drop (looked_in h + n + 1) (live_chains s g l))) = ap length stands in omega (arith, length-drop (looked_in h + n) (live_chains s g l))

      best : (d : Chain) → Admissible g l d → (Contains (handed_in h) d → ⊥) → (d ≡ c) ⊎ (before s l c d ≡ true)
      best d a new = ⊎_elim
          (λ k. ⊎_elim
          (λ q. absurd (new ((t.seen l el d).1 (q, a.1))))
          (λ q. let e : looked_in h + n - looked_in h ≡ n = omega arith in absurd (shut g l (take n (drop (looked_in h) (live_chains s g l))) d passed (rw e at q) a.1))
          (split (looked_in h + n) d k))
          (λ k. ⊎_elim (λ e. inl e) (λ m. inr (ascending_next (before s l) (looked_in h + n) (live_chains s g l) rising c _ stands d m)) (Contains-cons_cases c _ d (rw stands at k)))
          (Contains-halves (looked_in h + n) (live_chains s g l) d (admissible_live d a))

      found_handed : (d : Chain) → Contains (c ∷ handed_in h) d ↔ (Contains (take (looked_in h + n + 1) (live_chains s g l)) d × (admitted g l d ≡ true))
      found_handed d = (
        λ k. ⊎_elim
            (λ (e : d ≡ c). subst (λ z. Contains (take (looked_in h + n + 1) (live_chains s g l)) z × (admitted g l z ≡ true)) (sym e) (c_within, first.passes))
            (λ m. let q = (t.seen l el d).0 m in (looked_more d (looked_in h) (looked_in h + n + 1) (live_chains s g l) (omega arith) q.0, q.1))
            (Contains-cons_cases c (handed_in h) d k),
        λ q. ⊎_elim
            (λ a. Contains-rest c (handed_in h) d ((t.seen l el d).1 (a, q.1)))
            (λ b. ⊎_elim
            (λ z. absurd (shut g l (take n (drop (looked_in h) (live_chains s g l))) d passed z q.1))
            (λ (e : c ≡ d). subst (Contains (c ∷ handed_in h)) e (Contains-first c (handed_in h)))
            (Contains-push_cases (take n (drop (looked_in h) (live_chains s g l))) c d (rw (take_next n (drop (looked_in h) (live_chains s g l)) c _ where_due.1) at (one_more b))))
            (split (looked_in h + n + 1) d q.0),
      )
        where
          one_more : Contains (take ((looked_in h + n + 1) - looked_in h) (drop (looked_in h) (live_chains s g l))) d → Contains (take (n + 1) (drop (looked_in h) (live_chains s g l))) d
          one_more b = let e : (looked_in h + n + 1) - looked_in h ≡ n + 1 = omega arith in subst (λ k. Contains (take k (drop (looked_in h) (live_chains s g l))) d) e b

      pub found_lawful : Lawful s g h (moment (found c) (looked_in h + n + 1))
      found_lawful = record {
        best_unseen = λ l' c' el' ee. subst (λ z. Best l' z) (that c' ee) (subst (λ z. Best z c) (this l' el') ((live_chain c c_live, first.passes), c_new, best));
        never_above_grant = in_grant;
        never_past_end = λ l' el'. subst (λ z. looked_in h + n + 1 ≤ length (live_chains s g z)) (this l' el') in_all;
        first_looked_handed = λ l' el' d. subst (λ z. Contains (c ∷ handed_in h) d ↔ (Contains (take (looked_in h + n + 1) (live_chains s g z)) d × (admitted g z d ≡ true))) (this l' el') (found_handed d);
        found_exactly_when = λ l' el' k. (λ f. subst (λ z. UnseenWithin s g h z (granted_in h)) (this l' el') (c, looked_more c (looked_in h + n + 1) (granted_in h) (live_chains s g l) in_grant c_within, first.passes, c_new), λ q. tt);
        exhausted_exactly_when = λ l' el' k f. absurd (f tt);
        spent_exactly_when = λ l' el' k f. absurd (f tt);
        stops_there = λ l' c' el' ee. subst (λ z. Stop l' z) (that c' ee) (subst (λ z. Stop z c) (this l' el') (looked_in h + n, omega arith, refl, stands));
        looks_only_in_next = λ k. absurd (k tt);
      }
        where
          that : (c' : Chain) → found c ≡ found c' → c ≡ c'
          that c' q = cc

          Best : Cells → Chain → Type 0
          Best l c = Admissible g l c × (Contains (handed_in h) c → ⊥) × ((d : Chain) → Admissible g l d → (Contains (handed_in h) d → ⊥) → (d ≡ c) ⊎ (before s l c d ≡ true))

          Stop : Cells → Chain → Type 0
          Stop l' c = (j : ℕ) × (looked_in h ≤ j) × (looked_in h + n + 1 ≡ j + 1) × (drop j (live_chains s g l') ≡ c ∷ drop (j + 1) (live_chains s g l'))
