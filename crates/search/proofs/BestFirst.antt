-- Best-first enumeration: why the least of the bench is the next of the ranking, and why the bench goes on so. Assumes nothing.
use Rattle.std.proofs.Common.{◌≡◌, ℕ, zero, suc, ◌+◌, ◌-◌, ◌*◌, ◌<◌, ◌≤◌, Bool, true, ◌⊎◌, ◌↔◌, Contains, get_or, List, [], ◌∷◌, ◌++◌, length, take, drop, sym, refl, ap, ◌∙◌, subst, inl, inr, ⊎_elim, mul-suc, arith, length-append, length-drop, Some, None, Option}
use Rattle.std.proofs.lemmas.Option.{same_Some, none-some}
use Rattle.std.specs.List.{flat_map}
use Rattle.std.proofs.lemmas.List.{drop_all, length-take-le, nil_from_length}
use Rattle.std.proofs.lemmas.List.Concat.{length-flat_map}
use Rattle.std.proofs.lemmas.List.Elements.{All-take, Contains-get_or, Contains-push, Contains-push_cases, Contains-append_left, Contains-append_right, Contains-append_cases}
use Rattle.std.proofs.lemmas.List.Sums.{sum_by-le}
use Rattle.std.proofs.lemmas.Bool.{both_ways}
use Rattle.search.specs.Members.{Distinct, Alike, Without}
use Rattle.search.specs.BestFirst.{Growth, Frontier, Unbeaten, Least, BestFirst}
use Rattle.search.proofs.Members.{Contains-first, Contains-rest, Contains-cons_cases, no_member, Contains-halves, Contains-take, Contains-drop, Contains-flat_map, distinct_append, distinct_take, distinct_fits, drop_next, take_next, ascending_across, ascending_next, ascending_either, ascending_distinct}

module _ {C : Type 0} (before : C → C → Bool) (lowered : C → Option C) (children : C → List C) (root : C) (ranking : List C) (g : Growth before lowered children root ranking) where
  abbrev Ready : ℕ → C → Type 0
  Ready k c = (p : C) → lowered c ≡ Some p → Contains (take k ranking) p

  not_self : (a : C) → before a a ≡ true → ⊥
  not_self a h = both_ways (before a a) (g.irreflexive a) h

  not_both : (a b : C) → before a b ≡ true → before b a ≡ true → ⊥
  not_both a b h k = not_self a (g.transitive a b a h k)

  -- what is looked at is not among what is left
  apart : (k : ℕ) (c : C) → Contains (take k ranking) c → Contains (drop k ranking) c → ⊥
  apart k c a b = not_self c (ascending_across before k ranking g.ascending c c a b)

  -- a parent of one looked at, or of the first left, was looked at
  parent_taken : (k : ℕ) (c p : C) → Contains (take k ranking) c → lowered c ≡ Some p → Contains (take k ranking) p
  parent_taken k c p m e =
      let in-ranking = Contains-take k ranking c m in
      ⊎_elim (λ t. t)
      (λ d. absurd (not_both p c (g.parent_before c p in-ranking e) (ascending_across before k ranking g.ascending c p m d)))
      (Contains-halves k ranking p (g.parent_ranked c p in-ranking e))

  first_ready : (k : ℕ) (h : C) (t : List C) → drop k ranking ≡ h ∷ t → Ready k h
  first_ready k h t e p low =
      let here : Contains (drop k ranking) h = rw e (Contains-first h t) in
      let in-ranking = Contains-drop k ranking h here in
      let earlier = g.parent_before h p in-ranking low in
      ⊎_elim (λ a. a)
      (λ d. ⊎_elim (λ (q : p ≡ h). absurd (not_self h (subst (λ z. before z h ≡ true) q earlier)))
      (λ q. absurd (not_both p h earlier (ascending_next before k ranking g.ascending h t e p q)))
      (Contains-cons_cases h t p (rw e at d)))
      (Contains-halves k ranking p (g.parent_ranked h p in-ranking low))

  first_benched : (k : ℕ) (bench : List C) → Frontier lowered ranking k bench → (h : C) (t : List C) → drop k ranking ≡ h ∷ t → Contains bench h
  first_benched k bench f h t e = (f.holds h).1 (rw e (Contains-first h t), first_ready k h t e)

  starts : Frontier lowered ranking 0 (root ∷ [])
  starts = record {
    reached = omega arith;
    once = (no_member root, tt);
    holds = λ c. (only c, λ h. is_root c h.0 h.1 (lowered c) refl);
  }
    where
      only : (c : C) → Contains (root ∷ []) c → Contains ranking c × Ready 0 c
      only c (zero, l, e) = (subst (Contains ranking) e g.root_ranked, λ p low. absurd (none-some p (sym g.root_first ∙ ap lowered e ∙ low)))
      only c (suc i, l, e) = absurd (omega arith)

      is_root : (c : C) → Contains ranking c → Ready 0 c → (o : Option C) → lowered c ≡ o → Contains (root ∷ []) c
      is_root c m ready None e = rw (g.one_root c m e) (Contains-first root [])
      is_root c m ready (Some p) e = absurd (no_member p (ready p e))

  ends : (k : ℕ) (bench : List C) → Frontier lowered ranking k bench → (bench ≡ []) ↔ (k ≡ length ranking)
  ends k bench f = (λ e. go e (drop k ranking) refl, λ h. nil_from_length bench (omega (arith, distinct_fits bench [] f.once (λ c m. rw (drop_all k ranking (omega arith)) at ((f.holds c).0 m).0))))
    where
      go : bench ≡ [] → (left : List C) → drop k ranking ≡ left → k ≡ length ranking
      go e [] d = let none_left : length (drop k ranking) ≡ 0 = ap length d in let within = f.reached in omega (arith, length-drop k ranking)
      go e (h ∷ t) d = absurd (no_member h (rw e at (first_benched k bench f h t d)))

  least : (k : ℕ) (bench : List C) (m : C) → Frontier lowered ranking k bench → Unbeaten before m bench → Least before m bench
  least k bench m f unbeaten = (
    unbeaten.0,
    λ c b. ⊎_elim (λ e. inl e) (⊎_elim (λ h. absurd (both_ways _ (unbeaten.1 c b) h)) (λ h. inr h))
        (ascending_either before ranking g.ascending c m (Contains-drop k ranking c ((f.holds c).0 b).0) (Contains-drop k ranking m ((f.holds m).0 unbeaten.0).0)),
  )

  next : (k : ℕ) (bench : List C) (m : C) → Frontier lowered ranking k bench → Least before m bench → (k < length ranking) × (drop k ranking ≡ m ∷ drop (k + 1) ranking)
  next k bench m f least = (let some_left : length (drop k ranking) ≡ suc (length (drop (k + 1) ranking)) = ap length is in omega (arith, length-drop k ranking), is)
    where
      m_left : Contains (drop k ranking) m
      m_left = ((f.holds m).0 least.0).0

      go : (left : List C) → drop k ranking ≡ left → drop k ranking ≡ m ∷ drop (k + 1) ranking
      go [] d = absurd (no_member m (rw d at m_left))
      go (h ∷ t) d = d ∙ ap₂' (same (Contains-cons_cases h t m (rw d at m_left)) (least.1 h (first_benched k bench f h t d))) (sym (drop_next k ranking h t d))
        where
          same : (m ≡ h) ⊎ Contains t m → (h ≡ m) ⊎ (before m h ≡ true) → h ≡ m
          same a (inl e) = e
          same (inl e) (inr b) = sym e
          same (inr a) (inr b) = absurd (not_both m h b (ascending_next before k ranking g.ascending h t d m a))

          ap₂' : {x y : C} {xs ys : List C} → x ≡ y → xs ≡ ys → Path (List C) (x ∷ xs) (y ∷ ys)
          ap₂' p q = λ i. p i ∷ q i

      is : drop k ranking ≡ m ∷ drop (k + 1) ranking
      is = go (drop k ranking) refl

  module _ (k : ℕ) (bench rest : List C) (m : C) (f : Frontier lowered ranking k bench) (first : Least before m bench) (without : Without m bench rest) where
    now : drop k ranking ≡ m ∷ drop (k + 1) ranking
    now = (next k bench m f first).1

    taken : take (k + 1) ranking ≡ take k ranking ++ m ∷ []
    taken = take_next k ranking m (drop (k + 1) ranking) now

    m_left : Contains (drop k ranking) m
    m_left = ((f.holds m).0 first.0).0

    m_ranked : Contains ranking m
    m_ranked = Contains-drop k ranking m m_left

    m_taken : Contains (take (k + 1) ranking) m
    m_taken = rw taken (Contains-push (take k ranking) m)

    more : (p : C) → Contains (take k ranking) p → Contains (take (k + 1) ranking) p
    more p h = rw taken (Contains-append_left (take k ranking) (m ∷ []) p h)

    fresh : Distinct (rest ++ children m)
    fresh = distinct_append rest (children m) without.once (g.children_once m m_ranked)
        (λ c old child. apart k m (((f.holds c).0 ((without.holds c).0 old).0).1 m ((g.children_are m m_ranked c).0 child).1) m_left)

    old_stays : (c : C) → Contains rest c → Contains (drop (k + 1) ranking) c × Ready (k + 1) c
    old_stays c h =
        let was = (without.holds c).0 h in
        let known = (f.holds c).0 was.0 in
        (⊎_elim (λ e. absurd (was.1 e)) (λ d. d) (Contains-cons_cases m (drop (k + 1) ranking) c (rw now at known.0)), λ p low. more p (known.1 p low))

    child_comes : (c : C) → Contains (children m) c → Contains (drop (k + 1) ranking) c × Ready (k + 1) c
    child_comes c h =
        let known = (g.children_are m m_ranked c).0 h in
        let later = g.parent_before c m known.0 known.1 in (
          ⊎_elim (λ t. absurd (⊎_elim (λ a. not_both m c later (ascending_across before k ranking g.ascending c m a m_left))
              (λ (e : m ≡ c). not_self m (subst (λ z. before m z ≡ true) (sym e) later))
              (Contains-push_cases (take k ranking) m c (rw taken at t))))
              (λ d. d)
              (Contains-halves (k + 1) ranking c known.0),
          λ p low. subst (Contains (take (k + 1) ranking)) (same_Some m p (sym known.1 ∙ low)) m_taken,
        )

    comes_from : (c : C) → Contains (drop (k + 1) ranking) c → Ready (k + 1) c → Contains (rest ++ children m) c
    comes_from c left ready = go (lowered c) refl
      where
        was_left : Contains (drop k ranking) c
        was_left = rw now (Contains-rest m (drop (k + 1) ranking) c left)

        old : Ready k c → Contains (rest ++ children m) c
        old r = Contains-append_left rest (children m) c
            ((without.holds c).1 ((f.holds c).1 (was_left, r), λ e. apart (k + 1) m m_taken (subst (Contains (drop (k + 1) ranking)) e left)))

        go : (o : Option C) → lowered c ≡ o → Contains (rest ++ children m) c
        go None e = old (λ p low. absurd (none-some p (sym e ∙ low)))
        go (Some p) e = ⊎_elim
            (λ a. old (λ q low. subst (Contains (take k ranking)) (same_Some p q (sym e ∙ low)) a))
            (λ (q : m ≡ p). Contains-append_right rest (children m) c ((g.children_are m m_ranked c).1 (Contains-drop (k + 1) ranking c left, e ∙ ap {B = Option C} Some (sym q))))
            (Contains-push_cases (take k ranking) m p (rw taken at (ready p e)))

    grows : Frontier lowered ranking (k + 1) (rest ++ children m)
    grows = record {
      reached = let within = (next k bench m f first).0 in omega arith;
      once = fresh;
      holds = λ c. (λ h. ⊎_elim (old_stays c) (child_comes c) (Contains-append_cases rest (children m) c h), λ h. comes_from c h.0 h.1);
    }

  shuffles : (k : ℕ) (bench other : List C) → Frontier lowered ranking k bench → Distinct other → Alike bench other → Frontier lowered ranking k other
  shuffles k bench other f d same = record {
    reached = f.reached;
    once = d;
    holds = λ c. (λ h. (f.holds c).0 ((same c).1 h), λ h. (same c).0 ((f.holds c).1 h));
  }

  -- all that was looked at and all that is on the bench is the root or a child of one looked at
  small : (w k : ℕ) (bench : List C) → 1 ≤ w → ((p : C) → Contains ranking p → length (children p) ≤ w) → Frontier lowered ranking k bench → length bench ≤ 1 + k * (w - 1)
  small zero k bench w1 few f = absurd (omega arith)
  small (suc w) k bench w1 few f =
      let seen = take k ranking in
      let long : length seen ≡ k = length-take-le k ranking f.reached in
      let bound = distinct_fits (seen ++ bench) (root ∷ flat_map children seen) each from in
      let few' = All-take (λ p. length (children p) ≤ suc w) k ranking (λ i d l. few (get_or ranking i d) (Contains-get_or ranking i d l)) in
      let wide : length (flat_map children seen) ≤ length seen * suc w = rw length-flat_map (sum_by-le (λ p. length (children p)) (suc w) seen few') in
      let wide' : length (flat_map children seen) ≤ k * suc w = subst (λ n. length (flat_map children seen) ≤ n * suc w) long wide in
      let less : suc w - 1 ≡ w = omega arith in
      rw less (omega (arith, length-append seen bench, mul-suc k w))
    where
      each : Distinct (take k ranking ++ bench)
      each = distinct_append (take k ranking) bench (distinct_take k ranking (ascending_distinct before g.irreflexive ranking g.ascending)) f.once
          (λ c a b. apart k c a ((f.holds c).0 b).0)

      grown : (c : C) → Contains ranking c → ((p : C) → lowered c ≡ Some p → Contains (take k ranking) p) → (o : Option C) → lowered c ≡ o → Contains (root ∷ flat_map children (take k ranking)) c
      grown c m r None e = rw (g.one_root c m e) (Contains-first root _)
      grown c m r (Some p) e =
          let t = r p e in
          Contains-rest root _ c (Contains-flat_map children (take k ranking) p c t ((g.children_are p (Contains-take k ranking p t) c).1 (m, e)))

      from : (c : C) → Contains (take k ranking ++ bench) c → Contains (root ∷ flat_map children (take k ranking)) c
      from c h = ⊎_elim
          (λ a. grown c (Contains-take k ranking c a) (λ p e. parent_taken k c p a e) (lowered c) refl)
          (λ b. let known = (f.holds c).0 b in grown c (Contains-drop k ranking c known.0) known.1 (lowered c) refl)
          (Contains-append_cases (take k ranking) bench c h)

  pub best_first : BestFirst before lowered children root ranking
  best_first = record { starts = starts; ends = ends; least = least; next = next; grows = grows; shuffles = shuffles; small = small }
