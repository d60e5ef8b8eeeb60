-- The worked readings, by computing. Assumes nothing.
use Rattle.std.proofs.Common.{◌≡◌, ℕ, Contains, List, [], ◌∷◌, map, length, get_or, take, Some, Ok, Option, Result, refl, sym, ap, ◌∙◌, subst, ⊎_elim, true≢false, rules, arith}
use Rattle.pages.specs.Reading.{read_page, read_lines, read_line, read_cells, read_cell, read_alternatives}
use Rattle.scores.specs.Scores.{Meaning, Laws, sum_meaning, shares_meaning}
use Rattle.grammars.specs.Grammars.{Sets, Lawful}
use Rattle.grammars.specs.Dates.{longest, date_sets}
use Rattle.grammars.specs.Days.{date_shorter, admitted_allowed}
use Rattle.reader.specs.Views.{unloaded}
use Rattle.reader.specs.declared.refusals.Refusal.{Refusal}
use Rattle.runs.specs.declared.rows.Call.{Call}
use Rattle.runs.specs.declared.rows.Answer.{Answer}
use Rattle.search.specs.Chains.{Chain, ChainOf}
use Rattle.search.proofs.Members.{Contains-first, Contains-cons_cases, no_member}
use Rattle.search.proofs.Ranking.{ranked}
use Rattle.runs.specs.Runs.{live_chains, Runs}
use Rattle.runs.specs.declared.rows.Answer.TheVariants as answer
use Rattle.runs.specs.declared.rows.Row.{Row}
use Rattle.runs.specs.Determined.{AlikeReport, AlikeAnswer, AlikeRows}
use Rattle.std.specs.Fmt.{digits}
use Rattle.lists.specs.Lists.{header, row, rows}
use Rattle.worked.specs.Worked.{page, line, first_chain, second_chain, lowest_chain, places, with_answers, bare_answer, bare, everything, stops, course_of_pairs, four_found, ComesOut, DatesComeOut, PairsComeOut, WorkedReadings}
use Rattle.worked.proofs.Played.{Play, play, every_run, one_run}

-- the laws of the two scores, of Date, and of what admits and allows everything
sum_laws : Laws sum_meaning
sum_laws = search rules

shares_laws : Laws shares_meaning
shares_laws = search rules

everything_lawful : Lawful everything
everything_lawful = record {
  empty = refl;
  shorter = λ s n h. refl;
  begun = λ s n h. refl;
}

date_lawful : Lawful date_sets
date_lawful = record {
  empty = refl;
  shorter = date_shorter;
  begun = λ s n h. date_shorter s n (admitted_allowed s h);
}

-- alike rows are the same but for the places in use
bare_same : (a b : Option (Result Answer Refusal)) → AlikeAnswer a b → bare_answer a ≡ bare_answer b
bare_same a b alike = ⊎_elim
    (λ e. ap bare_answer e)
    (λ t.
    let same : AlikeReport t.0 t.1 = t.4 in
    ap bare_answer t.2
    ∙ (λ i. Some (Ok (answer.Reported (record { cells = same.cells i; granted = same.granted i; looked = same.looked i; handed = same.handed i; places = 0 }))))
    ∙ sym (ap bare_answer t.3))
    alike

bare_rows : (xs ys : List Row) → AlikeRows xs ys → map bare xs ≡ map bare ys
bare_rows [] [] alike = refl
bare_rows [] (y ∷ ys) alike = absurd alike
bare_rows (x ∷ xs) [] alike = absurd alike
bare_rows (x ∷ xs) (y ∷ ys) alike =
    let first : bare x ≡ bare y = λ i. record { call = alike.0 i; answer = bare_same x.answer y.answer alike.1 i } in
    let rest = bare_rows xs ys alike.2 in
    λ i. first i ∷ rest i

-- a play that is computed is what every run comes to, under any score and any grammar that keep their laws
comes_out : (s : Meaning) (g : Sets) → Laws s → Lawful g → (pages lent : List ℕ) (calls : List Call) (answers : List (Result Answer Refusal)) (left : List ℕ)
    → play s g pages unloaded lent calls ≡ record { answers = answers; left = left } → map bare (with_answers calls answers) ≡ with_answers calls answers → ComesOut s g pages lent calls answers left
comes_out s g laws lawful pages lent calls answers left e told = record {
  there_is = λ rows same. subst (λ (p : Play). Runs s g pages lent rows (with_answers calls p.answers) p.left) e (one_run s g pages laws lawful lent rows calls same);
  every = λ rows rows' left' same r.
      let came = subst (λ (p : Play). AlikeRows rows' (with_answers calls p.answers) × (left' ≡ p.left)) e (every_run s g pages laws lawful lent rows rows' left' calls same r) in
      (bare_rows rows' (with_answers calls answers) came.0 ∙ told, came.1);
}

dates_come_out : (calls : List Call) (answers : List (Result Answer Refusal)) (left : List ℕ)
    → play sum_meaning date_sets page unloaded places calls ≡ record { answers = answers; left = left }
    → map bare (with_answers calls answers) ≡ with_answers calls answers → DatesComeOut calls answers left
dates_come_out = comes_out sum_meaning date_sets sum_laws date_lawful page places

pairs_come_out : (s : Meaning) → Laws s → (pages left : List ℕ)
    → play s everything pages unloaded (stops 10) course_of_pairs ≡ record { answers = four_found; left = left } → PairsComeOut s pages left
pairs_come_out s laws pages left e = comes_out s everything laws everything_lawful pages (stops 10) course_of_pairs four_found left e refl

-- the six live chains; the first date stands third among them
abbrev next_to_lowest : Chain
next_to_lowest = 0 ∷ 1 ∷ 0 ∷ 0 ∷ 0 ∷ 0 ∷ 0 ∷ 0 ∷ []

abbrev six : List Chain
six = lowest_chain ∷ next_to_lowest ∷ first_chain ∷ second_chain ∷ (1 ∷ 1 ∷ 0 ∷ 0 ∷ 0 ∷ 0 ∷ 0 ∷ 0 ∷ []) ∷ (1 ∷ 1 ∷ 0 ∷ 0 ∷ 0 ∷ 0 ∷ 0 ∷ 1 ∷ []) ∷ []

ranked_six : live_chains sum_meaning date_sets line ≡ six
unfolding longest
ranked_six = refl

six_live : length (live_chains sum_meaning date_sets line) ≡ 6
six_live = ap length ranked_six

third_of_six : Contains (live_chains sum_meaning date_sets line) first_chain
third_of_six = let long : length six ≡ 6 = refl in subst (λ cs. Contains cs first_chain) (sym ranked_six) (2, omega (arith, long), refl)

third_of_five : Contains (take 5 (live_chains sum_meaning date_sets line)) first_chain
third_of_five = let long : length (take 5 six) ≡ 5 = refl in subst (λ cs. Contains (take 5 cs) first_chain) (sym ranked_six) (2, omega (arith, long), refl)

-- and it is not among the first two
not_of_two : Contains (take 2 (live_chains sum_meaning date_sets line)) first_chain → ⊥
not_of_two m = ⊎_elim
    (λ (e : first_chain ≡ lowest_chain). let z : ◌≡◌ {A = ℕ} 1 0 = ap (λ c. get_or c 0 0) e in omega (arith, z))
    (λ n. ⊎_elim
    (λ (e : first_chain ≡ next_to_lowest). let z : ◌≡◌ {A = ℕ} 1 0 = ap (λ c. get_or c 0 0) e in omega (arith, z))
    (no_member first_chain)
    (Contains-cons_cases next_to_lowest [] first_chain n))
    (Contains-cons_cases lowest_chain (next_to_lowest ∷ []) first_chain (subst (λ cs. Contains (take 2 cs) first_chain) ranked_six m))

first_chain_of : ChainOf line first_chain
first_chain_of = (((ranked sum_meaning sum_laws date_sets line).exactly_live first_chain).0 third_of_six).0

pub worked_readings : WorkedReadings
unfolding longest digits row rows header read_page read_lines read_line read_cells read_cell read_alternatives
worked_readings = record {
  leap_day = refl;
  no_leap_day = refl;
  latitude_admitted = refl;
  latitude = refl;
  longitude_admitted = refl;
  longitude = refl;
  position = refl;
  past_the_pole = refl;
  zero_south = refl;
  half_turn_west = refl;
  two_cells_ranked = refl;
  first_cell_decides = refl;
  shares_ranked = refl;
  shares_totals = refl;
  live_by_opening = refl;
  page_read = refl;
  line_ranked = refl;
  first_text = refl;
  first_total = refl;
  everything_lawful = everything_lawful;
  pairs_read = refl;
  pairs_in_order = pairs_come_out sum_meaning sum_laws _ _ refl;
  shares_read = refl;
  shares_in_order = pairs_come_out shares_meaning shares_laws _ _ refl;
  granted_170 = dates_come_out _ _ _ refl refl;
  watched_170 = dates_come_out _ _ _ refl refl;
  granted_6 = dates_come_out _ _ _ refl refl;
  watched_6 = dates_come_out _ _ _ refl refl;
  granted_2 = dates_come_out _ _ _ refl refl;
  granted_2_and_1 = dates_come_out _ _ _ refl refl;
  loaded_again = dates_come_out _ _ _ refl refl;
  parts_of_places = dates_come_out _ _ _ refl refl;
  refused = dates_come_out _ _ _ refl refl;
  second_before_first = λ x. ⊎_elim (λ (e : first_chain ≡ second_chain). let z : ◌≡◌ {A = ℕ} 0 1 = ap (λ c. get_or c 7 0) e in omega (arith, z)) (λ e. true≢false (sym e)) ((x.best_unseen line second_chain refl refl).2 first_chain (first_chain_of, refl) (no_member first_chain));
  no_date = λ x. true≢false (sym (x.best_unseen line _ refl refl).0.1);
  date_again = λ x. (x.best_unseen line first_chain refl refl).1 (Contains-first first_chain []);
  date_behind = λ x. let t = x.stops_there line first_chain refl refl in omega (arith, t.1, t.2);
  past_grant = λ x. omega (arith, x.never_above_grant);
  past_end = λ x. omega (arith, x.never_past_end line refl, six_live);
  finds_none = λ x. (x.found_exactly_when line refl tt).1 (first_chain, third_of_six, refl, no_member first_chain);
  spent_early = λ x. omega (arith, ((x.spent_exactly_when line refl tt (λ f. f)).0 refl).1);
  exhausted_early = λ x. omega (arith, (x.exhausted_exactly_when line refl tt (λ f. f)).0 refl, six_live);
  date_kept_back = λ x. no_member first_chain ((x.first_looked_handed line refl first_chain).1 (third_of_five, refl));
  date_made_up = λ x. not_of_two ((x.first_looked_handed line refl first_chain).0 (Contains-first first_chain [])).0;
  report_looks = λ x. omega (arith, x.looks_only_in_next (λ n. n));
  last_total = refl;
  no_last_total = refl;
  sum_takes = refl;
  shares_take = refl;
  shares_too_long = refl;
  shares_too_dear = refl;
  places_most = omega arith;
  places_too_many = λ h. omega (arith, h);
  places_without_line = λ h. omega (arith, h);
  page_listed = refl;
  refused_listed = refl;
  no_date_listed = refl;
}
