-- How a run goes on from row to row. Assumes nothing.
use Rattle.std.proofs.Common.{◌≡◌, ℕ, ◌+◌, ◌<◌, ◌≤◌, List, [], ◌∷◌, length, get_or, take, drop, set, Some, Result, sym, refl, ap, ◌∙◌, subst, subst₂, arith}
use Rattle.std.proofs.lemmas.List.{drop_more, take_more, take_more_set, take_all, drop-set-lt}
use Rattle.scores.specs.Scores.{Meaning}
use Rattle.grammars.specs.Grammars.{Sets}
use Rattle.reader.specs.declared.calls.Reader.{Reader}
use Rattle.reader.specs.declared.refusals.Refusal.{Refusal}
use Rattle.runs.specs.declared.rows.Answer.{Answer}
use Rattle.runs.specs.declared.rows.Row.{Row}
use Rattle.reader.specs.Views.{view, unloaded, Kept, Agrees}
use Rattle.runs.specs.Runs.{Moment, CallMade, Ran, none, one_more, RunsOn}
use Rattle.runs.specs.Steps.{Tracks, Made}
use Rattle.runs.proofs.Histories.{tracks_start}

-- the first i rows have been run
pub record Running {G S : Type 0} (s : Meaning) (sets : G → Sets) (pages places₀ : List ℕ) (rows₀ : List Row) (reader₀ : Reader G S) (i : ℕ) (reader : Reader G S) (rows : List Row) (places : List ℕ) : Type 0 where
  pub history : List Moment
  pub ran : Ran s (sets reader₀.grammar) pages places₀ (take i rows₀) (take i rows) history places
  pub tracks : Tracks s (sets reader₀.grammar) history (view reader)
  pub agrees : Agrees s (sets reader.grammar) reader
  pub kept : Kept reader₀ reader
  pub rest : drop i rows ≡ drop i rows₀

module _ {G S : Type 0} {s : Meaning} {sets : G → Sets} {pages places₀ : List ℕ} {rows₀ : List Row} {reader₀ : Reader G S} where
  pub running_none : view reader₀ ≡ unloaded → Agrees s (sets reader₀.grammar) reader₀ → Running s sets pages places₀ rows₀ reader₀ 0 reader₀ rows₀ places₀
  running_none fresh agrees = record {
    history = [];
    ran = none;
    tracks = subst (Tracks s (sets reader₀.grammar) []) (sym fresh) (tracks_start s (sets reader₀.grammar));
    agrees = agrees;
    kept = record { grammar = refl; score = refl };
    rest = refl;
  }

  module _ {i : ℕ} {reader : Reader G S} {rows : List Row} {places : List ℕ} (r : Running s sets pages places₀ rows₀ reader₀ i reader rows places) where
    pub running_more : (d : Row) {answered : Result Answer Refusal} {reader' : Reader G S} {places' : List ℕ} → i < length rows → length rows ≡ length rows₀
        → Agrees s (sets reader.grammar) reader' → Kept reader reader'
        → Made s (sets reader.grammar) pages (view reader) places (get_or rows i d).call answered (view reader') places'
        → Running s sets pages places₀ rows₀ reader₀ (i + 1) reader' (set rows i (record { call = (get_or rows i d).call; answer = Some answered })) places'
    running_more d {answered = answered} {reader' = reader'} {places' = places'} lt long agrees same made =
        let row' : Row = record { call = (get_or rows i d).call; answer = Some answered } in
        let rest : get_or rows i d ∷ drop (i + 1) rows ≡ get_or rows₀ i d ∷ drop (i + 1) rows₀ = sym (drop_more rows i d lt) ∙ r.rest ∙ drop_more rows₀ i d (omega arith) in
        let here : get_or rows i d ≡ get_or rows₀ i d = cc in
        let behind : drop (i + 1) rows ≡ drop (i + 1) rows₀ = cc in
        let step = subst (λ x. Made s (sets x) pages (view reader) places (get_or rows i d).call answered (view reader') places') r.kept.grammar made r.history r.tracks in
        let more = one_more (get_or rows₀ i d) row' r.ran (ap (λ x. x.call) here) refl (subst (λ x. CallMade s (sets reader₀.grammar) pages r.history places x.call answered step.0 places') here step.1) step.2 in
        record {
          history = step.0 ∷ r.history;
          ran = subst₂ (λ xs ys. Ran s (sets reader₀.grammar) pages places₀ xs ys (step.0 ∷ r.history) places') (sym (take_more rows₀ i d (omega arith))) (sym (take_more_set rows i row' lt)) more;
          tracks = step.3;
          agrees = subst (λ x. Agrees s (sets x) reader') (sym same.grammar) agrees;
          kept = record { grammar = same.grammar ∙ r.kept.grammar; score = same.score ∙ r.kept.score };
          rest = drop-set-lt (i + 1) rows i row' (omega arith) ∙ behind;
        }

    -- with every row run
    module _ (all : length rows ≤ i) (long : length rows ≡ length rows₀) where
      pub running_law : RunsOn s (sets reader₀.grammar) pages places₀ rows₀ rows places (view reader)
      running_law = (r.history, subst₂ (λ xs ys. Ran s (sets reader₀.grammar) pages places₀ xs ys r.history places) (take_all i rows₀ (omega arith)) (take_all i rows (omega arith)) r.ran, r.tracks.seen_is)

    pub running_agrees : Agrees s (sets reader₀.grammar) reader
    running_agrees = subst (λ x. Agrees s (sets x) reader) r.kept.grammar r.agrees
