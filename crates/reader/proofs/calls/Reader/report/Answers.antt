use Rattle.std.proofs.Common.{rules, refl, ap, sym, ◌∙◌, subst}
use Rattle.std.specs.Option.{option_map}
use Rattle.std.proofs.lemmas.Option.{MatchOption-at_some, MatchOption-at_none}
use Rattle.pages.specs.Answers.{line_of}
use Rattle.bench.proofs.Lines.{as_many}
use Rattle.reader.specs.Views.{view}
use Rattle.reader.specs.Calls.{cells_of, PlacesInUse}
use Rattle.reader.proofs.Readers.{counted, places_used}
use Rattle.reader.proofs.calls.Reader.report.Goals as goal

pub returns-clause-told : goal.returns-clause-told
returns-clause-told g c =
    let r = c.args.self.now in
    record {
      cells = counted c.as_ref.result c.map_or.result (λ is. MatchOption-at_none _ _ is c.map_or.ensures) (λ line is. let k = MatchOption-at_some _ _ line is c.map_or.ensures in search (rules, as_many))
          ∙ ap (λ o. cells_of (option_map line_of o)) c.as_ref.ensures.value;
      granted = refl;
      looked = refl;
      handed = refl;
      places = subst (PlacesInUse (view r).line r.looked) (sym c.len.ensures) (places_used g.S.Score.meaning g.met.S.Score.laws (g.G.Grammar.meaning r.grammar) (g.met.G.Grammar.laws r.grammar) r c.requires.agrees);
    }
