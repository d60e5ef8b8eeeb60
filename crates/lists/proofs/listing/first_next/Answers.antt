use Rattle.std.proofs.Common.{refl, subst, sym, ap, ◌∙◌}
use Rattle.std.specs.Result.{IsOk}
use Rattle.pages.proofs.Round.{accepted_exactly}
use Rattle.reader.specs.Views.{view}
use Rattle.reader.specs.Calls.{answered, granting}
use Rattle.lists.specs.Calls.{line_at}
use Rattle.lists.proofs.Answered.{line_well, loads, grants, came_ok, after_load, next_comes}
use Rattle.lists.proofs.listing.first_next.Goals as goal

pub unwrap-requires : goal.unwrap-requires
unwrap-requires c =
    let page = c.args.page.now in
    let accepted = accepted_exactly page (λ i. (c.type_inv.page i).fits) in
    subst IsOk (sym (c.load.ensures.answer ∙ ap answered (loads page accepted c.args.number c.requires.there))) refl

pub unwrap-requires-2 : goal.unwrap-requires-2
unwrap-requires-2 c =
    let page = c.args.page.now in
    let n = c.args.number in
    let accepted = accepted_exactly page (λ i. (c.type_inv.page i).fits) in
    let seen = after_load page accepted n c.requires.there (view c.args.reader.now) c.load.ensures.state in
    let few = (line_well page accepted n c.requires.there).few in
    subst IsOk (sym (c.grant.ensures.answer ∙ ap (λ v. granting v 170) seen ∙ grants (line_at page n) few)) refl

pub unwrap-requires-3 : goal.unwrap-requires-3
unwrap-requires-3 c =
    let page = c.args.page.now in
    let accepted = accepted_exactly page (λ i. (c.type_inv.page i).fits) in
    let is = next_comes page accepted c.args.number c.requires.there (view c.args.reader.now) c.args.place.now c.requires.room c.load.ensures.state c.grant.ensures.state in
    subst IsOk (sym (c.next.ensures.answer ∙ ap (λ x. x.answer) is)) (came_ok (line_at page c.args.number) c.args.place.now)

pub returns : goal.returns
returns c =
    let page = c.args.page.now in
    let accepted = accepted_exactly page (λ i. (c.type_inv.page i).fits) in
    let is = next_comes page accepted c.args.number c.requires.there (view c.args.reader.now) c.args.place.now c.requires.room c.load.ensures.state c.grant.ensures.state in
    let kept = c.next.ensures.kept in
    record {
      answer = sym c.unwrap-3.ensures ∙ c.next.ensures.answer ∙ ap (λ x. x.answer) is;
      state = c.next.ensures.state ∙ ap (λ x. x.state) is;
      place = c.next.ensures.place ∙ ap (λ x. x.place) is;
      agrees = c.next.ensures.agrees;
      kept = record {
        grammar = kept.grammar ∙ c.grant.ensures.kept.grammar ∙ c.load.ensures.kept.grammar;
        score = kept.score ∙ c.grant.ensures.kept.score ∙ c.load.ensures.kept.score;
      };
    }
