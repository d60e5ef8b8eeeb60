use Rattle.std.proofs.Common.{◌≡◌, rules, Ok, sym, refl, ap, ◌∙◌}
use Rattle.scores.specs.Scores.{sum_meaning}
use Rattle.reader.specs.Calls.{loading}
use Rattle.desk.proofs.Found.{made_ready, taken}
use Rattle.desk.proofs.desk.Desk.open.Goals as goal

pub returns-clause-ready : goal.returns-clause-ready
returns-clause-ready c =
    let ok : c.load.result ≡ Ok tt = search rules in
    let line = taken _ (loading sum_meaning c.args.page.now c.args.number) (sym c.load.ensures.answer ∙ ok) in
    made_ready _ c.in_ok-reader.reader.grammar c.load.ensures.kept.grammar c.in_ok-reader.ensures.0 line.0
    (ap (λ v. v.line) (c.load.ensures.state ∙ line.2)) c.load.ensures.agrees

pub returns-clause-opened : goal.returns-clause-opened
returns-clause-opened c =
    let ok : c.load.result ≡ Ok tt = search rules in
    let line = taken _ (loading sum_meaning c.args.page.now c.args.number) (sym c.load.ensures.answer ∙ ok) in
    (line.0, line.1, refl, c.load.ensures.state ∙ line.2, refl)
