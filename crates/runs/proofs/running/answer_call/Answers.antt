use Rattle.std.proofs.Common.{refl, ap, ◌∙◌, Ok, Err}
use Rattle.std.proofs.lemmas.Result.{err_from_is_err_and}
use Rattle.runs.proofs.Moments.{report_makes, made_as, load_told, grant_told, next_told}
use Rattle.runs.proofs.running.answer_call.Goals as goal

pub returns-in_err-load-in-Load-clause-made : goal.returns-in_err-load-in-Load-clause-made
returns-in_err-load-in-Load-clause-made g c =
    let told = c.in_err-load-in-Load.ensures in
    let up = err_from_is_err_and c.from_residual.result c.from_residual.ensures.1 in
    load_told _ _ _ _ {r = Err c.in_err-load-in-Load.field-0.0} c.in-Load.is c.range.ensures.start c.range.ensures.end told.answer told.state (up.1 ∙ ap Err up.2)

pub returns-in_err-grant-in-Grant-clause-made : goal.returns-in_err-grant-in-Grant-clause-made
returns-in_err-grant-in-Grant-clause-made g c =
    let told = c.in_err-grant-in-Grant.ensures in
    let up = err_from_is_err_and c.from_residual-in_err-grant-in-Grant.result c.from_residual-in_err-grant-in-Grant.ensures.1 in
    grant_told _ _ _ _ {r = Err c.in_err-grant-in-Grant.field-0.0} c.in-Grant.is told.answer told.state (up.1 ∙ ap Err up.2)

pub returns-in_err-outcome-in-Next-clause-made : goal.returns-in_err-outcome-in-Next-clause-made
returns-in_err-outcome-in-Next-clause-made g c =
    let told = c.in_err-outcome-in-Next.ensures in
    let up = err_from_is_err_and c.from_residual-in_err-outcome-in-Next.result c.from_residual-in_err-outcome-in-Next.ensures.1 in
    next_told _ _ _ _ g.met.S.Score.laws (g.met.G.Grammar.laws c.args.reader.now.grammar) c.in-Next.is c.range-range.ensures.start c.range-range.ensures.end c.next.auto.place
    told.answer told.state told.place (up.1 ∙ ap Err up.2)

pub returns-in_ok-load-in-Load-clause-made : goal.returns-in_ok-load-in-Load-clause-made
returns-in_ok-load-in-Load-clause-made g c =
    let told = c.in_ok-load-in-Load.ensures in
    load_told _ _ _ _ {r = Ok tt} c.in-Load.is c.range.ensures.start c.range.ensures.end told.answer told.state refl

pub returns-in_ok-grant-in-Grant-clause-made : goal.returns-in_ok-grant-in-Grant-clause-made
returns-in_ok-grant-in-Grant-clause-made g c =
    let told = c.in_ok-grant-in-Grant.ensures in
    grant_told _ _ _ _ {r = Ok tt} c.in-Grant.is told.answer told.state refl

pub returns-in_ok-outcome-in-Next-clause-made : goal.returns-in_ok-outcome-in-Next-clause-made
returns-in_ok-outcome-in-Next-clause-made g c =
    let told = c.in_ok-outcome-in-Next.ensures in
    next_told _ _ _ _ g.met.S.Score.laws (g.met.G.Grammar.laws c.args.reader.now.grammar) c.in-Next.is c.range-range.ensures.start c.range-range.ensures.end c.next.auto.place
    told.answer told.state told.place (ap Ok c.from.ensures)

pub returns-in-Report-clause-made : goal.returns-in-Report-clause-made
returns-in-Report-clause-made g c = made_as _ _ _ _ c.in-Report.is refl refl refl (report_makes _ _ _ _ c.report.result _ c.report.ensures.told)
