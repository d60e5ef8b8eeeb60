use Rattle.std.proofs.Common.{rules, ap, ◌∷◌, ◌∙◌}
use Rattle.pages.specs.Answers.{answer_of, answers_left}
use Rattle.reports.proofs.Rows.{rowed_none, rowed_more}
use Rattle.reports.proofs.report.describe.Goals as goal

pub loop-line-init : goal.loop-line-init
loop-line-init c =
    rowed_none c.args.page.now c.in_ok-line-items.line-items _ c.into_iter-line-iterator.ensures.into_iter_gives c.in_ok-line-items.ensures c.new-rows.ensures.bytes

pub loop-line-preserved : goal.loop-line-preserved
loop-line-preserved c =
    let more = answers_left c.next.new.self.left in
    rowed_more c.loop-line.invariant c.in_ok-line.field-0 more _ (c.in-Some.ensures.steps ∙ ap (λ a. answer_of a ∷ more) c.in_ok-line.was) (search rules)
