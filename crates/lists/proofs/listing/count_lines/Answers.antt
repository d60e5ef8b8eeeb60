use Rattle.std.proofs.Common.{ap, ◌∷◌, ◌∙◌}
use Rattle.pages.specs.Answers.{answer_of, answers_left}
use Rattle.lists.proofs.Counts.{passed_none, passed_more}
use Rattle.lists.proofs.listing.count_lines.Goals as goal

pub loop-line-init : goal.loop-line-init
loop-line-init c = passed_none c.args.page.now c.in_ok-line-items.line-items c.into_iter-line-iterator.ensures.into_iter_gives c.in_ok-line-items.ensures

pub loop-line-preserved : goal.loop-line-preserved
loop-line-preserved c =
    let more = answers_left c.next.new.self.left in
    passed_more c.loop-line.invariant c.in_ok-line.field-0 more (c.in-Some.ensures.steps ∙ ap (λ a. answer_of a ∷ more) c.in_ok-line.was)
