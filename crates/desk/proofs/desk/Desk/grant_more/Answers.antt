use Rattle.std.proofs.Common.{sym}
use Rattle.desk.proofs.Replies.{granted_replied}
use Rattle.desk.proofs.desk.Desk.grant_more.Goals as goal

pub returns-clause-grants : goal.returns-clause-grants
returns-clause-grants c =
    granted_replied c.args.chains c.args.self.now c.grant.new.self c.go_on.new.self _ c.ask-2.result (sym c.in_default.ensures.answer)
    c.in_default.ensures.grants c.go_on.ensures.goes c.report-granted.result.granted c.report-granted.ensures.told.granted c.ask-2.ensures
