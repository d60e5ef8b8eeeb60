use Rattle.std.proofs.Common.{sym}
use Rattle.desk.proofs.Begun.{begun}
use Rattle.desk.proofs.task.begin.Goals as goal

pub returns-clause-begins : goal.returns-clause-begins
returns-clause-begins c =
    begun c.args.task.now c.args.page.now c.in_ok-desk.desk c.grant.new.self c.look.new.self c.room.result c.unwrap_or-grant.result
    c.in_ok-desk.ensures.opened c.room.ensures.room c.unwrap_or-grant.ensures (sym c.in_ok-grant.ensures.answer) c.in_ok-grant.ensures.grants c.look.ensures.looks
