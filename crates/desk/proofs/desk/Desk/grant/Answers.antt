use Rattle.std.proofs.Common.{refl, ap, ◌∙◌}
use Rattle.reader.specs.Views.{view}
use Rattle.reader.specs.Calls.{granting}
use Rattle.desk.proofs.Found.{granted_keeps, still_ready}
use Rattle.desk.proofs.desk.Desk.grant.Goals as goal

pub returns-clause-ready : goal.returns-clause-ready
returns-clause-ready c =
    let was = view c.args.self.now.reader in
    let line = ap (λ v. v.line) c.grant.ensures.state ∙ granted_keeps was c.args.chains (granting was c.args.chains) in
    still_ready c.args.self.now _ c.requires.ready refl line c.grant.ensures.kept c.grant.ensures.agrees
