use Rattle.std.proofs.Common.{◌≡◌, sym, subst, rules, MatchResult}
use Rattle.grammars.specs.Grammars.{Shut}
use Rattle.grammars.specs.Sheets.{checking, sheet_sets, Covers}
use Rattle.grammars.specs.SheetsLemmas.{checked}
use Rattle.grammars.proofs.sheet.Sheet.check.Goals as goal

pub returns-clause-sets : goal.returns-clause-sets
returns-clause-sets c =
    let t = c.args.self.now in
    let answer : c.ok_or.result ≡ checking t = search rules in
    subst (λ r. MatchResult r (λ _. Covers t) (λ _. Shut (sheet_sets t))) (sym answer) (checked t)
