use Rattle.std.proofs.Common.{eqb, refl, rules}
use Rattle.std.proofs.lemmas.List.Recursion.{or_is}
use Rattle.pages.specs.Shape.{seen}
use Rattle.pages.proofs.line_reader.has_symbol.Goals as goal

pub returns : goal.returns
returns c =
    or_is (seen c.args.symbol) (λ a. eqb a.symbol c.args.symbol) refl (λ _ _. refl) c.args.before.now (record { symbol = 0; penalty = 0 }) _
    (search rules) (search rules)
