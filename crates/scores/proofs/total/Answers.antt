use Rattle.std.specs.Prelude.{[], ◌∷◌, refl}
use Rattle.std.proofs.lemmas.List.Sums.{fold-append}
use Rattle.scores.proofs.Exact.{exact}
use Rattle.scores.proofs.total.Goals as goal

pub returns-clause-stepwise : goal.returns-clause-stepwise
returns-clause-stepwise g c = record { none = λ s t. refl; one_more = λ s t p ps. fold-append s.step t ps (p ∷ []) }

pub returns-clause-exact : goal.returns-clause-exact
returns-clause-exact g c = exact
