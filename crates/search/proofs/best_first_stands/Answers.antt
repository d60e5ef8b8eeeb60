use Rattle.search.proofs.BestFirst.{best_first}
use Rattle.search.proofs.best_first_stands.Goals as goal

pub returns : goal.returns
returns g c = best_first
