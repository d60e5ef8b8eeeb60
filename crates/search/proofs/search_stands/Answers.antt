use Rattle.search.proofs.Growth.{growth, few_children, chains_best_first, small}
use Rattle.search.proofs.search_stands.Goals as goal

pub returns : goal.returns
returns c = record { grow = growth; few = few_children; best_first = chains_best_first; small = small }
