use Rattle.search.proofs.Listed.{chains_listed}
use Rattle.search.proofs.Order.{strict_total}
use Rattle.search.proofs.Ranking.{ranked}
use Rattle.search.proofs.Texts.{cell_by_cell, text_tells, last_raised_decides, admissible_live}
use Rattle.search.proofs.chains_stand.Goals as goal

pub returns : goal.returns
returns c = record { listed = chains_listed; taken = cell_by_cell; text = text_tells; last_raised = last_raised_decides; order = strict_total; ranking = ranked; admissible = admissible_live }
