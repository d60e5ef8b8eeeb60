use Rattle.std.proofs.Common.{rules, take, ◌∙◌}
use Rattle.bench.specs.Ranks.{ranks_of}
use Rattle.bench.proofs.Texts.{last_found}
use Rattle.bench.proofs.ranks.Ranks.last_raised.Goals as goal

pub returns : goal.returns
returns c = c.unwrap_or.ensures ∙ last_found (take c.args.cells (ranks_of c.args.self.now)) c.rposition.result (search rules)
