use Rattle.std.proofs.Common.{arith}
use Rattle.std.proofs.lemmas.Grind.{common_steps}
use Rattle.pages.proofs.Steps.{last_is}
use Rattle.pages.proofs.line_reader.last_penalty_of.Goals as goal

pub returns : goal.returns
returns c = grind (arith, common_steps, last_is)
