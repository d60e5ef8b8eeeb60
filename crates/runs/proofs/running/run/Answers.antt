use Rattle.runs.proofs.Determined.{determined}
use Rattle.runs.proofs.running.run.Goals as goal

pub returns-clause-determined : goal.returns-clause-determined
returns-clause-determined g c = determined _ g.met.S.Score.laws _ _ _ _

pub returns-in_err-reader-clause-determined : goal.returns-in_err-reader-clause-determined
returns-in_err-reader-clause-determined g c = determined _ g.met.S.Score.laws _ _ _ _
