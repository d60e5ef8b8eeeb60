use Rattle.worked.proofs.Readings.{worked_readings}
use Rattle.worked.proofs.worked_readings_stand.Goals as goal

pub returns : goal.returns
returns c = worked_readings
