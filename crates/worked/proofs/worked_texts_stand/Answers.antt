use Rattle.worked.proofs.Texts.{worked_texts}
use Rattle.worked.proofs.worked_texts_stand.Goals as goal

pub returns : goal.returns
returns c = worked_texts
