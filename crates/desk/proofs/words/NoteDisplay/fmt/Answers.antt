use Rattle.desk.specs.Words.{note_words}
use Rattle.desk.proofs.words.NoteDisplay.fmt.Goals as goal

pub returns-in-Refused-clause-writes : goal.returns-in-Refused-clause-writes
unfolding note_words
returns-in-Refused-clause-writes g c plain ok =
    rw (c.in-Refused.is, ← c.number-number.ensures, ← c.explanation-words.ensures) (c.write-in-Refused.ensures.writes plain ok)
