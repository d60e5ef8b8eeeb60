-- What the owner is told. Assumes nothing.
use Rattle.std.specs.Prelude.{ℕ, List, ◌++◌, codes, decimal}
use Rattle.hex.specs.Hex.{encode_upper}
use Rattle.descriptions.specs.declared.Kind.{Kind}
use Rattle.descriptions.specs.Words.{kind_words, fault_words}
use Rattle.reader.specs.Refusals.{number_of, explained}
use Rattle.desk.specs.declared.words.Note.{Note}
use Rattle.desk.specs.declared.words.Note.TheVariants.{Help, NoAnswer, NothingShown, Granted, Refused}
use Rattle.desk.specs.declared.words.Unfound.{Unfound}
use Rattle.desk.specs.declared.words.Unfound.TheVariants.{Spent, SpentAll, Exhausted}
use Rattle.desk.specs.declared.task.TaskFault.{TaskFault}
use Rattle.desk.specs.declared.task.TaskFault.TheVariants as fault

unfoldable pub note_words : Note → List ℕ
note_words Help = codes "y confirms the reading shown, n calls for the next best, g N grants N more chains, q leaves the line"
note_words NoAnswer = codes "no answer: y confirms the reading shown, n calls for the next best, g N grants N more chains, q leaves the line"
note_words NothingShown = codes "no reading is shown that y could confirm"
note_words (Granted chains granted) = codes "granted " ++ (decimal chains ++ (codes " more, " ++ (decimal granted ++ codes " in all")))
note_words (Refused r room) =
    codes "refused " ++ (decimal (number_of r) ++ (codes ", " ++ (explained r ++ (codes ": up to " ++ (decimal room ++ codes " more may be granted")))))

-- why no reading is shown: of a spent line its grant, and how many more it takes, if any
unfoldable pub unfound_words : Unfound → List ℕ
unfound_words (Spent granted room) =
    codes "spent: the grant of " ++ (decimal granted ++ (codes " is used up; g N, with N up to " ++ (decimal room ++ codes ", or q?")))
unfound_words (SpentAll granted) = codes "spent: the grant of " ++ (decimal granted ++ codes " is used up, and the line takes no more; only q is left")
unfound_words Exhausted = codes "exhausted: no other reading of the line is on the sheet; only q is left"

-- the text of a reading, what it is, and its total
abbrev pub reading_words : List ℕ → Kind → ℕ → List ℕ
reading_words text kind total = text ++ (codes ": " ++ (kind_words kind ++ (codes ", total " ++ (decimal total ++ codes "; y, n, g N or q?"))))

-- the bytes of a mark, and what its text is
abbrev pub plotted_words : List ℕ → Kind → List ℕ
plotted_words bytes kind = codes "plotted " ++ (encode_upper bytes ++ (codes ": " ++ kind_words kind))

-- why arguments ask for no task
unfoldable pub task_fault_words : TaskFault → List ℕ
task_fault_words (fault.Number word reason) = word.now ++ codes " is no whole number below 2^64"
task_fault_words (fault.Corner f) = fault_words f
task_fault_words fault.Arguments =
    codes "usage: wheelhouse PAGE LINE SOUTHWEST NORTHEAST [GRANT], a corner as 5000000N00500000W"
