-- What the owner is told, and what each answer leads to. Assumes nothing.
use Rattle.std.specs.Prelude.{◌≡◌, ℕ, cond, ◌==◌, List, ◌++◌, Some, None, Ok, Err, Option, Result, codes, string_bytes}
use Rattle.std.specs.Str.Lossy.{utf8_lossy}
use Rattle.grammars.specs.declared.sheet.Sheet.{Sheet}
use Rattle.descriptions.specs.Kinds.{kind_of}
use Rattle.reader.specs.declared.refusals.Refusal.{Refusal}
use Rattle.refusalwords.specs.Words.{refused_words}
use Rattle.reader.specs.Views.{View, view}
use Rattle.reader.specs.Calls.{granting}
use Rattle.desk.specs.declared.answers.Answer.{Answer}
use Rattle.desk.specs.declared.answers.Answer.TheVariants as answer
use Rattle.desk.specs.declared.desk.Desk.{Desk}
use Rattle.desk.specs.declared.desk.Standing.{Standing}
use Rattle.desk.specs.declared.desk.Standing.TheVariants.{Shown, Spent, Exhausted}
use Rattle.desk.specs.declared.desk.Trouble.{Trouble}
use Rattle.desk.specs.declared.desk.Trouble.TheVariants.{Refused, Memory}
use Rattle.desk.specs.declared.desk.Reply.{Reply}
use Rattle.desk.specs.declared.desk.Reply.TheVariants.{Ask, Done}
use Rattle.desk.specs.declared.words.Note.{Note}
use Rattle.desk.specs.declared.words.Note.TheVariants as note
use Rattle.desk.specs.declared.words.Unfound.{Unfound}
use Rattle.desk.specs.declared.words.Unfound.TheVariants as unfound
use Rattle.desk.specs.Desks.{Looks, Grants, GoesOn, room_of}
use Rattle.desk.specs.Marks.{mark_of}
use Rattle.desk.specs.Words.{note_words, unfound_words, reading_words, plotted_words}

-- of a spent line, whether more may be granted
abbrev pub spent_of : ℕ → ℕ → Unfound
spent_of granted room = cond (room == 0) (unfound.SpentAll granted) (unfound.Spent granted room)

-- what the owner sees of what stands on a desk, and is asked
abbrev pub standing_words : Sheet → View → Standing → List ℕ
standing_words t v (Shown r) = reading_words (utf8_lossy r.text) (kind_of t r.text) r.total
standing_words t v Spent = unfound_words (spent_of v.granted (room_of v))
standing_words t v Exhausted = unfound_words unfound.Exhausted

abbrev pub told_words : Desk → List ℕ
told_words d = standing_words d.sheet (view d.reader) d.standing

-- a note, and what stands is asked again
abbrev pub asked_words : Note → Desk → List ℕ
asked_words n d = note_words n ++ (codes "\n" ++ told_words d)

-- the reply has the text, and awaits an answer or ends
abbrev pub Asked : List ℕ → Reply → Type 0
Asked text (Ask s) = string_bytes s ≡ text
Asked text (Done s) = ⊥

abbrev pub Ended : List ℕ → Reply → Type 0
Ended text (Done s) = string_bytes s ≡ text
Ended text (Ask s) = ⊥

-- the words for a refusal; of want of memory nothing is told
abbrev pub TellsOf : List ℕ → Trouble → List ℕ → Type 0
TellsOf page (Refused r) words = words ≡ refused_words page r
TellsOf page (Memory e) words = ⊥

-- y: the reading shown is plotted, and that is the end; without one there is nothing to confirm
abbrev pub Confirms : Desk → Standing → Reply → Type 0
Confirms d (Shown r) reply = Ended (plotted_words (mark_of r.text) (kind_of d.sheet r.text)) reply
Confirms d Spent reply = Asked (asked_words note.NothingShown d) reply
Confirms d Exhausted reply = Asked (asked_words note.NothingShown d) reply

-- g N, by what the grant answers: what is granted is said behind a look, if there is one; a refusal leaves the desk, and says how
-- many more may be granted
abbrev pub GrantsMore : ℕ → Result (Unit {0}) Refusal → Desk → Desk → Reply → Type 0
GrantsMore n (Ok done) was is reply =
    ((between : Desk) × Grants n was between × GoesOn was.standing between is)
    × Asked (asked_words (note.Granted n (view is.reader).granted) is) reply
GrantsMore n (Err r) was is reply = (is ≡ was) × Asked (asked_words (note.Refused r (room_of (view was.reader))) was) reply

-- what each answer leads to: the desk after it, and the reply
abbrev pub Answers : Option Answer → Desk → Desk → Reply → Type 0
Answers None was is reply = (is ≡ was) × Asked (asked_words note.NoAnswer was) reply
Answers (Some answer.Confirm) was is reply = (is ≡ was) × Confirms was was.standing reply
Answers (Some answer.Next) was is reply = Looks was is × Asked (told_words is) reply
Answers (Some (answer.Grant n)) was is reply = GrantsMore n (granting (view was.reader) n) was is reply
Answers (Some answer.Leave) was is reply = (is ≡ was) × Ended (codes "left, and nothing is plotted") reply
