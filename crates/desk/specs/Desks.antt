-- A desk, what its calls do to it, and what it shows. Assumes nothing.
use Rattle.std.specs.Prelude.{◌≡◌, ℕ, ◌-◌, ◌/◌, max, cond, ◌&&◌, nat_le, List, take, replicate, Some, Ok, Err, Result, true}
use Rattle.pages.specs.Shape.{Cells}
use Rattle.positions.specs.declared.angles.Axis.{Axis}
use Rattle.positions.specs.declared.angles.Axis.TheVariants.{Latitude, Longitude}
use Rattle.scores.specs.Scores.{sum_meaning}
use Rattle.grammars.specs.declared.Both.{Both}
use Rattle.grammars.specs.declared.Then.{Then}
use Rattle.grammars.specs.declared.sheet.Sheet.{Sheet}
use Rattle.grammars.specs.Grammars.{Sets, both, then_by}
use Rattle.grammars.specs.Angles.{angle_sets}
use Rattle.grammars.specs.Sheets.{sheet_sets}
use Rattle.descriptions.specs.Kinds.{charted}
use Rattle.reader.specs.declared.calls.Outcome.TheVariants as outcome
use Rattle.reader.specs.declared.refusals.Refusal.{Refusal}
use Rattle.reader.specs.declared.refusals.Refusal.TheVariants as refusal
use Rattle.reader.specs.Views.{View, Agrees, view, loaded}
use Rattle.reader.specs.Calls.{Nexted, cells_of, loading, granted_more, next_of}
use Rattle.desk.specs.declared.desk.Desk.{Desk}
use Rattle.desk.specs.declared.desk.Standing.{Standing}
use Rattle.desk.specs.declared.desk.Standing.TheVariants.{Shown, Spent, Exhausted}
use Rattle.desk.specs.declared.desk.Trouble.{Trouble}
use Rattle.desk.specs.declared.desk.Trouble.TheVariants.{Refused, Memory}

-- the grammar of the positions on a sheet
abbrev pub positions_on : Sheet → Both (Then Axis Axis) Sheet
positions_on t = record { one = record { cut = 8; head = Latitude; tail = Longitude }; other = t }

-- what a grammar of this form means
abbrev pub sets_of : Both (Then Axis Axis) Sheet → Sets
sets_of g = both (then_by g.one.cut (angle_sets g.one.head) (angle_sets g.one.tail)) (sheet_sets g.other)

-- The one condition that the calls of a desk are made under: its reader seeks the positions on its sheet, agrees with its
-- bench, and has a line.
pub record Ready (d : Desk) : Type 0 where
  pub grammar : d.reader.grammar ≡ positions_on d.sheet
  pub line : (l : Cells) × ((view d.reader).line ≡ Some l)
  pub agrees : Agrees sum_meaning (sets_of d.reader.grammar) d.reader

-- how many more chains may be granted
abbrev pub room_of : View → ℕ
room_of v = 4095 / max (cells_of v.line) 1 - v.granted

-- what a grant of n answers where so many more may be granted: 0 is refused, and so is more
abbrev pub up_to : ℕ → ℕ → Result (Unit {0}) Refusal
up_to room n = cond (nat_le 1 n && nat_le n room) (Ok tt) (Err refusal.Grant)

-- what stands on the desk is what a next of the reader came to; a reading lies on the sheet t
abbrev pub Shows : Sheet → Nexted → Standing → Type 0
Shows t n (Shown r) =
    (n.answer ≡ Ok (outcome.Found 17))
    × (r.text ≡ take 17 n.place)
    × (n.state.last_total ≡ Some r.total)
    × ((charted t).admits r.text ≡ true)
Shows t n Spent = n.answer ≡ Ok outcome.Spent
Shows t n Exhausted = n.answer ≡ Ok outcome.Exhausted

-- A desk that is opened has the line that a load takes, under no grant, and shows nothing. A refusal is that of the load.
abbrev pub Opens : Sheet → List ℕ → ℕ → Result Desk Trouble → Type 0
Opens t page number (Ok d) = (l : Cells) × (loading sum_meaning page number ≡ Ok l) × (d.sheet ≡ t) × (view d.reader ≡ loaded l) × (d.standing ≡ Spent)
Opens t page number (Err (Refused r)) = loading sum_meaning page number ≡ Err r
Opens t page number (Err (Memory e)) = Unit {0}

-- what a next of the reader comes to, for the positions on a sheet
abbrev pub nexted : Sheet → View → Nexted
nexted t v = next_of sum_meaning (charted t) v (replicate 24 0)

-- a look: the desk shows what a next of its reader comes to
pub record Looks (was is : Desk) : Type 0 where
  pub sheet : is.sheet ≡ was.sheet
  pub state : view is.reader ≡ (nexted was.sheet (view was.reader)).state
  pub shows : Shows was.sheet (nexted was.sheet (view was.reader)) is.standing

-- a grant of n that is taken: what is shown stays
pub record Grants (n : ℕ) (was is : Desk) : Type 0 where
  pub sheet : is.sheet ≡ was.sheet
  pub state : view is.reader ≡ granted_more (view was.reader) n (Ok tt)
  pub standing : is.standing ≡ was.standing

-- a reading that is shown stays, and without one there is a look
abbrev pub GoesOn : Standing → Desk → Desk → Type 0
GoesOn (Shown r) was is = is ≡ was
GoesOn Spent was is = Looks was is
GoesOn Exhausted was is = Looks was is
