-- A reader seen from outside, and that its bench agrees with grammar, score, line and grant. Assumes nothing.
use Rattle.std.specs.Prelude.{◌≡◌, ℕ, ◌≤◌, Some, None, Option}
use Rattle.std.specs.Option.{option_map}
use Rattle.pages.specs.Shape.{Cells}
use Rattle.pages.specs.Answers.{line_of}
use Rattle.scores.specs.Scores.{Meaning}
use Rattle.grammars.specs.Grammars.{Sets}
use Rattle.bench.specs.Held.{in_use, Roomy}
use Rattle.bench.specs.Searched.{AgreesAt}
use Rattle.reader.specs.declared.calls.Reader.{Reader}

-- the line of the last load that was taken, and what has been granted, looked at and handed out since, with the total of the
-- last reading handed out
pub record View : Type 0 where
  pub line : Option Cells
  pub granted : ℕ
  pub looked : ℕ
  pub handed : ℕ
  pub last_total : Option ℕ

abbrev pub view : {G S : Type 0} → Reader G S → View
view r = record { line = option_map line_of r.line; granted = r.granted; looked = r.looked; handed = r.handed; last_total = r.last_total }

-- before the first load, and after a load
abbrev pub unloaded : View
unloaded = record { line = None; granted = 0; looked = 0; handed = 0; last_total = None }

abbrev pub loaded : Cells → View
loaded l = record { line = Some l; granted = 0; looked = 0; handed = 0; last_total = None }

-- its grammar and its score are as they were
pub record Kept {G S : Type 0} (was is : Reader G S) : Type 0 where
  pub grammar : is.grammar ≡ was.grammar
  pub score : is.score ≡ was.score

-- with a line the bench agrees with it, and no more chains were handed out than looked at
pub record OnLine {G S : Type 0} (s : Meaning) (g : Sets) (r : Reader G S) (l : Cells) : Type 0 where
  pub fewer : r.handed ≤ r.looked
  pub bench : AgreesAt s g.allows l r.looked r.granted r.bench

-- before the first load there is nothing
abbrev pub AgreesWith : {G S : Type 0} → Meaning → Sets → Reader G S → Option Cells → Type 0
AgreesWith s g r None = (view r ≡ unloaded) × (in_use r.bench ≡ 0)
AgreesWith s g r (Some l) = OnLine s g r l

-- The one condition that the calls are made under: the reader agrees with its bench. It is true of a new reader, and each
-- call keeps it.
pub record Agrees {G S : Type 0} (s : Meaning) (g : Sets) (r : Reader G S) : Type 0 where
  pub room : Roomy r.bench
  pub agrees : AgreesWith s g r (view r).line
