-- A run for C: what it is made under, and what it comes to. Assumes nothing.
use Rattle.std.specs.Prelude.{◌≡◌, ℕ, Bool, cond, ◌⊎◌, List, map, Some, None, Ok, Err, Option, Result, ◌==◌}
use Rattle.std.specs.List.{list_all}
use Rattle.grammars.specs.declared.Refusal.TheVariants.{Table}
use Rattle.grammars.specs.Grammars.{refusal}
use Rattle.grammars.specs.declared.sheet.Sheet.{Sheet}
use Rattle.grammars.specs.Sheets.{holds}
use Rattle.runs.specs.Runs.{Runs}
use Rattle.runs.specs.declared.rows.Row as inner
use Rattle.settings.specs.declared.Setting.{Setting}
use Rattle.settings.specs.declared.Scoring.{Scoring}
use Rattle.settings.specs.declared.Scoring.TheVariants.{Sum, Shares}
use Rattle.settings.specs.declared.Wanted.{Wanted}
use Rattle.settings.specs.declared.Wanted.TheVariants.{Dates, Positions, OnSheet}
use Rattle.settings.specs.Settings.{meaning_of, sets_of}
use Rattle.ffi.specs.declared.run.Seeking.{Seeking}
use Rattle.ffi.specs.declared.run.Trouble.{Trouble}
use Rattle.ffi.specs.declared.run.Trouble.TheVariants as trouble
use Rattle.ffi.specs.declared.rows.Row.{Row}
use Rattle.ffi.specs.Rows.{is_call, row_of, told}

-- the limits of the sheet
abbrev pub sheet_of : Seeking → Sheet
sheet_of s = record { south = s.south; north = s.north; west = s.west; east = s.east }

-- 1 sum, 2 shares
abbrev pub scoring_of : Seeking → Option Scoring
scoring_of s = cond (s.score == 1) (Some Sum) (cond (s.score == 2) (Some Shares) None)

-- 1 dates, 2 positions, 3 positions on the sheet
abbrev pub wanted_of : Seeking → Option Wanted
wanted_of s = cond (s.grammar == 1) (Some Dates) (cond (s.grammar == 2) (Some Positions) (cond (s.grammar == 3) (Some (OnSheet (sheet_of s))) None))

-- each row asks for a call that there is
abbrev pub all_calls : List Row → Bool
all_calls rows = list_all (λ r. is_call r.asked) rows

-- the sheet's table holds, where one is sought
abbrev pub checked : Wanted → Result (Unit {0}) Trouble
checked Dates = Ok tt
checked Positions = Ok tt
checked (OnSheet t) = cond (holds t) (Ok tt) (Err (trouble.Table Table))

-- What a run is made under, or why it is not begun: the numbers are judged first, and then the sheet's table.
abbrev pub sought_by : Scoring → Wanted → Result (Unit {0}) Trouble → Result Setting Trouble
sought_by s w (Ok u) = Ok (record { wanted = w; scoring = s })
sought_by s w (Err e) = Err e

abbrev pub judged_by : Option Scoring → Option Wanted → Bool → Result Setting Trouble
judged_by None w known = Err trouble.Unknown
judged_by (Some s) None known = Err trouble.Unknown
judged_by (Some s) (Some w) known = cond known (sought_by s w (checked w)) (Err trouble.Unknown)

abbrev pub judging : Seeking → List Row → Result Setting Trouble
judging s rows = judged_by (scoring_of s) (wanted_of s) (all_calls rows)

abbrev pub trouble_number : Trouble → ℕ
trouble_number trouble.Unknown = 101
trouble_number (trouble.Table r) = refusal r

-- nothing is written
abbrev pub Untouched : List ℕ → List Row → List ℕ → List Row → Type 0
Untouched places rows places' rows' = (rows' ≡ rows) × (places' ≡ places)

-- the rows were run by the law of runs, and each is told what came of it
abbrev pub Told : Setting → List ℕ → List ℕ → List Row → List ℕ → List Row → Type 0
Told t pages places rows places' rows' =
    (made : List inner.Row)
    × Runs (meaning_of t.scoring) (sets_of t.wanted) pages places (map (λ r. row_of r.asked) rows) made places'
    × (rows' ≡ told rows made)

-- A RUN FOR C: refused by the number of its trouble, or made; or there is no memory for it. Only a run that is made writes.
abbrev pub RunMade : Result Setting Trouble → List ℕ → List ℕ → List Row → ℕ → List ℕ → List Row → Type 0
RunMade (Err e) pages places rows answer places' rows' = (answer ≡ trouble_number e) × Untouched places rows places' rows'
RunMade (Ok t) pages places rows answer places' rows' =
    ((answer ≡ 0) × Told t pages places rows places' rows') ⊎ ((answer ≡ 100) × Untouched places rows places' rows')
