-- What a text is, for a sheet of the chart.
use Rattle.std.specs.Prelude.{◌≡◌, ℕ, Bool, true, false, cond, ◌&&◌, List, take, drop, ℤ, Ok, Err, Result}
use Rattle.positions.specs.declared.Refusal.{Refusal}
use Rattle.positions.specs.declared.angles.Axis.TheVariants as axes
use Rattle.positions.specs.Angles.{is_angle, Written}
use Rattle.positions.specs.Positions.{reading, Says}
use Rattle.grammars.specs.declared.sheet.Sheet.{Sheet}
use Rattle.grammars.specs.Grammars.{Sets, both, then_by}
use Rattle.grammars.specs.Dates.{admits_date, date_sets}
use Rattle.grammars.specs.Calendar.{Dated}
use Rattle.grammars.specs.Angles.{angle_sets}
use Rattle.grammars.specs.Sheets.{holds, on_sheet, sheet_sets}
use Rattle.descriptions.specs.declared.Kind.{Kind}
use Rattle.descriptions.specs.declared.Kind.TheVariants.{Date, Latitude, Longitude, OnSheet, OffSheet, Entry, Other}
use Rattle.descriptions.specs.declared.CornerFault.{CornerFault}
use Rattle.descriptions.specs.declared.CornerFault.TheVariants.{Southwest, Northeast, Order}

-- a latitude and then a longitude, on the sheet t
abbrev pub charted : Sheet → Sets
charted t = both (then_by 8 (angle_sets axes.Latitude) (angle_sets axes.Longitude)) (sheet_sets t)

-- a date and then such a position
abbrev pub entry : Sheet → Sets
entry t = then_by 8 date_sets (charted t)

-- what s is for the sheet t, where it is no date and no angle, by what reading it as a position answers
abbrev pub kind_at : Sheet → List ℕ → Result (ℤ × ℤ) Refusal → Kind
kind_at t s (Ok p) = cond ((charted t).admits s) (OnSheet p.0 p.1) (OffSheet p.0 p.1)
kind_at t s (Err e) = cond ((entry t).admits s) Entry Other

-- what s is for the sheet t, where it is no date and no angle
abbrev pub kind_read : Sheet → List ℕ → Kind
kind_read t s = kind_at t s (reading s)

-- what s is for the sheet t
abbrev pub kind_of : Sheet → List ℕ → Kind
kind_of t s =
    cond (admits_date s) Date (cond (is_angle axes.Latitude s) Latitude (cond (is_angle axes.Longitude s) Longitude (kind_read t s)))

-- the position y and x lies on the sheet t, whose table holds
abbrev pub lies_on : Sheet → ℤ → ℤ → Bool
lies_on t y x = holds t && on_sheet t (y, x)

-- s is a date and then a position on the sheet t
abbrev pub Entered : Sheet → List ℕ → Type 0
Entered t s = Dated (take 8 s) × ((y x : ℤ) × Says (drop 8 s) y x × (lies_on t y x ≡ true))

-- What is said of a text is true of it: the date is a day of the calendar, the angle is in range, and the position is that of the
-- text and lies where it is said to lie. An Entry is such a date and then a position on the sheet, and Other is none of all these.
abbrev pub TrueOf : Sheet → List ℕ → Kind → Type 0
TrueOf t s Date = Dated s
TrueOf t s Latitude = Written axes.Latitude s
TrueOf t s Longitude = Written axes.Longitude s
TrueOf t s (OnSheet y x) = Says s y x × (lies_on t y x ≡ true)
TrueOf t s (OffSheet y x) = Says s y x × (lies_on t y x ≡ false)
TrueOf t s Entry = Entered t s
TrueOf t s Other =
    (Dated s → ⊥)
    × (Written axes.Latitude s → ⊥)
    × (Written axes.Longitude s → ⊥)
    × ((y x : ℤ) → Says s y x → ⊥)
    × (Entered t s → ⊥)

-- the limits that two corners set
abbrev pub limits : ℤ × ℤ → ℤ × ℤ → Sheet
limits p q = record { south = p.0; north = q.0; west = p.1; east = q.1 }

-- the sheet t, where its table holds
abbrev pub checked : Sheet → Result Sheet CornerFault
checked t = cond (holds t) (Ok t) (Err Order)

abbrev pub northeast_from : ℤ × ℤ → Result (ℤ × ℤ) Refusal → Result Sheet CornerFault
northeast_from p (Ok q) = checked (limits p q)
northeast_from p (Err e) = Err Northeast

abbrev pub southwest_from : List ℕ → Result (ℤ × ℤ) Refusal → Result Sheet CornerFault
southwest_from b (Ok p) = northeast_from p (reading b)
southwest_from b (Err e) = Err Southwest

-- the sheet between the corners a and b, where both are positions and b lies neither south nor west of a
abbrev pub sheet_between : List ℕ → List ℕ → Result Sheet CornerFault
sheet_between a b = southwest_from b (reading a)
