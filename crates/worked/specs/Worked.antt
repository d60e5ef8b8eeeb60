-- Worked readings: what the definitions that the contracts cite come to, at values worked out by hand. Assumes nothing.
use Rattle.std.specs.Prelude.{◌≡◌, ℕ, ◌*◌, true, false, List, [], ◌∷◌, ◌++◌, map, length, replicate, pos, neg_ℤ, Some, None, Ok, Err, Option, Result, codes}
use Rattle.pages.specs.declared.faults.AlternativeFault.TheVariants as alternative_fault
use Rattle.pages.specs.declared.faults.CellFault.TheVariants as cell_fault
use Rattle.pages.specs.declared.faults.LineFault.TheVariants as line_fault
use Rattle.pages.specs.declared.faults.PageFault.TheVariants as page_fault
use Rattle.pages.specs.declared.lines.Alternative.{Alternative}
use Rattle.pages.specs.Shape.{Alternatives, Cells}
use Rattle.pages.specs.Reading.{read_page}
use Rattle.scores.specs.Scores.{Meaning, sum_meaning, shares_meaning}
use Rattle.positions.specs.declared.angles.Axis.TheVariants.{Latitude, Longitude}
use Rattle.positions.specs.Angles.{angle_of}
use Rattle.positions.specs.Positions.{reading}
use Rattle.grammars.specs.Grammars as grammars
use Rattle.grammars.specs.Grammars.{Sets}
use Rattle.grammars.specs.Dates.{date_sets}
use Rattle.grammars.specs.Angles.{angle_sets}
use Rattle.search.specs.Chains.{Chain, text, total}
use Rattle.reader.specs.declared.calls.Outcome.{Outcome}
use Rattle.reader.specs.declared.calls.Outcome.TheVariants.{Found, Spent, Exhausted}
use Rattle.reader.specs.declared.refusals.Refusal.{Refusal}
use Rattle.reader.specs.declared.refusals.Refusal.TheVariants as refusal
use Rattle.reader.specs.Calls.{takes, PlacesInUse}
use Rattle.runs.specs.declared.rows.Call.{Call}
use Rattle.runs.specs.declared.rows.Call.TheVariants as call
use Rattle.runs.specs.declared.rows.Answer.{Answer}
use Rattle.runs.specs.declared.rows.Answer.TheVariants as answer
use Rattle.runs.specs.declared.rows.Row.{Row}
use Rattle.runs.specs.Runs as law
use Rattle.runs.specs.Runs.{Moment, moment, live_chains, Lawful, Runs}
use Rattle.lists.specs.Lists.{row, date_list}

-- a symbol at a penalty
abbrev pub alt : ℕ → ℕ → Alternative
alt symbol penalty = record { symbol = symbol; penalty = penalty }

-- A line of two cells, each 1 at penalty 0 and 2 at penalty 3 (codes 49 and 50), where everything is admitted and allowed.
abbrev pub one_or_two : Alternatives
one_or_two = alt 49 0 ∷ alt 50 3 ∷ []

abbrev pub two_cells : Cells
two_cells = one_or_two ∷ one_or_two ∷ []

abbrev pub everything : Sets
everything = record { admits = λ t. true; allows = λ t. true }

-- Two cells, 1 at 0 or 2 at 2, and 1 at 0, 2 at 1 or 3 at 2.
abbrev pub two_and_three : Cells
two_and_three = (alt 49 0 ∷ alt 50 2 ∷ []) ∷ (alt 49 0 ∷ alt 50 1 ∷ alt 51 2 ∷ []) ∷ []

-- Two cells, 1 at 0 or 2 at 10, and 1 at 0 or 2 at 20.
abbrev pub tenth_and_fifth : Cells
tenth_and_fifth = (alt 49 0 ∷ alt 50 10 ∷ []) ∷ (alt 49 0 ∷ alt 50 20 ∷ []) ∷ []

-- the pages of one line of these two cells
abbrev pub page_of_two_cells : List ℕ
page_of_two_cells =
    0x01 ∷ 0x02
    ∷ 0x02 ∷ 0x31 ∷ 0x00 ∷ 0x00 ∷ 0x32 ∷ 0x00 ∷ 0x03
    ∷ 0x02 ∷ 0x31 ∷ 0x00 ∷ 0x00 ∷ 0x32 ∷ 0x00 ∷ 0x03
    ∷ []

abbrev pub page_of_tenth_and_fifth : List ℕ
page_of_tenth_and_fifth =
    0x01 ∷ 0x02
    ∷ 0x02 ∷ 0x31 ∷ 0x00 ∷ 0x00 ∷ 0x32 ∷ 0x00 ∷ 0x0A
    ∷ 0x02 ∷ 0x31 ∷ 0x00 ∷ 0x00 ∷ 0x32 ∷ 0x00 ∷ 0x14
    ∷ []

-- Three cells, 3 at 0, 9 at 0 or 0 at 1, and 0 at 0 or 1 at 1.
abbrev pub thirty_nine_or_thirty : Cells
thirty_nine_or_thirty = (alt 51 0 ∷ []) ∷ (alt 57 0 ∷ alt 48 1 ∷ []) ∷ (alt 48 0 ∷ alt 49 1 ∷ []) ∷ []

-- A page of one line of eight cells: its bytes, and the cells of its line. 3 or 2, 0 or 8, then 0, 2, 2, 0, 2, and 3 or 4.
abbrev pub page : List ℕ
page =
    0x01 ∷ 0x08
    ∷ 0x02 ∷ 0x33 ∷ 0x00 ∷ 0x00 ∷ 0x32 ∷ 0x00 ∷ 0x05
    ∷ 0x02 ∷ 0x30 ∷ 0x00 ∷ 0x00 ∷ 0x38 ∷ 0x00 ∷ 0x02
    ∷ 0x01 ∷ 0x30 ∷ 0x00 ∷ 0x00
    ∷ 0x01 ∷ 0x32 ∷ 0x00 ∷ 0x00
    ∷ 0x01 ∷ 0x32 ∷ 0x00 ∷ 0x00
    ∷ 0x01 ∷ 0x30 ∷ 0x00 ∷ 0x00
    ∷ 0x01 ∷ 0x32 ∷ 0x00 ∷ 0x00
    ∷ 0x02 ∷ 0x33 ∷ 0x00 ∷ 0x00 ∷ 0x34 ∷ 0x00 ∷ 0x01
    ∷ []

abbrev pub line : Cells
line =
    (alt 51 0 ∷ alt 50 5 ∷ [])
    ∷ (alt 48 0 ∷ alt 56 2 ∷ [])
    ∷ (alt 48 0 ∷ [])
    ∷ (alt 50 0 ∷ [])
    ∷ (alt 50 0 ∷ [])
    ∷ (alt 48 0 ∷ [])
    ∷ (alt 50 0 ∷ [])
    ∷ (alt 51 0 ∷ alt 52 1 ∷ [])
    ∷ []

-- the chain of the reading that comes first: rank 1 in the first cell, 0 in the others
abbrev pub first_chain : Chain
first_chain = 1 ∷ 0 ∷ 0 ∷ 0 ∷ 0 ∷ 0 ∷ 0 ∷ 0 ∷ []

-- that of the one that comes next, and the chain in which no cell is raised
abbrev pub second_chain : Chain
second_chain = 1 ∷ 0 ∷ 0 ∷ 0 ∷ 0 ∷ 0 ∷ 0 ∷ 1 ∷ []

abbrev pub lowest_chain : Chain
lowest_chain = replicate 8 0

-- The calls: a line of the page that so many bytes are, of the page of one date, and of its first
-- 42 bytes; a next into a part of the bytes that are lent for places, or into the n-th eight or the
-- n-th two of them. In each of those bytes is a full stop.
abbrev pub load_of : ℕ → ℕ → Call
load_of bytes n = call.Load (record { start = 0; length = bytes }) n

abbrev pub load_number : ℕ → Call
load_number n = load_of (length page) n

abbrev pub load_line : Call
load_line = load_number 0

abbrev pub load_cut : ℕ → Call
load_cut n = load_of 42 n

abbrev pub next_at : ℕ → ℕ → Call
next_at start length = call.Next (record { start = start; length = length })

abbrev pub next_into : ℕ → Call
next_into n = next_at (n * 8) 8

abbrev pub next_pair : ℕ → Call
next_pair n = next_at (n * 2) 2

abbrev pub stops : ℕ → List ℕ
stops n = replicate n 46

abbrev pub places : List ℕ
places = stops 40

-- a report, with so many cells, granted, looked at and handed out, and that of the line; 0 stands for the places in use, which are
-- compared with nothing
abbrev pub told_of : ℕ → ℕ → ℕ → ℕ → Result Answer Refusal
told_of cells granted looked handed = Ok (answer.Reported (record { cells = cells; granted = granted; looked = looked; handed = handed; places = 0 }))

abbrev pub told : ℕ → ℕ → ℕ → Result Answer Refusal
told granted looked handed = told_of 8 granted looked handed

-- what the other calls that are taken answer
abbrev pub loaded : Result Answer Refusal
loaded = Ok answer.Loaded

abbrev pub granted : Result Answer Refusal
granted = Ok answer.Granted

abbrev pub next : Outcome → Result Answer Refusal
next outcome = Ok (answer.Next outcome)

-- what remains in the places: the four readings in their order, and eight bytes as they were
abbrev pub readings : List ℕ
readings = codes "20022023" ++ (codes "20022024" ++ (codes "28022023" ++ (codes "28022024" ++ stops 8)))

-- the page of its first 42 bytes is refused: the last cell's last alternative, cell 7 of line 0, ends early
abbrev pub cut_short : Refusal
cut_short = refusal.Page (page_fault.Line (record { number = 0; fault = line_fault.Cell (record { number = 7; fault = cell_fault.Alternative (alternative_fault.Short 42) }) }))

-- the rows of calls and their answers
abbrev pub with_answers : List Call → List (Result Answer Refusal) → List Row
with_answers [] answers = []
with_answers (c ∷ calls) [] = []
with_answers (c ∷ calls) (a ∷ answers) = record { call = c; answer = Some a } ∷ with_answers calls answers

-- rows with 0 for the places in use that their reports tell, which the law only bounds
abbrev pub bare_told : Answer → Answer
bare_told (answer.Reported r) = answer.Reported (record { cells = r.cells; granted = r.granted; looked = r.looked; handed = r.handed; places = 0 })
bare_told a = a

abbrev pub bare_result : Result Answer Refusal → Result Answer Refusal
bare_result (Ok a) = Ok (bare_told a)
bare_result (Err r) = Err r

abbrev pub bare_answer : Option (Result Answer Refusal) → Option (Result Answer Refusal)
bare_answer (Some r) = Some (bare_result r)
bare_answer None = None

abbrev pub bare : Row → Row
bare row = record { call = row.call; answer = bare_answer row.answer }

-- Of a score, a grammar, and bytes that are lent for pages and for places: EVERY run of the calls,
-- whatever stood in its rows, has these answers and leaves these places; and there is such a run.
pub record ComesOut (s : Meaning) (g : Sets) (pages lent : List ℕ)
    (calls : List Call) (answers : List (Result Answer Refusal)) (left : List ℕ) : Type 0 where
  pub there_is : (rows : List Row) → map (λ row. row.call) rows ≡ calls
      → Runs s g pages lent rows (with_answers calls answers) left
  pub every : (rows rows' : List Row) (left' : List ℕ) → map (λ row. row.call) rows ≡ calls
      → Runs s g pages lent rows rows' left'
      → (map bare rows' ≡ with_answers calls answers) × (left' ≡ left)

-- over the page of one date, under Date and Sum, with forty full stops for places
abbrev pub DatesComeOut : List Call → List (Result Answer Refusal) → List ℕ → Type 0
DatesComeOut calls answers left = ComesOut sum_meaning date_sets page places calls answers left

-- over a page of one line of two cells, where everything is admitted and allowed, with ten full
-- stops for places: a grant of four, and five nexts; every next but the last finds a reading
abbrev pub course_of_pairs : List Call
course_of_pairs =
    load_of 16 0 ∷ call.Grant 4
    ∷ next_pair 0 ∷ next_pair 1 ∷ next_pair 2 ∷ next_pair 3 ∷ next_pair 4 ∷ []

abbrev pub four_found : List (Result Answer Refusal)
four_found =
    loaded ∷ granted ∷ next (Found 2) ∷ next (Found 2) ∷ next (Found 2) ∷ next (Found 2)
    ∷ next Exhausted ∷ []

abbrev pub PairsComeOut : Meaning → List ℕ → List ℕ → Type 0
PairsComeOut s pages left = ComesOut s everything pages (stops 10) course_of_pairs four_found left

-- a history: the line was loaded, and so many were granted
abbrev pub begun : ℕ → List Moment
begun n = moment (law.granted n) 0 ∷ moment (law.loaded line) 0 ∷ []

-- the law lets no call leave this moment after this history
abbrev pub ShutOut : List Moment → Moment → Type 0
ShutOut h x = Lawful sum_meaning date_sets h x → ⊥

-- five nexts with a report after the first and after the last; and with a report after each
abbrev pub course : ℕ → List Call
course n = load_line ∷ call.Grant n ∷ next_into 0 ∷ call.Report ∷ next_into 1 ∷ next_into 2 ∷ next_into 3 ∷ next_into 4 ∷ call.Report ∷ []

abbrev pub course_answers : ℕ → List (Result Answer Refusal)
course_answers n = loaded ∷ granted ∷ next (Found 8) ∷ told n 3 1 ∷ next (Found 8) ∷ next (Found 8) ∷ next (Found 8) ∷ next Exhausted ∷ told n 6 4 ∷ []

abbrev pub watched : ℕ → List Call
watched n =
    load_line ∷ call.Grant n ∷ next_into 0 ∷ call.Report ∷ next_into 1 ∷ call.Report ∷ next_into 2 ∷ call.Report
    ∷ next_into 3 ∷ call.Report ∷ next_into 4 ∷ call.Report ∷ []

abbrev pub watched_answers : ℕ → List (Result Answer Refusal)
watched_answers n =
    loaded ∷ granted ∷ next (Found 8) ∷ told n 3 1 ∷ next (Found 8) ∷ told n 4 2 ∷ next (Found 8) ∷ told n 5 3
    ∷ next (Found 8) ∷ told n 6 4 ∷ next Exhausted ∷ told n 6 4 ∷ []

-- and both the first reading and the second were found
abbrev pub both_found : List Moment
both_found = moment (law.found second_chain) 4 ∷ moment (law.found first_chain) 3 ∷ begun 6

-- THE WORKED READINGS
pub record WorkedReadings : Type 0 where
  -- 2000 is a leap year, 1900 is not
  pub leap_day : date_sets.admits (codes "29022000") ≡ true
  pub no_leap_day : date_sets.admits (codes "29021900") ≡ false
  -- a latitude and a longitude in thousandths of a minute, alone and as a position
  pub latitude_admitted : (angle_sets Latitude).admits (codes "5012345N") ≡ true
  pub latitude : angle_of Latitude (codes "5012345N") ≡ pos 3_012_345
  pub longitude_admitted : (angle_sets Longitude).admits (codes "00412345W") ≡ true
  pub longitude : angle_of Longitude (codes "00412345W") ≡ neg_ℤ (pos 252_345)
  pub position : reading (codes "5012345N00412345W") ≡ Ok (pos 3_012_345, neg_ℤ (pos 252_345))
  -- past the pole, zero with the wrong letter, and the half turn, which is east
  pub past_the_pole : (angle_sets Latitude).admits (codes "9000001N") ≡ false
  pub zero_south : (angle_sets Latitude).admits (codes "0000000S") ≡ false
  pub half_turn_west : (angle_sets Longitude).admits (codes "18000000W") ≡ false
  -- the texts of the two cells in their order
  pub two_cells_ranked : map (text two_cells) (live_chains sum_meaning everything two_cells) ≡ codes "11" ∷ codes "12" ∷ codes "21" ∷ codes "22" ∷ []
  -- 13 and 21 both cost 2: the first cell decides, though 21 takes the second symbol once and 13 the third
  pub first_cell_decides : map (text two_and_three) (live_chains sum_meaning everything two_and_three)
      ≡ codes "11" ∷ codes "12" ∷ codes "13" ∷ codes "21" ∷ codes "22" ∷ codes "23" ∷ []
  -- under Shares the larger total is better, 90 × 100 before 100 × 80
  pub shares_ranked : map (text tenth_and_fifth) (live_chains shares_meaning everything tenth_and_fifth) ≡ codes "11" ∷ codes "21" ∷ codes "12" ∷ codes "22" ∷ []
  pub shares_totals : map (total shares_meaning tenth_and_fifth) (live_chains shares_meaning everything tenth_and_fifth) ≡ 10_000 ∷ 9_000 ∷ 8_000 ∷ 7_200 ∷ []
  -- 391 is not live, since 39, the symbols before its last raised cell, opens no date; 300 is, as 3 opens one, and 301, as 30 does
  pub live_by_opening : map (text thirty_nine_or_thirty) (live_chains sum_meaning date_sets thirty_nine_or_thirty) ≡ codes "390" ∷ codes "300" ∷ codes "301" ∷ []
  -- the page is read as the line; the texts of its live chains in their order; the total of the first that is a date
  pub page_read : read_page page ≡ Ok (line ∷ [])
  pub line_ranked : map (text line) (live_chains sum_meaning date_sets line)
      ≡ codes "30022023" ∷ codes "38022023" ∷ codes "20022023" ∷ codes "20022024" ∷ codes "28022023" ∷ codes "28022024" ∷ []
  pub first_text : text line first_chain ≡ codes "20022023"
  pub first_total : total sum_meaning line first_chain ≡ 5
  -- the two cells in a run from the bytes of their page: 11, 12, 21 and 22, in this order. What
  -- admits and allows everything is a grammar too
  pub everything_lawful : grammars.Lawful everything
  pub pairs_read : read_page page_of_two_cells ≡ Ok (two_cells ∷ [])
  pub pairs_in_order : PairsComeOut sum_meaning page_of_two_cells (codes "11122122" ++ stops 2)
  -- and the cells of the tenth and the fifth under Shares: 11, 21, 12 and 22
  pub shares_read : read_page page_of_tenth_and_fifth ≡ Ok (tenth_and_fifth ∷ [])
  pub shares_in_order :
      PairsComeOut shares_meaning page_of_tenth_and_fifth (codes "11211222" ++ stops 2)
  -- with a grant of 170 the first next looks at three chains, the next three at one each, and then none is left
  pub granted_170 : DatesComeOut (course 170) (course_answers 170) readings
  pub watched_170 : DatesComeOut (watched 170) (watched_answers 170) readings
  -- six are enough to see that none is left
  pub granted_6 : DatesComeOut (course 6) (course_answers 6) readings
  pub watched_6 : DatesComeOut (watched 6) (watched_answers 6) readings
  -- two are spent before the first reading
  pub granted_2 : DatesComeOut (load_line ∷ call.Grant 2 ∷ next_into 0 ∷ call.Report ∷ []) (loaded ∷ granted ∷ next Spent ∷ told 2 2 0 ∷ []) places
  -- grants add up, and a next goes on where the last one stopped
  pub granted_2_and_1 : DatesComeOut (load_line ∷ call.Grant 2 ∷ next_into 0 ∷ call.Grant 1 ∷ next_into 0 ∷ next_into 1 ∷ call.Report ∷ [])
      (loaded ∷ granted ∷ next Spent ∷ granted ∷ next (Found 8) ∷ next Spent ∷ told 3 3 1 ∷ []) (codes "20022023" ++ stops 32)
  -- a load begins anew
  pub loaded_again : DatesComeOut (load_line ∷ call.Grant 4 ∷ next_into 0 ∷ next_into 1 ∷ load_line ∷ call.Report ∷ next_into 2 ∷ call.Grant 3 ∷ next_into 2 ∷ call.Report ∷ [])
      (loaded ∷ granted ∷ next (Found 8) ∷ next (Found 8) ∷ loaded ∷ told 0 0 0 ∷ next Spent ∷ granted ∷ next (Found 8) ∷ told 3 3 1 ∷ [])
      (codes "20022023" ++ (codes "20022024" ++ (codes "20022023" ++ stops 16)))
  -- a place longer than the line's cells keeps its rest, and so do the bytes before it; one is cut off at the bytes' end
  pub parts_of_places : DatesComeOut (load_line ∷ call.Grant 4 ∷ next_at 3 20 ∷ next_at 30 100 ∷ []) (loaded ∷ granted ∷ next (Found 8) ∷ next (Found 8) ∷ [])
      (stops 3 ++ (codes "20022023" ++ (stops 19 ++ (codes "20022024" ++ stops 2))))
  -- what is refused, by the first condition that fails; nothing is changed by it
  pub refused : DatesComeOut
      (call.Grant 0 ∷ next_at 0 0 ∷ call.Report ∷ load_cut 1 ∷ load_number 1 ∷ load_line ∷ load_cut 0 ∷ call.Grant 0 ∷ call.Grant 512 ∷ call.Grant 511 ∷ call.Grant 1
      ∷ next_at 0 7 ∷ next_at 33 100 ∷ next_at 41 8 ∷ call.Report ∷ [])
      (Err refusal.NoLine ∷ Err refusal.NoLine ∷ told_of 0 0 0 0 ∷ Err cut_short ∷ Err refusal.LineNumber ∷ loaded ∷ Err cut_short ∷ Err refusal.Grant ∷ Err refusal.Grant ∷ granted ∷ Err refusal.Grant
      ∷ Err refusal.Place ∷ Err refusal.Place ∷ Err refusal.Place ∷ told 511 0 0 ∷ [])
      places
  -- What the law shuts out. With six granted: the second date before the first; what is no date; the first date a second time, or one that
  -- stands before those looked at
  pub second_before_first : ShutOut (begun 6) (moment (law.found second_chain) 4)
  pub no_date : ShutOut (begun 6) (moment (law.found lowest_chain) 1)
  pub date_again : ShutOut (moment (law.found first_chain) 2 ∷ begun 6) (moment (law.found first_chain) 3)
  pub date_behind : ShutOut (moment law.spent 5 ∷ begun 6) (moment (law.found first_chain) 3)
  -- three looked at with two granted; seven, where six chains are live
  pub past_grant : ShutOut (begun 2) (moment (law.found first_chain) 3)
  pub past_end : ShutOut (begun 170) (moment law.exhausted 7)
  -- no reading found among all six; spent with two looked at of six granted; exhausted, with four chains left
  pub finds_none : ShutOut (begun 6) (moment law.exhausted 6)
  pub spent_early : ShutOut (begun 6) (moment law.spent 2)
  pub exhausted_early : ShutOut (begun 6) (moment law.exhausted 2)
  -- five looked at, and none handed out; one handed out that was not looked at; a report that looks at a chain
  pub date_kept_back : ShutOut (moment law.refused 5 ∷ begun 6) (moment law.reported 5)
  pub date_made_up : ShutOut (moment (law.found first_chain) 2 ∷ begun 6) (moment law.reported 2)
  pub report_looks : ShutOut (begun 6) (moment law.reported 1)
  -- the total last seen is that of the reading found last, and there is none after a load
  pub last_total : law.last_total_in sum_meaning both_found ≡ Some 6
  pub no_last_total : law.last_total_in sum_meaning (moment (law.loaded line) 0 ∷ both_found) ≡ None
  -- a line that a score takes is at its limit, one past it is not taken
  pub sum_takes : takes sum_meaning (replicate 24 (alt 49 65_535 ∷ [])) ≡ true
  pub shares_take : takes shares_meaning (replicate 9 (alt 49 98 ∷ alt 50 99 ∷ [])) ≡ true
  pub shares_too_long : takes shares_meaning (replicate 10 (alt 49 0 ∷ [])) ≡ false
  pub shares_too_dear : takes shares_meaning ((alt 49 98 ∷ alt 50 100 ∷ []) ∷ []) ≡ false
  -- with three of the line looked at a report may tell of 22 places in use, and not of 23; without a line of none
  pub places_most : PlacesInUse (Some line) 3 22
  pub places_too_many : PlacesInUse (Some line) 3 23 → ⊥
  pub places_without_line : PlacesInUse None 3 1 → ⊥
  -- the list of the page, that of a page without lines, and the row of a line that is no date
  pub page_listed : date_list page ≡ codes "line reading total looked outcome\n0 20022023 5 3 found\n"
  pub refused_listed : date_list (0x00 ∷ []) ≡ codes "refused 2 at 0\n"
  pub no_date_listed : row 7 two_cells ≡ codes "7 - - 4 exhausted\n"
