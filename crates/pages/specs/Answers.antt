-- What the readers answer. Assumes nothing.
use Rattle.std.specs.Prelude.{◌≡◌, ℕ, zero, suc, ◌+◌, ◌-◌, ◌<◌, cond, List, [], ◌∷◌, length, Some, None, Ok, Err, Option, Result, nat_lt}
use Rattle.std.specs.Option.{option_map}
use Rattle.pages.specs.declared.lines.Line.{Line}
use Rattle.pages.specs.declared.faults.LineFault.{LineFault}
use Rattle.pages.specs.declared.faults.PageFault.{PageFault}
use Rattle.pages.specs.declared.faults.PageFault.TheVariants as page
use Rattle.pages.specs.declared.page_reader.PageLines.{PageLines}
use Rattle.pages.specs.Shape.{Cells, Lines, cells_in}
use Rattle.pages.specs.Writing.{line_bytes}
use Rattle.pages.specs.Laws.{Stands}
use Rattle.pages.specs.Reading.{onward, lines_due, read_line, read_lines, read_page, before_lines}

-- the cells of a line, and the alternatives of each
abbrev pub line_of : Line → Cells
line_of l = cells_in l.cells

-- a line read is what its bytes say, and so is a fault
abbrev pub LineRead : Result (Line × ℕ) LineFault → List ℕ → ℕ → Type 0
LineRead (Ok got) bytes at = read_line bytes at ≡ Ok (line_of got.0, got.1)
LineRead (Err fault) bytes at = read_line bytes at ≡ Err fault

-- the lines that are still to come
abbrev pub ahead : PageLines → Result Lines PageFault
ahead p = read_lines p.bytes.now (p.count - p.number) p.place p.number

-- an opened page stands before its first line: all its lines are still to come
pub record BeforeFirst (bytes : List ℕ) (p : PageLines) : Type 0 where
  pub page : p.bytes.now ≡ bytes
  pub lines : lines_due bytes ≡ Ok p.count
  pub none : p.number ≡ 0
  pub first : p.place ≡ 1
  pub whole : read_page bytes ≡ ahead p

-- a page is opened where its count of lines is good
abbrev pub Opened : Result PageLines PageFault → List ℕ → Type 0
Opened (Ok p) bytes = BeforeFirst bytes p
Opened (Err fault) bytes = (lines_due bytes ≡ Err fault) × (read_page bytes ≡ Err fault)

-- what is met next: a line with the place behind it, the page's end, or a fault
abbrev pub next_of : PageLines → Result (Option (Cells × ℕ)) PageFault
next_of p =
    cond (nat_lt p.number p.count)
    (onward (read_line p.bytes.now p.place) (λ f. page.Line (record { number = p.number; fault = f })) (λ l. Ok (Some l)))
    (cond (nat_lt p.place (length p.bytes.now)) (Err (page.Excess p.place)) (Ok None))

-- a line was met, its bytes stand there, and the next place is the one behind them
pub record Passed (line : Line) (was is : PageLines) : Type 0 where
  pub due : was.number < was.count
  pub met : next_of was ≡ Ok (Some (line_of line, is.place))
  pub page : is.bytes.now ≡ was.bytes.now
  pub lines : is.count ≡ was.count
  pub one : is.number ≡ was.number + 1
  pub stands : Stands was.bytes.now was.place (line_bytes (line_of line)) is.place

abbrev pub NextLine : Result (Option Line) PageFault → PageLines → PageLines → Type 0
NextLine (Ok (Some line)) was is = Passed line was is
NextLine (Ok None) was is = (next_of was ≡ Ok None) × (is ≡ was)
NextLine (Err fault) was is = (next_of was ≡ Err fault) × (is ≡ was)

-- a line met is the first of those that were to come; a fault met is what they come to
abbrev pub Ahead : Result (Option Line) PageFault → PageLines → PageLines → Type 0
Ahead (Ok (Some line)) was is = ahead was ≡ before_lines (line_of line) (ahead is)
Ahead (Ok None) was is = ahead was ≡ Ok []
Ahead (Err fault) was is = ahead was ≡ Err fault

-- a line in turn, or the fault that ends the page
abbrev pub answer_of : Result Line PageFault → Result Cells PageFault
answer_of (Ok line) = Ok (line_of line)
answer_of (Err fault) = Err fault

-- a line before the answers behind it; a fault is the last
abbrev pub answers_on : Result (Cells × ℕ) LineFault → ℕ → (Cells × ℕ → List (Result Cells PageFault)) → List (Result Cells PageFault)
answers_on (Ok l) number behind = Ok l.0 ∷ behind l
answers_on (Err f) number behind = Err (page.Line (record { number = number; fault = f })) ∷ []

-- the lines still due from a place, numbered from a number on, one after another up to the first fault
unfoldable pub answers_due : List ℕ → ℕ → ℕ → ℕ → List (Result Cells PageFault)
answers_due bytes zero at number = cond (nat_lt at (length bytes)) (Err (page.Excess at) ∷ []) []
answers_due bytes (suc due) at number = answers_on (read_line bytes at) number (λ l. answers_due bytes due l.1 (number + 1))

-- the answers of a page that is read on from where it stands, and none where it is not
abbrev pub answers_left : Option PageLines → List (Result Cells PageFault)
answers_left None = []
answers_left (Some p) = answers_due p.bytes.now (p.count - p.number) p.place p.number

-- what some answers come to: all the lines, or the first fault
abbrev pub gathered : List (Result Cells PageFault) → Result Lines PageFault
gathered [] = Ok []
gathered (Ok l ∷ more) = before_lines l (gathered more)
gathered (Err f ∷ more) = Err f

-- the answers of a page that is gone through come to what all its lines to come are read as
pub record GoesThrough (p : PageLines) (left : Option PageLines) : Type 0 where
  pub from : left ≡ Some p
  pub whole : gathered (answers_left left) ≡ ahead p

-- the line found, where one is, as the cells that it stands for
abbrev pub found_line : Result (Option Line) PageFault → Result (Option Cells) PageFault
found_line (Ok found) = Ok (option_map line_of found)
found_line (Err fault) = Err fault
