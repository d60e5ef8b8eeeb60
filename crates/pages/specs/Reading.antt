-- What the bytes of a page say, read front to back. Assumes nothing.
use Rattle.std.specs.Prelude.{ℕ, zero, suc, ◌+◌, ◌*◌, cond, ◌||◌, List, [], ◌∷◌, ◌++◌, length, Ok, Err, Option, Result, nat_le, nat_lt, slice_index}
use Rattle.std.specs.List.{slice_get}
use Rattle.pages.specs.declared.lines.Alternative.{Alternative}
use Rattle.pages.specs.declared.faults.AlternativeFault.{AlternativeFault}
use Rattle.pages.specs.declared.faults.AlternativeFault.TheVariants as alternative
use Rattle.pages.specs.declared.faults.CountFault.{CountFault}
use Rattle.pages.specs.declared.faults.CountFault.TheVariants as count
use Rattle.pages.specs.declared.faults.CellFault.{CellFault}
use Rattle.pages.specs.declared.faults.CellFault.TheVariants as cell
use Rattle.pages.specs.declared.faults.LineFault.{LineFault}
use Rattle.pages.specs.declared.faults.LineFault.TheVariants as line
use Rattle.pages.specs.declared.faults.PageFault.{PageFault}
use Rattle.pages.specs.declared.faults.PageFault.TheVariants as page
use Rattle.pages.specs.Shape.{Alternatives, Cells, Lines, seen}

-- goes on with the value; a fault ends the reading, put by `up` into the fault above
abbrev pub onward : {A B E F : Type 0} → Result A E → (E → F) → (A → Result B F) → Result B F
onward (Ok x) up next = next x
onward (Err e) up next = Err (up e)

-- the count at a place: at least 1, and not above the most
abbrev pub read_count : ℕ → List ℕ → ℕ → Result ℕ CountFault
read_count most bytes at =
    cond (nat_le (length bytes) at) (Err (count.Short (length bytes)))
    (cond (nat_lt (slice_index bytes at) 1 || nat_lt most (slice_index bytes at)) (Err (count.Count at))
    (Ok (slice_index bytes at)))

-- the penalty of the last alternative; 0 where there is none
abbrev pub last_penalty : Alternatives → ℕ
last_penalty [] = 0
last_penalty (a ∷ []) = a.penalty
last_penalty (a ∷ b ∷ more) = last_penalty (b ∷ more)

-- the byte at a place
abbrev pub symbol_at : List ℕ → ℕ → ℕ
symbol_at bytes at = slice_index bytes at

-- behind the symbol at a place, high byte first
abbrev pub penalty_at : List ℕ → ℕ → ℕ
penalty_at bytes at = slice_index bytes (at + 1) * 256 + slice_index bytes (at + 2)

-- the alternative whose three bytes begin at a place, where its cell has those before it: the symbol's range and
-- then its repetition are judged before the penalty is read, and the penalty's order after
abbrev pub read_alternative : List ℕ → ℕ → Alternatives → Result Alternative AlternativeFault
read_alternative bytes at before =
    cond (nat_le (length bytes) at) (Err (alternative.Short (length bytes)))
    (cond (nat_lt (symbol_at bytes at) 33 || nat_lt 126 (symbol_at bytes at)) (Err (alternative.Symbol at))
    (cond (seen (symbol_at bytes at) before) (Err (alternative.Twice at))
    (cond (nat_le (length bytes) (at + 2)) (Err (alternative.Short (length bytes)))
    (cond (nat_lt (penalty_at bytes at) (last_penalty before)) (Err (alternative.Order (at + 1)))
    (Ok (record { symbol = symbol_at bytes at; penalty = penalty_at bytes at }))))))

-- the alternatives still due from a place, behind those that the cell has: all of them, with the place after the last
unfoldable pub read_alternatives : List ℕ → ℕ → ℕ → Alternatives → Result (Alternatives × ℕ) CellFault
read_alternatives bytes zero at before = Ok (before, at)
read_alternatives bytes (suc due) at before =
    onward (read_alternative bytes at before) cell.Alternative (λ a. read_alternatives bytes due (at + 3) (before ++ a ∷ []))

-- the cell at a place, with the place behind it
unfoldable pub read_cell : List ℕ → ℕ → Result (Alternatives × ℕ) CellFault
read_cell bytes at = onward (read_count 8 bytes at) cell.Count (λ due. read_alternatives bytes due (at + 1) [])

-- the cells still due from a place, behind those that the line has
unfoldable pub read_cells : List ℕ → ℕ → ℕ → Cells → Result (Cells × ℕ) LineFault
read_cells bytes zero at before = Ok (before, at)
read_cells bytes (suc due) at before =
    onward (read_cell bytes at) (λ f. line.Cell (record { number = length before; fault = f }))
    (λ c. read_cells bytes due c.1 (before ++ c.0 ∷ []))

-- the line at a place, with the place behind it
unfoldable pub read_line : List ℕ → ℕ → Result (Cells × ℕ) LineFault
read_line bytes at = onward (read_count 24 bytes at) line.Count (λ due. read_cells bytes due (at + 1) [])

-- a line before the lines behind it
abbrev pub before_lines : Cells → Result Lines PageFault → Result Lines PageFault
before_lines l (Ok more) = Ok (l ∷ more)
before_lines l (Err f) = Err f

-- behind the last line the page ends
abbrev pub page_end : List ℕ → ℕ → Result Lines PageFault
page_end bytes at = cond (nat_lt at (length bytes)) (Err (page.Excess at)) (Ok [])

-- the lines still due from a place, numbered from a number on, and the page's end
unfoldable pub read_lines : List ℕ → ℕ → ℕ → ℕ → Result Lines PageFault
read_lines bytes zero at number = page_end bytes at
read_lines bytes (suc due) at number =
    onward (read_line bytes at) (λ f. page.Line (record { number = number; fault = f }))
    (λ l. before_lines l.0 (read_lines bytes due l.1 (number + 1)))

-- how many lines the page says that it has
abbrev pub lines_due : List ℕ → Result ℕ PageFault
lines_due bytes = onward (read_count 40 bytes 0) page.Count Ok

-- the lines of a page, and nothing behind them
unfoldable pub read_page : List ℕ → Result Lines PageFault
read_page bytes = onward (read_count 40 bytes 0) page.Count (λ due. read_lines bytes due 1 0)

-- of a page that is good, the line of a number, where there is one
abbrev pub line_numbered : ℕ → Result Lines PageFault → Result (Option Cells) PageFault
line_numbered wanted (Ok lines) = Ok (slice_get lines wanted)
line_numbered wanted (Err f) = Err f
