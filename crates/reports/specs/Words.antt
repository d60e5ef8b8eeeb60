-- What is said of a fault, in words. Assumes nothing.
use Rattle.std.specs.Prelude.{ℕ, ◌+◌, ◌-◌, ◌/◌, ◌%◌, cond, List, [], ◌∷◌, ◌++◌, length, codes, decimal, nat_lt, slice_index}
use Rattle.pages.specs.Laws.{penalty_of}
use Rattle.pages.specs.declared.faults.CountFault.{CountFault}
use Rattle.pages.specs.declared.faults.CountFault.TheVariants as count
use Rattle.pages.specs.declared.faults.AlternativeFault.{AlternativeFault}
use Rattle.pages.specs.declared.faults.AlternativeFault.TheVariants as alternative
use Rattle.pages.specs.declared.faults.CellFault.{CellFault}
use Rattle.pages.specs.declared.faults.CellFault.TheVariants as cell
use Rattle.pages.specs.declared.faults.LineFault.{LineFault}
use Rattle.pages.specs.declared.faults.LineFault.TheVariants as line
use Rattle.pages.specs.declared.faults.PageFault.{PageFault}
use Rattle.pages.specs.declared.faults.PageFault.TheVariants as page

-- a digit of a hexadecimal numeral: 0 to 9, a to f
abbrev pub hex_digit : ℕ → ℕ
hex_digit n = cond (nat_lt n 10) (48 + n) (87 + n)

abbrev pub hex : ℕ → List ℕ
hex byte = hex_digit (byte / 16) ∷ hex_digit (byte % 16) ∷ []

-- a byte of the page; 0 where the page has none
abbrev pub byte_at : List ℕ → ℕ → ℕ
byte_at bytes at = slice_index bytes at

-- why a count of what is named is refused
abbrev pub count_words : List ℕ → List ℕ → ℕ → CountFault → List ℕ
count_words bytes what most (count.Short at) = codes "the page ends where the count of " ++ (what ++ codes " is due")
count_words bytes what most (count.Count at) =
    codes "the count of " ++ (what ++ (codes " is " ++ (decimal (byte_at bytes at) ++ (codes ", not 1 to " ++ decimal most))))

-- the penalty before stands three bytes before
abbrev pub alternative_words : List ℕ → AlternativeFault → List ℕ
alternative_words bytes (alternative.Short at) = codes "the page ends where a symbol or a penalty is due"
alternative_words bytes (alternative.Symbol at) =
    codes "symbol 0x" ++ (hex (byte_at bytes at) ++ cond (nat_lt (byte_at bytes at) 33) (codes " is below 33") (codes " is above 126"))
alternative_words bytes (alternative.Twice at) = codes "symbol 0x" ++ (hex (byte_at bytes at) ++ codes " comes twice")
alternative_words bytes (alternative.Order at) =
    codes "penalty " ++ (decimal (penalty_of bytes at) ++ (codes " is below the one before, " ++ decimal (penalty_of bytes (at - 3))))

abbrev pub cell_words : List ℕ → CellFault → List ℕ
cell_words bytes (cell.Count f) = count_words bytes (codes "alternatives") 8 f
cell_words bytes (cell.Alternative f) = alternative_words bytes f

-- with the number of the line, and of the cell where the fault lies in one
abbrev pub line_words : List ℕ → ℕ → LineFault → List ℕ
line_words bytes number (line.Count f) = codes "line " ++ (decimal number ++ (codes ": " ++ count_words bytes (codes "cells") 24 f))
line_words bytes number (line.Cell c) =
    codes "line " ++ (decimal number ++ (codes ", cell " ++ (decimal c.number ++ (codes ": " ++ cell_words bytes c.fault))))

abbrev pub page_words : List ℕ → PageFault → List ℕ
page_words bytes (page.Count f) = count_words bytes (codes "lines") 40 f
page_words bytes (page.Line l) = line_words bytes l.number l.fault
page_words bytes (page.Excess at) = codes "bytes behind the last line: " ++ decimal (length bytes - at)
