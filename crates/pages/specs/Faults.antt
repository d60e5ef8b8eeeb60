-- What each fault returns, in which line and cell it was met, and both together. Assumes nothing.
use Rattle.std.specs.Prelude.{ℕ, Some, None, Option}
use Rattle.pages.specs.declared.faults.CountFault.{CountFault}
use Rattle.pages.specs.declared.faults.CountFault.TheVariants as count
use Rattle.pages.specs.declared.faults.AlternativeFault.{AlternativeFault}
use Rattle.pages.specs.declared.faults.AlternativeFault.TheVariants as alternative
use Rattle.pages.specs.declared.faults.CellFault.{CellFault}
use Rattle.pages.specs.declared.faults.CellFault.TheVariants as cell
use Rattle.pages.specs.declared.faults.LineFault.{LineFault}
use Rattle.pages.specs.declared.faults.LineFault.TheVariants as line
use Rattle.pages.specs.declared.faults.PageFault.{PageFault}
use Rattle.pages.specs.declared.faults.PageFault.TheVariants as page
use Rattle.pages.specs.declared.faults.Returned.{Returned}
use Rattle.pages.specs.declared.faults.Details.{Details}

-- the number and the byte place of every fault: 1 Short, 2 Count, 3 Symbol, 4 Twice, 5 Order, 6 Excess
abbrev pub count_returns : CountFault → Returned
count_returns (count.Short at) = record { number = 1; place = at }
count_returns (count.Count at) = record { number = 2; place = at }

abbrev pub alternative_returns : AlternativeFault → Returned
alternative_returns (alternative.Short at) = record { number = 1; place = at }
alternative_returns (alternative.Symbol at) = record { number = 3; place = at }
alternative_returns (alternative.Twice at) = record { number = 4; place = at }
alternative_returns (alternative.Order at) = record { number = 5; place = at }

abbrev pub cell_returns : CellFault → Returned
cell_returns (cell.Count f) = count_returns f
cell_returns (cell.Alternative f) = alternative_returns f

abbrev pub line_returns : LineFault → Returned
line_returns (line.Count f) = count_returns f
line_returns (line.Cell f) = cell_returns f.fault

abbrev pub page_returns : PageFault → Returned
page_returns (page.Count f) = count_returns f
page_returns (page.Line f) = line_returns f.fault
page_returns (page.Excess at) = record { number = 6; place = at }

-- the cell and the line that a fault was met in
abbrev pub line_cell : LineFault → Option ℕ
line_cell (line.Count f) = None
line_cell (line.Cell f) = Some f.number

abbrev pub page_line : PageFault → Option ℕ
page_line (page.Count f) = None
page_line (page.Line f) = Some f.number
page_line (page.Excess at) = None

abbrev pub page_cell : PageFault → Option ℕ
page_cell (page.Count f) = None
page_cell (page.Line f) = line_cell f.fault
page_cell (page.Excess at) = None

-- a refusal that has its number alone
abbrev pub number_alone : ℕ → Details
number_alone n = record { number = n; place = None; line = None; cell = None }

-- a bad page has the byte place of its fault, and the line and the cell that it was met in
abbrev pub page_details : PageFault → Details
page_details f = record (number_alone (page_returns f).number) {
  place = Some (page_returns f).place;
  line = page_line f;
  cell = page_cell f;
}
