-- No list takes more than 2,048 bytes. Assumes nothing.
use Rattle.std.proofs.Common.{◌≡◌, ℕ, ◌^◌, ◌<◌, ◌≤◌, ◌++◌, List, length, Ok, Err, Result, ⊎_elim, refl, ap, arith, length-append}
use Rattle.std.proofs.lemmas.Bool.{cases_eq}
use Rattle.std.proofs.lemmas.List.{take_all}
use Rattle.pages.specs.declared.faults.CountFault.{CountFault}
use Rattle.pages.specs.declared.faults.CountFault.TheVariants as count
use Rattle.pages.specs.declared.faults.AlternativeFault.{AlternativeFault}
use Rattle.pages.specs.declared.faults.AlternativeFault.TheVariants as alternative
use Rattle.pages.specs.declared.faults.CellFault.{CellFault}
use Rattle.pages.specs.declared.faults.CellFault.TheVariants as cell
use Rattle.pages.specs.declared.faults.LineFault.{LineFault}
use Rattle.pages.specs.declared.faults.LineFault.TheVariants as line
use Rattle.pages.specs.declared.faults.PageFault.{PageFault}
use Rattle.pages.specs.declared.faults.PageFault.TheVariants as page
use Rattle.pages.specs.Shape.{Lines}
use Rattle.pages.specs.Faults.{alternative_returns, cell_returns, line_returns, page_returns}
use Rattle.pages.specs.Reading.{read_page}
use Rattle.pages.specs.Laws.{alternative_judged, cell_judged, line_judged, page_judged}
use Rattle.pages.proofs.Shape.{page_parts}
use Rattle.pages.proofs.Round.{Octets, accepted_exactly}
use Rattle.pages.proofs.Earlier.{first_wrong}
use Rattle.lists.specs.Lists.{header, rows, list_of, date_list}
use Rattle.lists.proofs.Words.{decimal_short, three_digits}
use Rattle.lists.proofs.Printed.{list_short}

-- a fault's number is small, and its place is one of the bytes that it was judged by

pub record Fair (f : PageFault) : Type 0 where
  pub number : (page_returns f).number ≤ 6
  pub place : (page_returns f).place < page_judged f

fair_count : (f : CountFault) → Fair (page.Count f)
fair_count (count.Short at) = record { number = omega arith; place = omega arith }
fair_count (count.Count at) = record { number = omega arith; place = omega arith }

fair_alternative : (a : AlternativeFault) → ((alternative_returns a).number ≤ 6) × ((alternative_returns a).place < alternative_judged a)
fair_alternative (alternative.Short at) = (omega arith, omega arith)
fair_alternative (alternative.Symbol at) = (omega arith, omega arith)
fair_alternative (alternative.Twice at) = (omega arith, omega arith)
fair_alternative (alternative.Order at) = (omega arith, omega arith)

fair_cell : (f : CellFault) → ((cell_returns f).number ≤ 6) × ((cell_returns f).place < cell_judged f)
fair_cell (cell.Count f) = let x = fair_count f in (x.number, x.place)
fair_cell (cell.Alternative a) = fair_alternative a

fair_line : (f : LineFault) → ((line_returns f).number ≤ 6) × ((line_returns f).place < line_judged f)
fair_line (line.Count f) = let x = fair_count f in (x.number, x.place)
fair_line (line.Cell f) = fair_cell f.fault

fair : (f : PageFault) → Fair f
fair (page.Count f) = fair_count f
fair (page.Line f) = let x = fair_line f.fault in record { number = x.0; place = x.1 }
fair (page.Excess at) = record { number = omega arith; place = omega arith }

-- it is no place behind the page
within : (bytes : List ℕ) → Octets bytes → (f : PageFault) → read_page bytes ≡ Err f → (page_returns f).place ≤ length bytes
within bytes all f e =
    let first = first_wrong bytes f all e in
    ⊎_elim (λ one. let end = (first.missing one).at_end in omega arith)
    (λ other. let there = (first.wrong other).there in let judged = (fair f).place in omega arith) (cases_eq (page_returns f).number 1)

pub always_short : (bytes : List ℕ) → Octets bytes → length bytes < 2 ^ 64 → length (date_list bytes) ≤ 2048
always_short bytes all small = go (read_page bytes) refl
  where
    go : (r : Result Lines PageFault) → read_page bytes ≡ r → length (list_of r) ≤ 2048
    go (Ok lines) e =
        let whole = page_parts lines ((accepted_exactly bytes all lines).0 e).1 in
        let short = list_short lines (length lines) whole in
        let same = take_all (length lines) lines (omega arith) in
        omega (arith, whole.few, ap (λ ls. length (header ++ rows 0 ls)) same)
    go (Err f) e =
        let number = three_digits (page_returns f).number (omega (arith, (fair f).number)) in
        let place = decimal_short (page_returns f).place (omega (arith, within bytes all f e)) in
        simp length-append (omega arith)
