-- What reading and writing come to, in the words of the page file. Assumes nothing.
use Rattle.std.specs.Prelude.{◌≡◌, ℕ, ◌+◌, ◌-◌, ◌*◌, ◌<◌, ◌≤◌, Bool, true, ◌⊎◌, ◌↔◌, List, [], ◌∷◌, ◌++◌, length, take, drop, Ok, Err, Result, ◌≢◌, Any, slice_index}
use Rattle.std.specs.List.{flat_map}
use Rattle.pages.specs.declared.lines.Alternative.{Alternative}
use Rattle.pages.specs.declared.faults.AlternativeFault.{AlternativeFault}
use Rattle.pages.specs.declared.faults.AlternativeFault.TheVariants as alternative
use Rattle.pages.specs.declared.faults.CountFault.{CountFault}
use Rattle.pages.specs.declared.faults.CountFault.TheVariants as count
use Rattle.pages.specs.declared.faults.CellFault.{CellFault}
use Rattle.pages.specs.declared.faults.CellFault.TheVariants as cell
use Rattle.pages.specs.declared.faults.LineFault.{LineFault}
use Rattle.pages.specs.declared.faults.LineFault.TheVariants as line
use Rattle.pages.specs.declared.faults.PageFault.{PageFault}
use Rattle.pages.specs.declared.faults.PageFault.TheVariants as page
use Rattle.placefault.specs.declared.PlaceFault.{PlaceFault}
use Rattle.pages.specs.Shape.{Alternatives, Cells, Lines, every, well_formed_alternatives, well_formed_cell, well_formed_line, well_formed_page}
use Rattle.pages.specs.Faults.{count_returns, page_returns}
use Rattle.pages.specs.Reading.{read_page}
use Rattle.pages.specs.Writing.{alternative_bytes, cell_bytes, line_bytes, page_bytes}

-- some bytes stand at a place, and `next` is the place behind them
pub record Stands (bytes : List ℕ) (at : ℕ) (part : List ℕ) (next : ℕ) : Type 0 where
  pub here : drop at bytes ≡ part ++ drop next bytes
  pub size : next ≡ at + length part
  pub fits : next ≤ length bytes

-- the bytes are accepted, and read as these lines, exactly when they are the bytes of these lines, well-formed
abbrev pub Accepted : List ℕ → Type 0
Accepted bytes =
    (lines : Lines)
    → (read_page bytes ≡ Ok lines → (bytes ≡ page_bytes lines) × (well_formed_page lines ≡ true))
    × ((bytes ≡ page_bytes lines) × (well_formed_page lines ≡ true) → read_page bytes ≡ Ok lines)

-- what was written of a line is, behind a byte 1, a page of that line alone
abbrev pub ReadsBack : Result ℕ PlaceFault → Cells → List ℕ → Type 0
ReadsBack (Ok n) l place = read_page (1 ∷ take n place) ≡ Ok (l ∷ [])
ReadsBack (Err short) l place = Unit {0}

-- some well-formed page begins with the first `n` of these bytes
abbrev pub Begins : List ℕ → ℕ → Type 0
Begins bytes n = (lines : Lines) × (well_formed_page lines ≡ true) × (take n (page_bytes lines) ≡ take n bytes)

-- how many bytes from the page's start a fault was judged by: up to the one at its place, and of a penalty also the low
-- byte; of a missing byte one more than there are
abbrev pub alternative_judged : AlternativeFault → ℕ
alternative_judged (alternative.Short at) = at + 1
alternative_judged (alternative.Symbol at) = at + 1
alternative_judged (alternative.Twice at) = at + 1
alternative_judged (alternative.Order at) = at + 2

abbrev pub count_judged : CountFault → ℕ
count_judged f = (count_returns f).place + 1

abbrev pub cell_judged : CellFault → ℕ
cell_judged (cell.Count f) = count_judged f
cell_judged (cell.Alternative f) = alternative_judged f

abbrev pub line_judged : LineFault → ℕ
line_judged (line.Count f) = count_judged f
line_judged (line.Cell f) = cell_judged f.fault

abbrev pub page_judged : PageFault → ℕ
page_judged (page.Count f) = count_judged f
page_judged (page.Line f) = line_judged f.fault
page_judged (page.Excess at) = at + 1

-- a byte is wrong: it is there, no page that begins with the bytes judged is accepted (each is refused for the same
-- fault), and some well-formed page begins with all the bytes before it
pub record WrongByte (bytes : List ℕ) (f : PageFault) : Type 0 where
  pub there : page_judged f ≤ length bytes
  pub always : (other : List ℕ) → take (page_judged f) other ≡ take (page_judged f) bytes → read_page other ≡ Err f
  pub good_before : Begins bytes (page_returns f).place

-- whatever byte comes next, the penalty that it ends is below the one before
abbrev pub HalfPenaltyTooLow : List ℕ → Type 0
HalfPenaltyTooLow bytes =
    (next : ℕ) → next < 256
    → (f : PageFault) × (read_page (bytes ++ next ∷ []) ≡ Err f) × (page_returns f ≡ record { number = 5; place = length bytes - 1 })

-- a byte is missing: the place is the page's length. Either some well-formed page begins with all the bytes, or none
-- does, and then the last of them is the high byte of a penalty that no low byte makes high enough
pub record MissingByte (bytes : List ℕ) (f : PageFault) : Type 0 where
  pub at_end : (page_returns f).place ≡ length bytes
  pub good_before : Begins bytes (length bytes - 1)
  pub last_byte :
      (Begins bytes (length bytes) × (HalfPenaltyTooLow bytes → ⊥))
      ⊎ (HalfPenaltyTooLow bytes × (Begins bytes (length bytes) → ⊥))

-- the penalty whose high byte stands at a place
abbrev pub penalty_of : List ℕ → ℕ → ℕ
penalty_of bytes at = slice_index bytes at * 256 + slice_index bytes (at + 1)

-- a count is due at a place, and refused: the page ends there, or the byte there is 0 or above
-- the most
abbrev pub CountRefused : ℕ → List ℕ → ℕ → CountFault → Type 0
CountRefused most bytes at (count.Short place) = (place ≡ at) × (at ≡ length bytes)
CountRefused most bytes at (count.Count place) =
    (place ≡ at) × (at < length bytes)
    × ((slice_index bytes at ≡ 0) ⊎ (most < slice_index bytes at))

-- at a place stands a symbol in its range
abbrev pub SymbolAt : List ℕ → ℕ → Type 0
SymbolAt bytes at =
    (at < length bytes) × (33 ≤ slice_index bytes at) × (slice_index bytes at ≤ 126)

-- one of the alternatives has the symbol
abbrev pub HasSymbol : Alternatives → ℕ → Type 0
HasSymbol alternatives symbol = Any (λ a. a.symbol ≡ symbol) alternatives

-- at a place stands a symbol in its range, which none of the alternatives before it has
abbrev pub NewSymbolAt : List ℕ → ℕ → Alternatives → Type 0
NewSymbolAt bytes at before = SymbolAt bytes at × ¬ HasSymbol before (slice_index bytes at)

-- a penalty is below that of the last of the alternatives
abbrev pub BelowLast : ℕ → Alternatives → Type 0
BelowLast penalty alternatives =
    (others : Alternatives) × (last : Alternative)
    × (alternatives ≡ others ++ last ∷ []) × (penalty < last.penalty)

-- an alternative is due at a place, and refused, where `before` stands before it in its own cell
abbrev pub AlternativeRefused : List ℕ → ℕ → Alternatives → AlternativeFault → Type 0
-- the page ends at the symbol, or, behind a new symbol, within its penalty
AlternativeRefused bytes at before (alternative.Short place) =
    (place ≡ length bytes)
    × ((place ≡ at) ⊎ (NewSymbolAt bytes at before × (place ≤ at + 2)))
-- the symbol is out of its range
AlternativeRefused bytes at before (alternative.Symbol place) =
    (place ≡ at) × (at < length bytes)
    × ((slice_index bytes at < 33) ⊎ (126 < slice_index bytes at))
-- the symbol is in its range, and stands already before it in the cell
AlternativeRefused bytes at before (alternative.Twice place) =
    (place ≡ at) × SymbolAt bytes at × HasSymbol before (slice_index bytes at)
-- the symbol is new, and its penalty below that of the alternative just before it in the cell
AlternativeRefused bytes at before (alternative.Order place) =
    (place ≡ at + 1) × (at + 2 < length bytes)
    × NewSymbolAt bytes at before × BelowLast (penalty_of bytes place) before

-- at a place stands a count, not above the most; behind it stand whole parts, fewer than it counts,
-- and the next part is due at `next`
pub record PartsBefore {X : Type 0} (most : ℕ) (well_formed : List X → Bool)
    (bytes_of : X → List ℕ) (bytes : List ℕ) (at : ℕ) (parts : List X) (next : ℕ) : Type 0 where
  pub count : slice_index bytes at ≤ most
  pub fewer : length parts < slice_index bytes at
  pub well : well_formed parts ≡ true
  pub stand : Stands bytes (at + 1) (flat_map bytes_of parts) next

-- of the cell at a place the count of alternatives is refused, or an alternative, behind those that
-- stand before it in the cell
abbrev pub CellMet : List ℕ → ℕ → CellFault → Type 0
CellMet bytes at (cell.Count f) = CountRefused 8 bytes at f
CellMet bytes at (cell.Alternative f) =
    (before : Alternatives) × (next : ℕ)
    × PartsBefore 8 well_formed_alternatives alternative_bytes bytes at before next
    × AlternativeRefused bytes next before f

-- of the line at a place the count of cells is refused, or the cell named, behind whole ones
abbrev pub LineMet : List ℕ → ℕ → LineFault → Type 0
LineMet bytes at (line.Count f) = CountRefused 24 bytes at f
LineMet bytes at (line.Cell c) =
    (cells : Cells) × (next : ℕ) × (length cells ≡ c.number)
    × PartsBefore 24 (every well_formed_cell) cell_bytes bytes at cells next
    × CellMet bytes next c.fault

-- the count of lines is refused, or the line named, behind whole ones; or a byte stands behind a
-- whole page
abbrev pub Met : List ℕ → PageFault → Type 0
Met bytes (page.Count f) = CountRefused 40 bytes 0 f
Met bytes (page.Line l) =
    (lines : Lines) × (next : ℕ) × (length lines ≡ l.number)
    × PartsBefore 40 (every well_formed_line) line_bytes bytes 0 lines next
    × LineMet bytes next l.fault
Met bytes (page.Excess at) =
    (lines : Lines) × (well_formed_page lines ≡ true)
    × Stands bytes 0 (page_bytes lines) at × (at < length bytes)

-- the bytes are refused for a fault exactly when it is met
abbrev pub Refused : List ℕ → Type 0
Refused bytes = (f : PageFault) → (read_page bytes ≡ Err f) ↔ Met bytes f

-- a refusal names the first thing wrong
pub record FirstWrong (bytes : List ℕ) (f : PageFault) : Type 0 where
  pub met : Met bytes f
  pub missing : (page_returns f).number ≡ 1 → MissingByte bytes f
  pub wrong : ((page_returns f).number ≢ 1) → WrongByte bytes f
