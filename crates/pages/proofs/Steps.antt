-- What the readings of specs/Reading.antt come to within a line, one step at a time. Assumes nothing.
use Rattle.std.proofs.Common.{◌≡◌, ℕ, suc, ◌+◌, ◌-◌, ◌<◌, ◌≤◌, List, [], ◌∷◌, ◌++◌, length, get_or, Ok, Err, Result, sym, refl, ap, ◌∙◌, subst, arith}
use Rattle.std.proofs.lemmas.List.{length_push}
use Rattle.std.proofs.lemmas.Bool.Decides.{nat_tests}
use Rattle.pages.specs.declared.lines.Alternative.{Alternative}
use Rattle.pages.specs.declared.faults.AlternativeFault.{AlternativeFault}
use Rattle.pages.specs.declared.faults.CountFault.{CountFault}
use Rattle.pages.specs.declared.faults.CellFault.{CellFault}
use Rattle.pages.specs.declared.faults.CellFault.TheVariants as cell
use Rattle.pages.specs.declared.faults.LineFault.{LineFault}
use Rattle.pages.specs.declared.faults.LineFault.TheVariants as line
use Rattle.pages.specs.Shape.{Alternatives, Cells}
use Rattle.pages.specs.Reading.{last_penalty, onward, read_count, read_alternative, read_alternatives, read_cell, read_cells, read_line}

-- what a count that is read says
pub record Counts (most : ℕ) (bytes : List ℕ) (at n : ℕ) : Type 0 where
  pub room : at < length bytes
  pub is : get_or bytes at 0 ≡ n
  pub low : 1 ≤ n
  pub high : n ≤ most

pub counts : (most : ℕ) (bytes : List ℕ) (at n : ℕ) → read_count most bytes at ≡ Ok n → Counts most bytes at n
counts most bytes at n e = record { room = grind (arith, nat_tests); is = grind (arith, nat_tests); low = grind (arith, nat_tests); high = grind (arith, nat_tests) }

pub last_is : (xs : Alternatives) (d : Alternative) → 0 < length xs → (get_or xs (length xs - 1) d).penalty ≡ last_penalty xs
last_is [] d h = absurd (omega arith)
last_is (a ∷ []) d h = refl
last_is (a ∷ b ∷ more) d h =
    let back : suc (suc (length more)) - 1 ≡ suc (suc (length more) - 1) = omega arith in
    ap (λ n. (get_or (a ∷ b ∷ more) n d).penalty) back ∙ last_is (b ∷ more) d (omega arith)

-- how the reading of a line goes on behind a cell, with cells still due
abbrev pub after_cell : List ℕ → ℕ → Cells → Result (Alternatives × ℕ) CellFault → Result (Cells × ℕ) LineFault
after_cell bytes due before r =
    onward r (λ f. line.Cell (record { number = length before; fault = f }))
    (λ c. read_cells bytes due c.1 (before ++ c.0 ∷ []))

-- between two cells: the cells still due give what the line's reading gives
pub record Between (bytes : List ℕ) (at count number place : ℕ) (cells : Cells) : Type 0 where
  pub whole : read_line bytes at ≡ read_cells bytes (count - number) place cells
  pub long : length cells ≡ number

-- within a cell: so do the alternatives still due, with the cells behind
pub record Within (bytes : List ℕ) (at due place : ℕ) (alternatives : Alternatives) (behind number : ℕ) (cells : Cells) : Type 0 where
  pub whole : read_line bytes at ≡ after_cell bytes behind cells (read_alternatives bytes due place alternatives)
  pub long : length cells ≡ number

-- one more is due
pub one_due : (m n : ℕ) → n < m → m - n ≡ suc (m - (n + 1))
one_due m n h = omega arith

pub none_due : (m n : ℕ) → m ≤ n → m - n ≡ 0
none_due m n h = omega arith

-- the same of an equal list
pub between_at : {bytes : List ℕ} {at count number place : ℕ} {cells same : Cells}
    → same ≡ cells → Between bytes at count number place cells → Between bytes at count number place same
between_at {bytes} {at} {count} {number} {place} {cells} {same} e h = subst (λ l. Between bytes at count number place l) (sym e) h

pub within_at : {bytes : List ℕ} {at due place behind number : ℕ} {alternatives same : Alternatives} {cells : Cells}
    → same ≡ alternatives → Within bytes at due place alternatives behind number cells → Within bytes at due place same behind number cells
within_at {bytes} {at} {due} {place} {behind} {number} {alternatives} {same} {cells} e h =
    subst (λ l. Within bytes at due place l behind number cells) (sym e) h

-- the count of a line opens its first cell
pub opened : (bytes : List ℕ) (at count : ℕ) → read_count 24 bytes at ≡ Ok count → Between bytes at count 0 (at + 1) []
unfolding read_line
opened bytes at count e =
    record {
      whole = ap (λ r. onward r line.Count (λ due. read_cells bytes due (at + 1) [])) e ∙ ap (λ n. read_cells bytes n (at + 1) []) (omega arith);
      long = refl;
    }

-- or refuses it
pub no_line : (bytes : List ℕ) (at : ℕ) (f : CountFault) → read_count 24 bytes at ≡ Err f → read_line bytes at ≡ Err (line.Count f)
unfolding read_line
no_line bytes at f e = ap (λ r. onward r line.Count (λ due. read_cells bytes due (at + 1) [])) e

module _ {bytes : List ℕ} {at : ℕ} where
  module _ {count number place : ℕ} {cells : Cells} (h : Between bytes at count number place cells) where
    -- what is left begins with a cell
    begins : number < count → read_line bytes at ≡ after_cell bytes (count - (number + 1)) cells (read_cell bytes place)
    unfolding read_cells
    begins lt = h.whole ∙ ap (λ n. read_cells bytes n place cells) (one_due count number lt)

    -- the count of a cell opens it
    pub enter : (due : ℕ) → number < count → read_count 8 bytes place ≡ Ok due → Within bytes at (due - 0) (place + 1) [] (count - (number + 1)) number cells
    unfolding read_cell
    enter due lt e =
        record {
          whole =
              begins lt
              ∙ ap (λ r. after_cell bytes (count - (number + 1)) cells (onward r cell.Count (λ d. read_alternatives bytes d (place + 1) []))) e
              ∙ ap (λ n. after_cell bytes (count - (number + 1)) cells (read_alternatives bytes n (place + 1) [])) (omega arith);
          long = h.long;
        }

    -- or refuses it
    pub bad_count : (f : CountFault) → number < count → read_count 8 bytes place ≡ Err f → read_line bytes at ≡ Err (line.Cell (record { number = number; fault = cell.Count f }))
    unfolding read_cell
    bad_count f lt e =
        begins lt
        ∙ ap (λ r. after_cell bytes (count - (number + 1)) cells (onward r cell.Count (λ d. read_alternatives bytes d (place + 1) []))) e
        ∙ ap (λ n. Err (line.Cell (record { number = n; fault = cell.Count f }))) h.long

    -- no cell is left
    pub ended : count ≤ number → read_line bytes at ≡ Ok (cells, place)
    unfolding read_cells
    ended le = h.whole ∙ ap (λ n. read_cells bytes n place cells) (none_due count number le)

  module _ (due counter : ℕ) {place behind number : ℕ} {alternatives : Alternatives} {cells : Cells} (h : Within bytes at (due - counter) place alternatives behind number cells) where
    goes : (r : Result Alternative AlternativeFault) → counter < due → read_alternative bytes place alternatives ≡ r
        → read_line bytes at ≡ after_cell bytes behind cells (onward r cell.Alternative (λ a. read_alternatives bytes (due - (counter + 1)) (place + 3) (alternatives ++ a ∷ [])))
    unfolding read_alternatives
    goes r lt e =
        h.whole
        ∙ ap (λ n. after_cell bytes behind cells (read_alternatives bytes n place alternatives)) (one_due due counter lt)
        ∙ ap (λ x. after_cell bytes behind cells (onward x cell.Alternative (λ a. read_alternatives bytes (due - (counter + 1)) (place + 3) (alternatives ++ a ∷ [])))) e

    -- one alternative more
    pub more : (a : Alternative) → counter < due → read_alternative bytes place alternatives ≡ Ok a
        → Within bytes at (due - (counter + 1)) (place + 3) (alternatives ++ a ∷ []) behind number cells
    more a lt e = record { whole = goes (Ok a) lt e; long = h.long }

    -- a bad alternative ends the line
    pub bad_alternative : (f : AlternativeFault) → counter < due → read_alternative bytes place alternatives ≡ Err f
        → read_line bytes at ≡ Err (line.Cell (record { number = number; fault = cell.Alternative f }))
    bad_alternative f lt e = goes (Err f) lt e ∙ ap (λ n. Err (line.Cell (record { number = n; fault = cell.Alternative f }))) h.long

    -- the cell is whole
    pub leave : (count : ℕ) → behind ≡ count - (number + 1) → due ≤ counter → Between bytes at count (number + 1) place (cells ++ alternatives ∷ [])
    unfolding read_alternatives
    leave count e le =
        record {
          whole =
              h.whole
              ∙ ap (λ n. after_cell bytes behind cells (read_alternatives bytes n place alternatives)) (none_due due counter le)
              ∙ ap (λ n. read_cells bytes n place (cells ++ alternatives ∷ [])) e;
          long = length_push cells alternatives ∙ ap (λ n. n + 1) h.long;
        }
