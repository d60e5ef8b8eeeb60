-- What stands before a refusal is whole, and the line and the cell named are those behind it. Assumes nothing.
use Rattle.std.proofs.Common.{◌≡◌, ℕ, zero, suc, ◌+◌, ◌-◌, ◌<◌, ◌≤◌, Bool, true, false, cond, ltb, List, [], ◌∷◌, ◌++◌, length, get_or, Ok, Err, Result, sym, refl, ap, ◌∙◌, subst, append_assoc, append-nil, add-zero, zero-add, arith}
use Rattle.std.specs.List.{flat_map, AllByRecursion}
use Rattle.std.proofs.lemmas.List.{length_push}
use Rattle.std.proofs.lemmas.Bool.{ltb-true, lt-ltb, cond-true}
use Rattle.pages.specs.declared.lines.Alternative.{Alternative}
use Rattle.pages.specs.declared.faults.CountFault.{CountFault}
use Rattle.pages.specs.declared.faults.AlternativeFault.{AlternativeFault}
use Rattle.pages.specs.declared.faults.CellFault.{CellFault}
use Rattle.pages.specs.declared.faults.CellFault.TheVariants as cell
use Rattle.pages.specs.declared.faults.LineFault.{LineFault}
use Rattle.pages.specs.declared.faults.LineFault.TheVariants as line
use Rattle.pages.specs.declared.faults.PageFault.{PageFault}
use Rattle.pages.specs.declared.faults.PageFault.TheVariants as page
use Rattle.pages.specs.Shape.{Alternatives, Cells, Lines, well_formed_cell, well_formed_line}
use Rattle.pages.specs.Reading.{onward, read_alternative, read_alternatives, read_count, read_cell, read_cells, read_line, read_lines, read_page, before_lines}
use Rattle.pages.specs.Writing.{alternative_bytes, cell_bytes, line_bytes}
use Rattle.pages.specs.Laws.{Stands, AlternativeRefused, PartsBefore, CellMet, LineMet, Met, Refused}
use Rattle.pages.proofs.Shape.{WellFormedCell, WellFormedLine, all_every, every_all, cell_parts, cell_from, line_parts, line_from, page_parts, page_from}
use Rattle.pages.proofs.Steps.{counts}
use Rattle.pages.proofs.Causes.{count_refused, met_count, alternative_refused, met_alternative}
use Rattle.pages.proofs.Local.{bad_before}
use Rattle.pages.proofs.Round.{Octets, Fair, reads, fair_one, fair_whole, whole_fair, alternative_stands, alternatives_back, cells_back, counts_back, got_cell, line_read, line_back, stands_none, stands_one, stands_join, stands_split, stands_head}

-- the alternative that is refused, behind those of its cell that are whole
abbrev AlternativesMet : List ℕ → ℕ → ℕ → Alternatives → CellFault → Type 0
AlternativesMet bytes due at before (cell.Count f) = ⊥
AlternativesMet bytes due at before (cell.Alternative g) =
    (more : Alternatives) × (next : ℕ) × (length more < due) × Fair before more × Stands bytes at (flat_map alternative_bytes more) next × AlternativeRefused bytes next (before ++ more) g

alternatives_behind : (bytes : List ℕ) (due at mid : ℕ) (before : Alternatives) (a : Alternative) (f : CellFault) → ((more : Alternatives) → Fair (before ++ a ∷ []) more → Fair before (a ∷ more))
    → Stands bytes at (alternative_bytes a) mid → AlternativesMet bytes due mid (before ++ a ∷ []) f → AlternativesMet bytes (suc due) at before f
alternatives_behind bytes due at mid before a (cell.Count f) fair s h = absurd h
alternatives_behind bytes due at mid before a (cell.Alternative g) fair s (more, next, fewer, rest, stand, bad) =
    (a ∷ more, next, omega arith, fair more rest, stands_join {a = alternative_bytes a} s stand, subst (λ l. AlternativeRefused bytes next l g) (append_assoc before (a ∷ []) more) bad)

alternatives_met : (bytes : List ℕ) (due at : ℕ) (before : Alternatives) (f : CellFault) → Octets bytes → at ≤ length bytes → read_alternatives bytes due at before ≡ Err f
    → AlternativesMet bytes due at before f
unfolding read_alternatives
alternatives_met bytes zero at before f all le e = cc
alternatives_met bytes (suc due) at before f all le e = go (λ a room more. alternatives_met bytes due (at + 3) (before ++ a ∷ []) f all room more) (read_alternative bytes at before) refl e where
  go : ((a : Alternative) → at + 3 ≤ length bytes → read_alternatives bytes due (at + 3) (before ++ a ∷ []) ≡ Err f → AlternativesMet bytes due (at + 3) (before ++ a ∷ []) f)
      → (r : Result Alternative AlternativeFault) → read_alternative bytes at before ≡ r
      → onward r cell.Alternative (λ a. read_alternatives bytes due (at + 3) (before ++ a ∷ [])) ≡ Err f → AlternativesMet bytes (suc due) at before f
  go again (Ok a) is more =
      let r = reads bytes at before a is in
      alternatives_behind bytes due at (at + 3) before a f (λ c fair. fair_one bytes at before c a all r fair) (alternative_stands bytes at before a all r) (again a r.room more)
  go again (Err g) is more =
      let up : cell.Alternative g ≡ f = cc in
      subst (AlternativesMet bytes (suc due) at before) up
      ([], at, omega arith, tt, stands_none bytes at at le refl, subst (λ l. AlternativeRefused bytes at l g) (sym (append-nil before)) (alternative_refused bytes at before g le is))

cell_named : (bytes : List ℕ) (due at : ℕ) (f : CellFault) → read_count 8 bytes at ≡ Ok due → AlternativesMet bytes due (at + 1) [] f → CellMet bytes at f
cell_named bytes due at (cell.Count f) is h = absurd h
cell_named bytes due at (cell.Alternative g) is (more, next, fewer, fair, stand, bad) =
    let n = counts 8 bytes at due is in
    (more, next, record { count = omega (arith, n.is, n.high); fewer = omega (arith, n.is); well = fair_whole more fair; stand = stand }, bad)

cell_met : (bytes : List ℕ) (at : ℕ) (f : CellFault) → Octets bytes → at ≤ length bytes → read_cell bytes at ≡ Err f → CellMet bytes at f
unfolding read_cell
cell_met bytes at f all le e = go (read_count 8 bytes at) refl e where
  go : (r : Result ℕ CountFault) → read_count 8 bytes at ≡ r → onward r cell.Count (λ due. read_alternatives bytes due (at + 1) []) ≡ Err f → CellMet bytes at f
  go (Ok due) is more =
      cell_named bytes due at f is (alternatives_met bytes due (at + 1) [] f all (omega (arith, (counts 8 bytes at due is).room)) more)
  go (Err g) is more = let up : cell.Count g ≡ f = cc in subst (CellMet bytes at) up (count_refused 8 bytes at g le is)

-- whole cells or lines stand from a place to the next, so that the next has this number
record Whole {X : Type 0} (P : X → Type 0) (bytes_of : X → List ℕ) (bytes : List ℕ) (at number : ℕ) (last next : ℕ) : Type 0 where
  parts : List X
  long : number + length parts ≡ last
  well : AllByRecursion P parts
  stand : Stands bytes at (flat_map bytes_of parts) next

module _ {X : Type 0} (P : X → Type 0) (bytes_of : X → List ℕ) (bytes : List ℕ) where
  whole_none : (at number : ℕ) → at ≤ length bytes → Whole P bytes_of bytes at number number at
  whole_none at number le = record { parts = []; long = omega arith; well = tt; stand = stands_none bytes at at le refl }

  whole_more : (at mid number last next : ℕ) (x : X) → P x → Stands bytes at (bytes_of x) mid → Whole P bytes_of bytes mid (number + 1) last next
      → Whole P bytes_of bytes at number last next
  whole_more at mid number last next x p s w =
      record { parts = x ∷ w.parts; long = omega (arith, w.long); well = (p, w.well); stand = stands_join {a = bytes_of x} s w.stand }

-- the cell that is refused, behind those that are whole
abbrev CellsMet : List ℕ → ℕ → ℕ → ℕ → LineFault → Type 0
CellsMet bytes due at number (line.Count f) = ⊥
CellsMet bytes due at number (line.Cell c) =
    (next : ℕ) × Whole WellFormedCell cell_bytes bytes at number c.number next × (c.number < number + due) × CellMet bytes next c.fault

cells_behind : (bytes : List ℕ) (due at mid number : ℕ) (c : Alternatives) (f : LineFault) → WellFormedCell c → Stands bytes at (cell_bytes c) mid → CellsMet bytes due mid (number + 1) f
    → CellsMet bytes (suc due) at number f
cells_behind bytes due at mid number c (line.Count f) well s h = absurd h
cells_behind bytes due at mid number c (line.Cell g) well s h =
    let fewer = h.2 in
    (h.0, whole_more WellFormedCell cell_bytes bytes at mid number g.number h.0 c well s h.1, omega arith, h.3)

cells_met : (bytes : List ℕ) (due at : ℕ) (before : Cells) (f : LineFault) → Octets bytes → at ≤ length bytes → read_cells bytes due at before ≡ Err f → CellsMet bytes due at (length before) f
unfolding read_cells
cells_met bytes zero at before f all le e = cc
cells_met bytes (suc due) at before f all le e = go (λ c next room more. cells_met bytes due next (before ++ c ∷ []) f all room more) (read_cell bytes at) refl e where
  go : ((c : Alternatives) (next : ℕ) → next ≤ length bytes → read_cells bytes due next (before ++ c ∷ []) ≡ Err f → CellsMet bytes due next (length (before ++ c ∷ [])) f)
      → (r : Result (Alternatives × ℕ) CellFault) → read_cell bytes at ≡ r
      → onward r (λ g. line.Cell (record { number = length before; fault = g })) (λ c. read_cells bytes due c.1 (before ++ c.0 ∷ [])) ≡ Err f → CellsMet bytes (suc due) at (length before) f
  go again (Ok c) is more =
      let one = got_cell bytes at c.0 c.1 all is in
      cells_behind bytes due at c.1 (length before) c.0 f one.0 one.1
      (subst (λ n. CellsMet bytes due c.1 n f) (length_push before c.0) (again c.0 c.1 one.1.fits more))
  go again (Err g) is more =
      let up : line.Cell (record { number = length before; fault = g }) ≡ f = cc in
      subst (CellsMet bytes (suc due) at (length before)) up
      (at, whole_none WellFormedCell cell_bytes bytes at (length before) le, omega arith, cell_met bytes at g all le is)

line_named : (bytes : List ℕ) (due at : ℕ) (f : LineFault) → read_count 24 bytes at ≡ Ok due → CellsMet bytes due (at + 1) 0 f → LineMet bytes at f
line_named bytes due at (line.Count f) is h = absurd h
line_named bytes due at (line.Cell c) is (next, w, fewer, bad) =
    let n = counts 24 bytes at due is in (
      w.parts,
      next,
      omega (arith, w.long),
      record { count = omega (arith, n.is, n.high); fewer = omega (arith, n.is, w.long); well = every_all well_formed_cell WellFormedCell cell_from w.parts w.well; stand = w.stand },
      bad,
    )

line_met : (bytes : List ℕ) (at : ℕ) (f : LineFault) → Octets bytes → at ≤ length bytes → read_line bytes at ≡ Err f → LineMet bytes at f
unfolding read_line
line_met bytes at f all le e = go (read_count 24 bytes at) refl e where
  go : (r : Result ℕ CountFault) → read_count 24 bytes at ≡ r → onward r line.Count (λ due. read_cells bytes due (at + 1) []) ≡ Err f → LineMet bytes at f
  go (Ok due) is more = line_named bytes due at f is (cells_met bytes due (at + 1) [] f all (omega (arith, (counts 24 bytes at due is).room)) more)
  go (Err g) is more = let up : line.Count g ≡ f = cc in subst (LineMet bytes at) up (count_refused 24 bytes at g le is)

-- the line that is refused, behind those that are whole, or the end behind all of them
abbrev LinesMet : List ℕ → ℕ → ℕ → ℕ → PageFault → Type 0
LinesMet bytes due at number (page.Count f) = ⊥
LinesMet bytes due at number (page.Line l) =
    (next : ℕ) × Whole WellFormedLine line_bytes bytes at number l.number next × (l.number < number + due) × LineMet bytes next l.fault
LinesMet bytes due at number (page.Excess next) = Whole WellFormedLine line_bytes bytes at number (number + due) next × (next < length bytes)

lines_behind : (bytes : List ℕ) (due at mid number : ℕ) (l : Cells) (f : PageFault) → WellFormedLine l → Stands bytes at (line_bytes l) mid → LinesMet bytes due mid (number + 1) f
    → LinesMet bytes (suc due) at number f
lines_behind bytes due at mid number l (page.Count f) well s h = absurd h
lines_behind bytes due at mid number l (page.Line g) well s h =
    let fewer = h.2 in
    (h.0, whole_more WellFormedLine line_bytes bytes at mid number g.number h.0 l well s h.1, omega arith, h.3)
lines_behind bytes due at mid number l (page.Excess next) well s h =
    let last : (number + 1) + due ≡ number + suc due = omega arith in
    (whole_more WellFormedLine line_bytes bytes at mid number (number + suc due) next l well s (subst (λ n. Whole WellFormedLine line_bytes bytes mid (number + 1) n next) last h.0), h.1)

lines_end_met : (t : Bool) (bytes : List ℕ) (at number : ℕ) (f : PageFault) → ltb at (length bytes) ≡ t → cond {A = Result Lines PageFault} t (Err (page.Excess at)) (Ok []) ≡ Err f → LinesMet bytes 0 at number f
lines_end_met true bytes at number f test e =
    let is : page.Excess at ≡ f = cc in
    let room : at < length bytes = ltb-true at (length bytes) test in
    let last : number ≡ number + 0 = omega arith in
    subst (LinesMet bytes 0 at number) is
    (subst (λ n. Whole WellFormedLine line_bytes bytes at number n at) last (whole_none WellFormedLine line_bytes bytes at number (omega arith)), room)
lines_end_met false bytes at number f test e = cc

lines_met : (bytes : List ℕ) (due at number : ℕ) (f : PageFault) → Octets bytes → at ≤ length bytes → read_lines bytes due at number ≡ Err f → LinesMet bytes due at number f
unfolding read_lines
lines_met bytes zero at number f all le e = lines_end_met (ltb at (length bytes)) bytes at number f refl e
lines_met bytes (suc due) at number f all le e = go (λ next room more. lines_met bytes due next (number + 1) f all room more) (read_line bytes at) refl e where
  go : ((next : ℕ) → next ≤ length bytes → read_lines bytes due next (number + 1) ≡ Err f → LinesMet bytes due next (number + 1) f)
      → (r : Result (Cells × ℕ) LineFault) → read_line bytes at ≡ r
      → onward r (λ g. page.Line (record { number = number; fault = g })) (λ l. before_lines l.0 (read_lines bytes due l.1 (number + 1))) ≡ Err f → LinesMet bytes (suc due) at number f
  go again (Ok l) is more =
      let one = line_read bytes at l.0 l.1 all is in
      lines_behind bytes due at l.1 number l.0 f one.0 one.1 (again l.1 one.1.fits (bad_before l.0 _ more))
  go again (Err g) is more =
      let up : page.Line (record { number = number; fault = g }) ≡ f = cc in
      subst (LinesMet bytes (suc due) at number) up (at, whole_none WellFormedLine line_bytes bytes at number le, omega arith, line_met bytes at g all le is)

page_named : (bytes : List ℕ) (due : ℕ) (f : PageFault) → read_count 40 bytes 0 ≡ Ok due → LinesMet bytes due 1 0 f → Met bytes f
page_named bytes due (page.Count f) is h = absurd h
page_named bytes due (page.Line l) is (next, w, fewer, bad) =
    let n = counts 40 bytes 0 due is in (
      w.parts,
      next,
      omega (arith, w.long),
      record { count = omega (arith, n.is, n.high); fewer = omega (arith, n.is, w.long); well = every_all well_formed_line WellFormedLine line_from w.parts w.well; stand = w.stand },
      bad,
    )
page_named bytes due (page.Excess at) is (w, room) =
    let n = counts 40 bytes 0 due is in
    let long : length w.parts ≡ due = omega (arith, w.long) in (
      w.parts,
      page_from w.parts (record { some = omega (arith, n.low, long); few = omega (arith, n.high, long); lines = w.well }),
      stands_join {a = length w.parts ∷ []} (stands_one bytes 0 (length w.parts) n.room (n.is ∙ sym long)) w.stand,
      room,
    )

pub page_met : (bytes : List ℕ) (f : PageFault) → Octets bytes → read_page bytes ≡ Err f → Met bytes f
unfolding read_page
page_met bytes f all e = go (read_count 40 bytes 0) refl e where
  go : (r : Result ℕ CountFault) → read_count 40 bytes 0 ≡ r → onward r page.Count (λ due. read_lines bytes due 1 0) ≡ Err f → Met bytes f
  go (Ok due) is more =
      page_named bytes due f is (lines_met bytes due 1 0 f all (omega (arith, (counts 40 bytes 0 due is).room)) more)
  go (Err g) is more = let up : page.Count g ≡ f = cc in subst (Met bytes) up (count_refused 40 bytes 0 g (omega arith) is)

-- and a fault that is met is the one that the reading gives: the count, of which more is due than stands before
record Due (most : ℕ) (bytes : List ℕ) (at before : ℕ) : Type 0 where
  behind : ℕ
  read : read_count most bytes at ≡ Ok (before + suc behind)

due : {X : Type 0} {well_formed : List X → Bool} {bytes_of : X → List ℕ} (most : ℕ) (bytes : List ℕ) (at : ℕ) (parts : List X) (next : ℕ)
    → PartsBefore most well_formed bytes_of bytes at parts next → Due most bytes at (length parts)
due most bytes at parts next h =
    let count = get_or bytes at 0 in
    let behind = count - (length parts + 1) in
    let is : count ≡ length parts + suc behind = omega (arith, h.fewer) in
    let room : at < length bytes = omega (arith, h.stand.size, h.stand.fits) in
    record { behind = behind; read = counts_back most bytes at _ (record { room = room; is = is; low = omega arith; high = omega (arith, h.count, is) }) }

met_cell : (bytes : List ℕ) (at : ℕ) (f : CellFault) → CellMet bytes at f → read_cell bytes at ≡ Err f
unfolding read_cell read_alternatives
met_cell bytes at (cell.Count f) h = ap (λ r. onward r cell.Count (λ n. read_alternatives bytes n (at + 1) [])) (met_count 8 bytes at f h)
met_cell bytes at (cell.Alternative f) (before, next, h, bad) =
    let d = due 8 bytes at before next h in
    ap (λ r. onward r cell.Count (λ n. read_alternatives bytes n (at + 1) [])) d.read
    ∙ alternatives_back bytes (at + 1) (suc d.behind) [] before next (whole_fair before h.well) h.stand
    ∙ ap (λ r. onward r cell.Alternative (λ a. read_alternatives bytes d.behind (next + 3) (before ++ a ∷ []))) (met_alternative bytes next before f bad)

met_line : (bytes : List ℕ) (at : ℕ) (f : LineFault) → LineMet bytes at f → read_line bytes at ≡ Err f
unfolding read_line read_cells
met_line bytes at (line.Count f) h = ap (λ r. onward r line.Count (λ n. read_cells bytes n (at + 1) [])) (met_count 24 bytes at f h)
met_line bytes at (line.Cell c) (cells, next, long, h, bad) =
    let d = due 24 bytes at cells next h in
    ap (λ r. onward r line.Count (λ n. read_cells bytes n (at + 1) [])) d.read
    ∙ cells_back bytes (at + 1) (suc d.behind) [] cells next (all_every well_formed_cell WellFormedCell cell_parts cells h.well) h.stand
    ∙ ap (λ r. onward r (λ g. line.Cell (record { number = length cells; fault = g })) (λ x. read_cells bytes d.behind x.1 (cells ++ x.0 ∷ []))) (met_cell bytes next c.fault bad)
    ∙ ap (λ n. Err (line.Cell (record { number = n; fault = c.fault }))) long

-- where the lines behind some come to a fault, all of them do
lines_fault : (bytes : List ℕ) (at more number last next : ℕ) (lines : Lines) (f : PageFault) → AllByRecursion WellFormedLine lines → Stands bytes at (flat_map line_bytes lines) next
    → number + length lines ≡ last → read_lines bytes more next last ≡ Err f → read_lines bytes (length lines + more) at number ≡ Err f
unfolding read_lines
lines_fault bytes at more number last next [] f well h long e =
    let place : at ≡ next = omega (arith, h.size) in
    let same : number ≡ last = omega arith in
    (λ i. read_lines bytes (zero-add more i) (place i) (same i)) ∙ e
lines_fault bytes at more number last next (l ∷ lines) f well h long e =
    let parts = stands_split (line_bytes l) {b = flat_map line_bytes lines} h in
    let mid = at + length (line_bytes l) in
    let one : suc (length lines) + more ≡ suc (length lines + more) = omega arith in
    ap (λ n. read_lines bytes n at number) one
    ∙ ap (λ r. onward r (λ g. page.Line (record { number = number; fault = g })) (λ x. before_lines x.0 (read_lines bytes (length lines + more) x.1 (number + 1)))) (line_back bytes at l mid well.0 parts.0)
    ∙ ap (before_lines l) (lines_fault bytes mid more (number + 1) last next lines f well.1 parts.1 (omega arith) e)

met_page : (bytes : List ℕ) (f : PageFault) → Met bytes f → read_page bytes ≡ Err f
unfolding read_page read_lines
met_page bytes (page.Count f) h = ap (λ r. onward r page.Count (λ n. read_lines bytes n 1 0)) (met_count 40 bytes 0 f h)
met_page bytes (page.Line l) (lines, next, long, h, bad) =
    let d = due 40 bytes 0 lines next h in
    ap (λ r. onward r page.Count (λ n. read_lines bytes n 1 0)) d.read
    ∙ lines_fault bytes 1 (suc d.behind) 0 l.number next lines (page.Line l) (all_every well_formed_line WellFormedLine line_parts lines h.well) h.stand (omega arith)
    (ap (λ r. onward r (λ g. page.Line (record { number = l.number; fault = g })) (λ x. before_lines x.0 (read_lines bytes d.behind x.1 (l.number + 1)))) (met_line bytes next l.fault bad))
met_page bytes (page.Excess at) (lines, well, h, room) =
    let one = stands_head h in
    let w = page_parts lines well in
    ap (λ r. onward r page.Count (λ n. read_lines bytes n 1 0)) (counts_back 40 bytes 0 (length lines) (record { room = one.room; is = one.is; low = w.some; high = w.few }))
    ∙ ap (λ n. read_lines bytes n 1 0) (sym (add-zero (length lines)))
    ∙ lines_fault bytes 1 0 0 (length lines) at lines (page.Excess at) w.lines one.behind (omega arith) (cond-true (ltb at (length bytes)) _ _ (lt-ltb at (length bytes) room))

pub refused_exactly : (bytes : List ℕ) → Octets bytes → Refused bytes
refused_exactly bytes all f = (page_met bytes f all, met_page bytes f)
