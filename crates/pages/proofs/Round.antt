-- Reading and writing undo each other. Assumes nothing.
use Rattle.std.proofs.Common.{◌≡◌, ℕ, zero, suc, ◌+◌, ◌*◌, ◌/◌, ◌%◌, ◌<◌, ◌≤◌, true, false, ltb, List, [], ◌∷◌, ◌++◌, length, get_or, take, drop, Ok, Err, Result, sym, refl, ap, ◌∙◌, subst, append_assoc, append-nil, add-zero, zero-add, arith, length-append, length-drop}
use Rattle.std.specs.List.{flat_map, AllByRecursion}
use Rattle.std.proofs.lemmas.List.{take_all, take-append-le, drop_all, drop_more, drop-drop, drop_at, get_or-drop}
use Rattle.std.proofs.lemmas.Bool.{eqb-false, ne_eqb, or_parts, or_from, le-ltb, cond-false}
use Rattle.std.proofs.lemmas.Bool.Decides.{nat_tests}
use Rattle.pages.specs.declared.lines.Alternative.{Alternative}
use Rattle.pages.specs.declared.faults.CellFault.TheVariants as cell
use Rattle.pages.specs.declared.faults.LineFault.TheVariants as line
use Rattle.pages.specs.declared.faults.PageFault.{PageFault}
use Rattle.pages.specs.declared.faults.PageFault.TheVariants as page
use Rattle.pages.specs.Shape.{Alternatives, Cells, Lines, seen, well_formed_alternatives, well_formed_page}
use Rattle.pages.specs.Reading.{last_penalty, symbol_at, penalty_at, onward, read_alternative, read_count, read_alternatives, read_cell, read_cells, read_line, read_lines, page_end, read_page, before_lines}
use Rattle.pages.specs.Writing.{alternative_bytes, cell_bytes, line_bytes, page_bytes}
use Rattle.pages.specs.Laws.{Stands, Accepted}
use Rattle.pages.proofs.Shape.{Apart, Rises, InRange, WellFormedCell, WellFormedLine, alternatives_parts, alternatives_from, page_parts, page_from}
use Rattle.pages.proofs.Steps.{Counts, counts}

abbrev pub Octets : List ℕ → Type 0
Octets bytes = (i : ℕ) → get_or bytes i 0 < 256

-- the alternatives may stand behind those before them
abbrev pub Fair : Alternatives → Alternatives → Type 0
Fair before [] = Unit {0}
Fair before (a ∷ c) =
    InRange a × (seen a.symbol before ≡ false) × (last_penalty before ≤ a.penalty) × Fair (before ++ a ∷ []) c

-- a value under `onward` came from a value
came : {A B E F : Type 0} (r : Result A E) (up : E → F) (next : A → Result B F) {y : B} → onward r up next ≡ Ok y → (x : A) × (r ≡ Ok x) × (next x ≡ Ok y)
came (Ok x) up next e = (x, refl, e)
came (Err f) up next e = cc

pub record Reads (bytes : List ℕ) (at : ℕ) (before : Alternatives) (a : Alternative) : Type 0 where
  pub room : at + 3 ≤ length bytes
  pub is : record { symbol = symbol_at bytes at; penalty = penalty_at bytes at } ≡ a
  pub low : 33 ≤ symbol_at bytes at
  pub high : symbol_at bytes at ≤ 126
  pub fresh : seen (symbol_at bytes at) before ≡ false
  pub order : last_penalty before ≤ penalty_at bytes at

pub reads : (bytes : List ℕ) (at : ℕ) (before : Alternatives) (a : Alternative) → read_alternative bytes at before ≡ Ok a → Reads bytes at before a
reads bytes at before a e =
    record {
      room = grind (arith, nat_tests);
      is = grind (arith, nat_tests);
      low = grind (arith, nat_tests);
      high = grind (arith, nat_tests);
      fresh = grind (arith, nat_tests);
      order = grind (arith, nat_tests);
    }

reads_alternative : (bytes : List ℕ) (at : ℕ) (before : Alternatives) (a : Alternative) → Reads bytes at before a → read_alternative bytes at before ≡ Ok a
reads_alternative bytes at before a h = grind (arith, nat_tests)

-- a count likewise
pub counts_back : (most : ℕ) (bytes : List ℕ) (at n : ℕ) → Counts most bytes at n → read_count most bytes at ≡ Ok n
counts_back most bytes at n h = grind (arith, nat_tests)

-- bytes one after another
pub stands_none : (bytes : List ℕ) (at next : ℕ) → at ≤ length bytes → next ≡ at → Stands bytes at [] next
stands_none bytes at next h e = record { here = ap (λ n. drop n bytes) (sym e); size = omega arith; fits = omega arith }

pub stands_one : (bytes : List ℕ) (at v : ℕ) → at < length bytes → get_or bytes at 0 ≡ v → Stands bytes at (v ∷ []) (at + 1)
stands_one bytes at v h e = record { here = drop_more bytes at 0 h ∙ ap (λ x. x ∷ drop (at + 1) bytes) e; size = refl; fits = omega arith }

pub stands_join : {bytes a b : List ℕ} {at mid next : ℕ} → Stands bytes at a mid → Stands bytes mid b next → Stands bytes at (a ++ b) next
stands_join {bytes} {a} {b} {at} {mid} {next} h g =
    record {
      here = h.here ∙ ap (λ l. a ++ l) g.here ∙ sym (append_assoc a b (drop next bytes));
      size = omega (arith, h.size, g.size, length-append a b);
      fits = g.fits;
    }

pub stands_split : {bytes : List ℕ} (a : List ℕ) {b : List ℕ} {at next : ℕ} → Stands bytes at (a ++ b) next → Stands bytes at a (at + length a) × Stands bytes (at + length a) b next
stands_split {bytes} a {b} {at} {next} h =
    let flat = h.here ∙ append_assoc a b (drop next bytes) in
    let rest = sym (drop-drop (length a) at bytes) ∙ ap (drop (length a)) flat ∙ drop_at a (b ++ drop next bytes) (length a) refl in
    let long = length-append a b in
    (record { here = flat ∙ ap (λ l. a ++ l) (sym rest); size = refl; fits = omega (arith, h.size, h.fits) }, record { here = rest; size = omega (arith, h.size); fits = h.fits })

pub record Head (bytes : List ℕ) (at v : ℕ) (rest : List ℕ) (next : ℕ) : Type 0 where
  pub room : at < length bytes
  pub is : get_or bytes at 0 ≡ v
  pub behind : Stands bytes (at + 1) rest next

pub stands_head : {bytes rest : List ℕ} {at v next : ℕ} → Stands bytes at (v ∷ rest) next → Head bytes at v rest next
stands_head {bytes} {rest} {at} {v} {next} h =
    let parts = stands_split (v ∷ []) {b = rest} h in
    record {
      room = omega (arith, h.size, h.fits);
      is = ap (λ i. get_or bytes i 0) (sym (add-zero at)) ∙ sym (get_or-drop at bytes 0 0) ∙ ap (λ l. get_or l 0 0) h.here;
      behind = parts.1;
    }

stands_at : {bytes part : List ℕ} {at same next : ℕ} → at ≡ same → Stands bytes at part next → Stands bytes same part next
stands_at {bytes} {part} {at} {same} {next} e h = subst (λ n. Stands bytes n part next) e h

-- an alternative read stands there
pub alternative_stands : (bytes : List ℕ) (at : ℕ) (before : Alternatives) (a : Alternative) → Octets bytes → Reads bytes at before a → Stands bytes at (alternative_bytes a) (at + 3)
alternative_stands bytes at before a all h =
    let symbol : get_or bytes at 0 ≡ a.symbol = ap (λ x. x.symbol) h.is in
    let penalty : get_or bytes (at + 1) 0 * 256 + get_or bytes (at + 2) 0 ≡ a.penalty = ap (λ x. x.penalty) h.is in
    let low : get_or bytes (at + 2) 0 < 256 = all (at + 2) in
    let two : (at + 1) + 1 ≡ at + 2 = omega arith in
    let three : (at + 2) + 1 ≡ at + 3 = omega arith in
    subst (Stands bytes at (alternative_bytes a)) three
    (stands_join {a = a.symbol ∷ []} (stands_one bytes at a.symbol (omega (arith, h.room)) symbol)
    (stands_join {a = a.penalty / 256 ∷ []} (subst (Stands bytes (at + 1) (a.penalty / 256 ∷ [])) two (stands_one bytes (at + 1) (a.penalty / 256) (omega (arith, h.room)) (omega arith)))
    (stands_one bytes (at + 2) (a.penalty % 256) (omega (arith, h.room)) (omega arith))))

-- what a reading of alternatives, behind some, gave
record GotAlternatives (bytes : List ℕ) (at : ℕ) (before : Alternatives) (due : ℕ) (c : Alternatives) (next : ℕ) : Type 0 where
  more : Alternatives
  is : c ≡ before ++ more
  long : length more ≡ due
  fair : Fair before more
  stands : Stands bytes at (flat_map alternative_bytes more) next

pub fair_one : (bytes : List ℕ) (at : ℕ) (before more : Alternatives) (a : Alternative) → Octets bytes → Reads bytes at before a → Fair (before ++ a ∷ []) more → Fair before (a ∷ more)
fair_one bytes at before more a all h f =
    let symbol : get_or bytes at 0 ≡ a.symbol = ap (λ x. x.symbol) h.is in
    let penalty : get_or bytes (at + 1) 0 * 256 + get_or bytes (at + 2) 0 ≡ a.penalty = ap (λ x. x.penalty) h.is in
    let high : get_or bytes (at + 1) 0 < 256 = all (at + 1) in
    let low : get_or bytes (at + 2) 0 < 256 = all (at + 2) in
    (record { low = omega (arith, h.low); high = omega (arith, h.high); small = omega arith }, ap (λ s. seen s before) (sym symbol) ∙ h.fresh, omega (arith, h.order), f)

got_alternatives : (bytes : List ℕ) (due at : ℕ) (before c : Alternatives) (next : ℕ) → Octets bytes → at ≤ length bytes
    → read_alternatives bytes due at before ≡ Ok (c, next) → GotAlternatives bytes at before due c next
unfolding read_alternatives
got_alternatives bytes zero at before c next all h e =
    let same : ◌≡◌ {A = Alternatives × ℕ} (before, at) (c, next) = cc in
    record {
      more = [];
      is = sym (ap (λ p. p.0) same) ∙ sym (append-nil before);
      long = refl;
      fair = tt;
      stands = stands_none bytes at next h (sym (ap (λ p. p.1) same));
    }
got_alternatives bytes (suc due) at before c next all h e =
    let p = came (read_alternative bytes at before) _ _ e in
    let a = p.0 in
    let r = reads bytes at before a p.1 in
    let g = got_alternatives bytes due (at + 3) (before ++ a ∷ []) c next all r.room p.2 in
    record {
      more = a ∷ g.more;
      is = g.is ∙ append_assoc before (a ∷ []) g.more;
      long = ap suc g.long;
      fair = fair_one bytes at before g.more a all r g.fair;
      stands = stands_join {a = alternative_bytes a} (alternative_stands bytes at before a all r) g.stands;
    }

-- and back
alternative_read : (bytes : List ℕ) (at : ℕ) (before : Alternatives) (a : Alternative) (rest : List ℕ) (next : ℕ) → Stands bytes at (alternative_bytes a ++ rest) next
    → InRange a → seen a.symbol before ≡ false → last_penalty before ≤ a.penalty → Reads bytes at before a × Stands bytes (at + 3) rest next
alternative_read bytes at before a rest next h range fresh order =
    let one = stands_head h in
    let two = stands_head one.behind in
    let second : (at + 1) + 1 ≡ at + 2 = omega arith in
    let three = stands_head (stands_at second two.behind) in
    let third : (at + 2) + 1 ≡ at + 3 = omega arith in
    let symbol = one.is in
    let penalty : penalty_at bytes at ≡ a.penalty = omega (arith, two.is, three.is) in (
      record {
        room = omega (arith, three.room);
        is = λ i. record { symbol = symbol i; penalty = penalty i };
        low = omega (arith, range.low);
        high = omega (arith, range.high);
        fresh = ap (λ s. seen s before) symbol ∙ fresh;
        order = omega (arith, order);
      },
      stands_at third three.behind,
    )

pub alternatives_back : (bytes : List ℕ) (at due : ℕ) (before more : Alternatives) (next : ℕ) → Fair before more → Stands bytes at (flat_map alternative_bytes more) next
    → read_alternatives bytes (length more + due) at before ≡ read_alternatives bytes due next (before ++ more)
unfolding read_alternatives
alternatives_back bytes at due before [] next f h =
    let place : at ≡ next = omega (arith, h.size) in
    λ i. read_alternatives bytes (zero-add due i) (place i) (sym (append-nil before) i)
alternatives_back bytes at due before (a ∷ more) next f h =
    let r = alternative_read bytes at before a (flat_map alternative_bytes more) next h f.0 f.1 f.2 in
    let one : suc (length more) + due ≡ suc (length more + due) = omega arith in
    ap (λ n. read_alternatives bytes n at before) one
    ∙ ap (λ x. onward x cell.Alternative (λ b. read_alternatives bytes (length more + due) (at + 3) (before ++ b ∷ []))) (reads_alternative bytes at before a r.0)
    ∙ alternatives_back bytes (at + 3) due (before ++ a ∷ []) more next f.3 r.1
    ∙ ap (read_alternatives bytes due next) (append_assoc before (a ∷ []) more)

-- fair is: in range, apart, and never falling
pub map_all : {X : Type 0} {P Q : X → Type 0} → ((x : X) → P x → Q x) → (xs : List X) → AllByRecursion P xs → AllByRecursion Q xs
map_all f [] h = tt
map_all f (x ∷ xs) h = (f x h.0, map_all f xs h.1)

seen_apart : (s : ℕ) (before : Alternatives) (a : Alternative) → seen s (before ++ a ∷ []) ≡ false → (seen s before ≡ false) × (a.symbol ≡ s → ⊥)
seen_apart s [] a e = (refl, eqb-false a.symbol s (or_parts _ _ e).0)
seen_apart s (b ∷ before) a e =
    let p = or_parts _ _ e in
    let q = seen_apart s before a p.1 in
    (or_from _ _ p.0 q.0, q.1)

seen_join : (s : ℕ) (before : Alternatives) (a : Alternative) → seen s before ≡ false → (a.symbol ≡ s → ⊥) → seen s (before ++ a ∷ []) ≡ false
seen_join s [] a e ne = or_from _ _ (ne_eqb a.symbol s ne) refl
seen_join s (b ∷ before) a e ne = let p = or_parts _ _ e in or_from _ _ p.0 (seen_join s before a p.1 ne)

pub last_push : (before : Alternatives) (a : Alternative) → last_penalty (before ++ a ∷ []) ≡ a.penalty
last_push [] a = refl
last_push (b ∷ []) a = refl
last_push (b ∷ d ∷ before) a = last_push (d ∷ before) a

fair_ranges : (before c : Alternatives) → Fair before c → AllByRecursion InRange c
fair_ranges before [] f = tt
fair_ranges before (a ∷ c) f = (f.0, fair_ranges (before ++ a ∷ []) c f.3)

fair_apart : (before c : Alternatives) → Fair before c → AllByRecursion (λ a. seen a.symbol before ≡ false) c × Apart c
fair_apart before [] f = (tt, tt)
fair_apart before (a ∷ c) f =
    let p = fair_apart (before ++ a ∷ []) c f.3 in
    ((f.1, map_all (λ b e. (seen_apart b.symbol before a e).0) c p.0), (map_all (λ b e. λ same. (seen_apart b.symbol before a e).1 (sym same)) c p.0, p.1))

fair_rises : (before c : Alternatives) → Fair before c → Rises (last_penalty before) c
fair_rises before [] f = tt
fair_rises before (a ∷ c) f = (f.2, subst (λ n. Rises n c) (last_push before a) (fair_rises (before ++ a ∷ []) c f.3))

-- what stands behind `a` is neither `a` nor seen before it
both_unseen : (before : Alternatives) (a : Alternative) (c : Alternatives) → AllByRecursion (λ b. seen b.symbol before ≡ false) c → AllByRecursion (λ b. b.symbol ≡ a.symbol → ⊥) c
    → AllByRecursion (λ b. seen b.symbol (before ++ a ∷ []) ≡ false) c
both_unseen before a [] h g = tt
both_unseen before a (b ∷ c) h g = (seen_join b.symbol before a h.0 (λ e. g.0 (sym e)), both_unseen before a c h.1 g.1)

fair_from : (before c : Alternatives) → AllByRecursion InRange c → AllByRecursion (λ a. seen a.symbol before ≡ false) c → Apart c → Rises (last_penalty before) c → Fair before c
fair_from before [] ranges unseen apart rises = tt
fair_from before (a ∷ c) ranges unseen apart rises = (
  ranges.0,
  unseen.0,
  rises.0,
  fair_from (before ++ a ∷ []) c ranges.1 (both_unseen before a c unseen.1 apart.0) apart.1 (subst (λ n. Rises n c) (sym (last_push before a)) rises.1),
)

unseen_none : (c : Alternatives) → AllByRecursion (λ a. seen a.symbol [] ≡ false) c
unseen_none [] = tt
unseen_none (a ∷ c) = (refl, unseen_none c)

pub fair_whole : (c : Alternatives) → Fair [] c → well_formed_alternatives c ≡ true
fair_whole c fair = alternatives_from c (record { ranges = fair_ranges [] c fair; apart = (fair_apart [] c fair).1; rises = fair_rises [] c fair })

pub whole_fair : (c : Alternatives) → well_formed_alternatives c ≡ true → Fair [] c
whole_fair c e = let h = alternatives_parts c e in fair_from [] c h.ranges (unseen_none c) h.apart h.rises

-- a cell whose alternatives are fair is well-formed
pub fair_cell : (c : Alternatives) → 1 ≤ length c → length c ≤ 8 → Fair [] c → WellFormedCell c
fair_cell c some few fair =
    record { some = some; few = few; ranges = fair_ranges [] c fair; apart = (fair_apart [] c fair).1; rises = fair_rises [] c fair }

cell_fair : (c : Alternatives) → WellFormedCell c → Fair [] c
cell_fair c h = fair_from [] c h.ranges (unseen_none c) h.apart h.rises

-- a cell
pub got_cell : (bytes : List ℕ) (at : ℕ) (c : Alternatives) (next : ℕ) → Octets bytes → read_cell bytes at ≡ Ok (c, next) → WellFormedCell c × Stands bytes at (cell_bytes c) next
unfolding read_cell
got_cell bytes at c next all e =
    let p = came (read_count 8 bytes at) _ _ e in
    let n = counts 8 bytes at p.0 p.1 in
    let g = got_alternatives bytes p.0 (at + 1) [] c next all (omega (arith, n.room)) p.2 in
    let long : length c ≡ p.0 = ap length g.is ∙ g.long in (
      fair_cell c (omega (arith, n.low)) (omega (arith, n.high)) (subst (Fair []) (sym g.is) g.fair),
      stands_join {a = length c ∷ []} (stands_one bytes at (length c) n.room (n.is ∙ sym long)) (subst (λ l. Stands bytes (at + 1) (flat_map alternative_bytes l) next) (sym g.is) g.stands),
    )

cell_back : (bytes : List ℕ) (at : ℕ) (c : Alternatives) (next : ℕ) → WellFormedCell c → Stands bytes at (cell_bytes c) next → read_cell bytes at ≡ Ok (c, next)
unfolding read_cell read_alternatives
cell_back bytes at c next f h =
    let one = stands_head h in
    ap (λ x. onward x cell.Count (λ due. read_alternatives bytes due (at + 1) [])) (counts_back 8 bytes at (length c) (record { room = one.room; is = one.is; low = f.some; high = f.few }))
    ∙ ap (λ n. read_alternatives bytes n (at + 1) []) (sym (add-zero (length c)))
    ∙ alternatives_back bytes (at + 1) 0 [] c next (cell_fair c f) one.behind

-- cells
record GotCells (bytes : List ℕ) (at : ℕ) (before : Cells) (due : ℕ) (l : Cells) (next : ℕ) : Type 0 where
  more : Cells
  is : l ≡ before ++ more
  long : length more ≡ due
  well : AllByRecursion WellFormedCell more
  stands : Stands bytes at (flat_map cell_bytes more) next

got_cells : (bytes : List ℕ) (due at : ℕ) (before l : Cells) (next : ℕ) → Octets bytes → at ≤ length bytes
    → read_cells bytes due at before ≡ Ok (l, next) → GotCells bytes at before due l next
unfolding read_cells
got_cells bytes zero at before l next all h e =
    let same : ◌≡◌ {A = Cells × ℕ} (before, at) (l, next) = cc in
    record {
      more = [];
      is = sym (ap (λ p. p.0) same) ∙ sym (append-nil before);
      long = refl;
      well = tt;
      stands = stands_none bytes at next h (sym (ap (λ p. p.1) same));
    }
got_cells bytes (suc due) at before l next all h e =
    let p = came (read_cell bytes at) _ _ e in
    let c = p.0.0 in
    let mid = p.0.1 in
    let one = got_cell bytes at c mid all p.1 in
    let g = got_cells bytes due mid (before ++ c ∷ []) l next all one.1.fits p.2 in
    record {
      more = c ∷ g.more;
      is = g.is ∙ append_assoc before (c ∷ []) g.more;
      long = ap suc g.long;
      well = (one.0, g.well);
      stands = stands_join {a = cell_bytes c} one.1 g.stands;
    }

pub cells_back : (bytes : List ℕ) (at due : ℕ) (before more : Cells) (next : ℕ) → AllByRecursion WellFormedCell more → Stands bytes at (flat_map cell_bytes more) next
    → read_cells bytes (length more + due) at before ≡ read_cells bytes due next (before ++ more)
unfolding read_cells
cells_back bytes at due before [] next f h =
    let place : at ≡ next = omega (arith, h.size) in
    λ i. read_cells bytes (zero-add due i) (place i) (sym (append-nil before) i)
cells_back bytes at due before (c ∷ more) next f h =
    let parts = stands_split (cell_bytes c) {b = flat_map cell_bytes more} h in
    let mid = at + length (cell_bytes c) in
    let one : suc (length more) + due ≡ suc (length more + due) = omega arith in
    ap (λ n. read_cells bytes n at before) one
    ∙ ap (λ x. onward x (λ e. line.Cell (record { number = length before; fault = e })) (λ d. read_cells bytes (length more + due) d.1 (before ++ d.0 ∷ []))) (cell_back bytes at c mid f.0 parts.0)
    ∙ cells_back bytes mid due (before ++ c ∷ []) more next f.1 parts.1
    ∙ ap (read_cells bytes due next) (append_assoc before (c ∷ []) more)

-- a line that is read is well-formed, and its bytes stand there
pub line_read : (bytes : List ℕ) (at : ℕ) (l : Cells) (next : ℕ) → Octets bytes → read_line bytes at ≡ Ok (l, next)
    → WellFormedLine l × Stands bytes at (line_bytes l) next
unfolding read_line
line_read bytes at l next all e =
    let p = came (read_count 24 bytes at) _ _ e in
    let n = counts 24 bytes at p.0 p.1 in
    let g = got_cells bytes p.0 (at + 1) [] l next all (omega (arith, n.room)) p.2 in
    let long : length l ≡ p.0 = ap length g.is ∙ g.long in (
      record { some = omega (arith, n.low); few = omega (arith, n.high); cells = subst (AllByRecursion WellFormedCell) (sym g.is) g.well },
      stands_join {a = length l ∷ []} (stands_one bytes at (length l) n.room (n.is ∙ sym long)) (subst (λ x. Stands bytes (at + 1) (flat_map cell_bytes x) next) (sym g.is) g.stands),
    )

-- and a well-formed line is read where its bytes stand
pub line_back : (bytes : List ℕ) (at : ℕ) (l : Cells) (next : ℕ) → WellFormedLine l → Stands bytes at (line_bytes l) next → read_line bytes at ≡ Ok (l, next)
unfolding read_line read_cells
line_back bytes at l next f h =
    let one = stands_head h in
    ap (λ x. onward x line.Count (λ due. read_cells bytes due (at + 1) [])) (counts_back 24 bytes at (length l) (record { room = one.room; is = one.is; low = f.some; high = f.few }))
    ∙ ap (λ n. read_cells bytes n (at + 1) []) (sym (add-zero (length l)))
    ∙ cells_back bytes (at + 1) 0 [] l next f.cells one.behind

record GotLines (bytes : List ℕ) (at due : ℕ) (lines : Lines) : Type 0 where
  long : length lines ≡ due
  well : AllByRecursion WellFormedLine lines
  stands : drop at bytes ≡ flat_map line_bytes lines

-- a line before lines was before lines
came_before : (l : Cells) (r : Result (Lines) PageFault) {lines : Lines} → before_lines l r ≡ Ok lines
    → (more : Lines) × (r ≡ Ok more) × (l ∷ more ≡ lines)
came_before l (Ok more) e = (more, refl, cc)
came_before l (Err f) e = cc

-- no line more is read where the page ends
page_ended : (bytes : List ℕ) (at : ℕ) (lines : Lines) → page_end bytes at ≡ Ok lines → (length bytes ≤ at) × ([] ≡ lines)
page_ended bytes at lines e = (grind (arith, nat_tests), grind (arith, nat_tests))

got_lines : (bytes : List ℕ) (due at number : ℕ) (lines : Lines) → Octets bytes → read_lines bytes due at number ≡ Ok lines → GotLines bytes at due lines
unfolding read_lines
got_lines bytes zero at number lines all e =
    let end = page_ended bytes at lines e in
    subst (GotLines bytes at 0) end.1 (record { long = refl; well = tt; stands = drop_all at bytes end.0 })
got_lines bytes (suc due) at number lines all e =
    let p = came (read_line bytes at) _ _ e in
    let q = came_before p.0.0 _ p.2 in
    let one = line_read bytes at p.0.0 p.0.1 all p.1 in
    let g = got_lines bytes due p.0.1 (number + 1) q.0 all q.1 in
    subst (GotLines bytes at (suc due)) q.2
    (record { long = ap suc g.long; well = (one.0, g.well); stands = one.1.here ∙ ap (λ rest. line_bytes p.0.0 ++ rest) g.stands })

lines_back : (bytes : List ℕ) (at number : ℕ) (lines : Lines) → AllByRecursion WellFormedLine lines → at ≤ length bytes → drop at bytes ≡ flat_map line_bytes lines
    → read_lines bytes (length lines) at number ≡ Ok lines
unfolding read_lines
lines_back bytes at number [] h le e = cond-false (ltb at (length bytes)) _ _ (le-ltb at (length bytes) (omega (arith, ap length e, length-drop at bytes)))
lines_back bytes at number (l ∷ more) h le e =
    let part = line_bytes l in
    let next = at + length part in
    let rest : drop next bytes ≡ flat_map line_bytes more = sym (drop-drop (length part) at bytes) ∙ ap (drop (length part)) e ∙ drop_at part (flat_map line_bytes more) (length part) refl in
    let fits : next ≤ length bytes = omega (arith, ap length e, length-append part (flat_map line_bytes more), length-drop at bytes) in
    let one = line_back bytes at l next h.0 (record { here = e ∙ ap (λ x. part ++ x) (sym rest); size = refl; fits = fits }) in
    ap (λ x. onward x (λ f. page.Line (record { number = number; fault = f })) (λ y. before_lines y.0 (read_lines bytes (length more) y.1 (number + 1)))) one
    ∙ ap (before_lines l) (lines_back bytes next (number + 1) more h.1 fits rest)

page_read : (bytes : List ℕ) (lines : Lines) → Octets bytes → read_page bytes ≡ Ok lines → (bytes ≡ page_bytes lines) × (well_formed_page lines ≡ true)
unfolding read_page
page_read bytes lines all e =
    let p = came (read_count 40 bytes 0) _ _ e in
    let n = counts 40 bytes 0 p.0 p.1 in
    let g = got_lines bytes p.0 1 0 lines all p.2 in
    let first = n.is ∙ sym g.long in (
      drop_more bytes 0 0 n.room ∙ ap (λ x. x ∷ drop 1 bytes) first ∙ ap (λ rest. length lines ∷ rest) g.stands,
      page_from lines (record { some = omega (arith, n.low, g.long); few = omega (arith, n.high, g.long); lines = g.well }),
    )

pub page_back : (bytes : List ℕ) (lines : Lines) → (bytes ≡ page_bytes lines) × (well_formed_page lines ≡ true) → read_page bytes ≡ Ok lines
unfolding read_page
page_back bytes lines h =
    let long = ap length h.0 in
    let well = page_parts lines h.1 in
    ap (λ x. onward x page.Count (λ due. read_lines bytes due 1 0))
    (counts_back 40 bytes 0 (length lines) (record { room = omega arith; is = ap (λ b. get_or b 0 0) h.0; low = well.some; high = well.few }))
    ∙ lines_back bytes 1 0 lines well.lines (omega arith) (ap (drop 1) h.0)

pub accepted_exactly : (bytes : List ℕ) → Octets bytes → Accepted bytes
accepted_exactly bytes all lines = (page_read bytes lines all, page_back bytes lines)

-- the bytes of a line are, behind a byte 1, a page of that line alone
one_page : (l : Cells) → WellFormedLine l → read_page (1 ∷ line_bytes l) ≡ Ok (l ∷ [])
unfolding read_page
one_page l h =
    let sheet : List ℕ = 1 ∷ line_bytes l in
    ap (λ x. onward x page.Count (λ due. read_lines sheet due 1 0))
    (counts_back 40 sheet 0 1 (record { room = omega arith; is = refl; low = omega arith; high = omega arith }))
    ∙ lines_back sheet 1 0 (l ∷ []) (h, tt) (omega arith) (sym (append-nil (line_bytes l)))

-- what stands at the start of a place
pub reads_back : (l : Cells) (n : ℕ) (rest : List ℕ) {place : List ℕ} → n ≡ length (line_bytes l) → place ≡ line_bytes l ++ rest → WellFormedLine l
    → read_page (1 ∷ take n place) ≡ Ok (l ∷ [])
reads_back l n rest long is well =
    let bytes = line_bytes l in
    ap (λ b. read_page (1 ∷ b)) (ap (take n) is ∙ ap (λ m. take m (bytes ++ rest)) long ∙ take-append-le (length bytes) bytes rest (omega arith) ∙ take_all (length bytes) bytes (omega arith))
    ∙ one_page l well
