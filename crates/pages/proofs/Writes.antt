-- What the bytes of specs/Writing.antt come to, one step at a time. Assumes nothing.
use Rattle.std.proofs.Common.{◌≡◌, ℕ, suc, ◌+◌, ◌*◌, ◌/◌, ◌%◌, ◌<◌, ◌≤◌, List, [], ◌∷◌, ◌++◌, length, get_or, map, take, drop, set, sym, refl, ap, ◌∙◌, subst, arith, append_assoc, length-append, length-drop, length-take}
use Rattle.std.specs.List.{flat_map, sum_by, AllByRecursion}
use Rattle.std.proofs.lemmas.List.{set_split, drop_more, drop_all, get_or-map, length-map, take-append-drop, take_all, take_at, drop_at, drop-drop}
use Rattle.std.proofs.lemmas.Slice.{drop-append-drop}
use Rattle.std.proofs.lemmas.List.Sums.{sum_by-cons}
use Rattle.pages.specs.declared.lines.Alternative.{Alternative}
use Rattle.pages.specs.declared.lines.Cell.{Cell}
use Rattle.pages.specs.declared.lines.Line.{Line}
use Rattle.pages.specs.Few.{few_items}
use Rattle.pages.specs.Shape.{Alternatives, Cells, cell_of}
use Rattle.pages.specs.Answers.{line_of}
use Rattle.pages.specs.Writing.{alternative_bytes, cell_bytes, line_bytes}
use Rattle.pages.proofs.Shape.{WellFormedCell}

pub length_alternatives : (c : Alternatives) → length (flat_map alternative_bytes c) ≡ 3 * length c
length_alternatives [] = refl
length_alternatives (a ∷ c) = omega (arith, length_alternatives c)

-- the cell in hand, as the line has it
pub record Held (line : Line) (i : ℕ) (alternatives : Alternatives) : Type 0 where
  pub below : i < length (line_of line)
  pub is : get_or (line_of line) i [] ≡ alternatives

pub held : (line : Line) (items : List Cell) (i : ℕ) (d : Cell) (alternatives : Alternatives) → items ≡ few_items line.cells → i < length items
    → alternatives ≡ cell_of (get_or items i d) → Held line i alternatives
held line items i d alternatives same lt own =
    let inside : i < length (few_items line.cells) = omega (arith, ap length same) in
    record {
      below = omega (arith, length-map (few_items line.cells) cell_of);
      is = get_or-map cell_of (few_items line.cells) i d [] inside ∙ ap (λ l. cell_of (get_or l i d)) (sym same) ∙ sym own;
    }

-- as many cells as the line has
pub as_many : (line : Line) (items : List Cell) → items ≡ few_items line.cells → length (line_of line) ≡ length items
as_many line items same = length-map (few_items line.cells) cell_of ∙ sym (ap length same)

-- the bytes of the cells, cell by cell
pub cells_size : (cells : List Cell) → length (flat_map cell_bytes (map cell_of cells)) ≡ sum_by (λ c. 1 + 3 * length (cell_of c)) cells
cells_size [] = refl
cells_size (c ∷ cells) =
    omega (arith, length-append (cell_bytes (cell_of c)) (flat_map cell_bytes (map cell_of cells)), length_alternatives (cell_of c), cells_size cells, sum_by-cons (λ c. 1 + 3 * length (cell_of c)) c cells)

-- which are few
pub cells_small : (l : Cells) → AllByRecursion WellFormedCell l → length (flat_map cell_bytes l) ≤ 25 * length l
cells_small [] h = omega arith
cells_small (c ∷ l) h = omega (arith, length-append (cell_bytes c) (flat_map cell_bytes l), length_alternatives c, h.0.few, cells_small l h.1)

-- bytes are being laid at the start of a place: those before `at` stand there, and behind it the place is as it was from `start` on
pub record Laid (whole was : List ℕ) (start : ℕ) (place : List ℕ) (at : ℕ) (rest : List ℕ) : Type 0 where
  pub front : take at place ≡ take at whole
  pub back : (k : ℕ) → at ≤ k → drop k place ≡ drop k was
  pub left : drop at whole ≡ rest
  pub fits : length whole ≤ length place
  pub from : start ≤ at
  pub upto : at ≤ length whole

pub laid_none : (whole place : List ℕ) → length whole ≤ length place → Laid whole place 0 place 0 whole
laid_none whole place h = record { front = refl; back = λ k le. refl; left = refl; fits = h; from = omega arith; upto = omega arith }

-- a loop begins where the bytes stand
pub laid_from : {whole was place rest : List ℕ} {start at : ℕ} → Laid whole was start place at rest → Laid whole place at place at rest
laid_from h = record { front = h.front; back = λ k le. refl; left = h.left; fits = h.fits; from = omega arith; upto = h.upto }

-- and what was so before it is so after it
pub laid_through : {whole was mid place rest more : List ℕ} {start at here : ℕ} → Laid whole was start mid at rest → Laid whole mid at place here more → Laid whole was start place here more
laid_through h g =
    record { front = g.front; back = λ k le. g.back k le ∙ h.back k (omega (arith, g.from)); left = g.left; fits = g.fits; from = omega (arith, g.from, h.from); upto = g.upto }

pub laid_at : {whole was place rest same : List ℕ} {start at : ℕ} → rest ≡ same → Laid whole was start place at rest → Laid whole was start place at same
laid_at {whole} {was} {place} {rest} {same} {start} {at} e h = subst (Laid whole was start place at) e h

-- what comes next is laid
pub put_part : {whole was place rest : List ℕ} {start at : ℕ} (part : List ℕ) → Laid whole was start place at (part ++ rest)
    → Laid whole was start (take at place ++ (part ++ drop (at + length part) place)) (at + length part) rest
put_part {whole} {was} {place} {rest} {start} {at} part h =
    let n = at + length part in
    let room : at + length part ≤ length whole = omega (arith, ap length h.left, length-drop at whole, length-append part rest) in
    let long : length (take at place ++ part) ≡ at + length part = omega (arith, length-append (take at place) part, length-take at place, h.fits) in
    let whole_long : length (take at whole ++ part) ≡ at + length part = omega (arith, length-append (take at whole) part, length-take at whole) in
    let flat = append_assoc (take at place) part (drop n place) in
    record {
      front =
          ap (take n) (sym flat) ∙ take_at (take at place ++ part) (drop n place) n long ∙ ap (λ l. l ++ part) h.front
          ∙ sym (ap (take n) (sym (take-append-drop at whole) ∙ ap (λ l. take at whole ++ l) h.left ∙ sym (append_assoc (take at whole) part rest)) ∙ take_at (take at whole ++ part) rest n whole_long);
      back = λ k le. ap (drop k) (sym flat) ∙ drop-append-drop n place (take at place ++ part) k le long ∙ h.back k (omega arith);
      left = sym (drop-drop (length part) at whole) ∙ ap (drop (length part)) h.left ∙ drop_at part rest _ refl;
      fits = omega (arith, h.fits, ap length flat, long, length-append (take at place ++ part) (drop n place), length-drop n place);
      from = omega (arith, h.from);
      upto = room;
    }

module _ {whole was place rest : List ℕ} {start at v : ℕ} (h : Laid whole was start place at (v ∷ rest)) where
  pub laid_within : at < length whole
  laid_within = omega (arith, ap length h.left, length-drop at whole)

  pub laid_room : at < length place
  laid_room = omega (arith, laid_within, h.fits)

  -- where it is one byte
  pub put : Laid whole was start (set place at v) (at + 1) rest
  put =
      let next : suc at ≡ at + 1 = omega arith in
      subst (λ l. Laid whole was start l (at + 1) rest) (sym (set_split place at v laid_room ∙ ap (λ n. take at place ++ v ∷ drop n place) next)) (put_part (v ∷ []) h)

pub room_three : {whole was place rest : List ℕ} {start at u v w : ℕ} → Laid whole was start place at (u ∷ v ∷ w ∷ rest) → at + 3 ≤ length place
room_three {whole} {at = at} h = omega (arith, ap length h.left, length-drop at whole, h.fits)

-- the next cell is the next thing to lay
pub cell_next : {whole was place : List ℕ} {start at : ℕ} (cells : Cells) (i : ℕ) (c : Alternatives)
    → Laid whole was start place at (flat_map cell_bytes (drop i cells)) → i < length cells → get_or cells i [] ≡ c
    → Laid whole was start place at (length c ∷ (flat_map alternative_bytes c ++ flat_map cell_bytes (drop (i + 1) cells)))
cell_next cells i c h lt is = laid_at (ap (flat_map cell_bytes) (drop_more cells i [] lt ∙ ap (λ x. x ∷ drop (i + 1) cells) is)) h

pub alternative_next : {whole was place : List ℕ} {start at : ℕ} (items : Alternatives) (j : ℕ) (tail : List ℕ) (d : Alternative)
    → Laid whole was start place at (flat_map alternative_bytes (drop j items) ++ tail) → j < length items
    → Laid whole was start place at ((get_or items j d).symbol ∷ (get_or items j d).penalty / 256 ∷ (get_or items j d).penalty % 256 ∷ (flat_map alternative_bytes (drop (j + 1) items) ++ tail))
alternative_next items j tail d h lt = laid_at (ap (λ l. flat_map alternative_bytes l ++ tail) (drop_more items j d lt)) h

pub line_end : {whole was place : List ℕ} {start at : ℕ} (cells : Cells) (i : ℕ)
    → Laid whole was start place at (flat_map cell_bytes (drop i cells)) → length cells ≤ i → Laid whole was start place at []
line_end cells i h le = laid_at (ap (flat_map cell_bytes) (drop_all i cells le)) h

-- all of it is laid
pub laid_all : {whole was place : List ℕ} {start at : ℕ} → Laid whole was start place at [] → (at ≡ length whole) × (place ≡ whole ++ drop at was)
laid_all {whole} {was} {place} {start} {at} h =
    let end : at ≡ length whole = omega (arith, ap length h.left, length-drop at whole, h.upto) in
    (end, sym (take-append-drop at place) ∙ ap (λ l. l ++ drop at place) (h.front ∙ take_all at whole (omega arith)) ∙ ap (λ l. whole ++ l) (h.back at (omega arith)))

-- there is room for an alternative
pub next_room : {whole was place : List ℕ} {start at : ℕ} (items : Alternatives) (j : ℕ) (tail : List ℕ)
    → Laid whole was start place at (flat_map alternative_bytes (drop j items) ++ tail) → j < length items → at + 3 ≤ length place
next_room items j tail h lt = room_three (alternative_next items j tail (record { symbol = 0; penalty = 0 }) h lt)

pub laid_same : {whole was place same rest : List ℕ} {start at : ℕ} → same ≡ place → Laid whole was start place at rest → Laid whole was start same at rest
laid_same {whole} {was} {place} {same} {rest} {start} {at} e h = subst (λ l. Laid whole was start l at rest) (sym e) h

-- the count of the line's cells stands
pub opened : (line : Line) (items : List Cell) (place : List ℕ) → items ≡ few_items line.cells → length (line_bytes (line_of line)) ≤ length place
    → Laid (line_bytes (line_of line)) place 0 (set place 0 (length items)) 1 (flat_map cell_bytes (line_of line))
opened line items place same h =
    let cells = line_of line in
    subst (λ n. Laid (line_bytes cells) place 0 (set place 0 n) 1 (flat_map cell_bytes cells)) (as_many line items same) (put (laid_none (line_bytes cells) place h))

-- the next thing to lay is the count of the cell's alternatives, and then they
pub cell_in_hand : {whole was place : List ℕ} {start at : ℕ} {items : List Cell} {i : ℕ} {alternatives : Alternatives} (line : Line) (d : Cell)
    → items ≡ few_items line.cells → i < length items → alternatives ≡ cell_of (get_or items i d) → Laid whole was start place at (flat_map cell_bytes (drop i (line_of line)))
    → Laid whole was start place at (length alternatives ∷ (flat_map alternative_bytes alternatives ++ flat_map cell_bytes (drop (i + 1) (line_of line))))
cell_in_hand {items = items} {i = i} {alternatives = alternatives} line d same lt own h =
    let e = held line items i d alternatives same lt own in
    cell_next (line_of line) i alternatives h e.below e.is
