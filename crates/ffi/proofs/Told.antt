-- The rows told one after another what came of them. Assumes nothing.
use Rattle.std.proofs.Common.{◌≡◌, ℕ, ◌+◌, ◌<◌, ◌≤◌, List, [], ◌∷◌, ◌++◌, length, min, get_or, take, drop, set, length-take, sym, refl, ap, ◌∙◌, arith}
use Rattle.std.proofs.lemmas.List.{drop_more, take_more, take_more_set, take_all, drop-set-lt}
use Rattle.runs.specs.declared.rows.Row as inner
use Rattle.ffi.specs.declared.rows.Row.{Row}
use Rattle.ffi.specs.declared.rows.Came.{Came}
use Rattle.ffi.specs.Rows.{came_of, told}

-- a row, told
abbrev pub told_one : Row → inner.Row → Row
told_one r m = record { asked = r.asked; came = came_of m.answer }

told_last : (rows : List Row) (made : List inner.Row) (r : Row) (m : inner.Row) → length rows ≡ length made → told (rows ++ r ∷ []) (made ++ m ∷ []) ≡ told rows made ++ told_one r m ∷ []
told_last [] [] r m e = refl
told_last [] (n ∷ made) r m e = absurd (omega (arith, e))
told_last (q ∷ rows) [] r m e = absurd (omega (arith, e))
told_last (q ∷ rows) (n ∷ made) r m e = ap (λ l. told_one q n ∷ l) (told_last rows made r m (omega (arith, e)))

alike_takes : (i : ℕ) (rows : List Row) (made : List inner.Row) → length rows ≡ length made → length (take i rows) ≡ length (take i made)
alike_takes i rows made same = length-take i rows ∙ ap (λ n. min i n) same ∙ sym (length-take i made)

-- the first i rows have been told
pub record Telling (rows₀ : List Row) (made : List inner.Row) (i : ℕ) (rows : List Row) : Type 0 where
  pub done : take i rows ≡ told (take i rows₀) (take i made)
  pub rest : drop i rows ≡ drop i rows₀

pub telling_none : {rows₀ : List Row} {made : List inner.Row} → Telling rows₀ made 0 rows₀
telling_none = record { done = refl; rest = refl }

module _ {rows₀ : List Row} {made : List inner.Row} {i : ℕ} {rows : List Row} (t : Telling rows₀ made i rows) where
  pub telling_more : (d : Row) (e : inner.Row) {came : Came} → i < length rows → length rows ≡ length rows₀ → length made ≡ length rows₀
      → came ≡ came_of (get_or made i e).answer
      → Telling rows₀ made (i + 1) (set rows i (record { asked = (get_or rows i d).asked; came = came }))
  telling_more d e {came = came} lt long same is =
      let row' : Row = record { asked = (get_or rows i d).asked; came = came } in
      let rest : get_or rows i d ∷ drop (i + 1) rows ≡ get_or rows₀ i d ∷ drop (i + 1) rows₀ = sym (drop_more rows i d lt) ∙ t.rest ∙ drop_more rows₀ i d (omega (arith, lt, long)) in
      let here : get_or rows i d ≡ get_or rows₀ i d = cc in
      let behind : drop (i + 1) rows ≡ drop (i + 1) rows₀ = cc in
      let row_is : row' ≡ told_one (get_or rows₀ i d) (get_or made i e) = λ j. record { asked = (here j).asked; came = is j } in
      let more : told (take (i + 1) rows₀) (take (i + 1) made) ≡ told (take i rows₀) (take i made) ++ told_one (get_or rows₀ i d) (get_or made i e) ∷ [] =
      (λ j. told (take_more rows₀ i d (omega (arith, lt, long)) j) (take_more made i e (omega (arith, lt, long, same)) j))
      ∙ told_last (take i rows₀) (take i made) (get_or rows₀ i d) (get_or made i e) (alike_takes i rows₀ made (sym same)) in
      record {
        done = take_more_set rows i row' lt ∙ (λ j. t.done j ++ row_is j ∷ []) ∙ sym more;
        rest = drop-set-lt (i + 1) rows i row' (omega arith) ∙ behind;
      }

  pub telling_all : length rows ≤ i → length rows ≡ length rows₀ → length made ≡ length rows₀ → rows ≡ told rows₀ made
  telling_all le long same =
      sym (take_all i rows le) ∙ t.done ∙ (λ j. told (take_all i rows₀ (omega (arith, le, long)) j) (take_all i made (omega (arith, le, long, same)) j))
