-- The lines of calls, one after another: those written, and those left. Assumes nothing.
use Rattle.std.proofs.Common.{◌≡◌, ℕ, List, [], ◌∷◌, ◌++◌, ◌⊎◌, inl, inr, Bor, refl, sym, ap, ◌∙◌, append_assoc, append-nil}
use Rattle.runs.specs.declared.rows.Row.{Row}
use Rattle.plays.specs.Words.{call_line, call_lines}

-- what is done, with the lines of the texts and the rows that are left, is the whole
pub record Left (pages places done : List ℕ) (texts : List (Bor (List ℕ))) (rows : List Row) (whole : List ℕ) : Type 0 where
  pub joined : done ++ call_lines pages places texts rows ≡ whole

pub left_all : {pages places done : List ℕ} {texts all_texts : List (Bor (List ℕ))} {rows all_rows : List Row} → done ≡ [] → texts ≡ all_texts → rows ≡ all_rows
    → Left pages places done texts rows (call_lines pages places all_texts all_rows)
left_all {pages} {places} none first second = record { joined = λ i. none i ++ call_lines pages places (first i) (second i) }

pub left_less : {pages places done whole : List ℕ} {texts : List (Bor (List ℕ))} {rows : List Row} → Left pages places done texts rows whole
    → (text : Bor (List ℕ)) (row : Row) (more : List (Bor (List ℕ))) (others : List Row) (line then : List ℕ)
    → texts ≡ text ∷ more → rows ≡ row ∷ others → line ≡ call_line pages places text.now row.call row.answer → then ≡ done ++ line
    → Left pages places then more others whole
unfolding call_lines
left_less {pages} {places} {done} h text row more others line then first second is longer =
    let rest = call_lines pages places more others in
    record {
      joined =
          ap (λ t. t ++ rest) longer
          ∙ append_assoc done line rest
          ∙ ap (λ l. done ++ (l ++ rest)) is
          ∙ (λ i. done ++ call_lines pages places (sym first i) (sym second i))
          ∙ h.joined;
    }

no_rows : (pages places : List ℕ) (texts : List (Bor (List ℕ))) → call_lines pages places texts [] ≡ []
unfolding call_lines
no_rows pages places [] = refl
no_rows pages places (text ∷ texts) = refl

none_left : (pages places : List ℕ) (texts : List (Bor (List ℕ))) (rows : List Row) → (texts ≡ []) ⊎ (rows ≡ []) → call_lines pages places texts rows ≡ []
unfolding call_lines
none_left pages places texts rows (inl e) = ap (λ t. call_lines pages places t rows) e
none_left pages places texts rows (inr e) = ap (call_lines pages places texts) e ∙ no_rows pages places texts

pub left_none : {pages places done whole : List ℕ} {texts : List (Bor (List ℕ))} {rows : List Row} → Left pages places done texts rows whole
    → (texts ≡ []) ⊎ (rows ≡ []) → done ≡ whole
left_none {pages} {places} {done} {texts = texts} {rows = rows} h none =
    sym (append-nil done) ∙ ap (λ t. done ++ t) (sym (none_left pages places texts rows none)) ∙ h.joined
