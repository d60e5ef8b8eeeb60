-- A part of lent bytes, as code takes it and writes in it. Assumes nothing.
use Rattle.std.proofs.Common.{◌≡◌, ℕ, ◌+◌, ◌-◌, ◌≤◌, min, List, [], ◌++◌, length, take, drop, sym, ap, ◌∙◌, append_assoc, add-zero, arith, length-append, length-drop, length-take, take-append-drop}
use Rattle.std.proofs.lemmas.List.{take_min, drop_min, drop-drop, drop-append-le}
use Rattle.runs.specs.declared.rows.Part.{Part}
use Rattle.runs.specs.Runs.{cut, overwritten}

module _ (bytes : List ℕ) (part : Part) where
  module _ (begin end : ℕ) (b : begin ≡ min part.start (length bytes)) (e : end ≡ begin + min part.length (length bytes - begin)) where
    drop_is : drop begin bytes ≡ drop part.start bytes
    drop_is = ap (λ n. drop n bytes) b ∙ drop_min part.start bytes

    size_is : end - begin ≡ min part.length (length (drop begin bytes))
    size_is = omega (arith, length-drop begin bytes)

    pub cut_is : take (end - begin) (drop begin bytes) ≡ cut bytes part
    cut_is = ap (λ n. take n (drop begin bytes)) size_is ∙ take_min part.length (drop begin bytes) ∙ ap (take part.length) drop_is

    -- as many others were written in its place
    pub put_is : (new : List ℕ) → length new ≡ length (take (end - begin) (drop begin bytes)) → take begin bytes ++ (new ++ drop (end - begin) (drop begin bytes)) ≡ overwritten bytes part new
    put_is new long =
        let size : end - begin ≡ length new = omega (arith, size_is, length-take (end - begin) (drop begin bytes)) in
        let front : take begin bytes ≡ take part.start bytes = ap (λ n. take n bytes) b ∙ take_min part.start bytes in
        let rest : drop (end - begin) (drop begin bytes) ≡ drop (part.start + length new) bytes = (λ i. drop (size i) (drop_is i)) ∙ drop-drop (length new) part.start bytes in
        λ i. front i ++ (new ++ rest i)

  -- what stands behind the first n of the part
  behind : (n : ℕ) → n ≤ length (cut bytes part) → drop n (cut bytes part) ++ drop (part.start + length (cut bytes part)) bytes ≡ drop (part.start + n) bytes
  behind n le =
      sym (drop-append-le n (cut bytes part) (drop (part.start + length (cut bytes part)) bytes) le)
      ∙ ap (drop n) (ap (λ xs. cut bytes part ++ xs) (sym (drop-drop (length (cut bytes part)) part.start bytes)) ∙ whole)
      ∙ drop-drop n part.start bytes
    where
      whole : cut bytes part ++ drop (length (cut bytes part)) (drop part.start bytes) ≡ drop part.start bytes
      whole =
          ap (λ k. cut bytes part ++ drop k (drop part.start bytes)) (length-take part.length (drop part.start bytes))
          ∙ ap (λ xs. cut bytes part ++ xs) (drop_min part.length (drop part.start bytes))
          ∙ take-append-drop part.length (drop part.start bytes)

  -- t and then the part's own bytes
  pub overwritten_rest : (t : List ℕ) → length t ≤ length (cut bytes part) → overwritten bytes part (t ++ drop (length t) (cut bytes part)) ≡ overwritten bytes part t
  overwritten_rest t room =
      let long : length (t ++ drop (length t) (cut bytes part)) ≡ length (cut bytes part) = omega (arith, length-append t (drop (length t) (cut bytes part)), length-drop (length t) (cut bytes part)) in
      ap (λ xs. take part.start bytes ++ xs)
      (ap (λ k. (t ++ drop (length t) (cut bytes part)) ++ drop (part.start + k) bytes) long ∙ append_assoc t _ _ ∙ ap (λ xs. t ++ xs) (behind (length t) room))

  -- the part's own bytes
  pub overwritten_same : overwritten bytes part (cut bytes part) ≡ bytes
  overwritten_same = overwritten_rest [] (omega arith) ∙ ap (λ n. take part.start bytes ++ drop n bytes) (add-zero part.start) ∙ take-append-drop part.start bytes
