use Rattle.std.proofs.Common.{Bor, ℕ, List, [], ◌∷◌, map, Err, sym, ap, ◌∙◌, arith, slice_index_or}
use Rattle.std.proofs.lemmas.Result.{err_from_is_err_and}
use Rattle.linewords.proofs.Lists.{four, five}
use Rattle.desk.proofs.Asked.{of_four, of_fifth}
use Rattle.desk.proofs.task.task_of.Goals as goal

abbrev nothing : Bor (List ℕ)
nothing = record { ref_ptr = (0, 0); now = [] }

-- the text of a word
abbrev word : List (Bor (List ℕ)) → ℕ → List ℕ
word words k = (slice_index_or words k nothing).now

abbrev texts : List (Bor (List ℕ)) → List (List ℕ)
texts = map (λ w. w.now)

pub returns-in-len4 : goal.returns-in-len4
returns-in-len4 c =
    let words = c.args.words.now in
    let shape = ap texts (four nothing words (omega (arith, c.in-len4.len_at_least)) (omega (arith, c.in-len4.len_below))) in
    of_four (texts words) (word words 0) (word words 1) (word words 2) (word words 3) shape c.task_at.result c.task_at.ensures

pub returns-in_err-chains-in-len5 : goal.returns-in_err-chains-in-len5
returns-in_err-chains-in-len5 c =
    let words = c.args.words.now in
    let shape = ap texts (five nothing words (omega (arith, c.in-len5.len_at_least)) (omega (arith, c.in-len5.len_below))) in
    let up = err_from_is_err_and c.from_residual-in_err-chains-in-len5.result c.from_residual-in_err-chains-in-len5.ensures.1 in
    of_fifth (texts words) (word words 0) (word words 1) (word words 2) (word words 3) (word words 4) shape
    c.in_ok-task-in-len5.task c.in_ok-task-in-len5.ensures _ c.in_err-chains-in-len5.ensures _ (up.1 ∙ ap Err up.2)

pub returns-in_ok-chains-in-len5 : goal.returns-in_ok-chains-in-len5
returns-in_ok-chains-in-len5 c =
    let words = c.args.words.now in
    let placed = c.in_ok-task-in-len5.ensures in
    let shape = ap texts (five nothing words (omega (arith, c.in-len5.len_at_least)) (omega (arith, c.in-len5.len_below))) in
    let named = shape ∙ ap (λ p. p ∷ word words 1 ∷ word words 2 ∷ word words 3 ∷ word words 4 ∷ []) (sym placed.0) in
    (word words 1, word words 2, word words 3, (word words 4, named, c.in_ok-chains-in-len5.ensures), placed.1, placed.2)
