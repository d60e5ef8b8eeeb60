-- What four words and five ask for. Assumes nothing.
use Rattle.std.proofs.Common.{◌≡◌, ℕ, List, [], ◌∷◌, inr, Ok, Err, Result, MatchResult, sym, ap, ◌∙◌, subst}
use Rattle.desk.specs.declared.task.Task.{Task}
use Rattle.desk.specs.declared.task.TaskFault.{TaskFault}
use Rattle.desk.specs.Tasks.{Granting, Asks, IsUnasked, IsPlaced, IsUnplaced, RefusesWord}

module _ (ws : List (List ℕ)) (page line southwest northeast : List ℕ) where
  abbrev Comes : Result Task TaskFault → Type 0
  Comes r = MatchResult r (Asks ws) (IsUnasked ws)

  pub of_four : ws ≡ page ∷ line ∷ southwest ∷ northeast ∷ [] → (r : Result Task TaskFault)
      → MatchResult r (IsPlaced page line southwest northeast) (IsUnplaced line southwest northeast) → Comes r
  of_four shape (Ok t) placed =
      let named = shape ∙ ap (λ p. p ∷ line ∷ southwest ∷ northeast ∷ []) (sym placed.0) in
      let granting = subst (Granting ws t.page.now line southwest northeast) (sym placed.3) named in
      (line, southwest, northeast, granting, placed.1, placed.2)
  of_four shape (Err f) refused = subst (λ v. IsUnasked v f) (sym shape) refused

  -- a fifth word, behind four that ask for the task t, that is refused
  pub of_fifth : (grant : List ℕ) → ws ≡ page ∷ line ∷ southwest ∷ northeast ∷ grant ∷ [] → (t : Task) → IsPlaced page line southwest northeast t
      → (f : TaskFault) → RefusesWord grant f → (r : Result Task TaskFault) → r ≡ Err f → Comes r
  of_fifth grant shape t placed f refuses r is =
      subst Comes (sym is) (subst (λ v. IsUnasked v f) (sym shape) (inr ((t.sheet, ((t.line, placed.1), placed.2)), refuses)))
