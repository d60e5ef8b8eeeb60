use Rattle.std.proofs.Common.{Bor, ℕ, ◌≡◌, ◌≤◌, List, [], ◌∷◌, length, drop, map, ap, ◌∙◌, arith, slice_index_or}
use Rattle.scripts.specs.Scripts.{Begins}
use Rattle.linewords.proofs.Lists.{some}
use Rattle.scripts.proofs.script.fault_of.Goals as goal

abbrev nothing : Bor (List ℕ)
nothing = record { ref_ptr = (0, 0); now = [] }

abbrev texts : List (Bor (List ℕ)) → List (List ℕ)
texts = map (λ w. w.now)

begins : (words : List (Bor (List ℕ))) (first : List ℕ) → 1 ≤ length words → (slice_index_or words 0 nothing).now ≡ first → Begins (texts words) first
begins words first low is = (texts (drop 1 words), ap texts (some nothing words low) ∙ ap (λ w. w ∷ texts (drop 1 words)) is)

pub returns-in-load : goal.returns-in-load
returns-in-load c = begins c.args.words.now _ (omega (arith, c.in-load.len_at_least)) c.in-load.is-load

pub returns-in-grant : goal.returns-in-grant
returns-in-grant c = begins c.args.words.now _ (omega (arith, c.in-grant.len_at_least)) c.in-grant.is-grant

pub returns-in-next : goal.returns-in-next
returns-in-next c = begins c.args.words.now _ (omega (arith, c.in-next.len_at_least)) c.in-next.is-next

pub returns-in-report : goal.returns-in-report
returns-in-report c = begins c.args.words.now _ (omega (arith, c.in-report.len_at_least)) c.in-report.is-report
