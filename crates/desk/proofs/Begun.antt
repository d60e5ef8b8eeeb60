-- How a task begins. Assumes nothing.
use Rattle.std.proofs.Common.{◌≡◌, ℕ, List, Some, None, Ok, Option, sym, refl, ap, ◌∙◌, subst}
use Rattle.std.specs.Option.{unwrap_or}
use Rattle.pages.specs.Shape.{Cells}
use Rattle.grammars.specs.declared.sheet.Sheet.{Sheet}
use Rattle.reader.specs.Views.{View, view, loaded}
use Rattle.reader.specs.Calls.{granting, granted_more}
use Rattle.desk.specs.declared.desk.Desk.{Desk}
use Rattle.desk.specs.declared.task.Task.{Task}
use Rattle.desk.specs.Desks.{Opens, Looks, Grants, Shows, nexted, room_of}
use Rattle.desk.specs.Tasks.{Begins, first_grant, first_view}

first_by : (l : Cells) (o : Option ℕ) (room : ℕ) → room ≡ room_of (loaded l) → unwrap_or o room ≡ first_grant o l
first_by l (Some n) room e = refl
first_by l None room e = e

pub begun : (t : Task) (page : List ℕ) (opened granted is : Desk) (room n : ℕ) → Opens t.sheet page t.line (Ok opened) → room ≡ room_of (view opened.reader)
    → n ≡ unwrap_or t.grant room → granting (view opened.reader) n ≡ Ok tt → Grants n opened granted → Looks granted is → Begins t page (Ok is)
begun t page opened granted is room n opens rooms first answer grants looks =
    let l = opens.0 in
    let same : n ≡ first_grant t.grant l = first ∙ first_by l t.grant room (rooms ∙ ap room_of opens.3) in
    let sheet : granted.sheet ≡ t.sheet = grants.sheet ∙ opens.2 in
    let state : view granted.reader ≡ first_view t l =
    grants.state ∙ ap (λ v. granted_more v n (Ok tt)) opens.3 ∙ ap (λ k. granted_more (loaded l) k (Ok tt)) same in
    let taken : granting (loaded l) (first_grant t.grant l) ≡ Ok tt =
    ap (granting (loaded l)) (sym same) ∙ ap (λ v. granting v n) (sym opens.3) ∙ answer in
    let On = λ (s : Sheet). Shows s (nexted s (view granted.reader)) is.standing in
    let Under = λ (v : View). Shows t.sheet (nexted t.sheet v) is.standing in (
      l,
      opens.1,
      taken,
      looks.sheet ∙ sheet,
      looks.state ∙ ap (λ s. (nexted s (view granted.reader)).state) sheet ∙ ap (λ v. (nexted t.sheet v).state) state,
      subst Under state (subst On sheet looks.shows),
    )
