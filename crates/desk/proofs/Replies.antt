-- A grant that is taken, and what is replied to it. Assumes nothing.
use Rattle.std.proofs.Common.{◌≡◌, ℕ, Ok, Err, Result, IfOk, sym, subst}
use Rattle.reader.specs.declared.refusals.Refusal.{Refusal}
use Rattle.reader.specs.Views.{view}
use Rattle.desk.specs.declared.desk.Desk.{Desk}
use Rattle.desk.specs.declared.desk.Reply.{Reply}
use Rattle.desk.specs.declared.desk.Standing.{Standing}
use Rattle.desk.specs.declared.words.Note.TheVariants as note
use Rattle.desk.specs.Desks.{Grants, GoesOn}
use Rattle.desk.specs.Replies.{Asked, asked_words, GrantsMore}

pub granted_replied : {E : Type 0} (n : ℕ) (was between is : Desk) (r : Result (Unit {0}) Refusal) (x : Result Reply E) → r ≡ Ok tt → Grants n was between
    → GoesOn between.standing between is → (granted : ℕ) → granted ≡ (view is.reader).granted → IfOk x (Asked (asked_words (note.Granted n granted) is))
    → IfOk x (GrantsMore n r was is)
granted_replied n was between is r (Ok reply) taken grants goes granted same asked =
    let Goes = λ (s : Standing). GoesOn s between is in
    let Says = λ (k : ℕ). Asked (asked_words (note.Granted n k) is) reply in
    let More = λ (s : Result (Unit {0}) Refusal). GrantsMore n s was is reply in
    subst More (sym taken) ((between, grants, subst Goes grants.standing goes), subst Says same asked)
granted_replied n was between is r (Err e) taken grants goes granted same asked = tt
