use Rattle.std.proofs.Common.{Err, sym, refl, ap, ◌∙◌, subst, rules}
use Rattle.std.proofs.lemmas.Result.{err_from_is_err_and}
use Rattle.pages.specs.Answers.{NextLine, Ahead}
use Rattle.pages.proofs.Paging.{good_line, refused_line, meets, refuses, ends, overruns}
use Rattle.pages.proofs.page_reader.PageLines.next_line.Goals as goal

pub returns-in_err-line : goal.returns-in_err-line
returns-in_err-line c =
    let up = err_from_is_err_and c.from_residual.result c.from_residual.ensures.1 in
    let out = up.1 ∙ ap Err up.2 in
    let p = c.args.self.now in
    let told =
    refuses p _ c.if-self.true
    (refused_line c.read_line_at-read.result _ c.map_err.ensures.cases p.bytes.now p.place p.number _ c.in_err-line.was (λ f q. let numbered = err_from_is_err_and c.map_err.result q in numbered.1 ∙ ap Err (search rules)) c.read_line_at-read.ensures.answer) in
    record { answer = subst (λ r. NextLine r p p) (sym out) (told.0, refl); ahead = subst (λ r. Ahead r p p) (sym out) told.1 }

pub returns-then-self : goal.returns-then-self
returns-then-self c =
    let p = c.args.self.now in
    let good = good_line c.read_line_at-read.result _ c.map_err.ensures.cases c.map_err.ensures.variant p.bytes.now p.place _ c.in_ok-line.was c.read_line_at-read.ensures.answer c.read_line_at-read.ensures.same_bytes in
    let told = meets p _ c.if-self.true good.0 in
    record { answer = record { due = c.if-self.true; met = told.0; page = refl; lines = refl; one = refl; stands = good.1 }; ahead = told.1 }

pub returns-then-self-2 : goal.returns-then-self-2
returns-then-self-2 c =
    let told = overruns c.args.self.now c.if-self.false c.if-self-2.true in
    record { answer = (told.0, refl); ahead = told.1 }

pub returns : goal.returns
returns c =
    let told = ends c.args.self.now c.if-self.false c.if-self-2.false in
    record { answer = (told.0, refl); ahead = told.1 }
