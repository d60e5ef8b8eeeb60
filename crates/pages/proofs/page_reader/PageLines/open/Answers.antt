use Rattle.std.proofs.Common.{Err, sym, refl, ap, ◌∙◌, subst}
use Rattle.std.proofs.lemmas.Result.{err_from_is_err_and}
use Rattle.pages.specs.Answers.{Opened}
use Rattle.pages.proofs.Paging.{no_page, some_lines, first_line}
use Rattle.pages.proofs.page_reader.PageLines.open.Goals as goal

pub returns-in_err-count : goal.returns-in_err-count
returns-in_err-count c =
    let up = err_from_is_err_and c.from_residual.result c.from_residual.ensures.1 in
    subst (λ r. Opened r c.args.bytes.now) (sym (up.1 ∙ ap Err up.2)) (no_page c.args.bytes.now _ (sym c.in_err-count.ensures))

pub returns : goal.returns
returns c =
    let due = sym c.in_ok-count.ensures in
    record {
      page = refl;
      lines = some_lines c.args.bytes.now c.in_ok-count.count due;
      none = refl;
      first = refl;
      whole = first_line c.args.bytes.now c.in_ok-count.count due;
    }
