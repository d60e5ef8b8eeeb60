use Rattle.std.proofs.Common.{◌≡◌, [], ◌++◌, length, ap, ◌∙◌, arith}
use Rattle.pages.proofs.Round.{accepted_exactly}
use Rattle.reader.specs.Views.{view}
use Rattle.lists.specs.declared.rows.Row.{Row}
use Rattle.lists.specs.Lists.{row}
use Rattle.lists.specs.Calls.{line_at, row_words}
use Rattle.lists.proofs.Answered.{well, line_well, came_state}
use Rattle.lists.proofs.Printed.{row_told, row_short}
use Rattle.lists.proofs.listing.list_line.Goals as goal

pub put_row-requires : goal.put_row-requires
put_row-requires c =
    let page = c.args.page.now in
    let n = c.args.number in
    let l = line_at page n in
    let next = c.first_next-outcome in
    let r : Row = record { number = n; reading = c.reading_word.result; total = c.last_total.result; looked = c.report.result.looked; outcome = c.outcome_word.result } in
    let is : row_words r ≡ row n l =
    row_told l _ next.result next.new.place (view next.new.reader) r next.ensures.answer next.ensures.state next.ensures.place c.reading_word.ensures c.last_total.ensures c.report.ensures.told.looked c.outcome_word.ensures in
    let accepted = accepted_exactly page (λ i. (c.type_inv.page i).fits) in
    let few = (well page accepted n c.requires.there).few in
    let short = row_short l n (omega (arith, few, c.requires.there)) (line_well page accepted n c.requires.there).few in
    omega (arith, c.requires.room, short, ap length is)

pub returns-clause-row : goal.returns-clause-row
returns-clause-row c =
    let next = c.first_next-outcome in
    let r : Row = record { number = c.args.number; reading = c.reading_word.result; total = c.last_total.result; looked = c.report.result.looked; outcome = c.outcome_word.result } in
    c.put_row.ensures
    ∙ ap (λ words. c.args.list.now.items ++ words)
    (row_told (line_at c.args.page.now c.args.number) _ next.result next.new.place (view next.new.reader) r next.ensures.answer next.ensures.state next.ensures.place c.reading_word.ensures c.last_total.ensures c.report.ensures.told.looked c.outcome_word.ensures)

pub returns-clause-state : goal.returns-clause-state
returns-clause-state c = c.first_next-outcome.ensures.state ∙ came_state (line_at c.args.page.now c.args.number) _ []
