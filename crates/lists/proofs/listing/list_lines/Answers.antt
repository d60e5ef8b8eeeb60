use Rattle.std.proofs.Common.{◌<◌, ◌≤◌, ◌++◌, length, take, sym, refl, ap, ◌∙◌, append_assoc, append-nil, arith}
use Rattle.std.proofs.lemmas.List.{take_all}
use Rattle.pages.specs.Reading.{read_page}
use Rattle.pages.proofs.Round.{accepted_exactly}
use Rattle.lists.specs.Lists.{header, row, rows}
use Rattle.lists.specs.Calls.{lines_in, line_at, seen_after}
use Rattle.lists.proofs.Answered.{well, seen_more}
use Rattle.lists.proofs.Counts.{all_counted}
use Rattle.lists.proofs.Printed.{rows_none, rows_more, list_short}
use Rattle.lists.proofs.listing.list_lines.Goals as goal

pub loop-number-init : goal.loop-number-init
loop-number-init c = record {
  list = c.put_header.ensures ∙ ap (λ items. items ++ header) c.new-list.ensures ∙ sym (ap (λ rest. header ++ rest) rows_none ∙ append-nil header);
  state = refl;
  agrees = c.requires.agrees;
  kept = record { grammar = refl; score = refl };
}

pub list_line-requires : goal.list_line-requires
list_line-requires c =
    let page = c.args.page.now in
    let n = c.loop-number.number in
    let accepted = accepted_exactly page (λ i. (c.type_inv.page i).fits) in
    let there : n < length (lines_in page) = omega (arith, all_counted (read_page page) c.args.count c.requires.counted, c.loop-number-test.true) in
    let whole = well page accepted n there in
    let room = list_short (lines_in page) n whole in
    record {
      agrees = c.loop-number.invariant.agrees;
      there = there;
      room = omega (arith, room, whole.few, ap length c.loop-number.invariant.list);
    }

pub loop-number-preserved : goal.loop-number-preserved
loop-number-preserved c =
    let page = c.args.page.now in
    let n = c.loop-number.number in
    let there : n < length (lines_in page) = omega (arith, all_counted (read_page page) c.args.count c.requires.counted, c.loop-number-test.true) in
    record {
      list =
          c.list_line.ensures.row
          ∙ ap (λ items. items ++ row n (line_at page n)) c.loop-number.invariant.list
          ∙ append_assoc header (rows 0 (take n (lines_in page))) (row n (line_at page n))
          ∙ ap (λ rest. header ++ rest) (sym (rows_more (lines_in page) n there));
      state = c.list_line.ensures.state ∙ sym (seen_more _ (lines_in page) n there);
      agrees = c.list_line.ensures.agrees;
      kept = record {
        grammar = c.list_line.ensures.kept.grammar ∙ c.loop-number.invariant.kept.grammar;
        score = c.list_line.ensures.kept.score ∙ c.loop-number.invariant.kept.score;
      };
    }

pub returns-clause-list : goal.returns-clause-list
returns-clause-list c =
    let lines = lines_in c.args.page.now in
    let all : length lines ≤ c.loop-number.number = omega (arith, all_counted (read_page c.args.page.now) c.args.count c.requires.counted, c.loop-number-test.false) in
    c.loop-number.invariant.list ∙ ap (λ whole. header ++ rows 0 whole) (take_all c.loop-number.number lines all)

pub returns-clause-state : goal.returns-clause-state
returns-clause-state c =
    let lines = lines_in c.args.page.now in
    let all : length lines ≤ c.loop-number.number = omega (arith, all_counted (read_page c.args.page.now) c.args.count c.requires.counted, c.loop-number-test.false) in
    c.loop-number.invariant.state ∙ ap (seen_after _) (take_all c.loop-number.number lines all)
