use Rattle.std.proofs.Common.{◌≡◌, ◌++◌, take}
use Rattle.scores.specs.Scores.{sum_meaning}
use Rattle.grammars.specs.Dates.{date_sets}
use Rattle.reader.specs.Views.{view, Kept, Agrees}
use Rattle.lists.specs.Lists.{header, rows}
use Rattle.lists.specs.Calls.{lines_in, seen_after}
use Rattle.lists.proofs.listing.list_lines.Given as goal

abbrev pub invariant-loop-number : goal.invariant-loop-number
invariant-loop-number l = record {
  list : l.list.items ≡ header ++ rows 0 (take l.number (lines_in l.page));
  state : view l.reader ≡ seen_after (view l.fn.reader) (take l.number (lines_in l.page));
  agrees : Agrees sum_meaning date_sets l.reader;
  kept : Kept l.fn.reader l.reader;
}
