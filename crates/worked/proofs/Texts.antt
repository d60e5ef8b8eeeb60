-- The worked texts: each comes out by computing. Assumes nothing.
use Rattle.std.proofs.Common.{refl}
use Rattle.grammars.specs.Dates.{longest}
use Rattle.std.specs.Fmt.{digits}
use Rattle.lists.specs.Lists.{row, rows, header}
use Rattle.pages.specs.Reading.{read_page, read_lines, read_line, read_cells, read_cell, read_alternatives}
use Rattle.worked.specs.Texts.{WorkedTexts}

pub worked_texts : WorkedTexts
unfolding longest digits row rows header read_page read_lines read_line read_cells read_cell read_alternatives
worked_texts = record {
  latitudes = refl;
  no_latitudes = refl;
  longitudes = refl;
  no_longitudes = refl;
  south_pole = refl;
  half_turn = refl;
  farthest_west = refl;
  latitude_openings = refl;
  no_latitude_openings = refl;
  longitude_openings = refl;
  no_longitude_openings = refl;
  pair_openings = refl;
  no_pair_openings = refl;
  on_channel = refl;
  off_channel = refl;
  sheet_openings = refl;
  sheet_openings_of_16 = refl;
  point_holds = refl;
  channel_holds = refl;
  crossed_fails = refl;
  too_far_east_fails = refl;
  on_failed = refl;
  failed_openings = refl;
  mark = refl;
  mark_read = refl;
  sum = refl;
  sum_held = refl;
  shares = refl;
  shares_of_150 = refl;
  shares_held = refl;
  most_of_15 = refl;
  too_many_of_15 = refl;
  most_of_1 = refl;
  too_many_of_1 = refl;
  grant_of_none = refl;
  short = refl;
  short_behind = refl;
  blank = refl;
  twice = refl;
  falling = refl;
  excess = refl;
}
