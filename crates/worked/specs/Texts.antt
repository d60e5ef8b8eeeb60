-- Worked texts: what the definitions of angles, sheets, marks, scores, refusals and grants come to at values worked out by hand,
-- above all at their edges. Assumes nothing.
use Rattle.std.specs.Prelude.{◌≡◌, ℕ, true, false, Bool, List, [], ◌∷◌, map, replicate, pos, neg_ℤ, Some, Ok, Err, codes}
use Rattle.positions.specs.declared.angles.Axis.TheVariants.{Latitude, Longitude}
use Rattle.positions.specs.Angles.{angle_of}
use Rattle.grammars.specs.declared.Refusal.TheVariants.{Table}
use Rattle.grammars.specs.declared.sheet.Sheet.{Sheet}
use Rattle.grammars.specs.Grammars.{Sets, then_by}
use Rattle.grammars.specs.Angles.{angle_sets}
use Rattle.grammars.specs.Sheets.{sheet_sets, checking}
use Rattle.marks.specs.Marks.{mark_bytes, plotted}
use Rattle.scores.specs.Scores.{sum_meaning, shares_meaning, stepped}
use Rattle.pages.specs.Shape.{Cells}
use Rattle.reader.specs.declared.refusals.Refusal.TheVariants as refusal
use Rattle.reader.specs.Calls.{granting_to}
use Rattle.lists.specs.Lists.{date_list}
use Rattle.worked.specs.Worked.{alt}

-- whether a set holds each of some texts
abbrev pub each : (List ℕ → Bool) → List (List ℕ) → List Bool
each set texts = map set texts

abbrev pub all_of : ℕ → List Bool
all_of n = replicate n true

abbrev pub none_of : ℕ → List Bool
none_of n = replicate n false

-- a latitude and behind it a longitude
abbrev pub pairs : Sets
pairs = then_by 8 (angle_sets Latitude) (angle_sets Longitude)

-- 49 to 51 degrees north, 6 to 2 degrees west
abbrev pub channel : Sheet
channel = record { south = pos 2_940_000; north = pos 3_060_000; west = neg_ℤ (pos 360_000); east = neg_ℤ (pos 120_000) }

-- a single point; the south above the north; an east past the half turn
abbrev pub point : Sheet
point = record { south = pos 5; north = pos 5; west = pos 7; east = pos 7 }

abbrev pub crossed : Sheet
crossed = record { south = pos 6; north = pos 5; west = pos 0; east = pos 0 }

abbrev pub too_far_east : Sheet
too_far_east = record { south = pos 0; north = pos 0; west = pos 0; east = pos 10_800_001 }

-- a line of so many cells, with one alternative each
abbrev pub line_of_cells : ℕ → Cells
line_of_cells n = replicate n (alt 49 0 ∷ [])

-- THE WORKED TEXTS
pub record WorkedTexts : Type 0 where
  -- the poles and the half turn are admitted, and the farthest west; what lies past them is not, nor sixty minutes
  pub latitudes : each (angle_sets Latitude).admits (codes "9000000N" ∷ codes "9000000S" ∷ codes "8959999S" ∷ codes "0000000N" ∷ []) ≡ all_of 4
  pub no_latitudes : each (angle_sets Latitude).admits (codes "9000001N" ∷ codes "9000001S" ∷ codes "5060000N" ∷ codes "0000000S" ∷ codes "5012345E" ∷ []) ≡ none_of 5
  pub longitudes : each (angle_sets Longitude).admits (codes "18000000E" ∷ codes "17959999W" ∷ codes "00000000E" ∷ []) ≡ all_of 3
  pub no_longitudes : each (angle_sets Longitude).admits (codes "18000001E" ∷ codes "18000000W" ∷ codes "00000000W" ∷ codes "00460000W" ∷ codes "00412345N" ∷ []) ≡ none_of 5
  pub south_pole : angle_of Latitude (codes "9000000S") ≡ neg_ℤ (pos 5_400_000)
  pub half_turn : angle_of Longitude (codes "18000000E") ≡ pos 10_800_000
  pub farthest_west : angle_of Longitude (codes "17959999W") ≡ neg_ℤ (pos 10_799_999)
  -- openings of a latitude, of a longitude, and of the two together
  pub latitude_openings : each (angle_sets Latitude).allows (codes "" ∷ codes "90" ∷ codes "905" ∷ codes "9059999" ∷ codes "9000000N" ∷ []) ≡ all_of 5
  pub no_latitude_openings : each (angle_sets Latitude).allows (codes "91" ∷ codes "906" ∷ codes "501234N" ∷ codes "0000000S" ∷ codes "9000000N0" ∷ []) ≡ none_of 5
  pub longitude_openings : each (angle_sets Longitude).allows (codes "99" ∷ codes "180" ∷ codes "1805" ∷ codes "18000000E" ∷ []) ≡ all_of 4
  pub no_longitude_openings : each (angle_sets Longitude).allows (codes "181" ∷ codes "1806" ∷ codes "18000000W" ∷ codes "18000000E0" ∷ []) ≡ none_of 4
  pub pair_openings : each pairs.allows (codes "5012345N" ∷ codes "5012345N0" ∷ codes "5012345N1805" ∷ []) ≡ all_of 3
  pub no_pair_openings : each pairs.allows (codes "9059999N" ∷ codes "9059999N0" ∷ codes "5012345N181" ∷ []) ≡ none_of 3
  -- on the sheet: its corners, and one inside; off it to the north, the south, the west and the east
  pub on_channel : each (sheet_sets channel).admits (codes "4900000N00600000W" ∷ codes "5100000N00200000W" ∷ codes "5012345N00412345W" ∷ []) ≡ all_of 3
  pub off_channel : each (sheet_sets channel).admits (codes "5100001N00412345W" ∷ codes "4859999N00412345W" ∷ codes "5012345N00600001W" ∷ codes "5012345N00159999W" ∷ []) ≡ none_of 4
  pub sheet_openings : each (sheet_sets channel).allows (codes "" ∷ codes "no position at al" ∷ codes "5012345N00412345W" ∷ []) ≡ true ∷ false ∷ true ∷ []
  pub sheet_openings_of_16 : each (sheet_sets channel).allows (codes "no position at a" ∷ codes "5012345N00412345W0" ∷ []) ≡ true ∷ false ∷ []
  -- a table of one point holds; one with the south above the north fails, and one that reaches too far east
  pub point_holds : checking point ≡ Ok tt
  pub channel_holds : checking channel ≡ Ok tt
  pub crossed_fails : checking crossed ≡ Err Table
  pub too_far_east_fails : checking too_far_east ≡ Err Table
  pub on_failed : each (sheet_sets too_far_east).admits (codes "0000000N00000000E" ∷ []) ≡ none_of 1
  pub failed_openings : each (sheet_sets too_far_east).allows (codes "" ∷ codes "0" ∷ []) ≡ true ∷ false ∷ []
  -- the eight bytes of a mark, and what they say
  pub mark : mark_bytes (record { latitude = pos 3_012_345; longitude = neg_ℤ (pos 252_345) }) ≡ 0x00 ∷ 0x2D ∷ 0xF6 ∷ 0xF9 ∷ 0xFF ∷ 0xFC ∷ 0x26 ∷ 0x47 ∷ []
  pub mark_read : plotted (0x00 ∷ 0x2D ∷ 0xF6 ∷ 0xF9 ∷ 0xFF ∷ 0xFC ∷ 0x26 ∷ 0x47 ∷ []) ≡ (pos 3_012_345, neg_ℤ (pos 252_345))
  -- totals, and steps that are held
  pub sum : stepped sum_meaning sum_meaning.start (0 ∷ 3 ∷ 65_535 ∷ []) ≡ 65_538
  pub sum_held : sum_meaning.step 4_294_967_295 1 ≡ 4_294_967_295
  pub shares : stepped shares_meaning shares_meaning.start (10 ∷ 20 ∷ 99 ∷ []) ≡ 7_200
  pub shares_of_150 : shares_meaning.step 7_200 150 ≡ 7_200
  pub shares_held : shares_meaning.step 1_000_000_000_000_000_000 0 ≡ 1_000_000_000_000_000_000
  -- cells times chains: 4,095 at most, and at least one chain
  pub most_of_15 : granting_to (Some (line_of_cells 15)) 0 273 ≡ Ok tt
  pub too_many_of_15 : granting_to (Some (line_of_cells 15)) 0 274 ≡ Err refusal.Grant
  pub most_of_1 : granting_to (Some (line_of_cells 1)) 95 4_000 ≡ Ok tt
  pub too_many_of_1 : granting_to (Some (line_of_cells 1)) 96 4_000 ≡ Err refusal.Grant
  pub grant_of_none : granting_to (Some (line_of_cells 1)) 0 0 ≡ Err refusal.Grant
  -- what is wrong with a page, and where: a byte is missing, twice; a symbol is a blank; one comes twice; a penalty is below the one
  -- before; a byte stands behind the last line
  pub short : date_list [] ≡ codes "refused 1 at 0\n"
  pub short_behind : date_list (0x01 ∷ 0x01 ∷ 0x02 ∷ 0x21 ∷ 0x01 ∷ 0x00 ∷ 0x22 ∷ 0x00 ∷ []) ≡ codes "refused 1 at 8\n"
  pub blank :
      date_list (0x03 ∷ 0x01 ∷ 0x01 ∷ 0x41 ∷ 0x00 ∷ 0x00 ∷ 0x01 ∷ 0x01 ∷ 0x42 ∷ 0x00 ∷ 0x00 ∷ 0x01 ∷ 0x01 ∷ 0x20 ∷ []) ≡ codes "refused 3 at 13\n"
  pub twice : date_list (0x01 ∷ 0x01 ∷ 0x02 ∷ 0x33 ∷ 0x00 ∷ 0x00 ∷ 0x33 ∷ 0x00 ∷ 0x01 ∷ []) ≡ codes "refused 4 at 6\n"
  pub falling : date_list (0x01 ∷ 0x01 ∷ 0x02 ∷ 0x33 ∷ 0x00 ∷ 0x05 ∷ 0x32 ∷ 0x00 ∷ 0x04 ∷ []) ≡ codes "refused 5 at 7\n"
  pub excess : date_list (0x01 ∷ 0x01 ∷ 0x01 ∷ 0x33 ∷ 0x00 ∷ 0x00 ∷ 0x00 ∷ []) ≡ codes "refused 6 at 6\n"
