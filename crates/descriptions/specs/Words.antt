-- The words for what a text is.
use Rattle.std.specs.Prelude.{ℕ, ◌/◌, ◌%◌, cond, List, ◌++◌, ℤ, pos, codes, decimal, int_lt, unsigned_abs}
use Rattle.positions.specs.Numerals.{numeral}
use Rattle.positions.specs.declared.angles.Axis.{Axis}
use Rattle.positions.specs.declared.angles.Axis.TheVariants as axes
use Rattle.descriptions.specs.declared.Kind.{Kind}
use Rattle.descriptions.specs.declared.Kind.TheVariants.{Date, Latitude, Longitude, OnSheet, OffSheet, Entry, Other}
use Rattle.descriptions.specs.declared.CornerFault.{CornerFault}
use Rattle.descriptions.specs.declared.CornerFault.TheVariants.{Southwest, Northeast, Order}

abbrev pub side_of : Axis → ℤ → List ℕ
side_of axes.Latitude z = cond (int_lt z (pos 0)) (codes "S") (codes "N")
side_of axes.Longitude z = cond (int_lt z (pos 0)) (codes "W") (codes "E")

-- degrees, minutes with three decimals, and the side of zero
unfoldable pub angle_words : Axis → ℤ → List ℕ
angle_words a z =
    decimal (unsigned_abs z / 60000)
    ++ (codes " " ++ (numeral 2 (unsigned_abs z / 1000 % 60) ++ (codes "." ++ (numeral 3 (unsigned_abs z % 1000) ++ (codes " " ++ side_of a z)))))

unfoldable pub pair_words : ℤ → ℤ → List ℕ
pair_words y x = angle_words axes.Latitude y ++ (codes " " ++ angle_words axes.Longitude x)

unfoldable pub kind_words : Kind → List ℕ
kind_words Date = codes "date"
kind_words Latitude = codes "latitude"
kind_words Longitude = codes "longitude"
kind_words (OnSheet y x) = codes "position " ++ (pair_words y x ++ codes " on the sheet")
kind_words (OffSheet y x) = codes "position " ++ (pair_words y x ++ codes " off the sheet")
kind_words Entry = codes "date and position on the sheet"
kind_words Other = codes "none of these"

unfoldable pub fault_words : CornerFault → List ℕ
fault_words Southwest = codes "the southwest corner is no position"
fault_words Northeast = codes "the northeast corner is no position"
fault_words Order = codes "the southwest corner lies north or east of the northeast corner"
