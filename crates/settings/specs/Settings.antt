-- What a setting asks for: the meaning of its score and the sets of its grammar. Assumes nothing.
use Rattle.scores.specs.Scores.{Meaning, sum_meaning, shares_meaning}
use Rattle.grammars.specs.Grammars.{Sets, then_by}
use Rattle.grammars.specs.Angles.{angle_sets}
use Rattle.grammars.specs.Dates.{date_sets}
use Rattle.descriptions.specs.Kinds.{charted}
use Rattle.positions.specs.declared.angles.Axis.TheVariants.{Latitude, Longitude}
use Rattle.settings.specs.declared.Scoring.{Scoring}
use Rattle.settings.specs.declared.Scoring.TheVariants as scoring
use Rattle.settings.specs.declared.Wanted.{Wanted}
use Rattle.settings.specs.declared.Wanted.TheVariants.{Dates, Positions, OnSheet}

abbrev pub meaning_of : Scoring → Meaning
meaning_of scoring.Sum = sum_meaning
meaning_of scoring.Shares = shares_meaning

-- the dates; the latitudes each with a longitude behind it; those of a sheet
abbrev pub sets_of : Wanted → Sets
sets_of Dates = date_sets
sets_of Positions = then_by 8 (angle_sets Latitude) (angle_sets Longitude)
sets_of (OnSheet t) = charted t
