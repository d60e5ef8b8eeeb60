-- What is returned of each refusal, and its words. Assumes nothing.
use Rattle.std.specs.Prelude.{ℕ, List, codes}
use Rattle.placefault.specs.Numbers.{place_number}
use Rattle.pages.specs.declared.faults.Details.{Details}
use Rattle.pages.specs.Faults.{number_alone, page_details}
use Rattle.reader.specs.declared.refusals.Refusal.{Refusal}
use Rattle.reader.specs.declared.refusals.Refusal.TheVariants.{Page, Score, NoLine, Grant, Place, LineNumber}

-- the number of each refusal with its values, of a bad page those of the fault inside
abbrev pub details_of : Refusal → Details
details_of (Page fault) = page_details fault
details_of Score = number_alone 7
details_of NoLine = number_alone 8
details_of Grant = number_alone 9
details_of Place = number_alone place_number
details_of LineNumber = number_alone 13

abbrev pub number_of : Refusal → ℕ
number_of r = (details_of r).number

-- why a call was refused, but for the words that the fault of a bad page has
unfoldable pub explained : Refusal → List ℕ
explained (Page fault) = codes "the page is bad"
explained Score = codes "the score does not take the line"
explained NoLine = codes "no line is loaded"
explained Grant = codes "the grant is 0 or too large"
explained Place = codes "the place is too short"
explained LineNumber = codes "the page has no such line"
