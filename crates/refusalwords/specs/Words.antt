-- The words of a refused call of a reader. Assumes nothing.
use Rattle.std.specs.Prelude.{ℕ, List, ◌++◌, codes, decimal}
use Rattle.reports.specs.Words.{page_words}
use Rattle.reader.specs.Refusals.{number_of, explained}
use Rattle.reader.specs.declared.refusals.Refusal.{Refusal}
use Rattle.reader.specs.declared.refusals.Refusal.TheVariants.{Page}

-- why a call was refused, of a bad page by the bytes of the page
abbrev pub reason_words : List ℕ → Refusal → List ℕ
reason_words page (Page f) = page_words page f
reason_words page r = explained r

-- the number of the refusal, and why
abbrev pub refused_words : List ℕ → Refusal → List ℕ
refused_words page r = codes "refused " ++ (decimal (number_of r) ++ (codes ", " ++ reason_words page r))
