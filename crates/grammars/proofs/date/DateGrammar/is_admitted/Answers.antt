use Rattle.std.proofs.lemmas.Bool.Decides.{Decides-at}
use Rattle.grammars.specs.Dates.{admits_date}
use Rattle.grammars.proofs.Calendar.{admitted_dated, calendar}
use Rattle.grammars.proofs.date.DateGrammar.is_admitted.Goals as goal

pub returns-clause-dated : goal.returns-clause-dated
returns-clause-dated c = let s = c.args.text.now in Decides-at c.is_date.result (admits_date s) c.is_date.ensures (admitted_dated s)

pub returns-clause-calendar : goal.returns-clause-calendar
returns-clause-calendar c = calendar
