use Rattle.std.proofs.Common.{◌≡◌, MatchResult, sym, subst}
use Rattle.runs.specs.Runs.{Runs}
use Rattle.settings.specs.declared.Wanted.{Wanted}
use Rattle.settings.specs.Settings.{meaning_of, sets_of}
use Rattle.settings.proofs.Setting.run.Goals as goal

-- the law is that of the positions on the sheet that the setting holds
pub returns-in-OnSheet : goal.returns-in-OnSheet
returns-in-OnSheet c =
    let made = c.run_scored-in-OnSheet in
    let Law : Wanted → Type 0 = λ w. MatchResult made.result
    (λ _. Runs (meaning_of c.args.self.now.scoring) (sets_of w) c.args.pages.now c.args.places.now c.args.rows.now made.new.rows made.new.places)
    (λ _. (made.new.rows ≡ c.args.rows.now) × (made.new.places ≡ c.args.places.now)) in
    record { law = subst Law (sym c.in-OnSheet.is) made.ensures.law }
