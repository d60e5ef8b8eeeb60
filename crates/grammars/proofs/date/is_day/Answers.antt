use Rattle.std.proofs.Common.{◌≡◌, true, ◌&&◌, sym, ◌∙◌, rules}
use Rattle.positions.specs.Numerals.{within}
use Rattle.grammars.specs.Dates.{length_of}
use Rattle.grammars.proofs.date.is_day.Goals as goal
use Rattle.grammars.proofs.date.is_day.Goals.{then-contains, else-contains}

pub returns-then-contains-2 : goal.returns-then-contains-2
returns-then-contains-2 c =
    elim c.if-contains.branch [
      | then-contains w ↦
          let year : within 1900 2099 c.args.year ≡ true = search rules in
          let month : within 1 12 c.args.month ≡ true = search rules in
          let day : c.contains-then-contains-2.result ≡ within 1 (length_of c.args.month c.args.year) c.args.day = search rules in
          day ∙ sym (λ i. year i && (month i && within 1 (length_of c.args.month c.args.year) c.args.day))
      | else-contains w ↦ search rules
    ]
