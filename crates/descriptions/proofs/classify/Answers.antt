use Rattle.std.proofs.Common.{◌≡◌, true, false, Ok, rules}
use Rattle.positions.specs.declared.angles.Axis.TheVariants as axes
use Rattle.positions.specs.Angles.{is_angle}
use Rattle.positions.specs.Positions.{reading}
use Rattle.grammars.specs.Dates.{admits_date}
use Rattle.descriptions.specs.Kinds.{charted, kind_of}
use Rattle.descriptions.specs.declared.Kind.TheVariants.{OnSheet, OffSheet, Entry, Other}
use Rattle.descriptions.proofs.Truths.{true_as, placed_as}
use Rattle.descriptions.proofs.classify.Goals as goal

pub returns-in-Ok-clause-holds : goal.returns-in-Ok-clause-holds
returns-in-Ok-clause-holds c = true_as c.args.sheet.now c.args.text.now (OnSheet _ _) (search rules)

pub returns-in-Ok-2-clause-holds : goal.returns-in-Ok-2-clause-holds
returns-in-Ok-2-clause-holds c = true_as c.args.sheet.now c.args.text.now (OffSheet _ _) (search rules)

pub returns-in-Err-clause-holds : goal.returns-in-Err-clause-holds
returns-in-Err-clause-holds c = true_as c.args.sheet.now c.args.text.now Entry (search rules)

pub returns-in-Err-2-clause-holds : goal.returns-in-Err-2-clause-holds
returns-in-Err-2-clause-holds c = true_as c.args.sheet.now c.args.text.now Other (search rules)

pub returns-in-Ok-clause-value : goal.returns-in-Ok-clause-value
returns-in-Ok-clause-value c =
    let t = c.args.sheet.now in
    let s = c.args.text.now in
    let date : admits_date s ≡ false = search rules in
    let latitude : is_angle axes.Latitude s ≡ false = search rules in
    let longitude : is_angle axes.Longitude s ≡ false = search rules in
    let sheet : (charted t).admits s ≡ true = search rules in
    let read : reading s ≡ Ok (c.in-Ok.latitude, c.in-Ok.longitude) = search rules in
    let is : OnSheet c.in-Ok.latitude c.in-Ok.longitude ≡ kind_of t s = placed_as t s _ true date latitude longitude read sheet in
    search rules

pub returns-in-Ok-2-clause-value : goal.returns-in-Ok-2-clause-value
returns-in-Ok-2-clause-value c =
    let t = c.args.sheet.now in
    let s = c.args.text.now in
    let date : admits_date s ≡ false = search rules in
    let latitude : is_angle axes.Latitude s ≡ false = search rules in
    let longitude : is_angle axes.Longitude s ≡ false = search rules in
    let sheet : (charted t).admits s ≡ false = search rules in
    let read : reading s ≡ Ok (c.in-Ok.latitude, c.in-Ok.longitude) = search rules in
    let is : OffSheet c.in-Ok.latitude c.in-Ok.longitude ≡ kind_of t s = placed_as t s _ false date latitude longitude read sheet in
    search rules
