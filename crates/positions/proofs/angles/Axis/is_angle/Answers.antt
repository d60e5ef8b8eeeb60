use Rattle.std.proofs.Common.{◌≡◌, ◌==◌, length, rules}
use Rattle.std.proofs.lemmas.Bool.Decides.{Decides-at}
use Rattle.positions.specs.Angles.{is_angle}
use Rattle.positions.proofs.Round.{angle_written}
use Rattle.positions.proofs.angles.Axis.is_angle.Goals as goal

pub returns-then-text-width-clause-written : goal.returns-then-text-width-clause-written
returns-then-text-width-clause-written c =
    let a = c.args.self in
    let s = c.args.text.now in
    let answer : c.has_form.result ≡ is_angle a s = search rules in
    Decides-at c.has_form.result (is_angle a s) answer (angle_written a s)

pub returns-else-text-width-clause-written : goal.returns-else-text-width-clause-written
returns-else-text-width-clause-written c =
    let a = c.args.self in
    let s = c.args.text.now in
    let answer : (length s == c.width.result) ≡ is_angle a s = search rules in
    Decides-at (length s == c.width.result) (is_angle a s) answer (angle_written a s)
