use Rattle.std.proofs.Common.{◌≡◌, take, drop, Some, None, Ok, Err, sym, ◌∙◌, subst, w32, to_z, of_z, rules}
use Rattle.std.specs.Option.{ok_or, option_zip}
use Rattle.positions.specs.declared.angles.Axis.TheVariants.{Latitude, Longitude}
use Rattle.positions.specs.declared.Refusal.TheVariants.{Position}
use Rattle.positions.specs.Angles.{angle_read}
use Rattle.positions.specs.Positions.{reading}
use Rattle.positions.proofs.Round.{Said, said, angles_read}
use Rattle.positions.proofs.read_position.Goals as goal

pub returns-then-text-ne17-clause-said : goal.returns-then-text-ne17-clause-said
returns-then-text-ne17-clause-said c =
    let s = c.args.text.now in
    let read : Err Position ≡ reading s = search rules in
    subst (Said s) (sym read) (said s)

pub returns-in_err-latitude-clause-said : goal.returns-in_err-latitude-clause-said
returns-in_err-latitude-clause-said c =
    let s = c.args.text.now in
    let read : c.from_residual.result ≡ reading s = search rules in
    subst (Said s) (sym read) (said s)

pub returns-in_err-longitude : goal.returns-in_err-longitude
returns-in_err-longitude c =
    let s = c.args.text.now in
    let y : c.read.result ≡ angle_read Latitude (take 8 s) = search rules in
    let x : c.read-2.result ≡ angle_read Longitude (drop 8 s) = search rules in
    let some : c.read.result ≡ Some c.in_ok-latitude.latitude = search rules in
    let none : c.read-2.result ≡ None = search rules in
    let gone : c.from_residual-in_err-longitude.result ≡ Err Position = search rules in
    let read : c.from_residual-in_err-longitude.result ≡ reading s =
    gone ∙ (λ i. ok_or (option_zip ((sym some ∙ y) i) ((sym none ∙ x) i)) Position) ∙ angles_read s in
    record { answer = read; said = subst (Said s) (sym read) (said s) }

pub returns : goal.returns
returns c =
    let s = c.args.text.now in
    let y : c.read.result ≡ angle_read Latitude (take 8 s) = search rules in
    let x : c.read-2.result ≡ angle_read Longitude (drop 8 s) = search rules in
    let some : c.read.result ≡ Some c.in_ok-latitude.latitude = search rules in
    let other : c.read-2.result ≡ Some c.in_ok-longitude.longitude = search rules in
    let same : Ok (to_z w32 (of_z w32 c.in_ok-latitude.latitude), to_z w32 (of_z w32 c.in_ok-longitude.longitude)) ≡ Ok (c.in_ok-latitude.latitude, c.in_ok-longitude.longitude) = search rules in
    let read : Ok (to_z w32 (of_z w32 c.in_ok-latitude.latitude), to_z w32 (of_z w32 c.in_ok-longitude.longitude)) ≡ reading s =
    same ∙ (λ i. ok_or (option_zip ((sym some ∙ y) i) ((sym other ∙ x) i)) Position) ∙ angles_read s in
    record { answer = read; said = subst (Said s) (sym read) (said s) }
