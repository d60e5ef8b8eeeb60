use Rattle.std.proofs.Common.{◌≡◌, true, ◌++◌, length, take, drop, sym, ap, ◌∙◌, w32, rules}
use Rattle.std.proofs.lemmas.List.{places, drop-drop, take_at}
use Rattle.std.proofs.lemmas.Int.{to_z-of_z}
use Rattle.positions.specs.Angles.{angle_text}
use Rattle.positions.specs.declared.angles.Axis.TheVariants.{Latitude, Longitude}
use Rattle.positions.specs.Positions.{is_pair, position_text, reading}
use Rattle.positions.proofs.Figures.{put_next}
use Rattle.positions.proofs.Round.{pair_back, one_text, text_long}
use Rattle.positions.proofs.write_position.Goals as goal

pub returns : goal.returns
returns c =
    let p = c.args.place.now in
    let latitude = c.args.pair.0 in
    let longitude = c.args.pair.1 in
    let y = c.write.new.place in
    let x = c.write-2.new.place in
    let long : length y ≡ 8 = search (rules, places) in
    let y-is = c.write.ensures ∙ ap (angle_text Latitude) (to_z-of_z w32 latitude (search rules)) in
    let x-is = c.write-2.ensures ∙ ap (angle_text Longitude) (to_z-of_z w32 longitude (search rules)) in
    let written = put_next 8 9 y (drop 8 p) x long ∙ (λ i. (y-is i ++ x-is i) ++ drop-drop 9 8 p i) in
    let pair : is_pair latitude longitude ≡ true = search rules in
    let text = ap (take 17) written ∙ take_at (position_text latitude longitude) (drop 17 p) 17 (text_long latitude longitude pair) in
    record {
      answer = search rules;
      written = written;
      back = ap reading text ∙ pair_back latitude longitude pair;
      only = λ s e. one_text latitude longitude s e ∙ sym text;
    }
