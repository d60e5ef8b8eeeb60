use Rattle.std.proofs.Common.{◌≡◌, ◌+◌, ◌-◌, ◌/◌, ◌%◌, [], ◌∷◌, ◌++◌, length, nat_abs, ap, ◌∙◌, arith, w32, rules}
use Rattle.std.proofs.lemmas.Int.{to_z-of_z}
use Rattle.std.proofs.lemmas.List.{places}
use Rattle.positions.specs.Angles.{figures_of, letter_for}
use Rattle.positions.proofs.Figures.{as_numeral, filled}
use Rattle.positions.proofs.angles.Axis.write.Goals as goal

pub returns : goal.returns
returns c =
    let k = c.degree_figures-at.result in
    let a = c.args.self in
    let z = c.args.angle in
    let x = c.write_number.new.place in
    let y = c.write_number-2.new.place in
    let t = c.write_number-3.new.place in
    let long-x : length x ≡ k = search (rules, places) in
    let long-y : length y ≡ 2 = search (rules, places) in
    let long-t : length t ≡ 3 = search (rules, places) in
    let itself = to_z-of_z w32 z c.ranges.angle in
    let size : c.unsigned_abs-magnitude.result ≡ nat_abs z = c.unsigned_abs-magnitude.ensures.value ∙ ap nat_abs itself in
    let x-is = as_numeral x (figures_of a) _ _ (nat_abs z / 60000) c.write_number.ensures (long-x ∙ c.degree_figures-at.ensures.value) (ap (λ m. m / 60000) size) in
    let y-is = as_numeral y 2 _ _ (nat_abs z / 1000 % 60) c.write_number-2.ensures long-y (ap (λ m. m / 1000 % 60) size) in
    let t-is = as_numeral t 3 _ _ (nat_abs z % 1000) c.write_number-3.ensures long-t (ap (λ m. m % 1000) size) in
    let h-is = c.letter.ensures ∙ ap (letter_for a) itself in
    filled k (k + 2 - k) (k + 5 - (k + 2)) c.args.place.now x y t c.letter.result (omega arith) long-x long-y long-t (omega arith) (omega arith)
    ∙ (λ i. x-is i ++ (y-is i ++ (t-is i ++ (h-is i ∷ []))))
