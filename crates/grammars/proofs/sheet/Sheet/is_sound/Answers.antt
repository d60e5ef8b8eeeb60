use Rattle.std.proofs.Common.{◌≡◌, true, ◌&&◌, sym, ◌∙◌, rules, int_le}
use Rattle.positions.specs.Positions.{is_pair}
use Rattle.grammars.proofs.sheet.Sheet.is_sound.Goals as goal

pub returns-then-is_pair : goal.returns-then-is_pair
returns-then-is_pair c =
    let t = c.args.self.now in
    let ordered : (int_le t.south t.north && int_le t.west t.east) ≡ true = search rules in
    let low : is_pair t.south t.west ≡ true = search rules in
    let high : c.is_pair-then-is_pair.result ≡ is_pair t.north t.east = search rules in
    high ∙ sym (λ i. ordered i && (low i && is_pair t.north t.east))

pub returns-else-self-2 : goal.returns-else-self-2
returns-else-self-2 c =
    let t = c.args.self.now in
    let ordered : (int_le t.south t.north && int_le t.west t.east) ≡ c.if-self.value = search rules in
    c.if-self-2.false ∙ sym (λ i. (ordered ∙ c.if-self-2.false) i && (is_pair t.south t.west && is_pair t.north t.east))
