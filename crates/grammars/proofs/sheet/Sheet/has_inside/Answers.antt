use Rattle.std.proofs.Common.{◌≡◌, true, false, ◌&&◌, sym, ◌∙◌, rules}
use Rattle.grammars.specs.Sheets.{between}
use Rattle.grammars.proofs.sheet.Sheet.has_inside.Goals as goal

pub returns-then-contains : goal.returns-then-contains
returns-then-contains c =
    let t = c.args.self.now in
    let p = c.args.pair in
    let latitude : between t.south t.north p.0 ≡ true = search rules in
    let longitude : c.contains-then-contains.result ≡ between t.west t.east p.1 = search rules in
    longitude ∙ sym (λ i. latitude i && between t.west t.east p.1)

pub returns-else-contains : goal.returns-else-contains
returns-else-contains c =
    let t = c.args.self.now in
    let p = c.args.pair in
    let latitude : between t.south t.north p.0 ≡ false = search rules in
    c.if-contains.false ∙ sym (λ i. latitude i && between t.west t.east p.1)
