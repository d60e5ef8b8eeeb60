use Rattle.std.proofs.Common.{refl, arith}
use Rattle.reader.proofs.Readers.{agrees_on, from_page}
use Rattle.reader.proofs.calls.Reader.load.Goals as goal

pub returns-clause-same_bytes : goal.returns-clause-same_bytes
returns-clause-same_bytes g c = from_page g.S.Score.meaning c.args.page.now c.args.number (c.in_ok-line_of_page.ensures.accepted)

pub returns-clause-agrees : goal.returns-clause-agrees
returns-clause-agrees g c =
    let sets = g.G.Grammar.meaning c.args.self.now.grammar in
    agrees_on g.S.Score.meaning sets _ c.in_ok-line.line refl
    (record { fewer = omega arith; bench = c.begin.ensures sets (g.met.G.Grammar.laws c.args.self.now.grammar) })
