use Rattle.std.proofs.Common.{heap_items}
use Rattle.bench.proofs.Orders.{peeked}
use Rattle.bench.proofs.Bench.first.Goals as goal

pub returns : goal.returns
returns g c =
    let told = c.peek.ensures in
    let bench = c.args.self.now in
    peeked g.S.Score.meaning (λ p. p.now) (heap_items bench.places) _ bench.places.data.ok.0 c.peek.result told.variant told.lookup told.greatest c.requires
