use Rattle.pages.specs.Answers.{line_of}
use Rattle.bench.proofs.Benches.{holds_removed}
use Rattle.bench.proofs.Bench.remove_first.Goals as goal

pub returns : goal.returns
returns g c =
    let told = c.pop.ensures in
    holds_removed g.S.Score.meaning (line_of c.args.line.now) c.args.self.now _ c.requires.holds _ c.pop.result told.capacity told.none told.unchanged told.top told.permutation told.heap_order
