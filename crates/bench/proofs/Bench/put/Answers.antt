use Rattle.std.proofs.Common.{◌<◌, ◌≤◌, heap_len, ◌∙◌, arith}
use Rattle.std.specs.BinaryHeap.{heap_capacity}
use Rattle.bench.specs.Chains.{cells_of}
use Rattle.bench.proofs.Benches.{many_on, holds_put}
use Rattle.bench.proofs.Bench.put.Goals as goal

pub unwrap-requires : goal.unwrap-requires
unwrap-requires g c =
    let bench = c.args.self.now in
    let left : heap_len bench.places < heap_capacity bench.places =
    omega (arith, c.requires.room, c.requires.holds.room, many_on (cells_of c.args.chain) bench) in
    c.push.ensures.succeeds left

pub returns : goal.returns
returns g c =
    let chain = c.args.chain in
    let told = c.of.ensures in
    let pushed = c.push.ensures in
    let room : 4096 ≤ heap_capacity c.push.new.self = omega (arith, pushed.capacity, c.requires.holds.room) in
    holds_put g.S.Score.meaning (cells_of chain) c.args.self.now _ c.requires.holds ((rw c.unwrap.ensures at pushed.heap_order) c.requires.holds.ready) room c.of.result chain.ranks.now told.ranks chain.of_line (told.total ∙ c.requires.total) (rw c.unwrap.ensures at pushed.permutation)
