use Rattle.std.proofs.Common.{string_bytes}
use Rattle.std.specs.Slice.Iter.{iter_rest}
use Rattle.plays.specs.Words.{call_lines}
use Rattle.plays.proofs.Lines.{Left}
use Rattle.plays.proofs.play.Play.lines.Given as goal

abbrev pub invariant-loop-text : goal.invariant-loop-text
invariant-loop-text l =
    let pages = l.self.pages.items in
    let places = l.self.places.items in
    Left pages places (string_bytes l.lines) (iter_rest l.text-iterator.a) (iter_rest l.text-iterator.b) (call_lines pages places l.self.texts.items l.self.rows.items)
