use Rattle.std.proofs.Common.{rules, string_bytes}
use Rattle.std.specs.Slice.Iter.{iter_rest}
use Rattle.std.proofs.lemmas.Slice.Zip.{Zip-more, either_empty_from_Zip}
use Rattle.plays.proofs.Lines.{left_all, left_less, left_none}
use Rattle.plays.proofs.play.Play.lines.Goals as goal

pub loop-text-init : goal.loop-text-init
loop-text-init c = left_all (search rules) (search rules) (search rules)

pub loop-text-preserved : goal.loop-text-preserved
loop-text-preserved c =
    let before = c.loop-text.text-iterator in
    let after = c.next.new.self in
    let turn = Zip-more before after c.next.result (c.in-Some.text, c.in-Some.row) c.in-Some.is c.next.ensures.steps in
    left_less c.loop-text.invariant c.in-Some.text.now c.in-Some.row.now (iter_rest after.a) (iter_rest after.b) (string_bytes c.in_ok-line.line) (string_bytes c.push_str.new.self) turn.0 turn.1 (search rules) (search rules)

pub returns : goal.returns
returns c =
    left_none c.loop-text.invariant (either_empty_from_Zip c.loop-text.text-iterator c.next.new.self c.next.result (search rules) c.next.ensures.steps)
