use Rattle.plays.specs.Sources.{Gained}
use Rattle.plays.proofs.source.read_behind.Given as goal

abbrev pub invariant-loop : goal.invariant-loop
invariant-loop g l = Gained g.S.Read.remaining l.initial.page l.page l.initial.bytes.items l.bytes.items
