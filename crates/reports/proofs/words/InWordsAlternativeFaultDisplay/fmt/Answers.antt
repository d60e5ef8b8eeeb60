use Rattle.std.proofs.Common.{arith}
use Rattle.std.proofs.lemmas.Bool.{lt-ltb, le-ltb}
use Rattle.std.proofs.lemmas.Fmt.{hex_byte}
use Rattle.reports.proofs.words.InWordsAlternativeFaultDisplay.fmt.Goals as goal

pub returns-then-symbol-lt33-clause-writes : goal.returns-then-symbol-lt33-clause-writes
returns-then-symbol-lt33-clause-writes g c =
    rw (c.in-Symbol.is, ← c.byte_of-symbol.ensures, lt-ltb c.byte_of-symbol.result 33 c.if-symbol-lt33.true) (grind (arith, hex_byte))

pub returns-else-symbol-lt33-clause-writes : goal.returns-else-symbol-lt33-clause-writes
returns-else-symbol-lt33-clause-writes g c =
    rw (c.in-Symbol.is, ← c.byte_of-symbol.ensures, le-ltb c.byte_of-symbol.result 33 c.if-symbol-lt33.false) (grind (arith, hex_byte))
