use Rattle.std.proofs.Common.{rules}
use Rattle.ffi.proofs.position.markbook_write_position.Goals as goal

pub returns-in-Ok-clause-place : goal.returns-in-Ok-clause-place
returns-in-Ok-clause-place c = let place = rw c.write_position.ensures.answer at c.write_position.ensures.written in search rules
