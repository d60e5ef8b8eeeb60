use Rattle.std.proofs.Common.{arith}
use Rattle.lists.proofs.Short.{always_short}
use Rattle.lists.proofs.listing.list_dates.Goals as goal

pub returns-then-place-lt-MOST_BYTES-clause-short : goal.returns-then-place-lt-MOST_BYTES-clause-short
returns-then-place-lt-MOST_BYTES-clause-short c = always_short c.args.page.now (λ i. (c.type_inv.page i).fits) (omega arith)
