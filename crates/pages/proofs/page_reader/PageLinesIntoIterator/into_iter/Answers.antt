use Rattle.std.proofs.Common.{◌-◌, refl}
use Rattle.pages.proofs.Paging.{all_gathered}
use Rattle.pages.proofs.page_reader.PageLinesIntoIterator.into_iter.Goals as goal

pub returns : goal.returns
returns c =
    let p = c.args.self in
    record { into_iter_gives = record { from = refl; whole = all_gathered p.bytes.now (p.count - p.number) p.place p.number } }
