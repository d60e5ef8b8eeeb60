use Rattle.std.proofs.lemmas.Iterator.Consumers.{map_from_collect}
use Rattle.linewords.proofs.Blanks.{words_read}
use Rattle.linewords.proofs.words_of.Goals as goal

pub returns : goal.returns
returns c = map_from_collect _ c.collect.ensures.ran (words_read c.args.line.now c.split_ascii_whitespace.ensures.text)
