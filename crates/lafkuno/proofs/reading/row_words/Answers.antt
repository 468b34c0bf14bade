-- `lafkuno::reading::row_words` meets its contract. Assumes nothing.
use Rattle.lafkuno.proofs.Laws.{words_are}
use Rattle.lafkuno.proofs.reading.row_words.Goals as goal

pub returns : goal.returns
returns c = words_are c.args.numbers c.args.ids c.args.count c.requires.0 c.requires.1
