-- `widths::words_of` meets its contract. Assumes nothing.
use Rattle.array_data.specs.lent_tables.Lent.{tables}
use Rattle.widths.proofs.Called.{comes_by, words_by}
use borrow.Author.Rules.{rules}
use Rattle.widths.proofs.words_of.Goals as goal

pub words_anew-requires : goal.words_anew-requires
words_anew-requires c =
    let pre = c.requires in
    (search rules, pre.0, search rules, comes_by c.from_words-from.ensures pre.1)

pub returns : goal.returns
returns c =
    let a = c.args in
    words_by a.formats.now a.schema.now a.target a.n (tables a.lengths.now a.places.now a.body.now) a.first c.words_anew.ensures c.from_words-from.ensures
