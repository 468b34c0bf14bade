-- `column_reader::read_row` meets its contract. Assumes nothing.
use Rattle.source_rules.specs.kinds.Rows.{tables_of}
use Rattle.row_reader.proofs.column_reader.Laws.{refused_answer, read_answer}
use Rattle.row_reader.proofs.column_reader.read_row.Goals as goal

pub returns-then-refusal-ne0 : goal.returns-then-refusal-ne0
returns-then-refusal-ne0 c =
    let z = c.args in
    let x = tables_of z.lengths.now z.places.now z.buffers.now z.body.now in
    let d = refused_answer z.formats.now z.schema.now x z.first z.n _ c.open_column-refusal.ensures.value z.row z.ids.now c.if-refusal-ne0.true in
    record { fact = (d.row_is, d.count_is); ids_value = d.ids_are }

pub returns : goal.returns
returns c =
    let z = c.args in
    let x = tables_of z.lengths.now z.places.now z.buffers.now z.body.now in
    let g = c.open_column-refusal.ensures in
    let a = c.row_at.ensures in
    let d = read_answer z.formats.now z.schema.now x z.first z.n _ g.value z.row z.ids.now c.if-refusal-ne0.false _ _ _ g.tree_value c.copied-words.ensures
    (record { row_is = a.fact.0; count_is = a.fact.1; ids_are = a.ids_value }) in
    record { fact = (d.row_is, d.count_is); ids_value = d.ids_are }
