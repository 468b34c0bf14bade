-- `columns::sources_ground` meets its contract. Assumes nothing.
use mathlib.Core.Path.{sym, ◌∙◌}
use Rattle.array_data.proofs.lent_tables.Laws.{no, yes}
use Rattle.source_rules.specs.kinds.Rows.{tables_of}
use Rattle.columns.proofs.Answers.{all_within_as, none_small, not_few, not_all_within, not_all_typed, not_all_same, not_all_obey, all_good}
use Rattle.columns.proofs.sources_ground.Goals as goal

pub returns-then-not-is_small : goal.returns-then-not-is_small
returns-then-not-is_small c =
    let z = c.args in
    let x = tables_of z.lengths.now z.places.now z.buffers.now z.body.now in
    none_small z.formats.now z.schema.now x z.sources.now (no c.is_small.ensures c.if-not-is_small.true-raw)

pub returns-then-not-are_few : goal.returns-then-not-are_few
returns-then-not-are_few c =
    let z = c.args in
    let x = tables_of z.lengths.now z.places.now z.buffers.now z.body.now in
    not_few z.formats.now z.schema.now x z.sources.now (yes c.is_small.ensures c.if-not-is_small.false-raw) (no c.are_few.ensures c.if-not-are_few.true-raw)

pub returns-then-not-all_within : goal.returns-then-not-all_within
returns-then-not-all_within c =
    let z = c.args in
    let x = tables_of z.lengths.now z.places.now z.buffers.now z.body.now in
    let same = all_within_as z.formats.now z.schema.now z.lengths.now z.places.now z.buffers.now z.body.now z.sources.now in
    not_all_within z.formats.now z.schema.now x z.sources.now (yes c.is_small.ensures c.if-not-is_small.false-raw) (yes c.are_few.ensures c.if-not-are_few.false-raw) (sym same ∙ no c.all_within.ensures c.if-not-all_within.true-raw)

pub returns-then-not-all_typed : goal.returns-then-not-all_typed
returns-then-not-all_typed c =
    let z = c.args in
    let x = tables_of z.lengths.now z.places.now z.buffers.now z.body.now in
    let same = all_within_as z.formats.now z.schema.now z.lengths.now z.places.now z.buffers.now z.body.now z.sources.now in
    not_all_typed z.formats.now z.schema.now x z.sources.now (yes c.is_small.ensures c.if-not-is_small.false-raw) (yes c.are_few.ensures c.if-not-are_few.false-raw) (sym same ∙ yes c.all_within.ensures c.if-not-all_within.false-raw) (no c.all_typed.ensures c.if-not-all_typed.true-raw)

pub returns-then-not-all_same : goal.returns-then-not-all_same
returns-then-not-all_same c =
    let z = c.args in
    let x = tables_of z.lengths.now z.places.now z.buffers.now z.body.now in
    let same = all_within_as z.formats.now z.schema.now z.lengths.now z.places.now z.buffers.now z.body.now z.sources.now in
    not_all_same z.formats.now z.schema.now x z.sources.now (yes c.is_small.ensures c.if-not-is_small.false-raw) (yes c.are_few.ensures c.if-not-are_few.false-raw) (sym same ∙ yes c.all_within.ensures c.if-not-all_within.false-raw) (yes c.all_typed.ensures c.if-not-all_typed.false-raw) (no c.all_same.ensures c.if-not-all_same.true-raw)

pub all_obey-requires : goal.all_obey-requires
all_obey-requires c = (yes c.all_within.ensures c.if-not-all_within.false-raw, yes c.all_typed.ensures c.if-not-all_typed.false-raw)

pub returns-then-not-all_obey : goal.returns-then-not-all_obey
returns-then-not-all_obey c =
    let z = c.args in
    let x = tables_of z.lengths.now z.places.now z.buffers.now z.body.now in
    let same = all_within_as z.formats.now z.schema.now z.lengths.now z.places.now z.buffers.now z.body.now z.sources.now in
    not_all_obey z.formats.now z.schema.now x z.sources.now (yes c.is_small.ensures c.if-not-is_small.false-raw) (yes c.are_few.ensures c.if-not-are_few.false-raw) (sym same ∙ yes c.all_within.ensures c.if-not-all_within.false-raw) (yes c.all_typed.ensures c.if-not-all_typed.false-raw) (yes c.all_same.ensures c.if-not-all_same.false-raw) (no c.all_obey.ensures c.if-not-all_obey.true-raw)

pub returns : goal.returns
returns c =
    let z = c.args in
    let x = tables_of z.lengths.now z.places.now z.buffers.now z.body.now in
    let same = all_within_as z.formats.now z.schema.now z.lengths.now z.places.now z.buffers.now z.body.now z.sources.now in
    all_good z.formats.now z.schema.now x z.sources.now (yes c.is_small.ensures c.if-not-is_small.false-raw) (yes c.are_few.ensures c.if-not-are_few.false-raw) (sym same ∙ yes c.all_within.ensures c.if-not-all_within.false-raw) (yes c.all_typed.ensures c.if-not-all_typed.false-raw) (yes c.all_same.ensures c.if-not-all_same.false-raw) (yes c.all_obey.ensures c.if-not-all_obey.false-raw)
