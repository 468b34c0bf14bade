-- `columns::column_ground` meets its contract. Assumes nothing.
use mathlib.Core.Path.{sym, ◌∙◌}
use native.Mathlib.Omega.{arith}
use Rattle.array_data.proofs.lent_tables.Laws.{no, yes}
use Rattle.source_rules.specs.kinds.Rows.{tables_of}
use Rattle.columns.specs.Grounds.{obeys}
use Rattle.columns.proofs.Answers.{within_as, ready, not_small, not_within, not_typed, not_obeying, one_good}
use Rattle.columns.proofs.column_ground.Goals as goal

pub returns-then-not-is_small : goal.returns-then-not-is_small
returns-then-not-is_small c =
    let z = c.args in
    let x = tables_of z.lengths.now z.places.now z.buffers.now z.body.now in
    not_small z.formats.now z.schema.now x z.first z.n (no c.is_small.ensures c.if-not-is_small.true-raw)

pub returns-then-not-is_within : goal.returns-then-not-is_within
returns-then-not-is_within c =
    let z = c.args in
    let x = tables_of z.lengths.now z.places.now z.buffers.now z.body.now in
    let same = within_as z.formats.now z.schema.now z.lengths.now z.places.now z.buffers.now z.body.now z.first z.n in
    not_within z.formats.now z.schema.now x z.first z.n (yes c.is_small.ensures c.if-not-is_small.false-raw) (sym same ∙ no c.is_within.ensures c.if-not-is_within.true-raw)

pub returns-then-not-is_typed : goal.returns-then-not-is_typed
returns-then-not-is_typed c =
    let z = c.args in
    let x = tables_of z.lengths.now z.places.now z.buffers.now z.body.now in
    let same = within_as z.formats.now z.schema.now z.lengths.now z.places.now z.buffers.now z.body.now z.first z.n in
    not_typed z.formats.now z.schema.now x z.first z.n (yes c.is_small.ensures c.if-not-is_small.false-raw) (sym same ∙ yes c.is_within.ensures c.if-not-is_within.false-raw) (no c.is_typed.ensures c.if-not-is_typed.true-raw)

pub source_ok-requires : goal.source_ok-requires
source_ok-requires c =
    let z = c.args in
    let x = tables_of z.lengths.now z.places.now z.buffers.now z.body.now in
    let same = within_as z.formats.now z.schema.now z.lengths.now z.places.now z.buffers.now z.body.now z.first z.n in
    ready z.formats.now z.schema.now x z.first z.n (omega arith) (sym same ∙ yes c.is_within.ensures c.if-not-is_within.false-raw) (yes c.is_typed.ensures c.if-not-is_typed.false-raw)

pub returns-then-not-source_ok : goal.returns-then-not-source_ok
unfolding obeys
returns-then-not-source_ok c =
    let z = c.args in
    let x = tables_of z.lengths.now z.places.now z.buffers.now z.body.now in
    let same = within_as z.formats.now z.schema.now z.lengths.now z.places.now z.buffers.now z.body.now z.first z.n in
    not_obeying z.formats.now z.schema.now x z.first z.n (yes c.is_small.ensures c.if-not-is_small.false-raw) (sym same ∙ yes c.is_within.ensures c.if-not-is_within.false-raw) (yes c.is_typed.ensures c.if-not-is_typed.false-raw) (no c.source_ok.ensures c.if-not-source_ok.true-raw)

pub returns : goal.returns
unfolding obeys
returns c =
    let z = c.args in
    let x = tables_of z.lengths.now z.places.now z.buffers.now z.body.now in
    let same = within_as z.formats.now z.schema.now z.lengths.now z.places.now z.buffers.now z.body.now z.first z.n in
    one_good z.formats.now z.schema.now x z.first z.n (yes c.is_small.ensures c.if-not-is_small.false-raw) (sym same ∙ yes c.is_within.ensures c.if-not-is_within.false-raw) (yes c.is_typed.ensures c.if-not-is_typed.false-raw) (yes c.source_ok.ensures c.if-not-source_ok.false-raw)
