-- `widths::plan_convert` meets its contract. Assumes nothing.
use mathlib.Core.Path.{sym, ◌∙◌}
use mathlib.Core.List.{[]}
use Rattle.widths.proofs.Called.{ask_refused, small_nodes, comes_from_lem, column_good, target_good, ask_walk, ask_plan, ask_counters, ask_done, nodes_length}
use borrow.Author.Rules.{rules}
use Rattle.widths.proofs.plan_convert.Goals as goal

pub returns-then-g-ne0 : goal.returns-then-g-ne0
returns-then-g-ne0 c =
    let z = c.args in
    ask_refused z.formats.now z.schema.now z.lengths.now z.places.now z.buffers.now z.body.now z.first z.n z.target z.target_n c.ground_of-g.ensures c.if-g-ne0.true z.plan.now z.counters.now

pub words_of-requires : goal.words_of-requires
words_of-requires c =
    let z = c.args in
    let e = c.ground_of-g.ensures in
    let f1 = c.if-g-ne0.false in
    (small_nodes z.formats.now z.schema.now z.lengths.now z.places.now z.buffers.now z.body.now z.first z.n z.target z.target_n e f1, comes_from_lem z.formats.now z.schema.now z.lengths.now z.places.now z.buffers.now z.body.now z.first z.n z.target z.target_n e f1 (search rules))

pub slice_bounds-convert_walk-end : goal.slice_bounds-convert_walk-end
slice_bounds-convert_walk-end c =
    let z = c.args in
    sym (nodes_length z.formats.now z.schema.now z.lengths.now z.places.now z.buffers.now z.body.now z.first z.n z.target z.target_n c.ground_of-g.ensures c.if-g-ne0.false _ c.words_of.ensures)

pub convert_walk-g-requires : goal.convert_walk-g-requires
convert_walk-g-requires c =
    let z = c.args in
    let e = c.ground_of-g.ensures in
    let f1 = c.if-g-ne0.false in
    record { by_index = (z.buffers.now, column_good z.formats.now z.schema.now z.lengths.now z.places.now z.buffers.now z.body.now z.first z.n z.target z.target_n e f1); n_value = target_good z.formats.now z.schema.now z.lengths.now z.places.now z.buffers.now z.body.now z.first z.n z.target z.target_n e f1 }

pub returns-then-g-ne0-2 : goal.returns-then-g-ne0-2
returns-then-g-ne0-2 c =
    let z = c.args in
    let w = c.convert_walk-g.ensures z.buffers.now in
    ask_walk z.formats.now z.schema.now z.lengths.now z.places.now z.buffers.now z.body.now z.first z.n z.target z.target_n c.ground_of-g.ensures c.if-g-ne0.false _ c.words_of.ensures [] w z.plan.now z.counters.now c.if-g-ne0-2.true

pub returns-then-plan-ne-WORDS : goal.returns-then-plan-ne-WORDS
returns-then-plan-ne-WORDS c =
    let z = c.args in
    let w = c.convert_walk-g.ensures z.buffers.now in
    ask_plan z.formats.now z.schema.now z.lengths.now z.places.now z.buffers.now z.body.now z.first z.n z.target z.target_n c.ground_of-g.ensures c.if-g-ne0.false _ c.words_of.ensures [] w z.plan.now z.counters.now c.if-g-ne0-2.false c.if-plan-ne-WORDS.true

pub returns-then-counters-ne-COUNTERS : goal.returns-then-counters-ne-COUNTERS
returns-then-counters-ne-COUNTERS c =
    let z = c.args in
    let w = c.convert_walk-g.ensures z.buffers.now in
    ask_counters z.formats.now z.schema.now z.lengths.now z.places.now z.buffers.now z.body.now z.first z.n z.target z.target_n c.ground_of-g.ensures c.if-g-ne0.false _ c.words_of.ensures [] w z.plan.now z.counters.now c.if-g-ne0-2.false c.if-plan-ne-WORDS.false c.if-counters-ne-COUNTERS.true

pub plan_by-requires : goal.plan_by-requires
plan_by-requires c =
    let z = c.args in
    (small_nodes z.formats.now z.schema.now z.lengths.now z.places.now z.buffers.now z.body.now z.first z.n z.target z.target_n c.ground_of-g.ensures c.if-g-ne0.false, c.if-plan-ne-WORDS.false)

pub store-requires : goal.store-requires
store-requires c = (c.if-counters-ne-COUNTERS.false, search rules)

pub returns : goal.returns
returns c =
    let z = c.args in
    let w = c.convert_walk-g.ensures z.buffers.now in
    ask_done z.formats.now z.schema.now z.lengths.now z.places.now z.buffers.now z.body.now z.first z.n z.target z.target_n c.ground_of-g.ensures c.if-g-ne0.false _ c.words_of.ensures [] w z.plan.now z.counters.now c.if-g-ne0-2.false c.if-plan-ne-WORDS.false c.if-counters-ne-COUNTERS.false c.plan_by.ensures (c.store.ensures ∙ c.copied-made.ensures)
