-- `convert::to_list::plan_list` meets its contract. Assumes nothing.
use mathlib.Core.Path.{◌∙◌}
use mathlib.Core.List.{[]}
use Rattle.convert.proofs.Called.{ask_refused, small_nodes, comes_from_lem, walk_sum, walk_wide, ask_walk, ask_plan, ask_counters, ask_done}
use borrow.Author.Rules.{rules}
use Rattle.convert.proofs.to_list.plan_list.Goals as goal

pub returns-then-g-ne0 : goal.returns-then-g-ne0
returns-then-g-ne0 c = let z = c.args in ask_refused z.formats.now z.schema.now z.lengths.now z.places.now z.buffers.now z.body.now z.first z.n z.target z.target_n c.ground_of-g.ensures c.if-g-ne0.true z.plan.now z.counters.now

pub planned-draft-requires : goal.planned-draft-requires
planned-draft-requires c = let z = c.args in (small_nodes z.formats.now z.schema.now z.lengths.now z.places.now z.buffers.now z.body.now z.first z.n z.target z.target_n c.ground_of-g.ensures c.if-g-ne0.false, comes_from_lem z.formats.now z.schema.now z.lengths.now z.places.now z.buffers.now z.body.now z.first z.n z.target z.target_n c.ground_of-g.ensures c.if-g-ne0.false (search rules))

pub list_walk-g-requires : goal.list_walk-g-requires
list_walk-g-requires c = let z = c.args in record { first_bound = walk_sum z.formats.now z.schema.now z.lengths.now z.places.now z.buffers.now z.body.now z.first z.n z.target z.target_n c.ground_of-g.ensures c.if-g-ne0.false _ c.planned-draft.ensures; plan_value = walk_wide z.formats.now z.schema.now z.lengths.now z.places.now z.buffers.now z.body.now z.first z.n z.target z.target_n c.ground_of-g.ensures c.if-g-ne0.false _ c.planned-draft.ensures }

pub returns-then-g-ne0-2 : goal.returns-then-g-ne0-2
returns-then-g-ne0-2 c = let z = c.args in ask_walk z.formats.now z.schema.now z.lengths.now z.places.now z.buffers.now z.body.now z.first z.n z.target z.target_n c.ground_of-g.ensures c.if-g-ne0.false _ c.planned-draft.ensures [] (c.list_walk-g.ensures z.n) z.plan.now z.counters.now c.if-g-ne0-2.true

pub returns-then-plan-ne-WORDS : goal.returns-then-plan-ne-WORDS
returns-then-plan-ne-WORDS c = let z = c.args in ask_plan z.formats.now z.schema.now z.lengths.now z.places.now z.buffers.now z.body.now z.first z.n z.target z.target_n c.ground_of-g.ensures c.if-g-ne0.false _ c.planned-draft.ensures [] (c.list_walk-g.ensures z.n) z.plan.now z.counters.now c.if-g-ne0-2.false c.if-plan-ne-WORDS.true

pub returns-then-counters-ne-COUNTERS : goal.returns-then-counters-ne-COUNTERS
returns-then-counters-ne-COUNTERS c = let z = c.args in ask_counters z.formats.now z.schema.now z.lengths.now z.places.now z.buffers.now z.body.now z.first z.n z.target z.target_n c.ground_of-g.ensures c.if-g-ne0.false _ c.planned-draft.ensures [] (c.list_walk-g.ensures z.n) z.plan.now z.counters.now c.if-g-ne0-2.false c.if-plan-ne-WORDS.false c.if-counters-ne-COUNTERS.true

pub returns : goal.returns
returns c = let z = c.args in ask_done z.formats.now z.schema.now z.lengths.now z.places.now z.buffers.now z.body.now z.first z.n z.target z.target_n c.ground_of-g.ensures c.if-g-ne0.false _ c.planned-draft.ensures [] (c.list_walk-g.ensures z.n) z.plan.now z.counters.now c.if-g-ne0-2.false c.if-plan-ne-WORDS.false c.if-counters-ne-COUNTERS.false c.keep_result.ensures.plan_after (c.keep_result.ensures.counters_after ∙ c.copied-made.ensures)
