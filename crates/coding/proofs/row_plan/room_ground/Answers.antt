-- `coding::row_plan::room_ground` meets its contract. Assumes nothing.
use Rattle.coding.proofs.RowRoom.{other_plan, other_counters, placed_not, held_not, held}
use Rattle.coding.proofs.row_plan.room_ground.Goals as goal

pub returns-then-words-ne-WORDS : goal.returns-then-words-ne-WORDS
returns-then-words-ne-WORDS c =
    let z = c.args in
    other_plan z.row.code z.row.nullable z.m z.parts.now c.requires.1 z.row.nulls c.requires.0 z.words z.counters z.size c.if-words-ne-WORDS.true

pub returns-then-counters-ne-COUNTERS : goal.returns-then-counters-ne-COUNTERS
returns-then-counters-ne-COUNTERS c =
    let z = c.args in
    other_counters z.row.code z.row.nullable z.m z.parts.now c.requires.1 z.row.nulls c.requires.0 z.words z.counters z.size c.if-counters-ne-COUNTERS.true

pub returns-then-not-parts_placed : goal.returns-then-not-parts_placed
returns-then-not-parts_placed c =
    let z = c.args in
    placed_not z.row.code z.row.nullable z.m z.parts.now c.requires.1 z.row.nulls c.requires.0 z.words z.counters z.size c.if-words-ne-WORDS.false c.if-counters-ne-COUNTERS.false c.parts_placed.ensures c.if-not-parts_placed.true-raw

pub rows_hold-requires : goal.rows_hold-requires
rows_hold-requires c = let p = c.requires in (p.0, p.1)

pub returns-then-not-rows_hold : goal.returns-then-not-rows_hold
returns-then-not-rows_hold c =
    let z = c.args in
    held_not z.row.code z.row.nullable z.m z.parts.now c.requires.1 z.row.nulls c.requires.0 z.words z.counters z.size c.if-words-ne-WORDS.false c.if-counters-ne-COUNTERS.false c.parts_placed.ensures c.if-not-parts_placed.false-raw c.rows_hold.ensures c.if-not-rows_hold.true-raw

pub returns : goal.returns
returns c =
    let z = c.args in
    held z.row.code z.row.nullable z.m z.parts.now c.requires.1 z.row.nulls c.requires.0 z.words z.counters z.size c.if-words-ne-WORDS.false c.if-counters-ne-COUNTERS.false c.parts_placed.ensures c.if-not-parts_placed.false-raw c.rows_hold.ensures c.if-not-rows_hold.false-raw
