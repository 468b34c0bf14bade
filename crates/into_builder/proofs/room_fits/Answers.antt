-- `into_builder::room_fits` meets its contract. Assumes nothing.
use Rattle.array_data.proofs.lent_tables.Laws.{no, yes}
use Rattle.into_builder.proofs.Whole.{holds_not, holds_out, holds_by}
use Rattle.into_builder.proofs.room_fits.Goals as goal

pub returns-then-counters-ne-COUNTERS : goal.returns-then-counters-ne-COUNTERS
returns-then-counters-ne-COUNTERS c = holds_not c.args.plan.now c.args.parts.now c.args.counters.now c.args.m c.if-counters-ne-COUNTERS.true

pub returns-then-not-parts_within : goal.returns-then-not-parts_within
returns-then-not-parts_within c = holds_out c.args.plan.now c.args.parts.now c.args.counters.now c.args.m c.if-counters-ne-COUNTERS.false (no c.parts_within.ensures c.if-not-parts_within.true-raw)

pub load-tally-requires : goal.load-tally-requires
load-tally-requires c = c.if-counters-ne-COUNTERS.false

pub returns : goal.returns
returns c = holds_by c.args.plan.now c.args.parts.now c.args.counters.now c.args.m c.if-counters-ne-COUNTERS.false (yes c.parts_within.ensures c.if-not-parts_within.false-raw) c.load-tally.ensures c.parts_hold.ensures
