-- `measure::needed_bytes` meets its contract. Assumes nothing.
use Rattle.measure.proofs.Bytes.{node_below, bytes_of, bytes_none}
use Rattle.measure.proofs.needed_bytes.Goals as goal

pub buffer_bytes-requires : goal.buffer_bytes-requires
buffer_bytes-requires c = node_below c.args.plan.now c.args.counters.now c.args.p c.part_at.ensures c.in-Some.is

pub returns-in-Some : goal.returns-in-Some
returns-in-Some c = bytes_of c.args.plan.now c.args.counters.now c.args.p c.part_at.ensures c.in-Some.is c.buffer_bytes.ensures

pub returns-in-None : goal.returns-in-None
returns-in-None c = bytes_none c.args.plan.now c.args.counters.now c.args.p c.part_at.ensures c.in-None.is
