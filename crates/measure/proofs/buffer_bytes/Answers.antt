-- `measure::buffer_bytes` meets its contract. Assumes nothing.
use Rattle.measure.proofs.Bytes.{buffer_bits, buffer_first, buffer_second}
use Rattle.measure.proofs.buffer_bytes.Goals as goal

pub returns-then-b-eq0 : goal.returns-then-b-eq0
returns-then-b-eq0 c =
    let z = c.args in
    buffer_bits z.plan.now z.counters.now z.i z.b c.at_u64-r.ensures c.if-b-eq0.true c.bit_bytes.ensures

pub returns-then-b-eq1 : goal.returns-then-b-eq1
returns-then-b-eq1 c =
    let z = c.args in
    buffer_first z.plan.now z.counters.now z.i z.b c.at_u64-r.ensures c.code_of-code.ensures c.at_u64-n.ensures c.if-b-eq1.true c.first_bytes.ensures

pub returns : goal.returns
returns c =
    let z = c.args in
    buffer_second z.plan.now z.counters.now z.i z.b c.at_u64-r.ensures c.code_of-code.ensures c.at_u64-n.ensures c.if-b-eq0.false c.if-b-eq1.false c.second_bytes.ensures
