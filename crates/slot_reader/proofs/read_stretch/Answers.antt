-- `slot_reader::read_stretch` meets its contract. Assumes nothing.
use native.Mathlib.Omega.{arith}
use Rattle.array_data.specs.Tables.{part}
use Rattle.slot_reader.proofs.Laws.{stretch_low, stretch_past, stretch_in_lem, stretch_sum}
use Rattle.slot_reader.proofs.read_stretch.Goals as goal

pub returns-then-b-a : goal.returns-then-b-a
returns-then-b-a c =
    let z = c.args in
    stretch_low z.start (part z.body.now z.start z.size) z.a z.b (omega arith)

pub returns-then-part_len-b : goal.returns-then-part_len-b
returns-then-part_len-b c =
    let z = c.args in
    stretch_past z.start (part z.body.now z.start z.size) z.a z.b _ c.part_len.ensures (omega arith)

pub overflow_add-result : goal.overflow_add-result
overflow_add-result c =
    let z = c.args in
    record { fits = stretch_sum z.body.now z.start z.size z.a _ c.part_len.ensures (omega arith) (omega arith) (omega arith) }

pub returns : goal.returns
returns c =
    let z = c.args in
    stretch_in_lem z.start (part z.body.now z.start z.size) z.a z.b _ c.part_len.ensures (omega arith) (omega arith)
