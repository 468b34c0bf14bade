-- `lent_entries::valid_at` meets its contract. Assumes nothing.
use Rattle.array_data.specs.Tables.{part}
use Rattle.array_data.proofs.lent_tables.Laws.{is_none, is_some}
use Rattle.array_data.proofs.entries.Laws.{bit_outside, bit_one, bit_zero}
use Rattle.array_data.proofs.entries.valid_at.Goals as goal

pub returns-then-place_at-eq0 : goal.returns-then-place_at-eq0
returns-then-place_at-eq0 c = rw (is_none c.place_at.ensures c.if-place_at-eq0.true)

pub returns-in_default : goal.returns-in_default
returns-in_default c =
    let z = c.args in
    rw (is_some c.place_at.ensures c.if-place_at-eq0.false, ← c.place_at-start.ensures, ← c.place_at-size.ensures) (bit_outside (part z.body.now c.place_at-start.result c.place_at-size.result) z.slot _ c.read_entry.ensures c.in_default.is)

pub returns-then-byte-slot-eq1 : goal.returns-then-byte-slot-eq1
returns-then-byte-slot-eq1 c =
    let z = c.args in
    rw (is_some c.place_at.ensures c.if-place_at-eq0.false, ← c.place_at-start.ensures, ← c.place_at-size.ensures) (bit_one (part z.body.now c.place_at-start.result c.place_at-size.result) z.slot _ c.read_entry.ensures _ c.in-Some.is c.if-byte-slot-eq1.true)

pub returns-else-byte-slot-eq1 : goal.returns-else-byte-slot-eq1
returns-else-byte-slot-eq1 c =
    let z = c.args in
    rw (is_some c.place_at.ensures c.if-place_at-eq0.false, ← c.place_at-start.ensures, ← c.place_at-size.ensures) (bit_zero (part z.body.now c.place_at-start.result c.place_at-size.result) z.slot _ c.read_entry.ensures _ c.in-Some.is c.if-byte-slot-eq1.false)
