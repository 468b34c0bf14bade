-- `explain::small_parts::root_bytes` meets its contract. Assumes nothing.
use native.Mathlib.Omega.{arith}
use Rattle.explain.proofs.small_parts.Laws.{root_counter, root_bits, root_cut}
use Rattle.explain.proofs.small_parts.root_bytes.Goals as goal

pub returns-then-sum-rows : goal.returns-then-sum-rows
returns-then-sum-rows c =
    let a = c.args in
    root_counter a.code a.len a.b a.rows a.r a.n c.grow-sum.ensures (omega arith) c.if-sum-rows.true c.buffer_bytes.ensures

pub returns-then-b-eq0 : goal.returns-then-b-eq0
returns-then-b-eq0 c =
    let a = c.args in
    root_bits a.code a.len a.b a.rows a.r a.n c.grow-sum.ensures c.if-sum-rows.false c.if-b-eq0.true c.bits.ensures

pub returns : goal.returns
returns c =
    let a = c.args in
    root_cut a.code a.len a.b a.rows a.r a.n c.grow-sum.ensures c.if-sum-rows.false c.if-b-eq0.false c.buffer_bytes-2.ensures
