-- `explain::small_parts::bytes_due` meets its contract. Assumes nothing.
use Prim.Native.Nat.{◌+◌}
use Rattle.explain.proofs.small_parts.Laws.{due_root, due_other}
use Rattle.explain.proofs.small_parts.bytes_due.Goals as goal

pub returns-then-i-eq0 : goal.returns-then-i-eq0
returns-then-i-eq0 c =
    let a = c.args in
    λ parts. due_root a.plan.now a.counters.now c.code_of-code.ensures c.rows_of-rows.ensures c.bytes_of-len.ensures a.b (a.r + a.n) parts c.if-i-eq0.true c.root_bytes.ensures

pub returns : goal.returns
returns c =
    let a = c.args in
    λ parts. due_other a.plan.now a.counters.now c.code_of-code.ensures c.rows_of-rows.ensures c.bytes_of-len.ensures a.b (a.r + a.n) parts c.if-i-eq0.false c.buffer_bytes.ensures
