-- `slots::dense_good` meets its contract: the rows before i are good. Assumes nothing.
use Rattle.std.proofs.Common.{◌≡◌, ◌+◌, arith}
use Rattle.row_rules.proofs.slots.Tables.{dense_pass, dense_fail, dense_are}
use Rattle.row_rules.proofs.slots.dense_good.Goals as goal

pub returns-then-table-id : goal.returns-then-table-id
returns-then-table-id c =
    let z = c.args in
    let l = c.loop-i in
    let t = c.bounds-table in
    dense_are z.body.now z.at z.too z.ids.now z.lens.now z.n (dense_fail z.body.now z.at z.too z.ids.now z.lens.now t.result t.ensures l.i (c.type_inv.body (z.at + l.i)).fits c.read-p.ensures z.n (omega arith) c.if-table-id.true)

pub loop-i-preserved : goal.loop-i-preserved
loop-i-preserved c =
    let z = c.args in
    let l = c.loop-i in
    let t = c.bounds-table in
    dense_pass z.body.now z.at z.too z.ids.now z.lens.now t.result t.ensures l.i (c.type_inv.body (z.at + l.i)).fits c.read-p.ensures l.invariant c.if-table-id.false

pub returns : goal.returns
returns c =
    let z = c.args in
    let e : c.loop-i.i ≡ z.n = omega arith in
    dense_are z.body.now z.at z.too z.ids.now z.lens.now z.n (rw e at c.loop-i.invariant)
