-- `node_table::id_among` meets its contract. The invariant: among the ids so far there is none of node i. Assumes nothing.
use mathlib.Core.Path.{sym, ◌∙◌}
use native.Mathlib.Omega.{arith}
use Rattle.array_data.proofs.node_words.Laws.{among_here, among_next, among_end}
use Rattle.array_data.proofs.node_words.id_among.Goals as goal

pub returns-then-node-i : goal.returns-then-node-i
returns-then-node-i c =
    let z = c.args in
    let l = c.loop-id in
    sym (among_here z.schema.now z.first z.n z.ids.now l.id-index l.node z.i (omega arith) c.if-node-i.true) ∙ l.invariant

pub loop-id-preserved : goal.loop-id-preserved
loop-id-preserved c =
    let z = c.args in
    let l = c.loop-id in
    rw c.end_of-node.ensures (sym (among_next z.schema.now z.first z.n z.ids.now l.id-index l.node z.i (omega arith) c.if-node-i.false)) ∙ l.invariant

pub returns : goal.returns
returns c =
    let z = c.args in
    let l = c.loop-id in
    sym (among_end z.schema.now z.first z.n z.ids.now l.id-index l.node z.i (omega arith)) ∙ l.invariant
