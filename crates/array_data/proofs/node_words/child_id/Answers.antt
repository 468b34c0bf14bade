-- `node_table::child_id` meets its contract. The invariant: no node from p on holds node i. Assumes nothing.
use mathlib.Core.Path.{◌≡◌, sym, ap, ◌∙◌}
use Prim.Native.Nat.{suc, ◌-◌}
use native.Mathlib.Omega.{arith}
use Rattle.array_data.specs.node_words.Words.{id_below}
use Rattle.array_data.proofs.node_words.Laws.{holds, holds_not, holds_none}
use Rattle.array_data.proofs.node_words.child_id.Goals as goal

pub returns-then-i-end_of : goal.returns-then-i-end_of
returns-then-i-end_of c =
    let z = c.args in
    let l = c.loop-p in
    let e : suc (l.p - 1) ≡ l.p = omega arith in
    c.id_under.ensures ∙ sym (holds z.formats.now z.schema.now z.first z.n z.i (l.p - 1) (omega (arith, c.if-i-end_of.true, c.end_of.ensures))) ∙ ap (λ q. id_below z.formats.now z.schema.now z.first z.n q z.i) e ∙ l.invariant

pub loop-p-preserved : goal.loop-p-preserved
loop-p-preserved c =
    let z = c.args in
    let l = c.loop-p in
    let e : suc (l.p - 1) ≡ l.p = omega arith in
    (sym (holds_not z.formats.now z.schema.now z.first z.n z.i (l.p - 1) (omega (arith, c.if-i-end_of.false, c.end_of.ensures))) ∙ ap (λ q. id_below z.formats.now z.schema.now z.first z.n q z.i) e ∙ l.invariant)

pub returns : goal.returns
returns c =
    let z = c.args in
    let l = c.loop-p in
    sym (holds_none z.formats.now z.schema.now z.first z.n z.i l.p (omega arith)) ∙ l.invariant
