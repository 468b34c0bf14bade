-- `batch_walk::rise::parts_rise` meets its contract. Assumes nothing.
use mathlib.Core.Path.{◌≡◌, refl, sym, ap, ◌∙◌}
use Prim.Native.Nat.{suc, ◌+◌, ◌-◌}
use native.Mathlib.Nat.{sub-zero}
use native.Mathlib.Omega.{arith}
use lib.Dec.{ltb}
use Rattle.walk.specs.State.{top}
use Rattle.batch.specs.batch_walk.Ends.{end_from}
use Rattle.batch.proofs.batch_walk.Rises.{from_step, from_end}
use Rattle.batch.proofs.rise.parts_rise.Goals as goal

pub loop-i-preserved : goal.loop-i-preserved
loop-i-preserved c =
    let a = c.args in
    let l = c.loop-i in
    let e : c.node_count-n.result - l.i ≡ suc (c.node_count-n.result - (l.i + 1)) = omega arith in
    from_step a.plan.now a.parts.now (c.node_count-n.result - (l.i + 1)) l.i l.end e c.end_behind-validity.ensures c.end_behind-first.ensures c.end_behind-end.ensures refl ∙ l.invariant

pub returns : goal.returns
returns c =
    let a = c.args in
    let l = c.loop-i in
    let e : c.node_count-n.result - l.i ≡ 0 = omega arith in
    ap (λ v. ltb v top) (sym (from_end a.plan.now a.parts.now l.i l.end e) ∙ l.invariant ∙ ap (λ v. end_from a.plan.now a.parts.now v 0 0) c.node_count-n.ensures.value)
