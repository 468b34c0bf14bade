-- `reclaim_walk::entries::copy_runs` meets its contract. The invariant: where the rest is done, the whole is. Assumes nothing.
use mathlib.Core.Path.{refl}
use Prim.Native.Nat.{◌+◌, ◌-◌}
use native.Mathlib.Nat.{sub-zero, add-zero}
use native.Mathlib.Omega.{arith}
use Rattle.leaf_walk.specs.Join.{join}
use Rattle.reclaim.proofs.reclaim_walk.Runs.{runs_none, runs_stop, runs_more}
use borrow.Author.Rules.{rules}
use Rattle.reclaim.proofs.entry_copies.copy_runs.Goals as goal

pub loop-j-init : goal.loop-j-init
loop-j-init c = (omega arith, refl, λ g c2 room2 d. rw (sub-zero, add-zero) at d)

pub run_len-k-requires : goal.run_len-k-requires
run_len-k-requires c = (omega arith, omega arith)

pub returns-then-g-ne0 : goal.returns-then-g-ne0
returns-then-g-ne0 c =
    let a = c.args in
    let l = c.loop-j in
    let r = c.run_len-k in
    l.invariant.2 _ _ _ (runs_stop (join a.plan.now a.parts.now a.lengths.now a.places.now a.body.now a.first 0) _ (a.count - l.j) (a.base + l.j) r.result _ _ (omega arith) (r.ensures.1 (join a.plan.now a.parts.now a.lengths.now a.places.now a.body.now a.first 0) a.base c.requires.by_index) c.copy_run-g.ensures c.if-g-ne0.true)

pub step_of-j-requires : goal.step_of-j-requires
step_of-j-requires c = omega (arith, c.run_len-k.ensures.0)

pub overflow_add-j : goal.overflow_add-j
overflow_add-j c = omega (arith, c.run_len-k.ensures.0, c.step_of-j.ensures)

pub loop-j-smaller : goal.loop-j-smaller
loop-j-smaller c = omega (arith, c.run_len-k.ensures.0, c.step_of-j.ensures)

pub loop-j-preserved : goal.loop-j-preserved
loop-j-preserved c =
    let a = c.args in
    let l = c.loop-j in
    let r = c.run_len-k in
    let s = c.step_of-j in (
      omega (arith, r.ensures.0, s.ensures),
      search rules,
      λ g c2 room2 d.
          l.invariant.2 _ _ _ (runs_more (join a.plan.now a.parts.now a.lengths.now a.places.now a.body.now a.first 0) _ (a.count - l.j) (a.count - (l.j + s.result)) (a.base + l.j) (a.base + (l.j + s.result)) r.result _ _ (omega arith) (r.ensures.1 (join a.plan.now a.parts.now a.lengths.now a.places.now a.body.now a.first 0) a.base c.requires.by_index) (omega (arith, s.ensures)) (omega (arith, s.ensures)) c.copy_run-g.ensures c.if-g-ne0.false d),
    )

pub returns : goal.returns
returns c =
    let a = c.args in
    let l = c.loop-j in
    l.invariant.2 _ _ _ (runs_none (join a.plan.now a.parts.now a.lengths.now a.places.now a.body.now a.first 0) _ (a.count - l.j) _ _ _ (omega arith))
