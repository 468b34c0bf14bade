-- `transform::leaf_counters::room_ground` meets its contract. Assumes nothing.
use mathlib.Core.Path.{ap, ◌∙◌}
use mathlib.Core.Bool.{cond}
use Prim.Native.Nat.{ℕ, ◌+◌, ◌*◌}
use native.Mathlib.Omega.{arith}
use lib.ListN.{set, length-set}
use Rattle.walk.specs.State.{rows}
use Rattle.plan.specs.parts.Parts.{parts_within, parts_hold}
use Rattle.transform.proofs.leaf_counters.Laws.{put_back}
use Rattle.transform.proofs.leaf_counters.room_ground.Goals as goal

pub bounds-counters-i-4 : goal.bounds-counters-i-4
bounds-counters-i-4 c =
    let a = c.args in
    omega (arith, c.requires.0, c.requires.1, length-set a.counters.now (3 * a.i) c.grow.result)

pub bounds-counters-i-5 : goal.bounds-counters-i-5
bounds-counters-i-5 c =
    let a = c.args in
    omega (arith, c.requires.0, c.requires.1, length-set (set a.counters.now (3 * a.i) c.grow.result) (3 * a.i + 2) a.b, length-set a.counters.now (3 * a.i) c.grow.result)

pub bounds-counters-i-6 : goal.bounds-counters-i-6
bounds-counters-i-6 c =
    let a = c.args in
    omega (arith, c.requires.0, c.requires.1, length-set (set (set a.counters.now (3 * a.i) c.grow.result) (3 * a.i + 2) a.b) (3 * a.i) (rows a.counters.now a.i), length-set (set a.counters.now (3 * a.i) c.grow.result) (3 * a.i + 2) a.b, length-set a.counters.now (3 * a.i) c.grow.result)

pub returns : goal.returns
returns c =
    let a = c.args in
    record { value = c.parts_ground-g.ensures ∙ ap (λ (v : ℕ). cond (parts_within a.plan.now a.parts.now a.m) (cond (parts_hold a.plan.now (set (set a.counters.now (3 * a.i) v) (3 * a.i + 2) a.b) a.parts.now) 0 13) 14) c.grow.ensures; counters_value = put_back a.counters.now (3 * a.i) (3 * a.i + 2) c.grow.result a.b (λ q. omega arith) }
