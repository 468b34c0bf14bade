-- `reclaim_walk::entries::copy_block` meets its contract. Assumes nothing.
use mathlib.Core.Path.{◌≡◌, subst}
use mathlib.Core.Bool.{Bool}
use mathlib.Core.List.{List}
use Prim.Native.Nat.{ℕ}
use Rattle.walk.specs.State.{Join}
use Rattle.walk.specs.Log.{Did}
use Rattle.leaf_walk.specs.Join.{join}
use Rattle.reclaim.specs.reclaim_walk.Walk.{copy_runs}
use Rattle.reclaim.proofs.entry_copies.copy_block.Goals as goal

-- from counters and a room that were left as they were
as_left : (x : Join) (n e : ℕ) {plan parts : List ℕ} {wr : Bool} {g : ℕ} {c c1 c2 room room1 room2 : List ℕ} → c1 ≡ c → room1 ≡ room → Did plan parts wr (copy_runs x n e n c1) room1 g c2 room2
    → Did plan parts wr (copy_runs x n e n c) room g c2 room2
as_left x n e {plan} {parts} {wr} {g} {c} {c1} {c2} {room} {room1} {room2} p q d =
    subst (λ r. Did plan parts wr (copy_runs x n e n c) r g c2 room2) q (subst (λ z. Did plan parts wr (copy_runs x n e n z) room1 g c2 room2) p d)

pub returns-then-copy_plain : goal.returns-then-copy_plain
returns-then-copy_plain c = c.copy_plain.ensures.walks c.if-copy_plain.true

pub returns : goal.returns
returns c =
    let a = c.args in
    let k = c.copy_plain.ensures.counters_value c.if-copy_plain.false in
    as_left (join a.plan.now a.parts.now a.lengths.now a.places.now a.body.now a.first 0) a.count a.base k.0 k.1 c.copy_runs.ensures
