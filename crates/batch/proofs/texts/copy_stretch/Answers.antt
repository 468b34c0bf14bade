-- `batch::texts::copy_stretch` meets its contract. Assumes nothing.
use mathlib.Core.List.{[]}
use Prim.Native.Nat.{◌+◌, ◌<◌}
use native.Mathlib.Omega.{arith}
use Rattle.walk.specs.State.{far}
use Rattle.leaf_walk.specs.Join.{join}
use Rattle.nested_rows.proofs.lookups.Laws.{slot_rows}
use Rattle.batch.proofs.batch_walk.TextLeaf.{text_wide, text_far, text_no, text_yes}
use Rattle.batch.proofs.texts.copy_stretch.Goals as goal

pub copy_steady-g-requires : goal.copy_steady-g-requires
copy_steady-g-requires c =
    let a = c.args in
    let h : c.slot_of-slot.result + a.n < far = slot_rows (join [] [] a.lengths.now [] [] a.first 0) a.k a.a a.n (c.slot_of-slot.ensures [] [] [] [] 0) c.if-slot-ge-FAR.false in
    record { first_bound = (c.requires.0, c.requires.1, omega arith); w_value = text_wide a.plan.now a.k c.requires.2 c.requires.3 }

pub returns-then-g-ne0 : goal.returns-then-g-ne0
returns-then-g-ne0 c = let a = c.args in λ source. text_no (join a.plan.now a.parts.now a.lengths.now a.places.now a.body.now a.first source) a.k c.requires.3 c.requires.1 a.a a.n a.write a.counters.now a.room.now (c.slot_of-slot.ensures a.plan.now a.parts.now a.places.now a.body.now source) c.if-slot-ge-FAR.false c.requires.2 (c.copy_steady-g.ensures a.lengths.now source) c.if-g-ne0.true

pub returns : goal.returns
returns c = let a = c.args in λ source. text_yes (join a.plan.now a.parts.now a.lengths.now a.places.now a.body.now a.first source) a.k c.requires.3 c.requires.1 a.a a.n a.write a.counters.now a.room.now (c.slot_of-slot.ensures a.plan.now a.parts.now a.places.now a.body.now source) c.if-slot-ge-FAR.false c.requires.2 (c.copy_steady-g.ensures a.lengths.now source) c.if-g-ne0.false c.add_rows.ensures

pub returns-then-slot-ge-FAR : goal.returns-then-slot-ge-FAR
returns-then-slot-ge-FAR c = let a = c.args in λ source. text_far (join a.plan.now a.parts.now a.lengths.now a.places.now a.body.now a.first source) a.k c.requires.3 c.requires.1 a.a a.n a.write a.counters.now a.room.now (c.slot_of-slot.ensures a.plan.now a.parts.now a.places.now a.body.now source) c.if-slot-ge-FAR.true
