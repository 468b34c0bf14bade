-- `batch::text_rows::list_tried` meets its contract. Assumes nothing.
use mathlib.Core.Path.{refl, ap, ◌∙◌}
use mathlib.Core.List.{[]}
use Prim.Native.Nat.{◌+◌}
use native.Mathlib.Omega.{arith}
use Rattle.number.specs.Number.{entry}
use Rattle.walk.specs.State.{grown}
use Rattle.leaf_walk.specs.Join.{join}
use Rattle.room_writes.proofs.Bytes.{width_in_lem}
use Rattle.batch.proofs.batch_walk.TextLeaf.{text_wide}
use Rattle.batch.proofs.batch_walk.ListTried.{rows_stand, list_did}
use Rattle.batch.proofs.text_rows.list_tried.Goals as goal

pub list_chars-sum-requires : goal.list_chars-sum-requires
list_chars-sum-requires c = let a = c.args in record { n_in_bounds = c.requires.n_in_bounds; w_value = c.requires.w_value; v_value = text_wide c.args.plan.now c.args.k c.requires.first_bound.2 c.requires.first_bound.3; end_in_bounds = rows_stand (join a.plan.now [] a.lengths.now a.places.now a.body.now a.first 0) a.k (λ q. entry a.w a.body.now a.offsets (a.slot + q)) (λ q. entry a.w a.body.now a.sizes (a.slot + q)) a.n a.v c.furthest-end.ensures c.grow.ensures (c.reaches.ensures a.plan.now [] 0) c.if-not-reaches.false-raw (c.slot_of-offset.ensures a.plan.now [] a.places.now a.body.now 0) c.place-at.ensures }

pub returns : goal.returns
returns c = let a = c.args in λ ne parts source room. list_did (join a.plan.now parts a.lengths.now a.places.now a.body.now a.first source) a.k (λ q. entry a.w a.body.now a.offsets (a.slot + q)) (λ q. entry a.w a.body.now a.sizes (a.slot + q)) a.n a.v c.furthest-end.ensures c.grow.ensures (c.reaches.ensures a.plan.now parts source) c.if-not-reaches.false-raw (c.slot_of-offset.ensures a.plan.now parts a.places.now a.body.now source) c.place-at.ensures c.requires.first_bound.3 c.requires.first_bound.1 c.requires.first_bound.2 a.counters.now room c.place-chars.ensures (omega arith) c.list_chars-sum.ensures (c.grow-t.ensures ∙ ap (λ z. grown z c.list_chars-sum.result) c.bytes_of.ensures) c.is_offset.ensures c.if-not-is_offset.false-raw
