-- `batch::dense_rows::taken_tried` meets its contract. Assumes nothing.
use mathlib.Core.Path.{refl, ap, ◌∙◌}
use mathlib.Core.List.{[]}
use Prim.Native.Nat.{◌+◌}
use native.Mathlib.Omega.{arith}
use Rattle.number.specs.Number.{entry}
use Rattle.walk.specs.State.{grown}
use Rattle.leaf_walk.specs.Join.{join}
use Rattle.room_writes.proofs.Bytes.{width_in_lem}
use Rattle.batch.specs.batch_walk.Fall.{home_by, takes_of, takes_from}
use Rattle.batch.proofs.batch_walk.TextLeaf.{text_wide}
use Rattle.batch.proofs.batch_walk.ListTried.{rows_stand, list_did}
use Rattle.batch.proofs.dense_rows.taken_tried.Goals as goal

pub taken_chars-sum-requires : goal.taken_chars-sum-requires
taken_chars-sum-requires c = let a = c.args in record { n_in_bounds = c.requires.n_in_bounds; v_value = text_wide c.args.plan.now c.args.k c.requires.first_bound.2 c.requires.first_bound.3; end_in_bounds = rows_stand (join a.plan.now [] a.lengths.now a.places.now a.body.now a.first 0) a.k (takes_from (λ q. home_by a.homes.now a.body.now (a.ids + (a.slot + q))) (λ q. entry 4 a.body.now a.positions (a.slot + q)) a.k) (takes_of (λ q. home_by a.homes.now a.body.now (a.ids + (a.slot + q))) a.k) a.n a.v c.requires.end_value c.grow.ensures (c.reaches.ensures a.plan.now [] 0) c.if-not-reaches.false-raw (c.slot_of-offset.ensures a.plan.now [] a.places.now a.body.now 0) c.place-at.ensures }

pub returns : goal.returns
returns c = let a = c.args in λ ne parts source room. list_did (join a.plan.now parts a.lengths.now a.places.now a.body.now a.first source) a.k (takes_from (λ q. home_by a.homes.now a.body.now (a.ids + (a.slot + q))) (λ q. entry 4 a.body.now a.positions (a.slot + q)) a.k) (takes_of (λ q. home_by a.homes.now a.body.now (a.ids + (a.slot + q))) a.k) a.n a.v c.requires.end_value c.grow.ensures (c.reaches.ensures a.plan.now parts source) c.if-not-reaches.false-raw (c.slot_of-offset.ensures a.plan.now parts a.places.now a.body.now source) c.place-at.ensures c.requires.first_bound.3 c.requires.first_bound.1 c.requires.first_bound.2 a.counters.now room c.place-chars.ensures (omega arith) c.taken_chars-sum.ensures (c.grow-t.ensures ∙ ap (λ y. grown y c.taken_chars-sum.result) c.bytes_of.ensures) c.is_offset.ensures c.if-not-is_offset.false-raw
