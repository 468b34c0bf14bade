-- `batch::text_lists::copy_stretches` meets its contract. Assumes nothing.
use mathlib.Core.Path.{◌≡◌, sym, subst}
use mathlib.Core.Bool.{true}
use native.Mathlib.Numerals.{add-one}
use native.Mathlib.Omega.{arith}
use Rattle.leaf_walk.specs.Join.{join}
use Rattle.batch.specs.batch_walk.Plain.{is_text}
use Rattle.batch.proofs.batch_walk.ListTried.{told_did}
use Rattle.batch.proofs.batch_walk.TextPuts.{told_ok}
use Rattle.batch.proofs.text_lists.copy_stretches.Goals as goal

pub returns-then-not-write : goal.returns-then-not-write
returns-then-not-write c =
    let a = c.args in
    λ source. told_did (join a.plan.now a.parts.now a.lengths.now a.places.now a.body.now a.first source) a.i a.w a.slot a.n a.counters.now a.room.now a.write c.list_tried-t.result
    c.if-not-write.true-raw c.place-offsets.ensures c.place-sizes.ensures c.sum_sizes-total.ensures (omega (arith, c.requires.n_bound)) (c.list_tried-t.ensures c.if-t.false a.parts.now source a.room.now) c.set_bytes.ensures c.add_rows.ensures

pub put_each-requires : goal.put_each-requires
put_each-requires c =
    let a = c.args in
    let p = c.requires in
    let x = join a.plan.now a.parts.now a.lengths.now a.places.now a.body.now a.first 0 in
    let t = told_ok x a.i a.w a.slot a.n a.counters.now a.room.now c.place-offsets.ensures c.place-sizes.ensures (c.list_tried-t.ensures c.if-t.false a.parts.now 0 a.room.now) in
    record { first_bound = p.first_bound; fact = p.n_in_bounds; n_bound = p.n_bound; w_value = p.w_value; counters_value = t }
