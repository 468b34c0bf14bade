-- `batch::text_puts::put_stretch` meets its contract. Assumes nothing.
use Rattle.leaf_walk.specs.Join.{join}
use Rattle.batch.proofs.batch_walk.TextLeaf.{text_wide}
use Rattle.batch.proofs.batch_walk.TextPuts.{put_near, put_fits, put_rises, put_yes}
use Rattle.batch.proofs.text_puts.put_stretch.Goals as goal

pub returns : goal.returns
returns c =
    let a = c.args in
    let p = c.requires in
    let e = c.slot_of-slot.ensures a.plan.now a.parts.now a.places.now a.body.now 0 in
    let x = join a.plan.now a.parts.now a.lengths.now a.places.now a.body.now a.first 0 in
    let near = put_near x a.k p.first_bound.3 p.first_bound.1 a.a a.n a.counters.now p.counters_value e in
    let rise = put_rises x a.k p.first_bound.3 p.first_bound.1 a.a a.n a.counters.now p.counters_value e p.first_bound.2 in
    λ source. put_yes (join a.plan.now a.parts.now a.lengths.now a.places.now a.body.now a.first source) a.k p.first_bound.3 p.first_bound.1 a.a a.n a.write a.counters.now a.room.now
    (c.slot_of-slot.ensures a.plan.now a.parts.now a.places.now a.body.now source) near p.first_bound.2 rise (c.put_rows.ensures a.lengths.now source) c.add_rows.ensures

pub put_rows-requires : goal.put_rows-requires
put_rows-requires c =
    let a = c.args in
    let p = c.requires in
    let e = c.slot_of-slot.ensures a.plan.now a.parts.now a.places.now a.body.now 0 in
    let x = join a.plan.now a.parts.now a.lengths.now a.places.now a.body.now a.first 0 in
    record { first_bound = (p.first_bound.0, p.first_bound.1); w_value = text_wide a.plan.now a.k p.first_bound.2 p.first_bound.3; fact = put_fits x a.k p.first_bound.3 p.first_bound.1 a.a a.n a.counters.now p.counters_value e p.first_bound.2 }
