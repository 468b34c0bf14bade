-- `transform::list_rows::put_items` meets its contract. Assumes nothing.
use mathlib.Core.Path.{refl}
use native.Mathlib.Omega.{arith}
use Rattle.walk.specs.State.{code_of}
use Rattle.walk.specs.Copy.{copy_walk}
use Rattle.leaf_walk.specs.Join.{join}
use Rattle.transform.proofs.leaf_rows.Entries.{put_numbers}
use Rattle.transform.proofs.numbers.Laws.{fixed_low, number_wide, no_offsets, no_view}
use Rattle.transform.proofs.null_ways.Laws.{lists_known}
use Rattle.transform.proofs.list_rows.Laws.{items_made}
use Rattle.transform.proofs.list_rows.put_items.Goals as goal

pub scale-o-requires : goal.scale-o-requires
scale-o-requires c =
    let p = c.args.plan.now in
    number_wide (code_of p 1) (lists_known p c.requires.counters_len.2).items.fixed c.requires.items_in.0

pub returns : goal.returns
returns c =
    let a = c.args in
    let f = (lists_known a.plan.now c.requires.counters_len.2).items in
    let l = fixed_low (code_of a.plan.now 1) f.fixed in
    λ lengths source lead s. let x = join a.plan.now a.parts.now lengths a.places.now a.body.now a.first source in items_made x lead a.k a.counters.now a.room.now f s (omega (arith, c.requires.items_in.3)) (c.put_bits.ensures lengths source) (put_numbers x (copy_walk x 6) 1 a.inner a.k _ _ c.requires.items_in.0 c.place.ensures c.requires.items_in.1 c.at_u64.ensures c.scale-o.ensures (omega (arith, c.room-1.given, c.well_formed)) l.0 (omega (arith, l.1)) (no_offsets (code_of a.plan.now 1) f.fixed).0 (no_view (code_of a.plan.now 1) f.fixed) refl f.plain c.put_copy.ensures) c.add_to.ensures
