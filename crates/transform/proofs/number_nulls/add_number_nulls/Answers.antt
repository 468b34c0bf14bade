-- `transform::number_nulls::add_number_nulls` meets its contract. Assumes nothing.
use mathlib.Core.Path.{refl, ap, ◌∙◌}
use mathlib.Core.List.{[]}
use native.Mathlib.Omega.{arith}
use lib.ListN.{length}
use Rattle.schema.specs.formats.Code.{is_fixed}
use Rattle.walk.specs.State.{code_of, rows, bytes, add_rows, set_bytes}
use Rattle.walk.specs.Nulls.{null_walk}
use Rattle.leaf_walk.specs.Join.{join}
use Rattle.plan.specs.parts.Parts.{entry_size}
use Rattle.transform.proofs.leaf_nulls.Laws.{nulls_refused, nulls_made}
use Rattle.transform.proofs.numbers.Laws.{first_node, fixed_low, raised_rows, numbers_fit}
use Rattle.transform.proofs.number_nulls.add_number_nulls.Goals as goal

pub returns-then-g-ne0 : goal.returns-then-g-ne0
returns-then-g-ne0 c =
    let a = c.args in
    let l = fixed_low (code_of a.plan.now 0) (first_node a.plan.now c.requires.2).fixed in
    let t = set_bytes 0 (bytes a.counters.now 0) (add_rows 0 a.n a.counters.now) in
    let r = raised_rows a.n (bytes a.counters.now 0) a.counters.now c.requires.0 c.at_u64.ensures c.grow-r.ensures in
    λ sources lengths places body. nulls_refused a.plan.now a.parts.now sources lengths places body 0 a.n a.counters.now a.room.now c.requires.1 (omega arith) l.0 (omega (arith, l.1)) refl (c.room_ground-g.ensures t r) refl c.if-g-ne0.true

pub put_zeros-requires : goal.put_zeros-requires
put_zeros-requires c =
    let a = c.args in
    let o = first_node a.plan.now c.requires.2 in
    let e = c.number_size-w.ensures ∙ ap entry_size c.code_of.ensures in
    let t = set_bytes 0 (bytes a.counters.now 0) (add_rows 0 a.n a.counters.now) in
    let r = raised_rows a.n (bytes a.counters.now 0) a.counters.now c.requires.0 c.at_u64.ensures c.grow-r.ensures in
    (o.fixed, e, numbers_fit a.plan.now a.parts.now t (length a.room.now) o (c.room_ground-g.ensures t r) c.if-g-ne0.false (rows a.counters.now 0) a.n c.at_u64.ensures (r ∙ c.grow-r.ensures) e (omega (arith, c.well_formed)))

pub returns : goal.returns
returns c =
    let a = c.args in
    let l = fixed_low (code_of a.plan.now 0) (first_node a.plan.now c.requires.2).fixed in
    let t = set_bytes 0 (bytes a.counters.now 0) (add_rows 0 a.n a.counters.now) in
    let r = raised_rows a.n (bytes a.counters.now 0) a.counters.now c.requires.0 c.at_u64.ensures c.grow-r.ensures in
    λ sources lengths places body. nulls_made a.plan.now a.parts.now sources lengths places body 0 a.n a.counters.now a.room.now c.requires.1 (omega arith) l.0 (omega (arith, l.1)) refl (c.room_ground-g.ensures t r) refl c.if-g-ne0.false (c.put_zeros.ensures (null_walk (join a.plan.now a.parts.now [] [] [] 0 0) 7)) c.put_null_mask.ensures c.add_to.ensures
