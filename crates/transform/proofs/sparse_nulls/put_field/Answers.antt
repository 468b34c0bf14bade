-- `transform::sparse_nulls::put_field` meets its contract. Assumes nothing.
use mathlib.Core.Path.{ap, ◌∙◌}
use mathlib.Core.Bool.{true}
use mathlib.Core.List.{[]}
use native.Mathlib.Omega.{arith}
use Rattle.schema.specs.formats.Code.{is_fixed}
use Rattle.walk.specs.State.{code_of}
use Rattle.walk.specs.Nulls.{null_walk}
use Rattle.leaf_walk.specs.Join.{join}
use Rattle.plan.specs.parts.Parts.{entry_size}
use Rattle.transform.proofs.numbers.Laws.{fixed_low, no_offsets, number_wide}
use Rattle.transform.proofs.leaf_nulls.Laws as nulls
use Rattle.transform.proofs.null_ways.Laws.{numbers_at_lem}
use Rattle.transform.proofs.sparse_nulls.Laws.{field_did}
use Rattle.transform.proofs.sparse_nulls.put_field.Goals as goal

pub scale-o-requires : goal.scale-o-requires
scale-o-requires c =
    let a = c.args in
    number_wide (code_of a.plan.now a.k) (numbers_at_lem a.plan.now a.k c.requires.2).fixed (c.number_size-w.ensures ∙ ap entry_size c.code_of.ensures)

pub put_zeros-requires : goal.put_zeros-requires
put_zeros-requires c =
    let a = c.args in
    let w = number_wide (code_of a.plan.now a.k) (numbers_at_lem a.plan.now a.k c.requires.2).fixed (c.number_size-w.ensures ∙ ap entry_size c.code_of.ensures) in
    (c.requires.1, omega arith, w.0, w.1)

pub returns : goal.returns
returns c =
    let a = c.args in
    let p = a.plan.now in
    let k = a.k in
    let x = join p a.parts.now [] [] [] 0 0 in
    let f = (numbers_at_lem p k c.requires.2).fixed in
    let l = fixed_low (code_of p k) f in
    let w = c.number_size-w.ensures ∙ ap entry_size c.code_of.ensures in
    let d = nulls.put_zeros x (null_walk x 6) k a.n a.counters.now a.room.now w c.at_u64.ensures (omega (arith, c.well_formed)) l.0 (omega (arith, l.1)) (no_offsets (code_of p k) f).0 c.scale-o.ensures c.put_zeros.ensures in
    field_did x k a.n a.counters.now a.room.now c.requires.3 c.requires.1 f true d c.put_null_mask.ensures c.add_to.ensures
