-- `transform::run_nulls::put_value` meets its contract. Assumes nothing.
use mathlib.Core.Path.{ap, ◌∙◌}
use mathlib.Core.Bool.{true}
use mathlib.Core.List.{[]}
use native.Mathlib.Omega.{arith}
use Rattle.schema.specs.formats.Code.{is_fixed}
use Rattle.walk.specs.State.{code_of}
use Rattle.walk.specs.Nulls.{null_walk}
use Rattle.leaf_walk.specs.Join.{join}
use Rattle.plan.specs.parts.Parts.{entry_size}
use Rattle.transform.proofs.numbers.Laws.{fixed_low, no_offsets, number_wide}
use Rattle.transform.proofs.leaf_nulls.Laws as nulls
use Rattle.transform.proofs.run_nulls.Laws.{value_did}
use Rattle.transform.proofs.run_nulls.put_value.Goals as goal

pub put_zeros-requires : goal.put_zeros-requires
put_zeros-requires c =
    let w = number_wide (code_of c.args.plan.now 2) c.requires.1 (c.number_size-w.ensures ∙ ap entry_size c.code_of.ensures) in
    (omega arith, omega arith, w.0, w.1)

pub returns : goal.returns
returns c =
    let a = c.args in
    let x = join a.plan.now a.parts.now [] [] [] 0 0 in
    let l = fixed_low (code_of a.plan.now 2) c.requires.1 in
    let d = nulls.put_zeros x (null_walk x 6) 2 1 a.counters.now a.room.now (c.number_size-w.ensures ∙ ap entry_size c.code_of.ensures) c.at_u64.ensures (omega (arith, c.well_formed)) l.0 (omega (arith, l.1)) (no_offsets (code_of a.plan.now 2) c.requires.1).0 c.scale-o.ensures c.put_zeros.ensures in
    value_did a.plan.now a.parts.now true a.counters.now a.room.now c.requires.1 d c.put_null_mask.ensures c.add_to.ensures
