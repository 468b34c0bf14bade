-- `transform::number_nulls::put_zeros` meets its contract. Assumes nothing.
use mathlib.Core.Path.{ap}
use Prim.Native.Nat.{ℕ, ◌+◌, ◌*◌}
use native.Mathlib.Nat.{mul_comm}
use native.Mathlib.Omega.{arith}
use lib.ListN.{replicate, length-replicate}
use Rattle.walk.specs.State.{code_of}
use Rattle.leaf_walk.specs.Join.{join}
use mathlib.Core.List.{[]}
use Rattle.transform.proofs.leaf_nulls.Laws as nulls
use Rattle.transform.proofs.numbers.Laws.{fixed_low, no_offsets, number_wide, scaled_low, start_one, put_known}
use Rattle.transform.proofs.number_nulls.put_zeros.Goals as goal

pub returns : goal.returns
returns c =
    let a = c.args in
    let l = fixed_low (code_of a.plan.now 0) c.requires.0 in
    let s = start_one a.plan.now a.parts.now 0 c.part_of.ensures.value c.at_u64-start.ensures in
    let low = scaled_low a.w c.at_u64.ensures c.scale-o.ensures in
    let room = put_known a.plan.now a.parts.now 0 c.scale-o.result (replicate (a.n * a.w) 0) a.room.now (omega (arith, c.requires.2, low, mul_comm a.n a.w, length-replicate {A = ℕ} (a.n * a.w) 0)) (ap (λ (z : ℕ). z + c.scale-o.result) s) c.fill_zeros.ensures in
    λ child. nulls.put_zeros (join a.plan.now a.parts.now [] [] [] 0 0) child 0 a.n a.counters.now a.room.now c.requires.1 c.at_u64.ensures (omega (arith, c.well_formed)) l.0 (omega (arith, l.1)) (no_offsets (code_of a.plan.now 0) c.requires.0).0 c.scale-o.ensures room

pub overflow_add-start : goal.overflow_add-start
overflow_add-start c = omega (arith, c.requires.2, start_one c.args.plan.now c.args.parts.now 0 c.part_of.ensures.value c.at_u64-start.ensures, scaled_low c.args.w c.at_u64.ensures c.scale-o.ensures, c.well_formed)

pub fill_zeros-requires : goal.fill_zeros-requires
fill_zeros-requires c = omega (arith, c.requires.2, start_one c.args.plan.now c.args.parts.now 0 c.part_of.ensures.value c.at_u64-start.ensures, scaled_low c.args.w c.at_u64.ensures c.scale-o.ensures, mul_comm c.args.n c.args.w)
