-- `transform::numbers::put_numbers` meets its contract. Assumes nothing.
use mathlib.Core.Path.{refl, subst}
use Prim.Native.Nat.{◌+◌, ◌*◌, ◌≤◌}
use native.Mathlib.Nat.{mul-add}
use native.Mathlib.Omega.{arith}
use lib.ListN.{length}
use Rattle.walk.specs.State.{code_of}
use Rattle.leaf_walk.specs.Join.{join}
use Rattle.transform.proofs.leaf_rows.Entries.{put_numbers}
use Rattle.transform.proofs.numbers.Laws.{fixed_low, no_offsets, no_view, number_wide, scaled_low}
use Rattle.transform.proofs.numbers.put_numbers.Goals as goal

pub returns : goal.returns
returns c =
    let a = c.args in
    let l = fixed_low (code_of a.plan.now a.i) c.requires.i_bound.1 in
    λ lengths places counters first source child e q. put_numbers (join a.plan.now a.parts.now lengths places a.body.now first source) child a.i a.slot a.n counters a.room.now c.requires.i_bound.3 e (subst (λ v. v + a.w * (a.slot + a.n) ≤ length a.body.now) e c.requires.n_in_bounds.0) q c.scale-o.ensures (omega (arith, c.well_formed)) l.0 (omega (arith, l.1)) (no_offsets (code_of a.plan.now a.i) c.requires.i_bound.1).0 (no_view (code_of a.plan.now a.i) c.requires.i_bound.1) refl c.requires.i_bound.2 c.put_bytes.ensures

pub put_bytes-requires : goal.put_bytes-requires
put_bytes-requires c = (c.requires.i_bound.0, omega (arith, c.requires.n_in_bounds.0, mul-add c.args.w c.args.slot c.args.n), omega (arith, c.requires.n_in_bounds.1, scaled_low c.args.w refl c.scale-o.ensures))
