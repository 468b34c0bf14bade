-- `child_names::write_lengths` meets its contract. The invariant: k numbers are written behind the root's. Assumes nothing.
use Prim.Native.Nat.{◌+◌, ◌*◌, ◌-◌}
use native.Mathlib.Omega.{arith}
use lib.ListN.{get_or}
use Rattle.into_builder.proofs.buffers.Written.{behind_none}
use Rattle.convert.proofs.child_names.Laws.{one_more, all_of}
use Rattle.convert.proofs.child_names.write_lengths.Goals as goal

pub loop-k-init : goal.loop-k-init
loop-k-init c = behind_none c.args.table.now 2

pub bounds-table-k : goal.bounds-table-k
bounds-table-k c = omega (arith, c.loop-k.invariant.same, c.requires.1)

pub loop-k-preserved : goal.loop-k-preserved
loop-k-preserved c =
    let z = c.args in
    let l = c.loop-k in
    one_more (λ k. get_or z.lengths.now (2 * (z.first + 1) + k) 0) z.table.now l.table 2 l.k _ (omega (arith, c.requires.1)) l.invariant c.at_u64.ensures

pub returns : goal.returns
returns c =
    let z = c.args in
    let l = c.loop-k in
    all_of (λ k. get_or z.lengths.now (2 * (z.first + 1) + k) 0) z.table.now l.table 2 l.k (2 * (z.n - 1)) (omega arith) (omega (arith, c.requires)) l.invariant
