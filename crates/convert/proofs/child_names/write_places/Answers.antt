-- `child_names::write_places` meets its contract. The invariant: k numbers are written behind the root's. Assumes nothing.
use Prim.Native.Nat.{◌*◌, ◌-◌}
use native.Mathlib.Omega.{arith}
use Rattle.into_builder.proofs.buffers.Written.{behind_none}
use Rattle.convert.specs.child_names.Names.{below_place}
use Rattle.convert.proofs.child_names.Laws.{one_more, all_of}
use Rattle.convert.proofs.child_names.write_places.Goals as goal

pub loop-k-init : goal.loop-k-init
loop-k-init c = behind_none c.args.table.now 9

pub bounds-table-k : goal.bounds-table-k
bounds-table-k c = omega (arith, c.loop-k.invariant.same, c.requires.1)

pub loop-k-preserved : goal.loop-k-preserved
loop-k-preserved c =
    let z = c.args in
    let l = c.loop-k in
    one_more (below_place z.places.now z.nulls.now z.first) z.table.now l.table 9 l.k _ (omega (arith, c.requires.1)) l.invariant c.place_word.ensures

pub returns : goal.returns
returns c =
    let z = c.args in
    let l = c.loop-k in
    all_of (below_place z.places.now z.nulls.now z.first) z.table.now l.table 9 l.k (9 * (z.n - 1)) (omega arith) (omega (arith, c.requires.0, c.requires.1)) l.invariant
