-- `child_names::write_nulls` meets its contract. The invariant: k numbers are written behind the root's. Assumes nothing.
use Prim.Native.Nat.{suc, ◌+◌, ◌-◌}
use mathlib.Core.Path.{subst}
use native.Mathlib.Omega.{arith}
use Rattle.columnar.specs.Array.{null_count_of}
use Rattle.array_data.specs.lent_tables.Lent.{tables}
use Rattle.plan.specs.dictionaries.Sources.{array_of, Countable}
use Rattle.into_builder.proofs.buffers.Written.{behind_none}
use Rattle.convert.proofs.child_names.Laws.{one_more, all_of}
use Rattle.convert.proofs.child_names.write_nulls.Goals as goal

pub loop-k-init : goal.loop-k-init
loop-k-init c = behind_none c.args.table.now 1

pub null_count-requires : goal.null_count-requires
null_count-requires c =
    let z = c.args in
    let l = c.loop-k in
    subst (λ j. Countable (tables z.lengths.now z.places.now z.body.now) j) (omega arith) (c.requires.2 (suc l.k) (omega arith))

pub bounds-table-k : goal.bounds-table-k
bounds-table-k c = omega (arith, c.loop-k.invariant.same, c.requires.1)

pub loop-k-preserved : goal.loop-k-preserved
loop-k-preserved c =
    let z = c.args in
    let l = c.loop-k in
    one_more (λ k. null_count_of (array_of (tables z.lengths.now z.places.now z.body.now) (z.first + 1 + k))) z.table.now l.table 1 l.k _ (omega (arith, c.requires.1)) l.invariant c.null_count.ensures

pub returns : goal.returns
returns c =
    let z = c.args in
    let l = c.loop-k in
    all_of (λ k. null_count_of (array_of (tables z.lengths.now z.places.now z.body.now) (z.first + 1 + k))) z.table.now l.table 1 l.k (z.n - 1) (omega arith) (omega (arith, c.requires.0, c.requires.1)) l.invariant
