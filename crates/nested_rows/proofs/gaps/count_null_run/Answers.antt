-- `rows::gaps::count_null_run` meets its contract. Assumes nothing.
use Prim.Native.Nat.{◌+◌}
use native.Mathlib.Numerals.{add-one}
use Rattle.nested_rows.proofs.Laws.{counted_nulls}
use Rattle.nested_rows.proofs.gaps.count_null_run.Goals as goal

pub returns : goal.returns
returns c =
    let a = c.args in
    counted_nulls a.counters.now _ _ a.i (a.i + 1) 1 _ _ (add-one a.i) c.add_rows.ensures c.bytes_of-gap.ensures c.set_bytes.ensures c.gap_begun.ensures
