-- `rows::gaps::count_runs` meets its contract. Assumes nothing.
use Prim.Native.Nat.{◌+◌}
use native.Mathlib.Numerals.{add-one}
use Rattle.nested_rows.proofs.Laws.{counted_runs}
use Rattle.nested_rows.proofs.gaps.count_runs.Goals as goal

pub returns : goal.returns
returns c =
    let a = c.args in
    counted_runs a.counters.now _ _ a.i (a.i + 1) a.n _ _ (add-one a.i) c.add_rows.ensures c.bytes_of-gap.ensures c.set_bytes.ensures c.gap_ended.ensures
