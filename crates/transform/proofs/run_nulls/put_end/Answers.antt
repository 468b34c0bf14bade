-- `transform::run_nulls::put_end` meets its contract. Assumes nothing.
use mathlib.Core.Path.{refl, sym, ap, ◌∙◌}
use mathlib.Core.Bool.{true}
use Prim.Native.Nat.{ℕ, ◌+◌}
use native.Mathlib.Omega.{arith}
use lib.Dec.{ltb}
use borrow.Author.Tests.{ltb-true}
use Rattle.columnar.specs.Types.{half}
use Rattle.walk.specs.State.{rows}
use Rattle.nested_rows.proofs.Laws.{wide_in, end_yes, half_top}
use Rattle.transform.proofs.run_nulls.Laws.{width_is, gap_begun}
use Rattle.transform.proofs.run_nulls.put_end.Goals as goal

pub returns : goal.returns
returns c =
    let a = c.args in
    end_yes a.plan.now a.parts.now true 0 a.counters.now a.room.now a.n refl c.requires.counters_len.1 c.at_u64.ensures (sym (ap (λ (z : ℕ). ltb (z + a.n) (half a.w)) c.at_u64.ensures ∙ c.requires.w_value)) refl c.at_u64-2.ensures c.scale-o.ensures (omega (arith, c.well_formed)) c.put_number.ensures (gap_begun a.counters.now c.requires.counters_len.3 c.add_to.ensures)
