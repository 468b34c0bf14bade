-- `width_loop::runs::put_range` meets its contract. Assumes nothing.
use mathlib.Core.Path.{◌∙◌, ap}
use mathlib.Core.List.{[], ◌∷◌, ◌++◌}
use Prim.Native.Nat.{◌+◌, ◌*◌, ◌-◌}
use native.Mathlib.Nat.{mul-add}
use native.Mathlib.Numerals.{add-one}
use native.Mathlib.Omega.{arith}
use Rattle.number.specs.Number.{encode}
use Rattle.walk.specs.State.{add_rows}
use Rattle.walk.specs.Log.{put, apply_if}
use Rattle.recode.specs.Recode.{lessened}
use Rattle.width_walks.specs.Nodes.{range}
use Rattle.width_loop.proofs.Clips.{add_two}
use Rattle.width_loop.proofs.runs.put_range.Goals as goal

pub overflow_mul-from : goal.overflow_mul-from
overflow_mul-from c = let a = c.args in omega (arith, mul-add a.w a.a a.m)

pub overflow_add-from : goal.overflow_add-from
overflow_add-from c = let a = c.args in omega (arith, mul-add a.w a.a a.m)

pub put_ends-requires : goal.put_ends-requires
put_ends-requires c =
    let a = c.args in
    record { i_bound = (omega arith, omega arith, omega arith, omega (arith, mul-add a.w a.a a.m)); w_value = c.requires.w_value.0; w2_value = c.requires.w_value.1 }

pub returns : goal.returns
returns c =
    let a = c.args in
    record { room_value = c.put_ends.ensures ∙ ap (λ z. apply_if a.plan.now a.parts.now a.write (put z 1 0 (lessened a.w a.w2 a.body.now (a.ends + a.w * a.a) a.s (a.m - 1) ++ encode a.w2 a.n) ∷ []) a.room.now) (add-one a.i); counters_value = (c.add_rows.ensures ∙ ap (λ z. add_rows z a.m a.counters.now) (add-one a.i), c.set_range.ensures ∙ ap (λ z. range z a.a a.m a.ranges.now) (add_two a.i)) }
