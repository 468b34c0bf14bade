-- `width_loop::kinds::put_chars` meets its contract. Assumes nothing.
use mathlib.Core.List.{[], ◌∷◌}
use mathlib.Core.Path.{◌∙◌, ap}
use native.Mathlib.Omega.{arith}
use Prim.Native.Nat.{◌+◌}
use lib.ListN.{take, drop}
use Rattle.walk.specs.Log.{put, apply_if}
use Rattle.width_loop.proofs.kinds.put_chars.Goals as goal

pub overflow_add-from : goal.overflow_add-from
overflow_add-from c = omega (arith, c.place_at.ensures)

pub put_copy-requires : goal.put_copy-requires
put_copy-requires c = (omega arith, omega arith, omega (arith, c.place_at.ensures))

pub returns : goal.returns
returns c =
    let a = c.args in
    record { room_value = c.put_copy.ensures ∙ ap (λ z. apply_if a.plan.now a.parts.now a.write (put a.i 2 0 (take a.span (drop (z + a.base) a.body.now)) ∷ []) a.room.now) c.place_at.ensures; counters_value = c.set_bytes.ensures }
