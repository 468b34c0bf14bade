-- `frames::widen_by` meets its contract. Assumes nothing.
use mathlib.Core.Path.{sym, ◌∙◌}
use Prim.Native.Nat.{◌+◌, ◌-◌}
use native.Mathlib.Omega.{arith}
use Rattle.frames.specs.Slots.{mask_of, slot_stop}
use Rattle.frames.proofs.Slots.{fewer, rows_start, rows_next, rows_done}
use Rattle.frames.proofs.widen_by.Goals as goal

pub loop-k-init : goal.loop-k-init
loop-k-init c =
    let z = c.args in
    (rows_start (λ j. slot_stop z.lat.now (mask_of z.lat_masked z.lat_mask.now) z.lon.now (mask_of z.lon_masked z.lon_mask.now) (z.a + j) (z.b + j)) z.f z.n)

pub overflow_add-a : goal.overflow_add-a
overflow_add-a c = omega (arith, c.requires.holds.numbers)

pub overflow_add-b : goal.overflow_add-b
overflow_add-b c = omega (arith, c.requires.holds_2.numbers)

pub widen_row-frame-requires : goal.widen_row-frame-requires
widen_row-frame-requires c = record { holds = fewer _ c.requires.holds (omega arith); holds_2 = fewer _ c.requires.holds_2 (omega arith) }

pub loop-k-preserved : goal.loop-k-preserved
loop-k-preserved c =
    let z = c.args in
    (sym (rows_next (λ j. slot_stop z.lat.now (mask_of z.lat_masked z.lat_mask.now) z.lon.now (mask_of z.lon_masked z.lon_mask.now) (z.a + j) (z.b + j)) c.loop-k.frame c.widen_row-frame.result c.loop-k.k z.n (omega arith) c.widen_row-frame.ensures) ∙ c.loop-k.invariant)

pub returns : goal.returns
returns c =
    let z = c.args in
    rows_done (λ j. slot_stop z.lat.now (mask_of z.lat_masked z.lat_mask.now) z.lon.now (mask_of z.lon_masked z.lon_mask.now) (z.a + j) (z.b + j)) c.loop-k.frame _ c.loop-k.k z.n (omega arith) c.loop-k.invariant
