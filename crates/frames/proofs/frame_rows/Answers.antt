-- `frames::frame_rows` meets its contract. Assumes nothing.
use mathlib.Core.Path.{◌≡◌, ap, ap₂, ◌∙◌}
use Prim.Native.Nat.{◌+◌, ◌-◌, ◌<◌}
use native.Mathlib.Omega.{arith}
use Rattle.columnar.specs.Row.{seg}
use Rattle.frames.specs.Frames.{widened_by}
use Rattle.frames.specs.Slots.{mask_of, slot_stop}
use Rattle.frames.proofs.Slots.{fewer, lat_known, lon_known, its_frame, rows_behind, all_passed, first_counted}
use Rattle.std.specs.Prelude.{Ok}
use Rattle.frames.proofs.frame_rows.Goals as goal

pub pass_over-k-requires : goal.pass_over-k-requires
pass_over-k-requires c = record { holds = c.requires.holds; holds_2 = c.requires.holds_2 }

pub returns-then-k-n : goal.returns-then-k-n
returns-then-k-n c =
    let z = c.args in
    all_passed (λ j. slot_stop z.lat.now (mask_of z.lat_masked z.lat_mask.now) z.lon.now (mask_of z.lon_masked z.lon_mask.now) (z.a + j) (z.b + j)) z.n c.pass_over-k.ensures c.if-k-n.true

pub overflow_add-p : goal.overflow_add-p
overflow_add-p c = omega (arith, c.requires.holds.numbers, c.pass_over-k.ensures.some_left)

pub overflow_add-q : goal.overflow_add-q
overflow_add-q c = omega (arith, c.requires.holds_2.numbers, c.pass_over-k.ensures.some_left)

pub frame_at-f-requires : goal.frame_at-f-requires
frame_at-f-requires c =
    let z = c.args in
    let k = c.pass_over-k.result in
    let l : k < z.n = omega (arith, c.pass_over-k.ensures.some_left, c.if-k-n.false) in
    let h = c.pass_over-k.ensures.next_counts l in record { a_in_bounds = (omega (arith, c.requires.holds.numbers), lat_known z.lat.now (mask_of z.lat_masked z.lat_mask.now) z.lon.now (mask_of z.lon_masked z.lon_mask.now) (z.a + k) (z.b + k) h); b_in_bounds = (omega (arith, c.requires.holds_2.numbers), lon_known z.lat.now (mask_of z.lat_masked z.lat_mask.now) z.lon.now (mask_of z.lon_masked z.lon_mask.now) (z.a + k) (z.b + k) h) }

pub overflow_sub-left : goal.overflow_sub-left
overflow_sub-left c = omega (arith, c.pass_over-k.ensures.some_left)

pub overflow_sub-left-2 : goal.overflow_sub-left-2
overflow_sub-left-2 c = omega (arith, c.pass_over-k.ensures.some_left, c.if-k-n.false)

pub overflow_add-p-2 : goal.overflow_add-p-2
overflow_add-p-2 c =
    let z = c.args in
    let l : c.pass_over-k.result < z.n = omega (arith, c.pass_over-k.ensures.some_left, c.if-k-n.false) in
    omega (arith, c.requires.holds.numbers)

pub overflow_add-q-2 : goal.overflow_add-q-2
overflow_add-q-2 c =
    let z = c.args in
    let l : c.pass_over-k.result < z.n = omega (arith, c.pass_over-k.ensures.some_left, c.if-k-n.false) in
    omega (arith, c.requires.holds_2.numbers)

pub widen_by-requires : goal.widen_by-requires
widen_by-requires c =
    let z = c.args in
    let l : c.pass_over-k.result < z.n = omega (arith, c.pass_over-k.ensures.some_left, c.if-k-n.false) in
    record { holds = fewer _ c.requires.holds (omega arith); holds_2 = fewer _ c.requires.holds_2 (omega arith) }

pub returns : goal.returns
returns c =
    let z = c.args in
    let k = c.pass_over-k.result in
    let l : k < z.n = omega (arith, c.pass_over-k.ensures.some_left, c.if-k-n.false) in
    let h = c.pass_over-k.ensures.next_counts l in
    let left : z.n - k - 1 ≡ z.n - (k + 1) = omega arith in
    let f = c.frame_at-f.ensures ∙ its_frame z.lat.now (mask_of z.lat_masked z.lat_mask.now) z.lon.now (mask_of z.lon_masked z.lon_mask.now) (z.a + k) (z.b + k) h in
    let rows = rows_behind z.lat.now (mask_of z.lat_masked z.lat_mask.now) z.lon.now (mask_of z.lon_masked z.lon_mask.now) z.a z.b k (z.n - k - 1) ∙ ap (seg (λ j. slot_stop z.lat.now (mask_of z.lat_masked z.lat_mask.now) z.lon.now (mask_of z.lon_masked z.lon_mask.now) (z.a + j) (z.b + j)) (k + 1)) left in
    ap Ok (c.widen_by.ensures ∙ ap₂ widened_by f rows) ∙ first_counted (λ j. slot_stop z.lat.now (mask_of z.lat_masked z.lat_mask.now) z.lon.now (mask_of z.lon_masked z.lon_mask.now) (z.a + j) (z.b + j)) z.n c.pass_over-k.ensures l
