-- `frames::widen_row` meets its contract. Assumes nothing.
use mathlib.Core.Path.{sym, ap, ◌∙◌}
use native.Mathlib.Omega.{arith}
use Rattle.frames.specs.Frames.{joined}
use Rattle.frames.specs.Slots.{mask_of, slot_stop}
use Rattle.frames.proofs.Slots.{lat_known, lon_known, its_frame, row_counted, row_passed}
use Rattle.frames.proofs.widen_row.Goals as goal

pub frame_at-requires : goal.frame_at-requires
frame_at-requires c =
    let z = c.args in
    let h = sym c.counts.ensures ∙ c.if-counts.true in record { a_in_bounds = (omega (arith, c.requires.holds.numbers), lat_known z.lat.now (mask_of z.lat-masked z.lat-mask.now) z.lon.now (mask_of z.lon-masked z.lon-mask.now) z.a z.b h); b_in_bounds = (omega (arith, c.requires.holds_2.numbers), lon_known z.lat.now (mask_of z.lat-masked z.lat-mask.now) z.lon.now (mask_of z.lon-masked z.lon-mask.now) z.a z.b h) }

pub returns-then-counts : goal.returns-then-counts
returns-then-counts c =
    let z = c.args in
    let h = sym c.counts.ensures ∙ c.if-counts.true in
    c.join_frames.ensures
    ∙ ap (joined z.f) (c.frame_at.ensures ∙ its_frame z.lat.now (mask_of z.lat-masked z.lat-mask.now) z.lon.now (mask_of z.lon-masked z.lon-mask.now) z.a z.b h)
    ∙ row_counted z.f (slot_stop z.lat.now (mask_of z.lat-masked z.lat-mask.now) z.lon.now (mask_of z.lon-masked z.lon-mask.now) z.a z.b) h

pub returns : goal.returns
returns c =
    let z = c.args in
    row_passed z.f (slot_stop z.lat.now (mask_of z.lat-masked z.lat-mask.now) z.lon.now (mask_of z.lon-masked z.lon-mask.now) z.a z.b) (sym c.counts.ensures ∙ c.if-counts.false)
