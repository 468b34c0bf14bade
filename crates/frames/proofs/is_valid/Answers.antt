-- `frames::is_valid` meets its contract. Assumes nothing.
use native.Mathlib.Omega.{arith}
use borrow.Author.Tests.{not-false}
use Rattle.frames.proofs.Slots.{no_mask_lem, one_bit}
use Rattle.frames.proofs.is_valid.Goals as goal

pub returns-then-not-masked : goal.returns-then-not-masked
returns-then-not-masked c = no_mask_lem c.args.masked c.args.mask.now c.args.slot c.if-not-masked.true-raw

pub bounds-mask-slot : goal.bounds-mask-slot
bounds-mask-slot c =
    let h = c.requires (not-false _ c.if-not-masked.false-raw) in
    omega (arith, h)

pub returns : goal.returns
returns c = one_bit c.args.masked c.args.mask.now c.args.slot c.if-not-masked.false-raw
