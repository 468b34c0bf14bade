-- `frames::counts` meets its contract. Assumes nothing.
use mathlib.Core.Path.{ap, ap₂, ◌∙◌}
use mathlib.Core.Bool.{◌&&◌, not}
use native.Mathlib.Omega.{arith}
use lib.Ieee.{binary64, nan_bits}
use Rattle.columnar.specs.Array.{item, ok}
use Rattle.frames.specs.Slots.{mask_of}
use Rattle.frames.proofs.Slots.{slot_number}
use Rattle.frames.proofs.counts.Goals as goal

pub is_valid-valid-requires : goal.is_valid-valid-requires
is_valid-valid-requires c = λ h. let l = c.requires.holds.marks h in omega (arith, l)

pub is_valid-valid2-requires : goal.is_valid-valid2-requires
is_valid-valid2-requires c = λ h. let l = c.requires.holds_2.marks h in omega (arith, l)

pub overflow_mul-a : goal.overflow_mul-a
overflow_mul-a c = omega (arith, c.requires.holds.numbers)

pub read-requires : goal.read-requires
read-requires c = omega (arith, c.requires.holds.numbers)

pub overflow_mul-b : goal.overflow_mul-b
overflow_mul-b c = omega (arith, c.requires.holds_2.numbers)

pub read-requires-2 : goal.read-requires-2
read-requires-2 c = omega (arith, c.requires.holds_2.numbers)

pub returns : goal.returns
unfolding item
returns c =
    ap₂ ◌&&◌
    (ap₂ ◌&&◌ c.is_valid-valid.ensures (c.is_number-number.ensures ∙ ap (λ p. not (nan_bits binary64 p)) c.read.ensures) ∙ slot_number (ok (mask_of c.args.lat_masked c.args.lat_mask.now) c.args.a) (item 8 c.args.lat.now c.args.a))
    (ap₂ ◌&&◌ c.is_valid-valid2.ensures (c.is_number-number2.ensures ∙ ap (λ p. not (nan_bits binary64 p)) c.read-2.ensures) ∙ slot_number (ok (mask_of c.args.lon_masked c.args.lon_mask.now) c.args.b) (item 8 c.args.lon.now c.args.b))
