-- `width_loop::leaves::put_bits` meets its contract. Assumes nothing.
use mathlib.Core.List.{[]}
use native.Mathlib.Omega.{arith}
use mathlib.Core.Path.{◌≡◌, ◌∙◌}
use Rattle.columnar.specs.Array.{ok}
use Rattle.array_data.specs.Tables.{valid_of, place}
use Rattle.array_data.specs.entries.Entries.{column}
use Rattle.width_loop.proofs.Laws.{bits_off, bits_ones, bits_there, mask_inside, mask_long}
use Rattle.width_loop.proofs.leaves.put_bits.Goals as goal

pub returns-then-keeps_of-eq0 : goal.returns-then-keeps_of-eq0
returns-then-keeps_of-eq0 c =
    let a = c.args in
    λ d. bits_off a.plan.now a.parts.now a.write a.room.now a.i a.s a.n d (ok (valid_of (column [] a.places.now [] a.body.now a.first) a.i)) c.keeps_of.ensures c.if-keeps_of-eq0.true

pub returns-then-place_at-eq0 : goal.returns-then-place_at-eq0
returns-then-place_at-eq0 c =
    let a = c.args in
    λ d. bits_ones a.plan.now a.parts.now a.write a.room.now a.i a.s a.n d (column [] a.places.now [] a.body.now a.first) a.i c.keeps_of.ensures c.if-keeps_of-eq0.false c.place_at.ensures c.if-place_at-eq0.true c.put_ones.ensures

pub put_mask-requires : goal.put_mask-requires
put_mask-requires c =
    let a = c.args in
    let x = column [] a.places.now [] a.body.now a.first in
    let h : place x a.i 0 ≡ 0 → ⊥ = λ z. c.if-place_at-eq0.false (c.place_at.ensures ∙ z) in
    (omega arith, omega (arith, c.place_at-at.ensures, mask_inside a.plan.now a.parts.now a.write a.room.now a.i a.s a.n [] x a.i h c.requires.i_value.0, mask_long a.plan.now a.parts.now a.write a.room.now a.i a.s a.n [] x a.i h c.requires.i_value.0 c.requires.i_value.1))

pub returns : goal.returns
returns c =
    let a = c.args in
    λ d. bits_there a.plan.now a.parts.now a.write a.room.now a.i a.s a.n d (column [] a.places.now [] a.body.now a.first) a.i c.requires.i_value.0 c.requires.i_value.1 c.keeps_of.ensures c.if-keeps_of-eq0.false c.place_at.ensures c.if-place_at-eq0.false c.place_at-at.ensures c.put_mask.ensures.room_after
