-- `width_loop::leaves::put_offsets` meets its contract. Assumes nothing.
use mathlib.Core.Path.{refl}
use Prim.Native.Nat.{◌+◌}
use native.Mathlib.Omega.{arith}
use Rattle.array_data.specs.Tables.{part}
use Rattle.width_loop.proofs.Laws.{part_size, wide, offset_in_lem, span_rises, offsets_from_lem, offsets_over, offsets_none, offsets_some}
use Rattle.width_loop.proofs.leaves.put_offsets.Goals as goal

pub offset_at-base-requires : goal.offset_at-base-requires
offset_at-base-requires c =
    let a = c.args in
    let p = c.requires in
    record { size_in_bounds = (p.i_bound.1, offset_in_lem a.w (part a.body.now a.at a.size) p.by_index.0 a.s a.n a.s a.size p.by_index.1 (part_size a.body.now a.at a.size p.i_bound.1) (omega arith)); w_value = p.w_value.0 }

pub offset_at-requires : goal.offset_at-requires
offset_at-requires c =
    let a = c.args in
    let p = c.requires in
    record { size_in_bounds = (p.i_bound.1, offset_in_lem a.w (part a.body.now a.at a.size) p.by_index.0 a.s a.n (a.s + a.n) a.size p.by_index.1 (part_size a.body.now a.at a.size p.i_bound.1) (omega arith)); w_value = p.w_value.0 }

pub overflow_sub-span : goal.overflow_sub-span
overflow_sub-span c =
    let a = c.args in
    let p = c.requires in
    omega (arith, c.offset_at-base.ensures, c.offset_at.ensures, span_rises a.w (part a.body.now a.at a.size) p.by_index.0 a.s a.n p.by_index.1)

pub sum_fits-requires : goal.sum_fits-requires
sum_fits-requires c = λ e f. c.requires.w_value.1 f

pub returns-then-not-sum_fits : goal.returns-then-not-sum_fits
returns-then-not-sum_fits c =
    let a = c.args in
    let p = c.requires in
    offsets_over a.plan.now a.parts.now a.write a.room.now a.i a.body.now a.at a.size a.w a.w2 a.s a.n p.by_index.0 p.i_bound.1 p.by_index.1 c.offset_at-base.ensures c.offset_at.ensures refl c.sum_fits.ensures c.if-not-sum_fits.true-raw

pub returns-then-size-eq0 : goal.returns-then-size-eq0
returns-then-size-eq0 c =
    let a = c.args in
    let p = c.requires in
    offsets_none a.plan.now a.parts.now a.write a.room.now a.i a.body.now a.at a.size a.w a.w2 a.s a.n p.by_index.0 p.i_bound.1 p.by_index.1 (omega (arith, wide a.w p.w_value.0)) c.offset_at-base.ensures c.offset_at.ensures refl c.sum_fits.ensures c.if-not-sum_fits.false-raw c.if-size-eq0.true c.put_number.ensures

pub overflow_mul-from : goal.overflow_mul-from
overflow_mul-from c =
    let a = c.args in
    let p = c.requires in
    omega (arith, offsets_from_lem a.body.now a.at a.size a.w a.s a.n p.by_index.0 p.i_bound.1 p.by_index.1 c.if-size-eq0.false)

pub overflow_add-from : goal.overflow_add-from
overflow_add-from c =
    let a = c.args in
    let p = c.requires in
    omega (arith, offsets_from_lem a.body.now a.at a.size a.w a.s a.n p.by_index.0 p.i_bound.1 p.by_index.1 c.if-size-eq0.false)

pub put_less-requires : goal.put_less-requires
put_less-requires c =
    let a = c.args in
    let p = c.requires in
    record { i_bound = (omega arith, omega arith, omega (arith, offsets_from_lem a.body.now a.at a.size a.w a.s a.n p.by_index.0 p.i_bound.1 p.by_index.1 c.if-size-eq0.false)); w_value = (λ e f. p.w_value.0 f); w2_value = (λ e f. p.w_value.1 f) }

pub returns : goal.returns
returns c =
    let a = c.args in
    let p = c.requires in
    offsets_some a.plan.now a.parts.now a.write a.room.now a.i a.body.now a.at a.size a.w a.w2 a.s a.n p.by_index.0 p.i_bound.1 p.by_index.1 (wide a.w p.w_value.0).1 (λ j. (c.shared_slice_known-3-1.given j).fits) c.offset_at-base.ensures c.offset_at.ensures refl c.sum_fits.ensures c.if-not-sum_fits.false-raw c.if-size-eq0.false c.put_less.ensures
