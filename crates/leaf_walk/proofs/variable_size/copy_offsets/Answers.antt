-- `string_walk::copy_offsets` meets its contract. Assumes nothing.
use mathlib.Core.Path.{sym, ◌∙◌}
use mathlib.Core.List.{[]}
use Prim.Native.Nat.{◌+◌}
use native.Mathlib.Numerals.{add-one}
use native.Mathlib.Omega.{arith}
use Rattle.room_writes.proofs.Bytes.{width_in_lem}
use Rattle.leaf_walk.specs.Join.{join}
use Rattle.leaf_walk.proofs.Laws.{rows_in_lem}
use Rattle.leaf_walk.proofs.variable_size.Lists.{untouched, offsets_out, offsets_in, offsets_put}
use Rattle.leaf_walk.proofs.variable_size.copy_offsets.Goals as goal

pub rows_in-requires : goal.rows_in-requires
rows_in-requires c = omega (arith, width_in_lem c.args.w (λ p q. c.requires.w_value))

pub returns-then-not-rows_in : goal.returns-then-not-rows_in
returns-then-not-rows_in c =
    let a = c.args in
    record { any_lengths = λ lengths source. offsets_out (join a.plan.now a.parts.now lengths a.places.now a.body.now a.first source) a.w a.i a.slot a.n a.counters.now c.place-at.ensures (c.rows_in.ensures a.plan.now a.parts.now lengths a.places.now a.first source) c.if-not-rows_in.true-raw; any_lengths_2 = λ lengths source. untouched a.plan.now a.parts.now a.write a.room.now }

pub overflow_mul-from : goal.overflow_mul-from
overflow_mul-from c =
    let a = c.args in
    omega (arith, rows_in_lem (join [] [] [] [] a.body.now 0 0) c.place-at.result a.w a.slot (a.n + 1) (c.rows_in.ensures [] [] [] [] 0 0) c.if-not-rows_in.false-raw)

pub overflow_add-from : goal.overflow_add-from
overflow_add-from c =
    let a = c.args in
    omega (arith, rows_in_lem (join [] [] [] [] a.body.now 0 0) c.place-at.result a.w a.slot (a.n + 1) (c.rows_in.ensures [] [] [] [] 0 0) c.if-not-rows_in.false-raw)

pub try_offsets-requires : goal.try_offsets-requires
try_offsets-requires c =
    let a = c.args in
    record { n_in_bounds = omega (arith, rows_in_lem (join [] [] [] [] a.body.now 0 0) c.place-at.result a.w a.slot (a.n + 1) (c.rows_in.ensures [] [] [] [] 0 0) c.if-not-rows_in.false-raw); w_value = c.requires.w_value }

pub scale-o-requires : goal.scale-o-requires
scale-o-requires c = width_in_lem c.args.w (λ p q. c.requires.w_value)

pub put_offsets-requires : goal.put_offsets-requires
put_offsets-requires c =
    let a = c.args in
    record { i_bound = (omega arith, omega arith, omega (arith, rows_in_lem (join [] [] [] [] a.body.now 0 0) c.place-at.result a.w a.slot (a.n + 1) (c.rows_in.ensures [] [] [] [] 0 0) c.if-not-rows_in.false-raw)); w_value = c.requires.w_value }

pub returns-in-Fits : goal.returns-in-Fits
returns-in-Fits c =
    let a = c.args in
    let e = c.place-at.ensures in
    record { any_lengths = λ lengths source. sym c.in-Fits.is ∙ offsets_in (join a.plan.now a.parts.now lengths a.places.now a.body.now a.first source) a.w a.i a.slot a.n a.counters.now e (c.rows_in.ensures a.plan.now a.parts.now lengths a.places.now a.first source) c.if-not-rows_in.false-raw (add-one a.i) c.rows_of-old.ensures c.try_offsets.ensures; any_lengths_2 = λ lengths source. offsets_put (join a.plan.now a.parts.now lengths a.places.now a.body.now a.first source) a.w a.i a.slot a.n a.counters.now e (c.rows_in.ensures a.plan.now a.parts.now lengths a.places.now a.first source) a.write a.room.now (add-one a.i) c.rows_of-old.ensures c.rows_of.ensures c.grow.ensures c.scale-o.ensures (width_in_lem a.w (λ p q. c.requires.w_value)).0 (omega (arith, c.well_formed)) c.put_offsets.ensures }

pub returns-in-Over : goal.returns-in-Over
returns-in-Over c =
    let a = c.args in
    record { any_lengths = λ lengths source. sym c.in-Over.is ∙ offsets_in (join a.plan.now a.parts.now lengths a.places.now a.body.now a.first source) a.w a.i a.slot a.n a.counters.now c.place-at.ensures (c.rows_in.ensures a.plan.now a.parts.now lengths a.places.now a.first source) c.if-not-rows_in.false-raw (add-one a.i) c.rows_of-old.ensures c.try_offsets.ensures; any_lengths_2 = λ lengths source. untouched a.plan.now a.parts.now a.write a.room.now }

pub returns-in-Falls : goal.returns-in-Falls
returns-in-Falls c =
    let a = c.args in
    record { any_lengths = λ lengths source. sym c.in-Falls.is ∙ offsets_in (join a.plan.now a.parts.now lengths a.places.now a.body.now a.first source) a.w a.i a.slot a.n a.counters.now c.place-at.ensures (c.rows_in.ensures a.plan.now a.parts.now lengths a.places.now a.first source) c.if-not-rows_in.false-raw (add-one a.i) c.rows_of-old.ensures c.try_offsets.ensures; any_lengths_2 = λ lengths source. untouched a.plan.now a.parts.now a.write a.room.now }
