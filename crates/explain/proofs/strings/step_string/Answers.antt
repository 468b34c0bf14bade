-- `stop_walks::strings::step_string` meets its contract. Assumes nothing.
use mathlib.Core.Path.{refl, sym, ◌∙◌}
use mathlib.Core.List.{[]}
use Prim.Native.Nat.{◌+◌, ◌*◌}
use native.Mathlib.Omega.{arith}
use Rattle.room_writes.proofs.Bytes.{width_in_lem}
use Rattle.leaf_walk.specs.Join.{join}
use Rattle.leaf_walk.proofs.Laws.{rows_in_lem}
use Rattle.leaf_walk.proofs.variable_size.Laws.{fits_is}
use Rattle.explain.proofs.stop_walks.Nodes.{string_none, string_foreign, string_fits, string_clash, string_falls}
use Rattle.explain.proofs.strings.step_string.Goals as goal

pub returns-then-n-eq0 : goal.returns-then-n-eq0
returns-then-n-eq0 c =
    let a = c.args in
    λ parts lengths source depth. string_none (join a.plan.now parts lengths a.places.now a.body.now a.first source) depth a.w a.i a.slot a.n a.counters.now c.if-n-eq0.true

pub rows_in-requires : goal.rows_in-requires
rows_in-requires c =
    let a = c.args in
    omega (arith, width_in_lem a.w (λ p q. c.requires.w_value))

pub returns-then-not-rows_in : goal.returns-then-not-rows_in
returns-then-not-rows_in c =
    let a = c.args in
    λ parts lengths source depth. string_foreign (join a.plan.now parts lengths a.places.now a.body.now a.first source) depth a.w a.i a.slot a.n a.counters.now c.if-n-eq0.false c.place-at.ensures (c.rows_in.ensures a.plan.now parts lengths a.places.now a.first source) c.if-not-rows_in.true-raw ∙ sym c.plain.ensures

pub overflow_mul-from : goal.overflow_mul-from
overflow_mul-from c =
    let a = c.args in
    omega (arith, rows_in_lem (join [] [] [] [] a.body.now 0 0) c.place-at.result a.w a.slot (a.n + 1) (c.rows_in.ensures [] [] [] [] 0 0) c.if-not-rows_in.false-raw)

pub overflow_add-from : goal.overflow_add-from
overflow_add-from c =
    let a = c.args in
    omega (arith, rows_in_lem (join [] [] [] [] a.body.now 0 0) c.place-at.result a.w a.slot (a.n + 1) (c.rows_in.ensures [] [] [] [] 0 0) c.if-not-rows_in.false-raw)

pub offsets-requires : goal.offsets-requires
offsets-requires c =
    let a = c.args in
    record { n_in_bounds = omega (arith, rows_in_lem (join [] [] [] [] a.body.now 0 0) c.place-at.result a.w a.slot (a.n + 1) (c.rows_in.ensures [] [] [] [] 0 0) c.if-not-rows_in.false-raw); w_value = c.requires.w_value }

pub overflow_sub-last : goal.overflow_sub-last
overflow_sub-last c =
    let a = c.args in
    let b = fits_is a.w a.body.now (c.place-at.result + a.w * a.slot) a.n c.bytes_of-old.result c.offsets.ensures c.in-Fits.is in omega (arith, b.0)

pub largest-requires : goal.largest-requires
largest-requires c = λ p q. c.requires.w_value q

pub returns-in-Fits : goal.returns-in-Fits
returns-in-Fits c =
    let a = c.args in
    λ parts lengths source depth. string_fits (join a.plan.now parts lengths a.places.now a.body.now a.first source) depth a.w a.i a.slot a.n a.counters.now c.if-n-eq0.false c.place-at.ensures (c.rows_in.ensures a.plan.now parts lengths a.places.now a.first source) c.if-not-rows_in.false-raw refl c.bytes_of-old.ensures c.offsets.ensures c.in-Fits.is (rw c.place-data.ensures at c.bytes_ground.ensures) ∙ sym c.plain-in-Fits.ensures

pub returns-in-Over : goal.returns-in-Over
returns-in-Over c =
    let a = c.args in
    λ parts lengths source depth. string_clash (join a.plan.now parts lengths a.places.now a.body.now a.first source) depth a.w a.i a.slot a.n a.counters.now c.if-n-eq0.false c.place-at.ensures (c.rows_in.ensures a.plan.now parts lengths a.places.now a.first source) c.if-not-rows_in.false-raw refl c.bytes_of-old.ensures c.offsets.ensures c.in-Over.is c.largest.ensures

pub returns-in-Falls : goal.returns-in-Falls
returns-in-Falls c =
    let a = c.args in
    λ parts lengths source depth. string_falls (join a.plan.now parts lengths a.places.now a.body.now a.first source) depth a.w a.i a.slot a.n a.counters.now c.if-n-eq0.false c.place-at.ensures (c.rows_in.ensures a.plan.now parts lengths a.places.now a.first source) c.if-not-rows_in.false-raw refl c.bytes_of-old.ensures c.offsets.ensures c.in-Falls.is ∙ sym c.plain-in-Falls.ensures
