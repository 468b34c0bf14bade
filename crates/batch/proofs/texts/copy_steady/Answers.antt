-- `batch::texts::copy_steady` meets its contract. Assumes nothing.
use mathlib.Core.Path.{refl}
use mathlib.Core.List.{[]}
use Prim.Native.Nat.{◌+◌}
use native.Mathlib.Omega.{arith}
use Rattle.room_writes.proofs.Bytes.{width_in_lem}
use Rattle.leaf_walk.specs.Join.{join}
use Rattle.leaf_walk.proofs.Laws.{rows_in_lem}
use Rattle.batch.proofs.batch_walk.TextLeaf.{steady_none, steady_out, steady_falls, steady_in}
use Rattle.batch.proofs.texts.copy_steady.Goals as goal

pub returns-then-not-rows_in : goal.returns-then-not-rows_in
returns-then-not-rows_in c = let a = c.args in λ lengths source. steady_out (join a.plan.now a.parts.now lengths a.places.now a.body.now a.first source) a.k a.write a.counters.now a.room.now a.w a.slot a.n c.if-n-eq0.false c.place-at.ensures (c.rows_in.ensures a.plan.now a.parts.now lengths a.places.now a.first source) c.if-not-rows_in.true-raw

pub returns : goal.returns
returns c = let a = c.args in λ lengths source. steady_in (join a.plan.now a.parts.now lengths a.places.now a.body.now a.first source) a.k a.write a.counters.now a.room.now a.w a.slot a.n c.place-at.ensures refl c.never_falls.ensures c.if-n-eq0.false (c.rows_in.ensures a.plan.now a.parts.now lengths a.places.now a.first source) c.if-not-rows_in.false-raw c.if-not-never_falls.false-raw (c.put_extended.ensures lengths source)

pub returns-then-n-eq0 : goal.returns-then-n-eq0
returns-then-n-eq0 c = let a = c.args in λ lengths source. steady_none (join a.plan.now a.parts.now lengths a.places.now a.body.now a.first source) a.k a.write a.counters.now a.room.now a.w a.slot a.n c.if-n-eq0.true

pub overflow_mul-from : goal.overflow_mul-from
overflow_mul-from c = let a = c.args in omega (arith, rows_in_lem (join [] [] [] [] a.body.now 0 0) c.place-at.result a.w a.slot (a.n + 1) (c.rows_in.ensures [] [] [] [] 0 0) c.if-not-rows_in.false-raw)

pub overflow_add-from : goal.overflow_add-from
overflow_add-from c = let a = c.args in omega (arith, rows_in_lem (join [] [] [] [] a.body.now 0 0) c.place-at.result a.w a.slot (a.n + 1) (c.rows_in.ensures [] [] [] [] 0 0) c.if-not-rows_in.false-raw)

pub never_falls-requires : goal.never_falls-requires
never_falls-requires c = let a = c.args in record { n_in_bounds = (omega (arith, rows_in_lem (join [] [] [] [] a.body.now 0 0) c.place-at.result a.w a.slot (a.n + 1) (c.rows_in.ensures [] [] [] [] 0 0) c.if-not-rows_in.false-raw), omega arith); w_value = c.requires.w_value }

pub returns-then-not-never_falls : goal.returns-then-not-never_falls
returns-then-not-never_falls c = let a = c.args in λ lengths source. steady_falls (join a.plan.now a.parts.now lengths a.places.now a.body.now a.first source) a.k a.write a.counters.now a.room.now a.w a.slot a.n c.place-at.ensures refl c.never_falls.ensures c.if-not-never_falls.true-raw

pub put_extended-requires : goal.put_extended-requires
put_extended-requires c = let a = c.args in record { first_bound = (c.requires.first_bound.0, c.requires.first_bound.1, omega (arith, rows_in_lem (join [] [] [] [] a.body.now 0 0) c.place-at.result a.w a.slot (a.n + 1) (c.rows_in.ensures [] [] [] [] 0 0) c.if-not-rows_in.false-raw)); w_value = c.requires.w_value }
