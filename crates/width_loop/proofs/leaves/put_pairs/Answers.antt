-- `width_loop::leaves::put_pairs` meets its contract. Assumes nothing.
use mathlib.Core.Path.{refl}
use native.Mathlib.Nat.{mul-add}
use native.Mathlib.Omega.{arith}
use Rattle.width_loop.proofs.Laws.{pairs_first, pairs_second, pairs_both}
use Rattle.width_loop.proofs.leaves.put_pairs.Goals as goal

pub overflow_mul-offsets : goal.overflow_mul-offsets
overflow_mul-offsets c = let a = c.args in omega (arith, mul-add a.w a.s a.n)

pub overflow_add-offsets : goal.overflow_add-offsets
overflow_add-offsets c = let a = c.args in omega (arith, mul-add a.w a.s a.n)

pub all_fit-requires : goal.all_fit-requires
all_fit-requires c = let a = c.args in record { n_in_bounds = (omega (arith, mul-add a.w a.s a.n), c.requires.by_index.0, c.requires.by_index_2.0); w_value = c.requires.w_value }

pub returns-then-not-all_fit : goal.returns-then-not-all_fit
returns-then-not-all_fit c =
    let a = c.args in
    λ size room2 d f g p q. pairs_first a.plan.now a.parts.now a.write a.room.now a.i a.body.now a.at a.too a.w a.w2 a.s a.n size room2 d f g p q refl c.all_fit.ensures c.if-not-all_fit.true-raw

pub overflow_mul-sizes : goal.overflow_mul-sizes
overflow_mul-sizes c = let a = c.args in omega (arith, mul-add a.w a.s a.n)

pub overflow_add-sizes : goal.overflow_add-sizes
overflow_add-sizes c = let a = c.args in omega (arith, mul-add a.w a.s a.n)

pub all_fit-requires-2 : goal.all_fit-requires-2
all_fit-requires-2 c = let a = c.args in record { n_in_bounds = (omega (arith, mul-add a.w a.s a.n), c.requires.by_index.1, c.requires.by_index_2.1); w_value = c.requires.w_value }

pub returns-then-not-all_fit-2 : goal.returns-then-not-all_fit-2
returns-then-not-all_fit-2 c =
    let a = c.args in
    λ size room2 d f g p q. pairs_second a.plan.now a.parts.now a.write a.room.now a.i a.body.now a.at a.too a.w a.w2 a.s a.n size room2 d f g p q refl c.all_fit.ensures c.if-not-all_fit.false-raw c.all_fit-2.ensures c.if-not-all_fit-2.true-raw

pub put_recoded-requires : goal.put_recoded-requires
put_recoded-requires c =
    let a = c.args in
    record { i_bound = (omega arith, omega arith, omega (arith, mul-add a.w a.s a.n)); w_value = (λ x y z. c.requires.w_value.0 z); w2_value = (λ x y z. c.requires.w_value.1 z) }

pub put_recoded-requires-2 : goal.put_recoded-requires-2
put_recoded-requires-2 c =
    let a = c.args in
    record { i_bound = (omega arith, omega arith, omega (arith, mul-add a.w a.s a.n)); w_value = (λ x y z. c.requires.w_value.0 z); w2_value = (λ x y z. c.requires.w_value.1 z) }

pub returns : goal.returns
returns c =
    let a = c.args in
    λ size room2 d f g p q. pairs_both a.plan.now a.parts.now a.write a.room.now a.i a.body.now a.at a.too a.w a.w2 a.s a.n size room2 d f g p q refl c.all_fit.ensures c.if-not-all_fit.false-raw c.all_fit-2.ensures c.if-not-all_fit-2.false-raw c.put_recoded.ensures c.put_recoded-2.ensures
