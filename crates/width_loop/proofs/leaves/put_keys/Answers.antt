-- `width_loop::leaves::put_keys` meets its contract. Assumes nothing.
use mathlib.Core.Path.{◌≡◌, ◌∙◌, ap}
use mathlib.Core.List.{[], ◌∷◌}
use Prim.Native.Nat.{◌+◌}
use native.Mathlib.Nat.{mul-add, mul_comm}
use native.Mathlib.Omega.{arith}
use Rattle.array_data.specs.Tables.{place}
use Rattle.array_data.specs.entries.Entries.{column}
use Rattle.walk.specs.Log.{put, apply_if}
use Rattle.width_loop.proofs.Laws.{mask_inside, mask_long, keys_plain, keys_valid}
use Rattle.width_loop.proofs.leaves.put_keys.Goals as goal

pub overflow_mul-from : goal.overflow_mul-from
overflow_mul-from c = let a = c.args in omega (arith, c.place_at-at.ensures, mul-add a.w a.s a.n, mul_comm a.w (a.s + a.n))

pub overflow_add-from : goal.overflow_add-from
overflow_add-from c = let a = c.args in omega (arith, c.place_at-at.ensures, mul-add a.w a.s a.n, mul_comm a.w (a.s + a.n))

pub put_recoded-requires : goal.put_recoded-requires
put_recoded-requires c =
    let a = c.args in
    record { i_bound = (omega arith, omega arith, omega (arith, c.place_at-at.ensures, mul-add a.w a.s a.n, mul_comm a.w (a.s + a.n))); w_value = c.requires.w_value.0; w2_value = c.requires.w_value.1 }

pub returns-then-place_at-eq0 : goal.returns-then-place_at-eq0
returns-then-place_at-eq0 c =
    let a = c.args in
    let p = c.requires in
    c.put_recoded.ensures ∙ ap (λ b. apply_if a.plan.now a.parts.now a.write (put a.i 1 0 b ∷ []) a.room.now) (keys_plain (column [] a.places.now [] a.body.now a.first) a.i a.w a.w2 a.s a.n p.fact.3 p.fact.2 c.place_at-at.ensures c.place_at.ensures c.if-place_at-eq0.true)

pub put_valid-requires : goal.put_valid-requires
put_valid-requires c =
    let a = c.args in
    let x = column [] a.places.now [] a.body.now a.first in
    let h : place x a.i 0 ≡ 0 → ⊥ = λ z. c.if-place_at-eq0.false (c.place_at.ensures ∙ z) in
    let i = mask_inside [] [] a.write [] 0 a.s a.n [] x a.i h c.requires.i_value.0 in
    let l = mask_long [] [] a.write [] 0 a.s a.n [] x a.i h c.requires.i_value.0 c.requires.i_value.1 in
    record { i_bound = (omega arith, omega arith, omega (arith, c.place_at-at.ensures, mul-add a.w a.s a.n, mul_comm a.w (a.s + a.n)), omega (arith, c.place_at-valid.ensures), omega arith); w_value = c.requires.w_value.0; w2_value = c.requires.w_value.1 }

pub returns : goal.returns
returns c =
    let a = c.args in
    let p = c.requires in
    c.put_valid.ensures ∙ ap (λ b. apply_if a.plan.now a.parts.now a.write (put a.i 1 0 b ∷ []) a.room.now) (keys_valid (column [] a.places.now [] a.body.now a.first) a.i a.w a.w2 a.s a.n p.fact.3 p.fact.2 p.i_value.0 p.i_value.1 c.place_at-at.ensures c.place_at.ensures c.if-place_at-eq0.false c.place_at-valid.ensures)
