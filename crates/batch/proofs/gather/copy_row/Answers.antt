-- `gather::copy_row` meets its contract. Assumes nothing.
use mathlib.Core.Path.{◌≡◌, refl, sym, ap, ◌∙◌}
use mathlib.Core.Bool.{Bool, true, false, cond}
use Prim.Native.Nat.{ℕ, ◌+◌, ◌*◌, ◌≤◌}
use native.Mathlib.Nat.{mul-add, mul-one, mul-zero}
use native.Mathlib.Omega.{arith}
use lib.ListN.{length, take, drop}
use lib.Dec.{eqb}
use borrow.Author.Tests.{eq-eqb, ne_eqb}
use Rattle.number.specs.Number.{entry, splice}
use Rattle.number.proofs.Laws.{splice_nil}
use Rattle.batch.specs.batch_walk.Fall.{home_by}
use Rattle.batch.proofs.gather.copy_row.Goals as goal

room_for : (b : Bool) (to w m : ℕ) → b ≡ true → to + w * cond b 1 0 ≤ m → to + w ≤ m
room_for b to w m e h = let g = rw e at h in omega (arith, mul-one w)

body_has : (b : Bool) (at w p len v : ℕ) → b ≡ true → v ≡ p → at + w * (cond b p 0 + cond b 1 0) ≤ len → at + w * v + w ≤ len
body_has b at w p len v e f h = let g = rw e at h in rw f (omega (arith, mul-add w p 1, mul-one w))

pub copy_entry-requires : goal.copy_entry-requires
copy_entry-requires c =
    let a = c.args in
    let e : eqb (home_by a.homes.now a.body.now (a.ids + a.q)) a.k ≡ true = eq-eqb (home_by a.homes.now a.body.now (a.ids + a.q)) a.k (sym c.home_at.ensures ∙ c.if-home_at-k.false) in
    let g = body_has (eqb (home_by a.homes.now a.body.now (a.ids + a.q)) a.k) a.at a.w (entry 4 a.body.now a.positions a.q) (length a.body.now) c.position_at-start.result e c.position_at-start.ensures c.requires.fact.1 in
    (room_for (eqb (home_by a.homes.now a.body.now (a.ids + a.q)) a.k) a.to a.w (length a.room.now) e c.requires.fact.0, g)

pub returns-then-home_at-k : goal.returns-then-home_at-k
returns-then-home_at-k c =
    let a = c.args in
    let e : eqb (home_by a.homes.now a.body.now (a.ids + a.q)) a.k ≡ false = ne_eqb (home_by a.homes.now a.body.now (a.ids + a.q)) a.k (λ z. c.if-home_at-k.true (c.home_at.ensures ∙ z)) in
    rw (e, mul-zero a.w) (record { value = refl; room_value = sym (splice_nil a.to a.room.now) })
