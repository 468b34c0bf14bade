-- `batch::text_lists::copy_each` meets its contract. Assumes nothing.
use mathlib.Core.Path.{◌≡◌, refl, sym, subst}
use mathlib.Core.Bool.{true}
use Prim.Native.Nat.{ℕ, suc, ◌+◌, ◌*◌, ◌≤◌, ◌<◌, ◌^◌}
use native.Mathlib.Numerals.{add-one}
use native.Mathlib.Omega.{arith}
use lib.ListN.{length}
use Rattle.number.specs.Number.{entry}
use Rattle.leaf_walk.specs.Join.{join}
use Rattle.batch.specs.Stretch.{sum_of}
use Rattle.batch.specs.Batch.{batch_leaf}
use Rattle.batch.proofs.batch_walk.Sums.{entry_in_lem, sum_more}
use Rattle.batch.proofs.batch_walk.Loops.{begins, loop_stop, loop_zero, loop_more}
use Rattle.batch.proofs.text_lists.copy_each.Goals as goal

pub loop-r-init : goal.loop-r-init
loop-r-init g c =
    let a = c.args in (
      omega arith,
      refl,
      omega arith,
      subst (λ v. sum_of (λ q. entry a.w a.body.now v (a.slot + q)) a.n < 2 ^ 63) (sym c.place-sizes.ensures) c.requires.n_bound,
      subst (λ v. v + a.w * (a.slot + a.n) ≤ length a.body.now) (sym c.place-offsets.ensures) c.requires.n_in_bounds.0,
      subst (λ v. v + a.w * (a.slot + a.n) ≤ length a.body.now) (sym c.place-sizes.ensures) c.requires.n_in_bounds.1,
      λ source. begins a.plan.now a.parts.now a.write (λ b k d. batch_leaf (join a.plan.now a.parts.now a.lengths.now a.places.now a.body.now a.first source) (suc a.i) b k d) a.w a.body.now a.slot a.n a.counters.now a.room.now c.place-offsets.ensures c.place-sizes.ensures,
    )

pub returns-then-g-ne0 : goal.returns-then-g-ne0
returns-then-g-ne0 g c =
    let a = c.args in
    let l = c.loop-r in
    let s : ℕ → ℕ = λ q. entry a.w a.body.now c.place-offsets.result (a.slot + q) in
    let f : ℕ → ℕ = λ q. entry a.w a.body.now c.place-sizes.result (a.slot + q) in
    λ source. loop_stop (λ b k d. batch_leaf (join a.plan.now a.parts.now a.lengths.now a.places.now a.body.now a.first source) (suc a.i) b k d) s f a.n l.r l.a l.m l.counters l.room (l.invariant.6 source) c.advance-t.result.next c.advance-t.result.a c.advance-t.result.m (c.advance-t.ensures.by_index (λ b k d. batch_leaf (join a.plan.now a.parts.now a.lengths.now a.places.now a.body.now a.first source) (suc a.i) b k d) l.counters) c.advance-t.ensures.next_le_n.0 (rw (add-one a.i) at (c.copy_stretch-g.ensures source)) c.if-g-ne0.true c.advance-t.ensures.next_value

pub returns-then-t-n : goal.returns-then-t-n
returns-then-t-n g c =
    let a = c.args in
    let l = c.loop-r in
    let s : ℕ → ℕ = λ q. entry a.w a.body.now c.place-offsets.result (a.slot + q) in
    let f : ℕ → ℕ = λ q. entry a.w a.body.now c.place-sizes.result (a.slot + q) in
    λ source. loop_zero (λ b k d. batch_leaf (join a.plan.now a.parts.now a.lengths.now a.places.now a.body.now a.first source) (suc a.i) b k d) s f a.n l.r l.a l.m l.counters l.room (l.invariant.6 source) c.advance-t.result.next c.advance-t.result.a c.advance-t.result.m (c.advance-t.ensures.by_index (λ b k d. batch_leaf (join a.plan.now a.parts.now a.lengths.now a.places.now a.body.now a.first source) (suc a.i) b k d) l.counters) c.advance-t.ensures.next_le_n.0 (rw (add-one a.i) at (c.copy_stretch-g.ensures source)) c.if-t-n.true c.if-g-ne0.false

pub loop-r-preserved : goal.loop-r-preserved
loop-r-preserved g c =
    let a = c.args in
    let l = c.loop-r in
    let s : ℕ → ℕ = λ q. entry a.w a.body.now c.place-offsets.result (a.slot + q) in
    let f : ℕ → ℕ = λ q. entry a.w a.body.now c.place-sizes.result (a.slot + q) in
    let g : sum_of f (c.advance-t.result.next + 1) ≡ sum_of f c.advance-t.result.next + f c.advance-t.result.next = sum_more f c.advance-t.result.next in (
      omega (arith, c.advance-t.ensures.next_le_n.0),
      omega arith,
      omega (arith, g, c.entry_at-m.ensures),
      l.invariant.3,
      l.invariant.4,
      l.invariant.5,
      λ source. loop_more (λ b k d. batch_leaf (join a.plan.now a.parts.now a.lengths.now a.places.now a.body.now a.first source) (suc a.i) b k d) s f a.n l.r l.a l.m l.counters l.room (l.invariant.6 source) c.advance-t.result.next c.advance-t.result.a c.advance-t.result.m (c.advance-t.ensures.by_index (λ b k d. batch_leaf (join a.plan.now a.parts.now a.lengths.now a.places.now a.body.now a.first source) (suc a.i) b k d) l.counters) c.advance-t.ensures.next_le_n.0 (rw (add-one a.i) at (c.copy_stretch-g.ensures source)) c.if-g-ne0.false c.if-t-n.false c.advance-t.ensures.next_value refl c.entry_at-a.ensures c.entry_at-m.ensures,
    )
