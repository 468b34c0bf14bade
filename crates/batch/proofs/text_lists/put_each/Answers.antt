-- `batch::text_lists::put_each` meets its contract. Assumes nothing.
use mathlib.Core.Path.{◌≡◌, refl, sym, subst}
use mathlib.Core.Bool.{true}
use Prim.Native.Nat.{ℕ, suc, ◌+◌, ◌*◌, ◌≤◌, ◌<◌, ◌^◌}
use native.Mathlib.Numerals.{add-one}
use native.Mathlib.Omega.{arith}
use lib.ListN.{length}
use Rattle.number.specs.Number.{entry}
use Rattle.leaf_walk.specs.Join.{join}
use Rattle.batch.specs.Stretch.{sum_of}
use Rattle.batch.specs.Batch.{batch_leaf}
use Rattle.batch.specs.batch_walk.Plain.{is_text}
use Rattle.batch.proofs.batch_walk.Sums.{entry_in_lem, sum_more}
use Rattle.batch.proofs.batch_walk.Loops.{begins, loop_zero, loop_more}
use Rattle.batch.proofs.batch_walk.TextPuts.{here_ok, rest_ok, begins_ok}
use Rattle.batch.proofs.text_lists.put_each.Goals as goal

pub loop-r-init : goal.loop-r-init
loop-r-init c =
    let a = c.args in
    let p = c.requires in (
      omega arith,
      refl,
      omega arith,
      subst (λ v. sum_of (λ q. entry a.w a.body.now v (a.slot + q)) a.n < 2 ^ 63) (sym c.place-sizes.ensures) p.n_bound,
      subst (λ v. v + a.w * (a.slot + a.n) ≤ length a.body.now) (sym c.place-offsets.ensures) p.fact.0,
      subst (λ v. v + a.w * (a.slot + a.n) ≤ length a.body.now) (sym c.place-sizes.ensures) p.fact.1,
      λ source. begins a.plan.now a.parts.now a.write (λ b k d. batch_leaf (join a.plan.now a.parts.now a.lengths.now a.places.now a.body.now a.first source) (suc a.i) b k d) a.w a.body.now a.slot a.n a.counters.now a.room.now c.place-offsets.ensures c.place-sizes.ensures,
      begins_ok (λ b k d. batch_leaf (join a.plan.now a.parts.now a.lengths.now a.places.now a.body.now a.first 0) (suc a.i) b k d) a.w a.body.now a.slot a.n a.counters.now c.place-offsets.ensures c.place-sizes.ensures p.counters_value,
    )

pub put_stretch-requires : goal.put_stretch-requires
put_stretch-requires c =
    let a = c.args in
    let l = c.loop-r in
    let t = c.advance-t in
    let s : ℕ → ℕ = λ q. entry a.w a.body.now c.place-offsets.result (a.slot + q) in
    let f : ℕ → ℕ = λ q. entry a.w a.body.now c.place-sizes.result (a.slot + q) in
    let p : is_text a.plan.now (a.i + 1) ≡ true = rw (add-one a.i) c.requires.first_bound.3 in
    let h = here_ok (λ b k d. batch_leaf (join a.plan.now a.parts.now a.lengths.now a.places.now a.body.now a.first 0) (suc a.i) b k d) s f a.n l.r l.a l.m l.counters l.invariant.7 t.result.next t.result.a t.result.m (t.ensures.by_index (λ b k d. batch_leaf (join a.plan.now a.parts.now a.lengths.now a.places.now a.body.now a.first 0) (suc a.i) b k d) l.counters) t.ensures.next_le_n.0 t.ensures.next_value in
    record { first_bound = (c.requires.first_bound.0, c.requires.first_bound.1, c.width_at-v.ensures, p); counters_value = rw (add-one a.i) h }

pub returns-then-t-n : goal.returns-then-t-n
returns-then-t-n c =
    let a = c.args in
    let l = c.loop-r in
    let t = c.advance-t in
    let s : ℕ → ℕ = λ q. entry a.w a.body.now c.place-offsets.result (a.slot + q) in
    let f : ℕ → ℕ = λ q. entry a.w a.body.now c.place-sizes.result (a.slot + q) in
    λ source. loop_zero (λ b k d. batch_leaf (join a.plan.now a.parts.now a.lengths.now a.places.now a.body.now a.first source) (suc a.i) b k d) s f a.n l.r l.a l.m l.counters l.room (l.invariant.6 source) t.result.next t.result.a t.result.m (t.ensures.by_index (λ b k d. batch_leaf (join a.plan.now a.parts.now a.lengths.now a.places.now a.body.now a.first source) (suc a.i) b k d) l.counters) t.ensures.next_le_n.0 (rw (add-one a.i) at (c.put_stretch.ensures source)) c.if-t-n.true refl

pub loop-r-preserved : goal.loop-r-preserved
loop-r-preserved c =
    let a = c.args in
    let l = c.loop-r in
    let t = c.advance-t in
    let s : ℕ → ℕ = λ q. entry a.w a.body.now c.place-offsets.result (a.slot + q) in
    let f : ℕ → ℕ = λ q. entry a.w a.body.now c.place-sizes.result (a.slot + q) in
    let g : sum_of f (t.result.next + 1) ≡ sum_of f t.result.next + f t.result.next = sum_more f t.result.next in
    let d = rw (add-one a.i) at (c.put_stretch.ensures 0) in (
      omega (arith, t.ensures.next_le_n.0),
      omega arith,
      omega (arith, g, c.entry_at-m.ensures),
      l.invariant.3,
      l.invariant.4,
      l.invariant.5,
      λ source. loop_more (λ b k d. batch_leaf (join a.plan.now a.parts.now a.lengths.now a.places.now a.body.now a.first source) (suc a.i) b k d) s f a.n l.r l.a l.m l.counters l.room (l.invariant.6 source) t.result.next t.result.a t.result.m (t.ensures.by_index (λ b k d. batch_leaf (join a.plan.now a.parts.now a.lengths.now a.places.now a.body.now a.first source) (suc a.i) b k d) l.counters) t.ensures.next_le_n.0 (rw (add-one a.i) at (c.put_stretch.ensures source)) refl c.if-t-n.false t.ensures.next_value refl c.entry_at-a.ensures c.entry_at-m.ensures,
      rest_ok (λ b k d. batch_leaf (join a.plan.now a.parts.now a.lengths.now a.places.now a.body.now a.first 0) (suc a.i) b k d) s f a.n l.r l.a l.m l.counters l.invariant.7 t.result.next t.result.a t.result.m (t.ensures.by_index (λ b k d. batch_leaf (join a.plan.now a.parts.now a.lengths.now a.places.now a.body.now a.first 0) (suc a.i) b k d) l.counters) t.ensures.next_le_n.0 t.ensures.next_value c.if-t-n.false d.counters refl c.entry_at-a.ensures c.entry_at-m.ensures,
    )
