-- `batch::dense_texts::copy_each` meets its contract. Assumes nothing.
use mathlib.Core.Path.{refl}
use Prim.Native.Nat.{ℕ, ◌+◌, ◌≤◌}
use native.Mathlib.Omega.{arith}
use lib.ListN.{length}
use lib.Dec.{eqb}
use Rattle.number.specs.Number.{entry}
use Rattle.leaf_walk.specs.Join.{join}
use Rattle.batch.specs.Batch.{batch_leaf}
use Rattle.batch.specs.batch_walk.Fall.{home_by, takes_of, takes_from}
use Rattle.batch.proofs.batch_walk.Sums.{entry_in_lem}
use Rattle.batch.proofs.batch_walk.Loops.{begun_in, begun, loop_stop, loop_zero, loop_more}
use Rattle.batch.proofs.batch_walk.Falls.{size_most}
use Rattle.batch.proofs.dense_texts.copy_each.Goals as goal

pub loop-r-init : goal.loop-r-init
loop-r-init g c =
    let a = c.args in
    let h : ℕ → ℕ = λ q. home_by a.homes.now a.body.now (a.ids + (a.slot + q)) in
    let p : ℕ → ℕ = λ q. entry 4 a.body.now a.positions (a.slot + q) in
    let b = begun_in a.whole a.n a.total c.requires.total_le_n c.if_whole-m.ensures c.if_whole-r.ensures in
    (b.0, refl, b.1, λ source. begun (λ b j d. batch_leaf (join a.plan.now a.parts.now a.lengths.now a.places.now a.body.now a.first source) a.k b j d) (takes_from h p a.k) (takes_of h a.k) a.whole a.n a.begin a.total a.counters.now a.room.now (λ w. c.requires.c_value w (λ b j d. batch_leaf (join a.plan.now a.parts.now a.lengths.now a.places.now a.body.now a.first source) a.k b j d) a.counters.now) c.if_whole-a.ensures c.if_whole-m.ensures c.if_whole-r.ensures)

pub returns-then-g-ne0 : goal.returns-then-g-ne0
returns-then-g-ne0 g c =
    let a = c.args in
    let l = c.loop-r in
    let h : ℕ → ℕ = λ q. home_by a.homes.now a.body.now (a.ids + (a.slot + q)) in
    let p : ℕ → ℕ = λ q. entry 4 a.body.now a.positions (a.slot + q) in
    λ source. loop_stop (λ b j d. batch_leaf (join a.plan.now a.parts.now a.lengths.now a.places.now a.body.now a.first source) a.k b j d) (takes_from h p a.k) (takes_of h a.k) a.n l.r l.a l.m l.counters l.room (l.invariant.3 source) c.advance-t.result.next c.advance-t.result.a c.advance-t.result.m (c.advance-t.ensures.by_index (λ b j d. batch_leaf (join a.plan.now a.parts.now a.lengths.now a.places.now a.body.now a.first source) a.k b j d) l.counters) c.advance-t.ensures.next_le_n.0 (c.copy_stretch-g.ensures source) c.if-g-ne0.true c.advance-t.ensures.next_value

pub returns-then-t-n : goal.returns-then-t-n
returns-then-t-n g c =
    let a = c.args in
    let l = c.loop-r in
    let h : ℕ → ℕ = λ q. home_by a.homes.now a.body.now (a.ids + (a.slot + q)) in
    let p : ℕ → ℕ = λ q. entry 4 a.body.now a.positions (a.slot + q) in
    λ source. loop_zero (λ b j d. batch_leaf (join a.plan.now a.parts.now a.lengths.now a.places.now a.body.now a.first source) a.k b j d) (takes_from h p a.k) (takes_of h a.k) a.n l.r l.a l.m l.counters l.room (l.invariant.3 source) c.advance-t.result.next c.advance-t.result.a c.advance-t.result.m (c.advance-t.ensures.by_index (λ b j d. batch_leaf (join a.plan.now a.parts.now a.lengths.now a.places.now a.body.now a.first source) a.k b j d) l.counters) c.advance-t.ensures.next_le_n.0 (c.copy_stretch-g.ensures source) c.if-t-n.true c.if-g-ne0.false

pub loop-r-preserved : goal.loop-r-preserved
loop-r-preserved g c =
    let a = c.args in
    let l = c.loop-r in
    let h : ℕ → ℕ = λ q. home_by a.homes.now a.body.now (a.ids + (a.slot + q)) in
    let p : ℕ → ℕ = λ q. entry 4 a.body.now a.positions (a.slot + q) in
    let s : c.size_at-m.result ≤ 1 = size_most (eqb (home_by c.args.homes.now c.args.body.now (c.args.ids + (c.args.slot + c.advance-t.result.next))) c.args.k) c.size_at-m.ensures in (
      omega (arith, c.advance-t.ensures.next_le_n.0),
      omega arith,
      omega arith,
      λ source. loop_more (λ b j d. batch_leaf (join a.plan.now a.parts.now a.lengths.now a.places.now a.body.now a.first source) a.k b j d) (takes_from h p a.k) (takes_of h a.k) a.n l.r l.a l.m l.counters l.room (l.invariant.3 source) c.advance-t.result.next c.advance-t.result.a c.advance-t.result.m (c.advance-t.ensures.by_index (λ b j d. batch_leaf (join a.plan.now a.parts.now a.lengths.now a.places.now a.body.now a.first source) a.k b j d) l.counters) c.advance-t.ensures.next_le_n.0 (c.copy_stretch-g.ensures source) c.if-g-ne0.false c.if-t-n.false c.advance-t.ensures.next_value refl c.start_at-a.ensures c.size_at-m.ensures,
    )
