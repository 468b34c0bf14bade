use mathlib.Core.Path.{◌≡◌, refl, sym, ap, subst, ◌∙◌}
use mathlib.Core.Bool.{true, false}
use mathlib.Core.List.{[]}
use Prim.Native.Nat.{ℕ, suc, ◌+◌, ◌*◌, ◌-◌, ◌≤◌, ◌<◌, ◌^◌}
use native.Mathlib.Numerals.{add-one}
use native.Mathlib.Omega.{arith}
use lib.ListN.{length}
use Rattle.number.specs.Number.{entry}
use Rattle.leaf_walk.specs.Join.{join}
use Rattle.nested_rows.proofs.lookups.Laws.{slot_rows}
use Rattle.batch.specs.Stretch.{sum_of}
use Rattle.batch.specs.Batch.{batch_leaf, batch_node, batch_below}
use Rattle.batch.specs.batch_walk.Plain.{is_flat, is_listed}
use Rattle.batch.proofs.batch_walk.Sums.{entry_in_lem, sum_more}
use Rattle.batch.proofs.batch_walk.Loops.{begins, loop_stop, loop_zero, loop_more}
use Rattle.batch.proofs.batch_walk.Node.{node_far, node_stop, node_done}
use Rattle.batch.proofs.batch_walk.Nested.{listed_here, listed_child, listed_wide, child_deep, child_under, below_flat, below_nested, stretches_as, nested_mask, nested_data}
use Rattle.batch.proofs.nested_views.+copy_stretches.Goals as goal

pub copy_list_view-returns-then-is_flat : goal.copy_list_view-returns-then-is_flat
copy_list_view-returns-then-is_flat t c =
    let a = c.args in
    let p : is_flat a.plan.now (suc a.i) ≡ true = rw (add-one a.i) at (sym c.is_flat.ensures ∙ c.if-is_flat.true) in
    λ source. c.put_head-t.ensures.any_lengths_2 c.if-t-ne0.false a.lengths.now source (batch_below (join a.plan.now a.parts.now a.lengths.now a.places.now a.body.now a.first source) a.depth) _ _ _ (stretches_as (join a.plan.now a.parts.now a.lengths.now a.places.now a.body.now a.first source) (λ b k d. batch_leaf (join a.plan.now a.parts.now a.lengths.now a.places.now a.body.now a.first source) (suc a.i) b k d) (λ b k d. batch_below (join a.plan.now a.parts.now a.lengths.now a.places.now a.body.now a.first source) a.depth (suc a.i) b k d) (below_flat (join a.plan.now a.parts.now a.lengths.now a.places.now a.body.now a.first source) a.depth (suc a.i) p) _ _ a.n a.counters.now (c.copy_rows.ensures source))

pub copy_list_view-copy_stretches-requires : goal.copy_list_view-copy_stretches-requires
copy_list_view-copy_stretches-requires t c =
    let a = c.args in
    let n = c.put_head-t.ensures.named c.if-t-ne0.false in
    let p : is_flat a.plan.now (suc a.i) ≡ false = rw (add-one a.i) at (sym c.is_flat.ensures ∙ c.if-is_flat.false) in
    let d = child_deep a.plan.now a.depth (suc a.i) c.requires.first_bound.3 p in
    (omega (arith, c.decreases, d), ((c.requires.first_bound.0, omega (arith, d, c.requires.first_bound.1), c.requires.first_bound.2, child_under a.plan.now a.depth (suc a.i) c.requires.first_bound.3 p), ((n.0, n.1), (n.2, c.requires.w_value))))

pub copy_list_view-returns : goal.copy_list_view-returns
copy_list_view-returns t c =
    let a = c.args in
    let p : is_flat a.plan.now (suc a.i) ≡ false = rw (add-one a.i) at (sym c.is_flat.ensures ∙ c.if-is_flat.false) in
    let d = child_deep a.plan.now a.depth (suc a.i) c.requires.first_bound.3 p in
    let z : suc (a.depth - 1) ≡ a.depth = omega (arith, d) in
    let u = listed_here a.plan.now (a.depth - 1) (suc a.i) (child_under a.plan.now a.depth (suc a.i) c.requires.first_bound.3 p) in
    λ source. c.put_head-t.ensures.any_lengths_2 c.if-t-ne0.false a.lengths.now source (batch_below (join a.plan.now a.parts.now a.lengths.now a.places.now a.body.now a.first source) a.depth) _ _ _ (stretches_as (join a.plan.now a.parts.now a.lengths.now a.places.now a.body.now a.first source) (λ b k d. batch_node (join a.plan.now a.parts.now a.lengths.now a.places.now a.body.now a.first source) (batch_below (join a.plan.now a.parts.now a.lengths.now a.places.now a.body.now a.first source) (a.depth - 1)) (suc a.i) b k d) (λ b k d. batch_below (join a.plan.now a.parts.now a.lengths.now a.places.now a.body.now a.first source) a.depth (suc a.i) b k d) (λ b k d. below_nested (join a.plan.now a.parts.now a.lengths.now a.places.now a.body.now a.first source) (a.depth - 1) (suc a.i) u b k d ∙ ap (λ y. batch_below (join a.plan.now a.parts.now a.lengths.now a.places.now a.body.now a.first source) y (suc a.i) b k d) z) _ _ a.n a.counters.now (c.copy_stretches.ensures source))

pub copy_node-returns-then-slot-ge-FAR : goal.copy_node-returns-then-slot-ge-FAR
copy_node-returns-then-slot-ge-FAR t c =
    let a = c.args in
    λ source. node_far (join a.plan.now a.parts.now a.lengths.now a.places.now a.body.now a.first source) (batch_below (join a.plan.now a.parts.now a.lengths.now a.places.now a.body.now a.first source) a.depth) a.k (omega (arith, c.requires.1)) (nested_mask (join a.plan.now a.parts.now a.lengths.now a.places.now a.body.now a.first source) a.k (listed_here a.plan.now a.depth a.k c.requires.2) (batch_below (join a.plan.now a.parts.now a.lengths.now a.places.now a.body.now a.first source) a.depth)) a.a a.n a.write a.counters.now a.room.now (c.slot_of-slot.ensures a.plan.now a.parts.now a.places.now a.body.now source) c.if-slot-ge-FAR.true

pub copy_node-returns-then-g-ne0 : goal.copy_node-returns-then-g-ne0
copy_node-returns-then-g-ne0 t c =
    let a = c.args in
    λ source. node_stop (join a.plan.now a.parts.now a.lengths.now a.places.now a.body.now a.first source) (batch_below (join a.plan.now a.parts.now a.lengths.now a.places.now a.body.now a.first source) a.depth) a.k (omega (arith, c.requires.1)) (nested_mask (join a.plan.now a.parts.now a.lengths.now a.places.now a.body.now a.first source) a.k (listed_here a.plan.now a.depth a.k c.requires.2) (batch_below (join a.plan.now a.parts.now a.lengths.now a.places.now a.body.now a.first source) a.depth)) a.a a.n a.write a.counters.now a.room.now (c.slot_of-slot.ensures a.plan.now a.parts.now a.places.now a.body.now source) c.if-slot-ge-FAR.false (nested_data (join a.plan.now a.parts.now a.lengths.now a.places.now a.body.now a.first source) a.k (listed_here a.plan.now a.depth a.k c.requires.2) (batch_below (join a.plan.now a.parts.now a.lengths.now a.places.now a.body.now a.first source) a.depth) c.slot_of-slot.result a.n a.counters.now c.width_at-w.ensures (c.copy_list_view-g.ensures source)) c.if-g-ne0.true

pub copy_node-returns : goal.copy_node-returns
copy_node-returns t c =
    let a = c.args in
    λ source. node_done (join a.plan.now a.parts.now a.lengths.now a.places.now a.body.now a.first source) (batch_below (join a.plan.now a.parts.now a.lengths.now a.places.now a.body.now a.first source) a.depth) a.k (omega (arith, c.requires.1)) (nested_mask (join a.plan.now a.parts.now a.lengths.now a.places.now a.body.now a.first source) a.k (listed_here a.plan.now a.depth a.k c.requires.2) (batch_below (join a.plan.now a.parts.now a.lengths.now a.places.now a.body.now a.first source) a.depth)) a.a a.n a.write a.counters.now a.room.now (c.slot_of-slot.ensures a.plan.now a.parts.now a.places.now a.body.now source) c.if-slot-ge-FAR.false (nested_data (join a.plan.now a.parts.now a.lengths.now a.places.now a.body.now a.first source) a.k (listed_here a.plan.now a.depth a.k c.requires.2) (batch_below (join a.plan.now a.parts.now a.lengths.now a.places.now a.body.now a.first source) a.depth) c.slot_of-slot.result a.n a.counters.now c.width_at-w.ensures (c.copy_list_view-g.ensures source)) c.if-g-ne0.false c.add_rows.ensures

pub copy_stretches-loop-r-init : goal.copy_stretches-loop-r-init
copy_stretches-loop-r-init t c =
    let a = c.args in (
      omega arith,
      refl,
      omega arith,
      subst (λ v. sum_of (λ q. entry a.w a.body.now v (a.slot + q)) a.n < 2 ^ 63) (sym c.place-sizes.ensures) c.requires.n_bound,
      subst (λ v. v + a.w * (a.slot + a.n) ≤ length a.body.now) (sym c.place-offsets.ensures) c.requires.n_in_bounds.0,
      subst (λ v. v + a.w * (a.slot + a.n) ≤ length a.body.now) (sym c.place-sizes.ensures) c.requires.n_in_bounds.1,
      λ source. begins a.plan.now a.parts.now a.write (λ b k d. batch_node (join a.plan.now a.parts.now a.lengths.now a.places.now a.body.now a.first source) (batch_below (join a.plan.now a.parts.now a.lengths.now a.places.now a.body.now a.first source) a.depth) (suc a.i) b k d) a.w a.body.now a.slot a.n a.counters.now a.room.now c.place-offsets.ensures c.place-sizes.ensures,
    )

pub copy_stretches-returns-then-g-ne0 : goal.copy_stretches-returns-then-g-ne0
copy_stretches-returns-then-g-ne0 t c =
    let a = c.args in
    let l = c.loop-r in
    let s : ℕ → ℕ = λ q. entry a.w a.body.now c.place-offsets.result (a.slot + q) in
    let f : ℕ → ℕ = λ q. entry a.w a.body.now c.place-sizes.result (a.slot + q) in
    λ source. loop_stop (λ b k d. batch_node (join a.plan.now a.parts.now a.lengths.now a.places.now a.body.now a.first source) (batch_below (join a.plan.now a.parts.now a.lengths.now a.places.now a.body.now a.first source) a.depth) (suc a.i) b k d) s f a.n l.r l.a l.m l.counters l.room (l.invariant.6 source) c.advance-t.result.next c.advance-t.result.a c.advance-t.result.m (c.advance-t.ensures.by_index (λ b k d. batch_node (join a.plan.now a.parts.now a.lengths.now a.places.now a.body.now a.first source) (batch_below (join a.plan.now a.parts.now a.lengths.now a.places.now a.body.now a.first source) a.depth) (suc a.i) b k d) l.counters) c.advance-t.ensures.next_le_n.0 (rw (add-one a.i) at (c.copy_node-g.ensures source)) c.if-g-ne0.true c.advance-t.ensures.next_value

pub copy_stretches-returns-then-t-n : goal.copy_stretches-returns-then-t-n
copy_stretches-returns-then-t-n t c =
    let a = c.args in
    let l = c.loop-r in
    let s : ℕ → ℕ = λ q. entry a.w a.body.now c.place-offsets.result (a.slot + q) in
    let f : ℕ → ℕ = λ q. entry a.w a.body.now c.place-sizes.result (a.slot + q) in
    λ source. loop_zero (λ b k d. batch_node (join a.plan.now a.parts.now a.lengths.now a.places.now a.body.now a.first source) (batch_below (join a.plan.now a.parts.now a.lengths.now a.places.now a.body.now a.first source) a.depth) (suc a.i) b k d) s f a.n l.r l.a l.m l.counters l.room (l.invariant.6 source) c.advance-t.result.next c.advance-t.result.a c.advance-t.result.m (c.advance-t.ensures.by_index (λ b k d. batch_node (join a.plan.now a.parts.now a.lengths.now a.places.now a.body.now a.first source) (batch_below (join a.plan.now a.parts.now a.lengths.now a.places.now a.body.now a.first source) a.depth) (suc a.i) b k d) l.counters) c.advance-t.ensures.next_le_n.0 (rw (add-one a.i) at (c.copy_node-g.ensures source)) c.if-t-n.true c.if-g-ne0.false

pub copy_stretches-loop-r-preserved : goal.copy_stretches-loop-r-preserved
copy_stretches-loop-r-preserved t c =
    let a = c.args in
    let l = c.loop-r in
    let s : ℕ → ℕ = λ q. entry a.w a.body.now c.place-offsets.result (a.slot + q) in
    let f : ℕ → ℕ = λ q. entry a.w a.body.now c.place-sizes.result (a.slot + q) in
    let g : sum_of f (c.advance-t.result.next + 1) ≡ sum_of f c.advance-t.result.next + f c.advance-t.result.next = sum_more f c.advance-t.result.next in (
      omega (arith, c.advance-t.ensures.next_le_n.0),
      omega arith,
      omega (arith, g, c.entry_at-m.ensures),
      l.invariant.3,
      l.invariant.4,
      l.invariant.5,
      λ source. loop_more (λ b k d. batch_node (join a.plan.now a.parts.now a.lengths.now a.places.now a.body.now a.first source) (batch_below (join a.plan.now a.parts.now a.lengths.now a.places.now a.body.now a.first source) a.depth) (suc a.i) b k d) s f a.n l.r l.a l.m l.counters l.room (l.invariant.6 source) c.advance-t.result.next c.advance-t.result.a c.advance-t.result.m (c.advance-t.ensures.by_index (λ b k d. batch_node (join a.plan.now a.parts.now a.lengths.now a.places.now a.body.now a.first source) (batch_below (join a.plan.now a.parts.now a.lengths.now a.places.now a.body.now a.first source) a.depth) (suc a.i) b k d) l.counters) c.advance-t.ensures.next_le_n.0 (rw (add-one a.i) at (c.copy_node-g.ensures source)) c.if-g-ne0.false c.if-t-n.false c.advance-t.ensures.next_value refl c.entry_at-a.ensures c.entry_at-m.ensures,
    )

pub copy_list_view-overflow_sub-depth : goal.copy_list_view-overflow_sub-depth
copy_list_view-overflow_sub-depth t c =
    let a = c.args in
    let p : is_flat a.plan.now (suc a.i) ≡ false = rw (add-one a.i) at (sym c.is_flat.ensures ∙ c.if-is_flat.false) in
    child_deep a.plan.now a.depth (suc a.i) c.requires.first_bound.3 p

pub copy_node-copy_list_view-g-requires : goal.copy_node-copy_list_view-g-requires
copy_node-copy_list_view-g-requires t c =
    let a = c.args in
    (omega (arith, c.decreases), ((c.requires.0, c.requires.1, slot_rows (join [] [] a.lengths.now [] [] a.first 0) a.k a.a a.n (c.slot_of-slot.ensures [] [] [] [] 0) c.if-slot-ge-FAR.false, listed_child a.plan.now a.depth a.k c.requires.2), listed_wide a.plan.now a.depth a.k c.requires.2 c.width_at-w.ensures))

pub copy_list_view-returns-then-t-ne0 : goal.copy_list_view-returns-then-t-ne0
copy_list_view-returns-then-t-ne0 t c =
    let a = c.args in
    λ source. c.put_head-t.ensures.any_lengths c.if-t-ne0.true a.lengths.now source (batch_below (join a.plan.now a.parts.now a.lengths.now a.places.now a.body.now a.first source) a.depth)

pub copy_list_view-copy_rows-requires : goal.copy_list_view-copy_rows-requires
copy_list_view-copy_rows-requires t c =
    let a = c.args in
    let n = c.put_head-t.ensures.named c.if-t-ne0.false in
    let p : is_flat a.plan.now (suc a.i) ≡ true = rw (add-one a.i) at (sym c.is_flat.ensures ∙ c.if-is_flat.true) in
    record { first_bound = (c.requires.first_bound.0, omega (arith, c.requires.first_bound.1), c.requires.first_bound.2, p); n_in_bounds = (n.0, n.1); fact = (n.2, n.3); w_value = c.requires.w_value }

pub copy_stretches-copy_node-g-requires : goal.copy_stretches-copy_node-g-requires
copy_stretches-copy_node-g-requires t c =
    let a = c.args in
    let p : is_listed a.plan.now (suc a.depth) (a.i + 1) ≡ true = rw (add-one a.i) c.requires.first_bound.3 in
    (omega (arith, c.decreases), (c.requires.first_bound.0, c.requires.first_bound.1, p))
