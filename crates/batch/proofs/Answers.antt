-- THEOREM 1: where the walk by stretches answers 0, the walk of a copy answers 0 and leaves the same counters. Assumes nothing.
use mathlib.Core.Path.{◌≡◌, refl, ◌∙◌}
use mathlib.Core.Bool.{Bool, true, false, cond}
use mathlib.Core.List.{List}
use Prim.Native.Nat.{ℕ, suc, ◌<◌}
use native.Mathlib.Omega.{arith}
use lib.Dec.{ltb, eqb}
use borrow.Author.Tests.{ltb-true, eqb-true}
use Rattle.schema.specs.formats.Code.{is_list_view}
use Rattle.walk.specs.State.{Join, code_of, bytes_of, add_rows, far, slot_of}
use Rattle.walk.specs.Log.{Out, fail, done}
use Rattle.walk.specs.Leaves.{copy_mask}
use Rattle.walk.specs.Copy.{Walk, masked, copy_dense, copy_data, copy_slots, copy_node, copy_walk}
use Rattle.batch.specs.Dense.{batch_dense}
use Rattle.batch.specs.Batch.{batch_leaf, batch_list_view, batch_data, batch_slots, batch_node, batch_below, batch_walk_of}
use Rattle.batch.proofs.Ends.{Leaves, leaves_own, leaves_need, leaves_found, leaves_next, need_was, need_rest, found_was, found_is, next_start_lem, next_rest}
use Rattle.batch.proofs.Tally.{Counts}
use Rattle.batch.proofs.LeafNode.{list_view_width}
use Rattle.batch.proofs.DenseAnswers.{dense_same}
use Rattle.batch.proofs.ListViews.{list_data, list_views_same, mask_counters}
use Rattle.batch.proofs.Chains.{list_shows, chain_was, chain_cuts}

module _ (x : Join) (depth : ℕ) where
  abbrev below : Walk
  below = batch_below x depth

  pub dense_data : (depth i slot n : ℕ) (c : List ℕ) → code_of x.plan i ≡ 22
      → copy_data x (copy_walk x depth) (code_of x.plan i) i slot n c ≡ copy_dense x (copy_walk x depth) i slot n c
  unfolding copy_data
  dense_data depth i slot n c e = rw e refl

  pub data_same : (i slot n : ℕ) (c : List ℕ) → Counts c → (batch_data x below (code_of x.plan i) i slot n c).ans ≡ 0
      → Leaves (copy_data x (copy_walk x (suc depth)) (code_of x.plan i) i slot n c) (batch_data x below (code_of x.plan i) i slot n c).counters
  unfolding batch_data fail
  data_same i slot n c f = go (is_list_view (code_of x.plan i)) refl (eqb (code_of x.plan i) 22) refl
    where
      go : (t : Bool) → is_list_view (code_of x.plan i) ≡ t → (u : Bool) → eqb (code_of x.plan i) 22 ≡ u
          → (cond t (batch_list_view x below (bytes_of x.plan i) i slot n c) (cond u (batch_dense x (batch_leaf x) i slot n c) (fail 12 c))).ans ≡ 0
          → Leaves (copy_data x (copy_walk x (suc depth)) (code_of x.plan i) i slot n c)
          (cond t (batch_list_view x below (bytes_of x.plan i) i slot n c) (cond u (batch_dense x (batch_leaf x) i slot n c) (fail 12 c))).counters
      go true e u g h =
          let q = chain_cuts x depth (suc i) (list_shows x below (bytes_of x.plan i) i slot n c (λ a m d g. chain_was x depth (suc i) a m d g) h).2 in
          rw (list_data x (copy_walk x (suc depth)) i slot n c e)
          (list_views_same x below (copy_walk x (suc depth)) (bytes_of x.plan i) i slot q.good q.cuts (list_view_width (code_of x.plan i) e) n c f h)
      go false e true g h = rw (dense_data (suc depth) i slot n c (eqb-true (code_of x.plan i) 22 g)) (dense_same x depth i slot n c f h)
      go false e false g h = let z : ◌≡◌ {A = ℕ} 12 0 = h in absurd (omega arith)

  pub slots_same : (i slot n : ℕ) (c : List ℕ) → i < 32 → Counts c → (batch_slots x below i slot n c).ans ≡ 0
      → Leaves (copy_slots x (copy_walk x (suc depth)) i slot n c) (batch_slots x below i slot n c).counters
  unfolding batch_slots copy_slots done
  slots_same i slot n c s f h =
      let m : Out = cond (masked (code_of x.plan i)) (copy_mask x i slot n c) (done c) in
      let l = leaves_own {o = batch_slots x below i slot n c} h in
      let a = next_start_lem m _ l in
      let g = mask_counters x i s (masked (code_of x.plan i)) slot n c m.counters f a in
      let b = next_rest m _ l in
      let o : Out = batch_data x below (code_of x.plan i) i slot n m.counters in
      let d = data_same i slot n m.counters g (next_start_lem o _ b).ok in
      leaves_next _ a (leaves_next _ d (next_rest o (λ c3. done (add_rows i n c3)) b))

  node_same : (i a n : ℕ) (c d : List ℕ) → Counts c → Leaves (batch_node x below i a n c) d → Leaves (copy_node x (copy_walk x (suc depth)) i a n c) d
  unfolding batch_node copy_node
  node_same i a n c d f l =
      let s = need_was (ltb i 32) 12 c _ (omega arith) l.ok in
      let l1 = need_rest (ltb i 32) 12 c _ (omega arith) l in
      let v = found_was far (slot_of x i a n) 12 c (λ slot. batch_slots x below i slot n c) (omega arith) l1.ok in
      let l2 = rw (found_is far (slot_of x i a n) 12 c (λ slot. batch_slots x below i slot n c) v) at l1 in
      let q = slots_same i (slot_of x i a n) n c (ltb-true i 32 s) f l2.ok in
      leaves_need 12 c s (leaves_found far (slot_of x i a n) 12 c (λ slot. copy_slots x (copy_walk x (suc depth)) i slot n c) v (record { ok = q.ok; left = q.left ∙ l2.left }))

-- THEOREM 1: where the walk by stretches answers 0, so does the walk of a copy, which leaves the same counters
pub batch_answers : (x : Join) (i a n : ℕ) (c : List ℕ) → Counts c → (batch_walk_of x i a n c).ans ≡ 0 → Leaves (copy_walk x 8 i a n c) (batch_walk_of x i a n c).counters
unfolding batch_walk_of copy_walk
batch_answers x i a n c f h = node_same x 6 i a n c (batch_walk_of x i a n c).counters f (leaves_own h)
