-- THEOREM 2: where the parts rise and hold their bytes, the walk by stretches leaves the room that the walk of a copy leaves. Assumes nothing.
use mathlib.Core.Path.{◌≡◌, refl, sym, ap, ◌∙◌}
use mathlib.Core.Bool.{Bool, true, false, cond}
use mathlib.Core.List.{List, append-nil}
use Prim.Native.Nat.{ℕ, suc, ◌+◌, ◌*◌, ◌≤◌, ◌<◌}
use native.Mathlib.Omega.{arith}
use lib.ListN.{length}
use lib.Dec.{leb, ltb, eqb}
use borrow.Author.Tests.{eqb-true, ltb-true, leb-true}
use Rattle.bits.proofs.Laws.{Below}
use Rattle.schema.specs.formats.Code.{is_list_view}
use Rattle.walk.specs.State.{Join, code_of, bytes_of, rows, bytes, top, grown, add_rows, far, slot_of}
use Rattle.walk.specs.Log.{Log, Out, fail, done, found, next, apply}
use Rattle.walk.specs.Leaves.{copy_mask}
use Rattle.walk.specs.Copy.{Walk, masked, copy_dense, copy_data, copy_slots, copy_node, copy_walk}
use Rattle.plan.specs.parts.Parts.{needed_by, size_of, parts_hold, parts_within, Used}
use Rattle.plan.proofs.parts.Placed.{used_holds}
use Rattle.refinement.proofs.walk_is_model.Counters.{rows_added, rows_other, bytes_of_rows}
use Rattle.batch.specs.Rise.{parts_rise}
use Rattle.batch.specs.Batch.{is_leaf, owned, batch_leaf, batch_list_view, batch_data, batch_slots, batch_node, batch_below, batch_walk_of}
use Rattle.batch.proofs.Ends.{Leaves, leaves_own, leaves_done, need_was, need_is, need_rest, found_was, found_is, next_start_lem, next_rest}
use Rattle.batch.proofs.Tally.{Counts}
use Rattle.batch.proofs.Stretches.{and_right}
use Rattle.batch.proofs.LeafLogs.{Roomy}
use Rattle.batch.proofs.Answers.{dense_data, data_same}
use Rattle.batch.proofs.Windows.{same_room}
use Rattle.batch.proofs.Alike.{Alike}
use Rattle.batch.proofs.StretchLogs.{next_log}
use Rattle.batch.proofs.Owned.{used_one, used_two}
use Rattle.batch.proofs.Rising.{rise_keys}
use Rattle.batch.specs.Dense.{batch_dense}
use Rattle.batch.proofs.DenseWhole.{Tests, tested, own_rows, end_counters, dense_write}
use Rattle.batch.proofs.ChainLogs.{in_room_lem, roomy_same}
use Rattle.batch.proofs.Writes.{slots_write}

module _ (x : Join) (depth M : ℕ) (body : Below 256 x.body) (less : M < top) (inside : parts_within x.plan x.parts M ≡ true) where
  abbrev S : List ℕ
  S = x.plan

  abbrev Al : Log → Log → Type 0
  Al l m = Alike S x.parts M (Used S) l m

  abbrev below : Walk
  below = batch_below x depth

  -- ---- a dense union

  module _ (i : ℕ) (small : i < 32) (is : code_of S i ≡ 22) (slot n : ℕ) (c d : List ℕ) (f : Counts c) (l : Leaves (batch_slots x below i slot n c) d) (hold : parts_hold S d x.parts ≡ true) where
    abbrev o : Out
    o = batch_dense x (batch_leaf x) i slot n c

    abbrev c3 : List ℕ
    c3 = o.counters

    slots_are : batch_slots x below i slot n c ≡ next (done c) (λ e. next (batch_data x below (code_of S i) i slot n e) (λ e2. done (add_rows i n e2)))
    unfolding batch_slots
    slots_are = rw is refl

    copies_are : copy_slots x (copy_walk x (suc depth)) i slot n c ≡ next (done c) (λ e. next (copy_data x (copy_walk x (suc depth)) (code_of S i) i slot n e) (λ e2. done (add_rows i n e2)))
    unfolding copy_slots
    copies_are = rw is refl

    data_is_dense : batch_data x below (code_of S i) i slot n c ≡ o
    unfolding batch_data
    data_is_dense = rw is refl

    l1 : Leaves (next o (λ e2. done (add_rows i n e2))) d
    unfolding done
    l1 = rw data_is_dense at (next_rest (done c) (λ e. next (batch_data x below (code_of S i) i slot n e) (λ e2. done (add_rows i n e2))) (rw slots_are at l))

    lo : Leaves o c3
    lo = next_start_lem o (λ e2. done (add_rows i n e2)) l1

    end_is : add_rows i n c3 ≡ d
    unfolding done
    end_is = (next_rest o (λ e2. done (add_rows i n e2)) l1).left

    hold2 : parts_hold S (add_rows i n c3) x.parts ≡ true
    hold2 = rw end_is hold

    lp : Leaves (copy_data x (copy_walk x (suc depth)) (code_of S i) i slot n c) c3
    lp =
        let q = data_same x depth i slot n c f (rw data_is_dense lo.ok) in
        record { ok = q.ok; left = q.left ∙ ap (λ y. y.counters) data_is_dense }

    ts : Tests x depth i slot n c f c3
    ts = tested x depth i slot n c f c3 lo

    -- a child is another node
    not_own : (k : ℕ) → is_leaf (code_of S k) ≡ true → k ≡ i → ⊥
    not_own k p e =
        let h = leb-true (code_of S k) 16 (and_right (leb 1 (code_of S k)) _ p) in
        let g : code_of S k ≡ 22 = ap (code_of S) e ∙ is in
        omega arith

    rooms : (k : ℕ) (p : is_leaf (code_of S k) ≡ true) → owned S k ≡ true → Roomy x M (Used S) body k p c3
    rooms k p own = roomy_same x M body less inside k p own (add_rows i n c3) hold2 c3 (rows_other c3 i n k (not_own k p)) (bytes_of_rows c3 i n k)

    k1 : Used S i 1
    k1 = used_one S i ts.t1 (rw is (omega arith))

    k2 : Used S i 2
    k2 = used_two S i ts.t1 (rw is (omega arith))

    room1 : rows (add_rows i n c3) i ≤ size_of S x.parts i 1
    room1 =
        let v : needed_by (code_of S i) (rows (add_rows i n c3) i) (bytes (add_rows i n c3) i) 1 ≤ size_of S x.parts i 1 = used_holds S (add_rows i n c3) x.parts hold2 i 1 k1 in
        let w : rows (add_rows i n c3) i * 1 ≤ size_of S x.parts i 1 = rw is at v in
        omega arith

    room2 : rows (add_rows i n c3) i * 4 ≤ size_of S x.parts i 2
    room2 =
        let v : needed_by (code_of S i) (rows (add_rows i n c3) i) (bytes (add_rows i n c3) i) 2 ≤ size_of S x.parts i 2 = used_holds S (add_rows i n c3) x.parts hold2 i 2 k2 in
        rw is at v

    rows_end : rows (add_rows i n c3) i ≡ rows c i + n
    unfolding grown
    rows_end =
        let e = rows_added c3 (end_counters x depth i slot n c f c3 ts M (Used S) body rooms).long i small n in
        let g = own_rows x depth i slot n c f c3 ts M (Used S) body rooms in
        let r = room1 in
        let h = in_room_lem x M body less inside i 1 k1 in
        omega arith

    dense_slots : Al (batch_slots x below i slot n c).log (copy_slots x (copy_walk x (suc depth)) i slot n c).log
    unfolding done
    dense_slots =
        rw (slots_are, copies_are, next_log (λ e. next (batch_data x below (code_of S i) i slot n e) (λ e2. done (add_rows i n e2))) (leaves_done c), next_log (λ e. next (copy_data x (copy_walk x (suc depth)) (code_of S i) i slot n e) (λ e2. done (add_rows i n e2))) (leaves_done c))
        (rw (data_is_dense, next_log (λ e2. done (add_rows i n e2)) lo, next_log (λ e2. done (add_rows i n e2)) lp, dense_data x depth (suc depth) i slot n c is, append-nil o.log, append-nil (copy_dense x (copy_walk x (suc depth)) i slot n c).log)
        (dense_write x depth i slot n c f c3 ts M (Used S) body rooms k1 k2 (rw (← rows_end) room1) (rw (← rows_end) room2)))

  -- a node that is no list-view is a dense union
  list_data_was : (code i slot n : ℕ) (c : List ℕ) → (batch_data x below code i slot n c).ans ≡ 0 → is_list_view code ≡ false → eqb code 22 ≡ true
  unfolding batch_data fail
  list_data_was code i slot n c = go (is_list_view code) (eqb code 22)
    where
      go : (t u : Bool) → (cond t (batch_list_view x below (bytes_of S i) i slot n c) (cond u (batch_dense x (batch_leaf x) i slot n c) (fail 12 c))).ans ≡ 0 → t ≡ false → u ≡ true
      go true u h e = let z : ◌≡◌ {A = ℕ} 1 0 = ap (λ q. cond q 1 0) e in absurd (omega arith)
      go false true h e = refl
      go false false h e = let z : ◌≡◌ {A = ℕ} 12 0 = h in absurd (omega arith)

  is_list_lem : (i slot n : ℕ) (c d : List ℕ) → Leaves (batch_slots x below i slot n c) d → is_list_view (code_of S i) ≡ false → eqb (code_of S i) 22 ≡ true
  unfolding batch_slots
  is_list_lem i slot n c d l =
      let m : Out = cond (masked (code_of S i)) (copy_mask x i slot n c) (done c) in
      let b = next_rest m (λ e. next (batch_data x below (code_of S i) i slot n e) (λ e2. done (add_rows i n e2))) l in
      λ e. list_data_was (code_of S i) i slot n m.counters (next_start_lem (batch_data x below (code_of S i) i slot n m.counters) (λ e2. done (add_rows i n e2)) b).ok e

  node_write : (i a n : ℕ) (c d : List ℕ) → Counts c → Leaves (batch_node x below i a n c) d → parts_hold S d x.parts ≡ true
      → Al (batch_node x below i a n c).log (copy_node x (copy_walk x (suc depth)) i a n c).log
  unfolding batch_node copy_node
  node_write i a n c d f l hold =
      let s = need_was (ltb i 32) 12 c _ (omega arith) l.ok in
      let l1 = need_rest (ltb i 32) 12 c _ (omega arith) l in
      let v = found_was far (slot_of x i a n) 12 c (λ slot. batch_slots x below i slot n c) (omega arith) l1.ok in
      let l2 = rw (found_is far (slot_of x i a n) 12 c (λ slot. batch_slots x below i slot n c) v) at l1 in
      rw (
        need_is 12 c (found far (slot_of x i a n) 12 c (λ slot. batch_slots x below i slot n c)) s,
        need_is 12 c (found far (slot_of x i a n) 12 c (λ slot. copy_slots x (copy_walk x (suc depth)) i slot n c)) s,
        found_is far (slot_of x i a n) 12 c (λ slot. batch_slots x below i slot n c) v,
        found_is far (slot_of x i a n) 12 c (λ slot. copy_slots x (copy_walk x (suc depth)) i slot n c) v,
      )
      (go (ltb-true i 32 s) (slot_of x i a n) l2 (is_list_view (code_of S i)) refl)
    where
      go : i < 32 → (slot : ℕ) → Leaves (batch_slots x below i slot n c) d → (t : Bool) → is_list_view (code_of S i) ≡ t → Al (batch_slots x below i slot n c).log (copy_slots x (copy_walk x (suc depth)) i slot n c).log
      go s slot m true e = slots_write x depth M body less inside i s e slot n c d f m hold
      go s slot m false e = dense_slots i s (eqb-true (code_of S i) 22 (is_list_lem i slot n c d m e)) slot n c d f m hold

-- THEOREM 2: where the walk by stretches answers 0, and the parts lie in the room, hold their bytes and rise, both walks leave the same room
pub batch_writes : (x : Join) (i a n : ℕ) (c room : List ℕ) → Counts c → Below 256 x.body → Below 256 room → length room < top → (batch_walk_of x i a n c).ans ≡ 0
    → parts_within x.plan x.parts (length room) ≡ true → parts_hold x.plan (batch_walk_of x i a n c).counters x.parts ≡ true → parts_rise x.plan x.parts ≡ true
    → apply x.plan x.parts (copy_walk x 8 i a n c).log room ≡ apply x.plan x.parts (batch_walk_of x i a n c).log room
unfolding batch_walk_of copy_walk
batch_writes x i a n c room f body bytes_are less h inside hold rise =
    let z = node_write x 6 (length room) body less inside i a n c (batch_walk_of x i a n c).counters f (leaves_own h) hold in
    sym (same_room x.plan x.parts (length room) (Used x.plan) (rise_keys x.plan x.parts (length room) rise inside) (batch_walk_of x i a n c).log (copy_walk x 8 i a n c).log
    z.one z.two room (record { long = refl; are_bytes = bytes_are }) (λ j b u w l v. z.same j b u w (record { long = l; are_bytes = v })))
