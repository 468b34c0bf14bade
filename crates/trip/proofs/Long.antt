-- A walk leaves as many counters as there were, and what is written leaves as many bytes, whatever is lent. Assumes nothing.
use mathlib.Core.Path.{◌≡◌, refl, ◌∙◌}
use mathlib.Core.Bool.{Bool, true, false, cond, ◌&&◌}
use mathlib.Core.List.{List, [], ◌∷◌, ◌++◌}
use Prim.Native.Nat.{ℕ, zero, suc, ◌+◌, ◌*◌, ◌-◌, ◌≤◌, ◌/◌, min}
use native.Mathlib.Omega.{arith}
use lib.ListN.{length, set, drop, length-set, length-append, length-replicate, replicate}
use lib.Dec.{leb, ltb, eqb}
use borrow.Author.Tests.{leb-true}
use Rattle.number.specs.Number.{splice}
use Rattle.number.proofs.Laws.{length_splice}
use Rattle.bits.specs.Bits.{bits, pack, packed, pad, put_bits}
use Rattle.bits.proofs.Laws.{length_bits}
use Rattle.bits.proofs.Puts.{pad_fits}
use Rattle.schema.specs.formats.Code.{is_fixed, is_string, is_view, is_list_view, is_list}
use Rattle.utils.specs.Extension.{extended}
use Rattle.utils.specs.declared.Extended.{Extended}
use Rattle.utils.specs.declared.Extended.TheVariants.{Fits, Over, Falls}
use Rattle.std.specs.Prelude.{Option, Some, None}
use Rattle.run_ends.specs.declared.RunRange.{RunRange}
use Rattle.walk.specs.State.{Join, code_of, dictionary_of, end_of, keeps_of, bytes_of, rows, bytes, gap, place, far, add_rows}
use Rattle.walk.specs.Log.{Entry, put, mask, amend, start_of, in_room, enter, Log, apply, Out, fail, done, wrote, need, found, next, each}
use Rattle.walk.specs.Leaves.{copy_bits, copy_mask, null_mask, count_nulls, copy_numbers, copy_keys, copy_views, null_numbers, put_string, put_extended, copy_string, null_string}
use Rattle.walk.specs.Copy.{Walk, masked, list_view_row, copy_list_view, put_stretch, copy_list, copy_sparse, dense_to, dense_row, copy_dense, put_runs, runs_at, copy_runs, copy_data, copy_slots, copy_node, copy_walk, each_field}
use Rattle.walk.specs.Nulls.{NullWalk, null_list_view, null_list, null_sparse, null_dense, add_run, grow_run, null_runs, null_data, null_node, null_walk}
use Rattle.model.specs.Book.{Call, copy, nulls}
use Rattle.refinement.specs.orders.Order.{Lent, join_of}
use Rattle.trip.specs.Walk.{order_walk, order_step}
use Rattle.walk.proofs.Names.{put_list, copy_fields, null_fields}
use Rattle.walk.proofs.Offsets.{string_is, list_is}

-- ---- counters

-- m counters
pub record Sized (m : ℕ) (c : List ℕ) : Type 0 where
  pub size : length c ≡ m

-- .. are left
pub record Long (m : ℕ) (o : Out) : Type 0 where
  pub left : Sized m o.counters

module _ {m : ℕ} where
  pub long_done : {c : List ℕ} → Sized m c → Long m (done c)
  unfolding done
  long_done h = record { left = h }

  long_fail : (g : ℕ) {c : List ℕ} → Sized m c → Long m (fail g c)
  unfolding fail
  long_fail g h = record { left = h }

  long_wrote : (e : Entry) {c : List ℕ} → Sized m c → Long m (wrote e c)
  unfolding wrote
  long_wrote e h = record { left = h }

  long_cond : (b : Bool) {o p : Out} → Long m o → Long m p → Long m (cond b o p)
  long_cond true f g = f
  long_cond false f g = g

  long_need : (b : Bool) (g : ℕ) {c : List ℕ} {o : Out} → Sized m c → Long m o → Long m (need b g c o)
  unfolding need
  long_need b g h k = long_cond b k (long_fail g h)

  long_found : (n v g : ℕ) {c : List ℕ} (k : ℕ → Out) → Sized m c → Long m (k v) → Long m (found n v g c k)
  unfolding found
  long_found n v g k h q = long_cond (ltb v n) q (long_fail g h)

  pub long_next : {o : Out} (k : List ℕ → Out) → Long m o → ((c : List ℕ) → Sized m c → Long m (k c)) → Long m (next o k)
  unfolding next
  long_next {o} k h q = long_cond (eqb o.ans 0) (record { left = (q o.counters h.left).left }) h

  long_each : (f : ℕ → List ℕ → Out) → ((r : ℕ) (c : List ℕ) → Sized m c → Long m (f r c)) → (n r : ℕ) {c : List ℕ} → Sized m c → Long m (each f n r c)
  unfolding each
  long_each f q zero r h = long_done h
  long_each f q (suc n) r h = long_next _ (q r _ h) (λ c2 g. long_each f q n (suc r) g)

  sized_set : (k v : ℕ) {c : List ℕ} → Sized m c → Sized m (set c k v)
  sized_set k v {c} h = record { size = length-set c k v ∙ h.size }

  module _ (x : Join) where
    -- ---- leaves

    module _ (i : ℕ) where
      long_mask : (slot n : ℕ) {c : List ℕ} → Sized m c → Long m (copy_mask x i slot n c)
      unfolding copy_mask copy_bits
      long_mask slot n h =
          long_cond (eqb (keeps_of x.plan i) 0) (long_done h)
          (long_cond (eqb (place x i 0) 0) (long_wrote _ h) (long_need _ 12 h (long_next _ (long_wrote _ h) (λ c2 g. long_done (sized_set (3 * i + 1) _ g)))))

      long_null_mask : (n : ℕ) {c : List ℕ} → Sized m c → Long m (cond (masked (code_of x.plan i)) (null_mask x i n c) (count_nulls x i n c))
      unfolding null_mask count_nulls
      long_null_mask n h =
          long_cond (masked (code_of x.plan i))
          (long_cond (eqb (keeps_of x.plan i) 0) (long_done h) (long_next _ (long_wrote _ h) (λ c2 g. long_done (sized_set (3 * i + 1) _ g))))
          (long_cond (eqb (keeps_of x.plan i) 0) (long_done h) (long_done (sized_set (3 * i + 1) _ h)))

      long_extended : (w from n : ℕ) (e : Extended) {c : List ℕ} → Sized m c → Long m (put_extended x i w from n e c)
      unfolding put_string
      long_extended w from n (Fits last first) h =
          long_need _ 12 h (long_next _ (long_wrote _ h) (λ c2 g. long_next _ (long_wrote _ g) (λ c3 k. long_done (sized_set (3 * i + 2) last k))))
      long_extended w from n (Over row needed) h = long_fail 6 h
      long_extended w from n Falls h = long_fail 12 h

      long_string : (w slot n : ℕ) {c : List ℕ} → Sized m c → Long m (copy_string x i w slot n c)
      long_string w slot n {c} h =
          rw (string_is x i w slot n c)
          (long_cond (eqb n 0) (long_done h)
          (long_need _ 12 h (long_extended w (place x i 3 + w * slot) n (extended w x.body (place x i 3 + w * slot) n (bytes c i)) h)))

    -- ---- copies

    module _ (walk : Walk) (below : (k a n : ℕ) (c : List ℕ) → Sized m c → Long m (walk k a n c)) (i : ℕ) where
      long_list_view : (w slot n : ℕ) {c : List ℕ} → Sized m c → Long m (copy_list_view x walk w i slot n c)
      unfolding copy_list_view list_view_row
      long_list_view w slot n h =
          long_need _ 12 h (long_need _ 12 h (long_each _ (λ r c1 g. long_need _ 6 g (long_next _ (long_wrote _ g) (λ c2 q. long_next _ (long_wrote _ q) (λ c3 k. below (suc i) _ _ c3 k)))) n 0 h))

      long_put_list : (w from n : ℕ) (e : Extended) {c : List ℕ} → Sized m c → Long m (put_list x walk w i from n e c)
      unfolding put_stretch
      long_put_list w from n (Fits last first) h = long_next _ (long_wrote _ h) (λ c2 g. below (suc i) first _ c2 g)
      long_put_list w from n (Over row needed) h = long_fail 6 h
      long_put_list w from n Falls h = long_fail 12 h

      long_list : (w slot n : ℕ) {c : List ℕ} → Sized m c → Long m (copy_list x walk w i slot n c)
      long_list w slot n {c} h =
          rw (list_is x walk w i slot n c)
          (long_cond (eqb n 0) (long_done h)
          (long_need _ 12 h (long_need _ 12 h (long_put_list w (place x i 3 + w * slot) n (extended w x.body (place x i 3 + w * slot) n (rows c (suc i))) h))))

      long_fields : (slot n end f k : ℕ) {c : List ℕ} → Sized m c → Long m (copy_fields x walk slot n end f k c)
      unfolding each_field
      long_fields slot n end zero k h = long_done h
      long_fields slot n end (suc f) k h = long_cond (ltb k end) (long_next _ (below k slot n _ h) (λ c2 g. long_fields slot n end f (end_of x.plan k) g)) (long_done h)

      long_sparse : (slot n : ℕ) {c : List ℕ} → Sized m c → Long m (copy_sparse x walk i slot n c)
      unfolding copy_sparse
      long_sparse slot n h = long_need _ 12 h (long_next _ (long_wrote _ h) (λ c2 g. long_fields slot n (end_of x.plan i) 32 (suc i) g))

      long_dense : (slot n : ℕ) {c : List ℕ} → Sized m c → Long m (copy_dense x walk i slot n c)
      unfolding copy_dense dense_row dense_to
      long_dense slot n h =
          long_need _ 12 h (long_each _ (λ r c1 g. long_found 32 _ 12 _ g (long_need _ 6 g (long_next _ (long_wrote _ g) (λ c2 q. long_next _ (long_wrote _ q) (λ c3 k. below _ _ 1 c3 k))))) n 0 h)

      long_put : (w slot n : ℕ) (r : Option RunRange) {c : List ℕ} → Sized m c → Long m (put_runs x walk w i slot n r c)
      long_put w slot n None h = long_fail 12 h
      long_put w slot n (Some r) h =
          long_next _ (below (suc (suc i)) r.first.0 r.count _ h) (λ c2 g. long_next _ (long_wrote _ g) (λ c3 k. long_done (sized_set (3 * i + 2) _ (sized_set (3 * suc i) _ k))))

      long_runs : (slot n : ℕ) {c : List ℕ} → Sized m c → Long m (copy_runs x walk i slot n c)
      unfolding copy_runs
      long_runs slot n h =
          long_cond (eqb n 0) (long_done h)
          (long_need _ 12 h (long_need _ 7 h (long_need _ 12 h (long_put (bytes_of x.plan (suc i)) slot n (runs_at x walk (bytes_of x.plan (suc i)) i slot n) h))))

      long_data : (code slot n : ℕ) {c : List ℕ} → Sized m c → Long m (copy_data x walk code i slot n c)
      unfolding copy_data copy_numbers copy_keys copy_views
      long_data code slot n h =
          long_cond (is_fixed code) (long_cond (eqb (dictionary_of x.plan i) 0) (long_need _ 12 h (long_wrote _ h)) (long_need _ 12 h (long_wrote _ h)))
          (long_cond (is_string code) (long_string i _ slot n h)
          (long_cond (is_view code) (long_need _ 12 h (long_wrote _ h))
          (long_cond (is_list_view code) (long_list_view _ slot n h)
          (long_cond (is_list code) (long_list _ slot n h)
          (long_cond (eqb code 21) (long_sparse slot n h)
          (long_cond (eqb code 22) (long_dense slot n h)
          (long_cond (eqb code 23) (long_runs slot n h)
          (long_fail 12 h))))))))

      long_node : (a n : ℕ) {c : List ℕ} → Sized m c → Long m (copy_node x walk i a n c)
      unfolding copy_node copy_slots
      long_node a n h =
          long_need _ 12 h
          (long_found far _ 12 _ h
          (long_next _ (long_cond (masked (code_of x.plan i)) (long_mask i _ n h) (long_done h))
          (λ c2 g. long_next _ (long_data (code_of x.plan i) _ n g) (λ c3 k. long_done (sized_set (3 * i) _ k)))))

    pub long_copy : (depth i a n : ℕ) {c : List ℕ} → Sized m c → Long m (copy_walk x depth i a n c)
    unfolding copy_walk
    long_copy zero i a n h = long_fail 12 h
    long_copy (suc depth) i a n h = long_node (copy_walk x depth) (λ k b n c1 g. long_copy depth k b n g) i a n h

    -- ---- nulls

    module _ (walk : NullWalk) (below : (k n : ℕ) (c : List ℕ) → Sized m c → Long m (walk k n c)) (i : ℕ) where
      long_null_fields : (n end f k : ℕ) {c : List ℕ} → Sized m c → Long m (null_fields x walk n end f k c)
      unfolding each_field
      long_null_fields n end zero k h = long_done h
      long_null_fields n end (suc f) k h = long_cond (ltb k end) (long_next _ (below k n _ h) (λ c2 g. long_null_fields n end f (end_of x.plan k) g)) (long_done h)

      long_null_sparse : (n : ℕ) {c : List ℕ} → Sized m c → Long m (null_sparse x walk i n c)
      unfolding null_sparse
      long_null_sparse n h = long_found 32 _ _ _ h (long_next _ (long_wrote _ h) (λ c2 g. long_null_fields n (end_of x.plan i) 32 (suc i) g))

      long_null_dense : (n : ℕ) {c : List ℕ} → Sized m c → Long m (null_dense x walk i n c)
      unfolding null_dense
      long_null_dense n h = long_found 32 _ _ _ h (long_need _ 6 h (long_next _ (long_wrote _ h) (λ c2 g. long_next _ (long_wrote _ g) (λ c3 k. below _ n c3 k))))

      long_null_runs : (n : ℕ) {c : List ℕ} → Sized m c → Long m (null_runs x walk i n c)
      unfolding null_runs add_run grow_run
      long_null_runs n {c} h =
          long_need _ 12 h
          (long_cond (eqb (gap c i) 2) (long_need _ 12 h (long_need _ 7 h (long_wrote _ h)))
          (long_next _ (below (suc (suc i)) 1 _ h) (λ c2 g. long_need _ 7 g (long_next _ (long_wrote _ g) (λ c3 k. long_done (sized_set (3 * i + 2) _ (sized_set (3 * suc i) _ k)))))))

      long_null_data : (code n : ℕ) {c : List ℕ} → Sized m c → Long m (null_data x walk code i n c)
      unfolding null_data null_numbers null_string null_list_view null_list
      long_null_data code n h =
          long_cond (is_fixed code) (long_wrote _ h)
          (long_cond (is_string code) (long_wrote _ h)
          (long_cond (is_view code) (long_wrote _ h)
          (long_cond (is_list_view code) (long_next _ (long_wrote _ h) (λ c2 g. long_wrote _ g))
          (long_cond (is_list code) (long_need _ 12 h (long_wrote _ h))
          (long_cond (eqb code 21) (long_null_sparse n h)
          (long_cond (eqb code 22) (long_null_dense n h)
          (long_cond (eqb code 23) (long_null_runs n h)
          (long_fail 12 h))))))))

      long_null_node : (n : ℕ) {c : List ℕ} → Sized m c → Long m (null_node x walk i n c)
      unfolding null_node
      long_null_node n h =
          long_cond (eqb n 0) (long_done h)
          (long_need _ 12 h
          (long_next _ (long_null_data (code_of x.plan i) n h) (λ c2 g. long_next _ (long_null_mask i n g) (λ c3 k. long_done (sized_set (3 * i) _ k)))))

    pub long_nulls : (depth i n : ℕ) {c : List ℕ} → Sized m c → Long m (null_walk x depth i n c)
    unfolding null_walk
    long_nulls zero i n h = long_fail 12 h
    long_nulls (suc depth) i n h = long_null_node (null_walk x depth) (λ k n c1 g. long_nulls depth k n g) i n h

  -- AN ORDER LEAVES AS MANY COUNTERS
  pub long_order : (x : Lent) (o : Call) {c : List ℕ} → Sized m c → Long m (order_walk x o c)
  unfolding order_walk
  long_order x (copy s a e) h = long_need _ 1 h (long_need _ 2 h (long_copy (join_of x s) 8 0 a (e - a) h))
  long_order x (nulls n) h = long_need _ 3 h (long_nulls (join_of x 0) 8 0 (min n far) h)

-- ---- bytes

length_pack : (n : ℕ) (l : List ℕ) → length (pack n l) ≡ n
unfolding pack
length_pack zero l = refl
length_pack (suc n) l = omega (arith, length_pack n (drop 8 l))

put_long : (p : ℕ) (vs s : List ℕ) → p + length vs ≤ 8 * length s → length (put_bits p vs s) ≡ length s
unfolding put_bits packed
put_long p vs s h =
    let run = vs ++ replicate (pad p (length vs)) 0 in
    let l : length run ≡ length vs + pad p (length vs) = simp (length-append, length-replicate) in
    let f : p + length run ≤ length (bits s) = omega (arith, l, pad_fits p (length vs) (length s) h, length_bits s) in
    let q : length (splice p run (bits s)) ≡ 8 * length s = length_splice p run (bits s) f ∙ length_bits s in
    length_pack (length (splice p run (bits s)) / 8) (splice p run (bits s)) ∙ omega (arith, q)

module _ (plan parts : List ℕ) where
  splice_long : (at o : ℕ) (bs room : List ℕ) → length (cond (in_room at o (length bs) (length room)) (splice (at + o) bs room) room) ≡ length room
  unfolding in_room
  splice_long at o bs room = go (in_room at o (length bs) (length room)) refl
    where
      go : (t : Bool) → in_room at o (length bs) (length room) ≡ t → length (cond t (splice (at + o) bs room) room) ≡ length room
      go true h = length_splice (at + o) bs room (leb-true _ _ h)
      go false h = refl

  enter_long : (e : Entry) (room : List ℕ) → length (enter plan parts e room) ≡ length room
  unfolding enter in_room
  enter_long (put i b o bs) room = splice_long (start_of plan parts i b) o bs room
  enter_long (amend i b o bs) room = splice_long (start_of plan parts i b) o bs room
  enter_long (mask i p vs) room = go (in_room (8 * start_of plan parts i 0) p (length vs) (8 * length room)) refl
    where
      go : (t : Bool) → in_room (8 * start_of plan parts i 0) p (length vs) (8 * length room) ≡ t → length (cond t (put_bits (8 * start_of plan parts i 0 + p) vs room) room) ≡ length room
      go true h = put_long (8 * start_of plan parts i 0 + p) vs room (leb-true _ _ h)
      go false h = refl

  -- WHAT A LOG WRITES LEAVES AS MANY BYTES
  pub apply_long : (log : Log) (room : List ℕ) → length (apply plan parts log room) ≡ length room
  unfolding apply
  apply_long [] room = refl
  apply_long (e ∷ log) room = apply_long log (enter plan parts e room) ∙ enter_long e room
