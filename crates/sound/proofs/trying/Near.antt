-- A copy from counters that agree in rows and bytes has the same answer, and leaves such counters. Assumes nothing.
use mathlib.Core.Path.{◌≡◌, refl, ap, subst}
use mathlib.Core.Bool.{Bool, true, false, cond}
use mathlib.Core.List.{List, ◌++◌}
use Prim.Native.Nat.{ℕ, zero, suc, ◌+◌, ◌*◌, ◌-◌}
use lib.ListN.{length}
use lib.Dec.{leb, ltb, eqb}
use Rattle.columnar.specs.Types.{half}
use Rattle.number.specs.Number.{entry}
use Rattle.schema.specs.formats.Code.{is_fixed, is_string, is_view, is_list_view, is_list}
use Rattle.utils.specs.Extension.{extended}
use Rattle.utils.specs.declared.Extended.{Extended}
use Rattle.utils.specs.declared.Extended.TheVariants.{Fits, Over, Falls}
use Rattle.std.specs.Prelude.{Option, Some, None}
use Rattle.run_ends.specs.declared.RunRange.{RunRange}
use Rattle.walk.specs.State.{Join, code_of, dictionary_of, end_of, keeps_of, bytes_of, rows, bytes, place, far, add_rows, add_nulls, set_bytes}
use Rattle.walk.specs.Log.{Entry, Out, fail, done, wrote, need, found, next, each}
use Rattle.walk.specs.Leaves.{copy_bits, copy_mask, copy_numbers, copy_keys, copy_views, put_string, put_extended, copy_string}
use Rattle.walk.specs.Copy.{Walk, masked, list_view_row, copy_list_view, put_stretch, copy_list, copy_sparse, dense_to, dense_row, copy_dense, put_runs, runs_at, copy_runs, copy_data, copy_slots, copy_node, copy_walk, each_field}
use Rattle.sound.specs.trying.Alike.{Alike}
use Rattle.sound.proofs.trying.Laws.{alike_refl, alike_rows, alike_bytes, alike_gap, alike_other}
use Rattle.walk.proofs.Names.{put_list, copy_fields}
use Rattle.walk.proofs.Offsets.{string_is, list_is}

-- ---- walks that answer alike

pub record Near (o p : Out) : Type 0 where
  pub answer : o.ans ≡ p.ans
  pub counters : Alike o.counters p.counters

pub near_same : {o p : Out} → o ≡ p → Near o p
near_same {o} e = subst (λ z. Near o z) e (record { answer = refl; counters = alike_refl o.counters })

pub near_done : {c d : List ℕ} → Alike c d → Near (done c) (done d)
unfolding done
near_done h = record { answer = refl; counters = h }

near_fail : (g : ℕ) {c d : List ℕ} → Alike c d → Near (fail g c) (fail g d)
unfolding fail
near_fail g h = record { answer = refl; counters = h }

-- the log may be another
pub near_wrote : (e f : Entry) {c d : List ℕ} → Alike c d → Near (wrote e c) (wrote f d)
unfolding wrote
near_wrote e f h = record { answer = refl; counters = h }

pub near_cond : (b : Bool) {o p r s : Out} → Near o p → Near r s → Near (cond b o r) (cond b p s)
near_cond true f g = f
near_cond false f g = g

pub near_need : {a b : Bool} → a ≡ b → (g : ℕ) {c d : List ℕ} {o p : Out} → Alike c d → Near o p → Near (need a g c o) (need b g d p)
unfolding need
near_need {a} {b} e g {c} {d} {o} {p} h k = subst (λ z. Near (cond a o (fail g c)) (cond z p (fail g d))) e (near_cond a k (near_fail g h))

near_found : (m v g : ℕ) {c d : List ℕ} (k l : ℕ → Out) → Alike c d → Near (k v) (l v) → Near (found m v g c k) (found m v g d l)
unfolding found
near_found m v g k l h q = near_cond (ltb v m) q (near_fail g h)

pub near_next : {o p : Out} (k l : List ℕ → Out) → Near o p → ((c d : List ℕ) → Alike c d → Near (k c) (l d)) → Near (next o k) (next p l)
unfolding next
near_next {o} {p} k l h q =
    subst (λ z. Near (next o k) (cond (eqb z 0) (record { ans = (l p.counters).ans; counters = (l p.counters).counters; log = p.log ++ (l p.counters).log }) p)) h.answer
    (near_cond (eqb o.ans 0) (record { answer = (q o.counters p.counters h.counters).answer; counters = (q o.counters p.counters h.counters).counters }) h)

pub near_each : (f : ℕ → List ℕ → Out) → ((r : ℕ) (c d : List ℕ) → Alike c d → Near (f r c) (f r d)) → (n r : ℕ) {c d : List ℕ} → Alike c d → Near (each f n r c) (each f n r d)
unfolding each
near_each f q zero r h = near_done h
near_each f q (suc n) r h = near_next _ _ (q r _ _ h) (λ c2 d2 g. near_each f q n (suc r) g)

module _ (x : Join) where
  -- ---- leaves

  module _ (i : ℕ) where
    near_mask : (slot n : ℕ) {c d : List ℕ} → Alike c d → Near (copy_mask x i slot n c) (copy_mask x i slot n d)
    unfolding copy_mask copy_bits
    near_mask slot n h =
        near_cond (eqb (keeps_of x.plan i) 0) (near_done h)
        (near_cond (eqb (place x i 0) 0) (near_wrote _ _ h) (near_need refl 12 h (near_next _ _ (near_wrote _ _ h) (λ c2 d2 g. near_done (alike_other g i _ _)))))

    near_numbers : (w slot n : ℕ) {c d : List ℕ} → Alike c d → Near (copy_numbers x i w slot n c) (copy_numbers x i w slot n d)
    unfolding copy_numbers
    near_numbers w slot n h = near_need refl 12 h (near_wrote _ _ h)

    near_keys : (w slot n : ℕ) {c d : List ℕ} → Alike c d → Near (copy_keys x i w slot n c) (copy_keys x i w slot n d)
    unfolding copy_keys
    near_keys w slot n h = near_need refl 12 h (near_wrote _ _ h)

    near_views : (slot n : ℕ) {c d : List ℕ} → Alike c d → Near (copy_views x i slot n c) (copy_views x i slot n d)
    unfolding copy_views
    near_views slot n h = near_need refl 12 h (near_wrote _ _ h)

    near_extended : (w from n : ℕ) (e : Extended) {c d : List ℕ} → Alike c d → Near (put_extended x i w from n e c) (put_extended x i w from n e d)
    unfolding put_string
    near_extended w from n (Fits last first) h =
        near_need (ap (λ v. leb (place x i 5 + first + (last - v)) (length x.body)) (h.bytes_same i)) 12 h
        (near_next _ _ (near_wrote _ _ h) (λ c2 d2 g. near_next _ _ (near_wrote _ _ g) (λ c3 d3 k. near_done (alike_bytes k i last))))
    near_extended w from n (Over row needed) h = near_fail 6 h
    near_extended w from n Falls h = near_fail 12 h

    near_string : (w slot n : ℕ) {c d : List ℕ} → Alike c d → Near (copy_string x i w slot n c) (copy_string x i w slot n d)
    near_string w slot n {c} {d} h =
        rw (string_is x i w slot n c, string_is x i w slot n d)
        (near_cond (eqb n 0) (near_done h)
        (near_need refl 12 h
        (subst (λ v. Near (put_extended x i w (place x i 3 + w * slot) n (extended w x.body (place x i 3 + w * slot) n (bytes c i)) c) (put_extended x i w (place x i 3 + w * slot) n (extended w x.body (place x i 3 + w * slot) n v) d))
        (h.bytes_same i) (near_extended w (place x i 3 + w * slot) n (extended w x.body (place x i 3 + w * slot) n (bytes c i)) h))))

  -- ---- nodes with children

  module _ (walk : Walk) (below : (k a n : ℕ) (c d : List ℕ) → Alike c d → Near (walk k a n c) (walk k a n d)) (i : ℕ) where
    near_row : (w slot r : ℕ) {c d : List ℕ} → Alike c d → Near (list_view_row x walk w i slot r c) (list_view_row x walk w i slot r d)
    unfolding list_view_row
    near_row w slot r h =
        near_need (ap (λ v. ltb (v + entry w x.body (place x i 5) (slot + r)) (half w)) (h.rows_same (suc i))) 6 h
        (near_next _ _ (near_wrote _ _ h) (λ c2 d2 g. near_next _ _ (near_wrote _ _ g) (λ c3 d3 k. below (suc i) _ _ c3 d3 k)))

    near_list : (w slot n : ℕ) {c d : List ℕ} → Alike c d → Near (copy_list_view x walk w i slot n c) (copy_list_view x walk w i slot n d)
    unfolding copy_list_view
    near_list w slot n h = near_need refl 12 h (near_need refl 12 h (near_each _ (λ r c1 d1 g. near_row w slot r g) n 0 h))

    near_stretch : (w from n : ℕ) (e : Extended) {c d : List ℕ} → Alike c d → Near (put_list x walk w i from n e c) (put_list x walk w i from n e d)
    unfolding put_stretch
    near_stretch w from n (Fits last first) h =
        near_next _ _ (near_wrote _ _ h)
        (λ c2 d2 g. subst (λ v. Near (walk (suc i) first (last - rows c2 (suc i)) c2) (walk (suc i) first (last - v) d2)) (g.rows_same (suc i)) (below (suc i) first (last - rows c2 (suc i)) c2 d2 g))
    near_stretch w from n (Over row needed) h = near_fail 6 h
    near_stretch w from n Falls h = near_fail 12 h

    near_lists : (w slot n : ℕ) {c d : List ℕ} → Alike c d → Near (copy_list x walk w i slot n c) (copy_list x walk w i slot n d)
    near_lists w slot n {c} {d} h =
        rw (list_is x walk w i slot n c, list_is x walk w i slot n d)
        (near_cond (eqb n 0) (near_done h)
        (near_need refl 12 h
        (near_need refl 12 h
        (subst (λ v. Near (put_list x walk w i (place x i 3 + w * slot) n (extended w x.body (place x i 3 + w * slot) n (rows c (suc i))) c) (put_list x walk w i (place x i 3 + w * slot) n (extended w x.body (place x i 3 + w * slot) n v) d))
        (h.rows_same (suc i)) (near_stretch w (place x i 3 + w * slot) n (extended w x.body (place x i 3 + w * slot) n (rows c (suc i))) h)))))

    near_fields : (slot n end f k : ℕ) {c d : List ℕ} → Alike c d → Near (copy_fields x walk slot n end f k c) (copy_fields x walk slot n end f k d)
    unfolding each_field
    near_fields slot n end zero k h = near_done h
    near_fields slot n end (suc f) k h =
        near_cond (ltb k end) (near_next _ _ (below k slot n _ _ h) (λ c2 d2 g. near_fields slot n end f (end_of x.plan k) g)) (near_done h)

    near_sparse : (slot n : ℕ) {c d : List ℕ} → Alike c d → Near (copy_sparse x walk i slot n c) (copy_sparse x walk i slot n d)
    unfolding copy_sparse
    near_sparse slot n h = near_need refl 12 h (near_next _ _ (near_wrote _ _ h) (λ c2 d2 g. near_fields slot n (end_of x.plan i) 32 (suc i) g))

    near_to : (slot r k : ℕ) {c d : List ℕ} → Alike c d → Near (dense_to x walk i slot r k c) (dense_to x walk i slot r k d)
    unfolding dense_to
    near_to slot r k h =
        near_need (ap (λ v. ltb v (half 4)) (h.rows_same k)) 6 h
        (near_next _ _ (near_wrote _ _ h) (λ c2 d2 g. near_next _ _ (near_wrote _ _ g) (λ c3 d3 q. below k _ 1 c3 d3 q)))

    near_dense : (slot n : ℕ) {c d : List ℕ} → Alike c d → Near (copy_dense x walk i slot n c) (copy_dense x walk i slot n d)
    unfolding copy_dense dense_row
    near_dense slot n h = near_need refl 12 h (near_each _ (λ r c1 d1 g. near_found 32 _ 12 _ _ g (near_to slot r _ g)) n 0 h)

    near_put : (w slot n : ℕ) (r : Option RunRange) {c d : List ℕ} → Alike c d → Near (put_runs x walk w i slot n r c) (put_runs x walk w i slot n r d)
    near_put w slot n None h = near_fail 12 h
    near_put w slot n (Some r) h =
        near_next _ _ (below (suc (suc i)) r.first.0 r.count _ _ h) (λ c2 d2 g. near_next _ _ (near_wrote _ _ g) (λ c3 d3 k. near_done (alike_gap (alike_rows k (suc i) r.count) i)))

    near_runs : (slot n : ℕ) {c d : List ℕ} → Alike c d → Near (copy_runs x walk i slot n c) (copy_runs x walk i slot n d)
    unfolding copy_runs
    near_runs slot n h =
        near_cond (eqb n 0) (near_done h)
        (near_need refl 12 h
        (near_need (ap (λ v. ltb (v + n) (half (bytes_of x.plan (suc i)))) (h.rows_same i)) 7 h
        (near_need refl 12 h (near_put (bytes_of x.plan (suc i)) slot n (runs_at x walk (bytes_of x.plan (suc i)) i slot n) h))))

    near_data : (code slot n : ℕ) {c d : List ℕ} → Alike c d → Near (copy_data x walk code i slot n c) (copy_data x walk code i slot n d)
    unfolding copy_data
    near_data code slot n h =
        near_cond (is_fixed code) (near_cond (eqb (dictionary_of x.plan i) 0) (near_numbers i _ slot n h) (near_keys i _ slot n h))
        (near_cond (is_string code) (near_string i _ slot n h)
        (near_cond (is_view code) (near_views i slot n h)
        (near_cond (is_list_view code) (near_list _ slot n h)
        (near_cond (is_list code) (near_lists _ slot n h)
        (near_cond (eqb code 21) (near_sparse slot n h)
        (near_cond (eqb code 22) (near_dense slot n h)
        (near_cond (eqb code 23) (near_runs slot n h)
        (near_fail 12 h))))))))

    near_node : (a n : ℕ) {c d : List ℕ} → Alike c d → Near (copy_node x walk i a n c) (copy_node x walk i a n d)
    unfolding copy_node copy_slots
    near_node a n h =
        near_need refl 12 h
        (near_found far _ 12 _ _ h
        (near_next _ _ (near_cond (masked (code_of x.plan i)) (near_mask i _ n h) (near_done h))
        (λ c2 d2 g. near_next _ _ (near_data (code_of x.plan i) _ n g) (λ c3 d3 k. near_done (alike_rows k i n)))))

  -- A COPY ANSWERS ALIKE, whatever nulls are counted
  pub near_copy : (depth i a n : ℕ) {c d : List ℕ} → Alike c d → Near (copy_walk x depth i a n c) (copy_walk x depth i a n d)
  unfolding copy_walk
  near_copy zero i a n h = near_fail 12 h
  near_copy (suc depth) i a n h = near_node (copy_walk x depth) (λ k b m c1 d1 g. near_copy depth k b m g) i a n h
