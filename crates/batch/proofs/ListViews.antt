-- A list-view's data: where the walk by stretches answers 0, the walk of a copy answers 0 and leaves the same counters. Assumes nothing.
use mathlib.Core.Path.{◌≡◌, refl, sym, subst, ◌∙◌}
use mathlib.Core.Bool.{Bool, true, false, cond, ◌&&◌}
use mathlib.Core.List.{List}
use Prim.Native.Nat.{ℕ, zero, suc, ◌+◌, ◌*◌, ◌≤◌, ◌<◌}
use native.Mathlib.Nat.{zero-add, add-zero, add-suc, le_refl}
use native.Mathlib.Omega.{arith}
use lib.ListN.{get_or, length-set}
use lib.Seq.{get_or-set_same, get_or-set_other}
use lib.Dec.{leb, ltb, eqb}
use borrow.Author.Tests.{ltb-true, lt-ltb, lt-leb, leb-true, eqb-true, eqb-false}
use Rattle.number.specs.Number.{entry}
use Rattle.columnar.specs.Types.{half}
use Rattle.schema.specs.formats.Code.{between, is_list_view}
use Rattle.walk.specs.State.{Join, code_of, bytes_of, rows, nulls, top, grown, add_nulls, place}
use Rattle.walk.specs.Log.{Out, done, each}
use Rattle.walk.specs.Leaves.{copy_mask}
use Rattle.walk.specs.Copy.{Walk, list_view_row, copy_list_view, copy_data}
use Rattle.batch.specs.Stretch.{sum_of}
use Rattle.batch.specs.Batch.{owned, batch_list_view}
use Rattle.batch.proofs.Ends.{Leaves, leaves_own, leaves_wrote, leaves_need, leaves_next, need_was, need_rest, wrote_rest, next_start_lem, next_rest}
use Rattle.batch.proofs.Tally.{Counts}
use Rattle.batch.proofs.Stretches.{and_left, Cuts, stretches_each}
use Rattle.batch.proofs.Leaves.{mask_was, mask_goes, mask_zeros}

pub sum_up : (f : ℕ → ℕ) (m n : ℕ) → sum_of f m ≤ sum_of f (m + n)
unfolding sum_of
sum_up f m zero = rw (add-zero m) (le_refl _)
sum_up f m (suc n) = rw (add-suc m n) (let h = sum_up f m n in omega arith)

module _ (x : Join) (below child : Walk) (w i slot : ℕ) (good : ℕ → ℕ → List ℕ → Type 0)
    (cuts : Cuts (suc i) good (λ a n c. below (suc i) a n c) (λ a n c. child (suc i) a n c)) (big : half w ≤ top) where
  abbrev start : ℕ → ℕ
  start r = entry w x.body (place x i 3) (slot + r)

  abbrev size : ℕ → ℕ
  size r = entry w x.body (place x i 5) (slot + r)

  -- the child's rows of one row
  abbrev item : ℕ → List ℕ → Out
  item r c = child (suc i) (start r) (size r) c

  -- with the offset and the size of each row, from a child of `before` rows
  rows_with : (before n r : ℕ) (c d : List ℕ) → Counts c → rows c (suc i) ≡ before + sum_of size r → before + sum_of size (r + n) < half w
      → Leaves (each item n r c) d → Leaves (each (list_view_row x child w i slot) n r c) d
  unfolding each list_view_row sum_of grown
  rows_with before zero r c d f e h l = l
  rows_with before (suc n) r c d f e h l =
      let one = next_start_lem (item r c) (λ c2. each item n (suc r) c2) l in
      let s = cuts.step (start r) (size r) c (item r c).counters f one in
      let u = sum_up size (suc r) n in
      let v : suc r + n ≡ r + suc n = omega arith in
      let y : sum_of size (suc r) ≤ sum_of size (r + suc n) = rw v at u in
      let g = s.1 in
      let q : rows (item r c).counters (suc i) ≡ before + sum_of size (suc r) = omega arith in
      let z = rows_with before n (suc r) (item r c).counters d s.0 q (rw v h) (next_rest (item r c) (λ c2. each item n (suc r) c2) l) in
      leaves_next _ (leaves_need 6 c (lt-ltb _ _ (test y)) (leaves_next _ (leaves_wrote _ c) (leaves_next _ (leaves_wrote _ c) one))) z
    where
      test : sum_of size (suc r) ≤ sum_of size (r + suc n) → rows c (suc i) + size r < half w
      test y = omega arith

  pub list_views_same : (n : ℕ) (c : List ℕ) → Counts c → (batch_list_view x below w i slot n c).ans ≡ 0 → Leaves (copy_list_view x child w i slot n c) (batch_list_view x below w i slot n c).counters
  unfolding batch_list_view copy_list_view sum_of
  list_views_same n c f h =
      let l = leaves_own {o = batch_list_view x below w i slot n c} h in
      let a = and_left (ltb (suc i) 32) (owned x.plan i && owned x.plan (suc i)) (need_was _ 12 c _ (omega arith) l.ok) in
      let l1 = need_rest (ltb (suc i) 32 && (owned x.plan i && owned x.plan (suc i))) 12 c _ (omega arith) l in
      let b = need_was _ 12 c _ (omega arith) l1.ok in
      let l2 = need_rest _ 12 c _ (omega arith) l1 in
      let t = ltb-true (rows c (suc i) + sum_of size n) (half w) (need_was _ 6 c _ (omega arith) l2.ok) in
      let l3 = wrote_rest _ c _ (wrote_rest _ c _ (need_rest _ 6 c _ (omega arith) l2)) in
      let s = stretches_each (suc i) good (λ a n c. below (suc i) a n c) (λ a n c. child (suc i) a n c) cuts start size n c f l3.ok in
      let r = rows_with (rows c (suc i)) n 0 c _ f (omega arith) (rw (zero-add n) t) s in
      leaves_need 12 c a (leaves_need 12 c b (record { ok = r.ok; left = r.left ∙ l3.left }))

-- ---- the node

above : (a b v : ℕ) → b < v → between a b v ≡ false
above a b v h = rw (lt-leb v b h) (no (leb a v))
  where
    no : (t : Bool) → (t && false) ≡ false
    no true = refl
    no false = refl

module _ (x : Join) (i : ℕ) (small : i < 32) where
  nulls_counters : (z : ℕ) (c : List ℕ) → Counts c → Counts (add_nulls i z c)
  unfolding grown
  nulls_counters z c f =
      record {
        long = length-set c (3 * i + 1) (grown (nulls c i) z) ∙ f.long;
        small = λ q. go q (eqb q (3 * i + 1)) refl;
      }
    where
      go : (q : ℕ) (t : Bool) → eqb q (3 * i + 1) ≡ t → get_or (add_nulls i z c) q 0 ≤ top
      go q true e =
          let l = f.long in
          let g = get_or-set_same c (3 * i + 1) (grown (nulls c i) z) 0 (omega arith) in
          rw (eqb-true q (3 * i + 1) e) (omega arith)
      go q false e = let g = get_or-set_other c (3 * i + 1) q (grown (nulls c i) z) 0 (eqb-false q (3 * i + 1) e) in let s = f.small q in omega arith

  -- the validity leaves counters
  pub mask_counters : (b : Bool) (slot n : ℕ) (c d : List ℕ) → Counts c → Leaves (cond b (copy_mask x i slot n c) (done c)) d → Counts d
  unfolding done
  mask_counters true slot n c d f l =
      let m = mask_goes x i slot n c f (mask_was x i slot n c l.ok) in
      subst Counts (sym m.left ∙ l.left) (nulls_counters (mask_zeros x i slot n) c f)
  mask_counters false slot n c d f l = subst Counts l.left f

-- a list-view's data
pub list_data : (x : Join) (child : Walk) (i slot n : ℕ) (c : List ℕ) → is_list_view (code_of x.plan i) ≡ true
    → copy_data x child (code_of x.plan i) i slot n c ≡ copy_list_view x child (bytes_of x.plan i) i slot n c
unfolding copy_data
list_data x child i slot n c h =
    let l = leb-true 17 (code_of x.plan i) (and_left (leb 17 (code_of x.plan i)) (leb (code_of x.plan i) 18) h) in
    rw (above 1 10 (code_of x.plan i) (omega arith), above 11 14 (code_of x.plan i) (omega arith), above 15 16 (code_of x.plan i) (omega arith), h)
