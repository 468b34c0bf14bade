-- The walk of a copy at a node, by the ways that the code goes. Assumes nothing.
use mathlib.Core.Path.{◌≡◌, refl, sym, ap, subst, ◌∙◌}
use mathlib.Core.Bool.{Bool, true, false, not, cond, ◌&&◌, ◌||◌}
use mathlib.Core.List.{List}
use Prim.Native.Nat.{ℕ, zero, suc, ◌+◌, ◌*◌, ◌-◌, ◌≤◌, ◌<◌}
use native.Mathlib.Nat.{mul-one, one-mul, mul-le-mul_left}
use native.Mathlib.Numerals.{sub-one}
use native.Mathlib.Omega.{arith}
use lib.ListN.{length}
use lib.Dec.{ltb}
use borrow.Author.Tests.{lt-ltb, le-ltb, le-leb, ltb-true, leb-false, ne_eqb}
use Rattle.number.specs.Number.{entry}
use Rattle.columnar.specs.Types.{half}
use Rattle.schema.specs.formats.Code.{is_list_view, is_list}
use Rattle.run_ends.specs.Lookup.{bisect}
use Rattle.std.specs.Prelude.{Option, Some, None}
use Rattle.run_ends.specs.declared.RunRange.{RunRange}
use Rattle.run_ends.proofs.Laws.{range_within}
use Rattle.array_data.proofs.lent_tables.Laws.{no, yes, and_left, and_right}
use Rattle.walk.specs.State.{Join, code_of, bytes_of, end_of, rows, add_rows, place, length_of, offset_of, rows_in, slot_of, far}
use Rattle.walk.specs.Log.{Out, Did, fail, done, need, found, next, each}
use Rattle.walk.specs.Leaves.{copy_mask, copy_numbers}
use Rattle.walk.specs.Copy.{Walk, is_width, masked, child_with, list_view_row, copy_list_view, copy_sparse, id_at, dense_row, copy_dense, ends_at, put_runs, runs_at, copy_runs, copy_data, copy_slots, copy_node, copy_walk, each_field}
use Rattle.walk.proofs.Laws.{fail_did, done_did, need_no, need_ok, found_no, found_ok, next_no, next_ok, next_need}
use Rattle.leaf_walk.proofs.Laws.{rows_in_lem}
use Rattle.nested_rows.specs.Numbers.{list_numbers, dense_numbers, runs_ready, run_numbers}
use Rattle.nested_rows.proofs.Laws.{list_row_is, dense_row_is, ends_ready}
use Rattle.nested_rows.proofs.node_data.Laws.{data_sparse, data_dense, data_runs}
use Rattle.walk.proofs.Names.{copy_fields}

pub by : {plan parts : List ℕ} {wr : Bool} {room : List ℕ} {r : ℕ} {c2 room2 : List ℕ} {o o2 : Out} → o ≡ o2 → Did plan parts wr o room r c2 room2 → Did plan parts wr o2 room r c2 room2
by {plan} {parts} {wr} {room} {r} {c2} {room2} e d = subst (λ (o : Out). Did plan parts wr o room r c2 room2) e d

-- ---- a node

module _ (x : Join) (wr : Bool) (depth i a n : ℕ) (c room : List ℕ) where
  pub at_none : depth ≡ 0 → Did x.plan x.parts wr (copy_walk x depth i a n c) room 12 c room
  unfolding copy_walk
  at_none e = rw e (fail_did wr 12 c room)

  more : {r : ℕ} {c2 room2 : List ℕ} → (depth ≡ 0 → ⊥) → Did x.plan x.parts wr (copy_node x (copy_walk x (depth - 1)) i a n c) room r c2 room2
      → Did x.plan x.parts wr (copy_walk x depth i a n c) room r c2 room2
  unfolding copy_walk
  more {r} {c2} {room2} f d = go depth f d
    where
      go : (k : ℕ) → (k ≡ 0 → ⊥) → Did x.plan x.parts wr (copy_node x (copy_walk x (k - 1)) i a n c) room r c2 room2 → Did x.plan x.parts wr (copy_walk x k i a n c) room r c2 room2
      go zero g e = absurd (g refl)
      go (suc k) g e = rw (sub-one (suc k)) at e

  pub at_out : (depth ≡ 0 → ⊥) → 32 ≤ i → Did x.plan x.parts wr (copy_walk x depth i a n c) room 12 c room
  unfolding copy_node
  at_out f h = more f (need_no _ (le-ltb i 32 h))

  module _ (f : depth ≡ 0 → ⊥) (h : i < 32) {s : ℕ} (e : s ≡ slot_of x i a n) where
    pub at_far : far ≤ s → Did x.plan x.parts wr (copy_walk x depth i a n c) room 12 c room
    unfolding copy_node
    at_far l = more f (need_ok 12 c (lt-ltb i 32 h) (found_no _ e l))

    module _ (l : s < far) where
      slots : {r : ℕ} {c2 room2 : List ℕ} → Did x.plan x.parts wr (copy_slots x (copy_walk x (depth - 1)) i s n c) room r c2 room2 → Did x.plan x.parts wr (copy_walk x depth i a n c) room r c2 room2
      unfolding copy_node
      slots d = more f (need_ok 12 c (lt-ltb i 32 h) (found_ok 12 c _ e l d))

      module _ {r : ℕ} {c1 room1 : List ℕ} (d : Did x.plan x.parts wr (cond (masked (code_of x.plan i)) (copy_mask x i s n c) (done c)) room r c1 room1) where
        pub at_valid : (r ≡ 0 → ⊥) → Did x.plan x.parts wr (copy_walk x depth i a n c) room r c1 room1
        unfolding copy_slots
        at_valid z = slots (next_no _ d z)

        module _ (z : r ≡ 0) {r2 : ℕ} {c2 room2 : List ℕ} (g : Did x.plan x.parts wr (copy_data x (copy_walk x (depth - 1)) (code_of x.plan i) i s n c1) room1 r2 c2 room2) where
          pub at_data : (r2 ≡ 0 → ⊥) → Did x.plan x.parts wr (copy_walk x depth i a n c) room r2 c2 room2
          unfolding copy_slots
          at_data y = slots (next_ok _ d z (next_no _ g y))

          pub at_done : {c3 : List ℕ} → r2 ≡ 0 → c3 ≡ add_rows i n c2 → Did x.plan x.parts wr (copy_walk x depth i a n c) room 0 c3 room2
          unfolding copy_slots
          at_done y k = slots (next_ok _ d z (next_ok _ g y (rw k (done_did wr _ room2))))

-- ---- its data by the code

or_left : (a b : Bool) → a || b ≡ false → a ≡ false
or_left true b h = h
or_left false b h = refl

or_right : (a b : Bool) → a || b ≡ false → b ≡ false
or_right true b h = absurd (let z : ◌≡◌ {A = ℕ} 0 1 = cc in omega arith)
or_right false b h = h

-- a code from 17 on that is no list-view's and no list's
not_listed : (code : ℕ) → is_list_view code ≡ false → is_list code ≡ false → 17 ≤ code → 20 < code
not_listed code e f h =
    let l : 18 < code = leb-false code 18 (rw (le-leb 17 code h) at e) in
    leb-false code 20 (rw (le-leb 19 code (omega (arith, l))) at f)

-- what is none of list-view, list, union and run-end node
pub leaf_code : (plan : List ℕ) (i : ℕ) {code : ℕ} {t u : Bool} → code ≡ code_of plan i → t ≡ is_list_view code → u ≡ is_list code → t || u ≡ false → (code ≡ 21 → ⊥) → (code ≡ 22 → ⊥) → (code ≡ 23 → ⊥)
    → 17 ≤ code_of plan i → 23 < code_of plan i
leaf_code plan i {code} {t} {u} e f k g a b d h =
    let l = not_listed code (sym f ∙ or_left t u g) (sym k ∙ or_right t u g) (omega (arith, e, h)) in
    let m : 23 < code = omega (arith, l, a, b, d) in
    omega (arith, m, e)

module _ (x : Join) (child : Walk) (wr : Bool) (i slot n : ℕ) (c room : List ℕ) {code : ℕ} (e : code ≡ code_of x.plan i) {r : ℕ} {c2 room2 : List ℕ} where
  pub to_sparse : code ≡ 21 → Did x.plan x.parts wr (copy_sparse x child i slot n c) room r c2 room2 → Did x.plan x.parts wr (copy_data x child (code_of x.plan i) i slot n c) room r c2 room2
  to_sparse f d = by (data_sparse x child (code_of x.plan i) i slot n c (sym e ∙ f)) d

  pub to_dense : code ≡ 22 → Did x.plan x.parts wr (copy_dense x child i slot n c) room r c2 room2 → Did x.plan x.parts wr (copy_data x child (code_of x.plan i) i slot n c) room r c2 room2
  to_dense f d = by (data_dense x child (code_of x.plan i) i slot n c (sym e ∙ f)) d

  pub to_runs : code ≡ 23 → Did x.plan x.parts wr (copy_runs x child i slot n c) room r c2 room2 → Did x.plan x.parts wr (copy_data x child (code_of x.plan i) i slot n c) room r c2 room2
  to_runs f d = by (data_runs x child (code_of x.plan i) i slot n c (sym e ∙ f)) d

-- ---- rows of two buffers, and one of them

pub pairs_row : (x : Join) (at at2 v w slot n r : ℕ) {t : Bool} → t ≡ (rows_in x at v slot n && rows_in x at2 w slot n) → not t ≡ false → r < n
    → (at + v * (slot + r + 1) ≤ length x.body) × (at2 + w * (slot + r + 1) ≤ length x.body)
pairs_row x at at2 v w slot n r e h l =
    let p = rows_in_lem x at v slot n (sym (and_left (rows_in x at v slot n) _ (yes e h))) refl in
    let q = rows_in_lem x at2 w slot n (sym (and_right (rows_in x at v slot n) _ (yes e h))) refl in
    let k : slot + r + 1 ≤ slot + n = omega arith in
    (omega (arith, mul-le-mul_left v k), omega (arith, mul-le-mul_left w k))

-- ---- list-views

module _ (x : Join) (child : Walk) (wr : Bool) (w i slot : ℕ) (c room : List ℕ) where
  module _ (n : ℕ) where
    pub list_out : {j : ℕ} → j ≡ suc i → 32 ≤ j → Did x.plan x.parts wr (copy_list_view x child w i slot n c) room 12 c room
    unfolding copy_list_view
    list_out e h = need_no _ (le-ltb (suc i) 32 (rw e at h))

    module _ {j : ℕ} (e : j ≡ suc i) (h : j < 32) {t : Bool} (f : t ≡ (rows_in x (place x i 3) w slot n && rows_in x (place x i 5) w slot n)) where
      pub list_short : not t ≡ true → Did x.plan x.parts wr (copy_list_view x child w i slot n c) room 12 c room
      unfolding copy_list_view
      list_short g = need_ok 12 c (lt-ltb (suc i) 32 (rw e at h)) (need_no _ (no f g))

      pub list_rows_lem : {r : ℕ} {c2 room2 : List ℕ} → not t ≡ false → Did x.plan x.parts wr (each (list_view_row x child w i slot) n 0 c) room r c2 room2
          → Did x.plan x.parts wr (copy_list_view x child w i slot n c) room r c2 room2
      unfolding copy_list_view
      list_rows_lem g d = need_ok 12 c (lt-ltb (suc i) 32 (rw e at h)) (need_ok 12 c (yes f g) d)

  module _ (r : ℕ) {at size g : ℕ} {room1 : List ℕ} (f : at ≡ place x i 5) (e : size ≡ entry w x.body at (slot + r)) (d : Did x.plan x.parts wr (list_numbers w i r size c) room g c room1) where
    pub list_stop : (g ≡ 0 → ⊥) → Did x.plan x.parts wr (list_view_row x child w i slot r c) room g c room1
    list_stop z = by (list_row_is x child i slot r c w) (next_no _ (rw (e, f) at d) z)

    pub list_go : {at2 g2 j offset : ℕ} {c2 room2 : List ℕ} → g ≡ 0 → at2 ≡ place x i 3 → offset ≡ entry w x.body at2 (slot + r) → j ≡ suc i
        → Did x.plan x.parts wr (child j offset size c) room1 g2 c2 room2 → Did x.plan x.parts wr (list_view_row x child w i slot r c) room g2 c2 room2
    list_go z k l m q = by (list_row_is x child i slot r c w) (next_ok _ (rw (e, f) at d) z (rw (l, k, m, e, f) at q))

-- ---- sparse unions

module _ (x : Join) (child : Walk) (wr : Bool) (slot n end : ℕ) where
  module _ (k : ℕ) (c room : List ℕ) where
    pub fields_none : (f : ℕ) → end ≤ k → Did x.plan x.parts wr (copy_fields x child slot n end f k c) room 0 c room
    unfolding each_field
    fields_none zero h = done_did wr c room
    fields_none (suc f) h = rw (le-ltb k end h) (done_did wr c room)

    pub fields_over : {f : ℕ} → f ≡ 0 → Did x.plan x.parts wr (copy_fields x child slot n end f k c) room 0 c room
    unfolding each_field
    fields_over e = rw e (done_did wr c room)

    module _ {f f' g : ℕ} {c1 room1 : List ℕ} (e : f ≡ suc f') (h : k < end) (d : Did x.plan x.parts wr (child k slot n c) room g c1 room1) where
      pub fields_stop : (g ≡ 0 → ⊥) → Did x.plan x.parts wr (copy_fields x child slot n end f k c) room g c1 room1
      unfolding each_field
      fields_stop z = rw (e, lt-ltb k end h) (next_no _ d z)

      pub fields_more : {k' g2 : ℕ} {c2 room2 : List ℕ} → g ≡ 0 → k' ≡ end_of x.plan k → Did x.plan x.parts wr (copy_fields x child slot n end f' k' c1) room1 g2 c2 room2
          → Did x.plan x.parts wr (copy_fields x child slot n end f k c) room g2 c2 room2
      unfolding each_field
      fields_more z q m = rw (e, lt-ltb k end h) (next_ok _ d z (rw q at m))

module _ (x : Join) (child : Walk) (wr : Bool) (i slot n : ℕ) (c room : List ℕ) {g : ℕ} {c1 room1 : List ℕ} (d : Did x.plan x.parts wr (copy_numbers x i 1 slot n c) room g c1 room1) where
  sparse_is : next (copy_numbers x i 1 slot n c) (λ c2. copy_fields x child slot n (end_of x.plan i) 32 (suc i) c2) ≡ copy_sparse x child i slot n c
  unfolding copy_numbers copy_sparse
  sparse_is = rw (mul-one (rows c i), one-mul n, one-mul slot) (sym (next_need _ 12 c _ _ (λ z. omega arith)))

  pub sparse_stop : (g ≡ 0 → ⊥) → Did x.plan x.parts wr (copy_sparse x child i slot n c) room g c1 room1
  sparse_stop z = by sparse_is (next_no _ d z)

  pub sparse_go : {end j g2 : ℕ} {c2 room2 : List ℕ} → g ≡ 0 → end ≡ end_of x.plan i → j ≡ suc i → Did x.plan x.parts wr (copy_fields x child slot n end 32 j c1) room1 g2 c2 room2
      → Did x.plan x.parts wr (copy_sparse x child i slot n c) room g2 c2 room2
  sparse_go z e f q = by sparse_is (next_ok _ d z (rw (e, f) at q))

-- ---- dense unions

module _ (x : Join) (child : Walk) (wr : Bool) (i slot : ℕ) (c room : List ℕ) where
  module _ (n : ℕ) {t : Bool} (f : t ≡ (rows_in x (place x i 3) 1 slot n && rows_in x (place x i 5) 4 slot n)) where
    pub dense_short : not t ≡ true → Did x.plan x.parts wr (copy_dense x child i slot n c) room 12 c room
    unfolding copy_dense
    dense_short g = need_no _ (no f g)

    pub dense_rows_lem : {r : ℕ} {c2 room2 : List ℕ} → not t ≡ false → Did x.plan x.parts wr (each (dense_row x child i slot) n 0 c) room r c2 room2
        → Did x.plan x.parts wr (copy_dense x child i slot n c) room r c2 room2
    unfolding copy_dense
    dense_rows_lem g d = need_ok 12 c (yes f g) d

  module _ (r : ℕ) {id end j k : ℕ} (e : id ≡ id_at x child i (slot + r)) (f : end ≡ end_of x.plan i) (h : j ≡ suc i) (l : k ≡ child_with x.plan id end 32 j) where
    found_at : k ≡ child_with x.plan (id_at x child i (slot + r)) (end_of x.plan i) 32 (suc i)
    found_at = rw (e, f, h) at l

    pub dense_none : 32 ≤ k → Did x.plan x.parts wr (dense_row x child i slot r c) room 12 c room
    unfolding dense_row
    dense_none m = found_no _ found_at m

    module _ (m : k < 32) {g : ℕ} {room1 : List ℕ} (d : Did x.plan x.parts wr (dense_numbers i r k id c) room g c room1) where
      pub dense_stop : (g ≡ 0 → ⊥) → Did x.plan x.parts wr (dense_row x child i slot r c) room g c room1
      unfolding dense_row
      dense_stop z = found_ok 12 c _ found_at m (by (dense_row_is x child i slot r c k) (next_no _ (rw e at d) z))

      pub dense_go : {at g2 position : ℕ} {c2 room2 : List ℕ} → g ≡ 0 → at ≡ place x i 5 → position ≡ entry 4 x.body at (slot + r) → Did x.plan x.parts wr (child k position 1 c) room1 g2 c2 room2
          → Did x.plan x.parts wr (dense_row x child i slot r c) room g2 c2 room2
      unfolding dense_row
      dense_go z q p s = found_ok 12 c _ found_at m (by (dense_row_is x child i slot r c k) (next_ok _ (rw e at d) z (rw (p, q) at s)))

-- ---- run-end nodes

-- what a run-end node's readiness says
pub record Ready (x : Join) (i n : ℕ) (c : List ℕ) : Type 0 where
  pub low : i + 2 < 32
  pub wide : (bytes_of x.plan (suc i) ≡ 2 → ⊥) → (bytes_of x.plan (suc i) ≡ 4 → ⊥) → bytes_of x.plan (suc i) ≡ 8
  pub fits : rows c i + n < half (bytes_of x.plan (suc i))
  pub inside : place x (suc i) 3 + bytes_of x.plan (suc i) * (offset_of x (suc i) + length_of x (suc i)) ≤ length x.body

module _ (x : Join) (child : Walk) (wr : Bool) (i slot n : ℕ) (c room : List ℕ) where
  pub runs_none : n ≡ 0 → Did x.plan x.parts wr (copy_runs x child i slot n c) room 0 c room
  unfolding copy_runs
  runs_none e = rw e (done_did wr c room)

  module _ (s : n ≡ 0 → ⊥) {g : ℕ} (d : Did x.plan x.parts wr (runs_ready x i n c) room g c room) where
    abbrev W : ℕ
    W = bytes_of x.plan (suc i)

    pub runs_ready_lem : g ≡ 0 → Ready x i n c
    unfolding runs_ready need fail done
    runs_ready_lem z = go (ltb (suc (suc i)) 32 && is_width W) (ltb (rows c i + n) (half W)) (rows_in x (place x (suc i) 3) W (offset_of x (suc i)) (length_of x (suc i))) refl refl refl (sym z ∙ d.answer)
      where
        go : (t u v : Bool) → (ltb (suc (suc i)) 32 && is_width W) ≡ t → ltb (rows c i + n) (half W) ≡ u → rows_in x (place x (suc i) 3) W (offset_of x (suc i)) (length_of x (suc i)) ≡ v
            → 0 ≡ (need t 12 c (need u 7 c (need v 12 c (done c)))).ans → Ready x i n c
        go true true true e f h q =
            let a = ends_ready i W (sym e) refl in
            record { low = a.0; wide = a.1; fits = ltb-true (rows c i + n) (half W) f; inside = rows_in_lem x (place x (suc i) 3) W (offset_of x (suc i)) (length_of x (suc i)) (sym h) refl }
        go true true false e f h q = absurd (omega arith)
        go true false v e f h q = absurd (omega arith)
        go false u v e f h q = absurd (omega arith)

    runs_is : (o : Out) → need (ltb (suc (suc i)) 32 && is_width W) 12 c (need (ltb (rows c i + n) (half W)) 7 c (need (rows_in x (place x (suc i) 3) W (offset_of x (suc i)) (length_of x (suc i))) 12 c o)) ≡ next (runs_ready x i n c) (λ c2. o)
    unfolding runs_ready need fail done next
    runs_is o = go (ltb (suc (suc i)) 32 && is_width W) (ltb (rows c i + n) (half W)) (rows_in x (place x (suc i) 3) W (offset_of x (suc i)) (length_of x (suc i)))
      where
        go : (t u v : Bool) → need t 12 c (need u 7 c (need v 12 c o)) ≡ next (need t 12 c (need u 7 c (need v 12 c (done c)))) (λ c2. o)
        go true true true = refl
        go true true false = refl
        go true false v = refl
        go false u v = refl

    pub runs_stop : (g ≡ 0 → ⊥) → Did x.plan x.parts wr (copy_runs x child i slot n c) room g c room
    unfolding copy_runs
    runs_stop z = rw (ne_eqb n 0 s) (by (sym (runs_is _)) (next_no _ d z))

    runs_go : {r : ℕ} {c2 room2 : List ℕ} → g ≡ 0 → Did x.plan x.parts wr (put_runs x child W i slot n (runs_at x child W i slot n) c) room r c2 room2
        → Did x.plan x.parts wr (copy_runs x child i slot n c) room r c2 room2
    unfolding copy_runs
    runs_go z k = rw (ne_eqb n 0 s) (by (sym (runs_is _)) (next_ok _ d z k))

    module _ (z : g ≡ 0) {j w : ℕ} {found : Option RunRange} (p : j ≡ suc i) (q : w ≡ bytes_of x.plan j) (h : found ≡ runs_at x child w i slot n) where
      same : found ≡ runs_at x child W i slot n
      same = rw (q, p) at h

      pub runs_past : found ≡ None → Did x.plan x.parts wr (copy_runs x child i slot n c) room 12 c room
      runs_past e = runs_go z (rw (sym same ∙ e) (fail_did wr 12 c room))

      module _ {at : RunRange} {k r : ℕ} {c1 room1 : List ℕ} (e : found ≡ Some at) (m : k ≡ suc (suc i))
          (v : Did x.plan x.parts wr (child k at.first.0 at.count c) room r c1 room1) where
        pub runs_values : (r ≡ 0 → ⊥) → Did x.plan x.parts wr (copy_runs x child i slot n c) room r c1 room1
        runs_values y = runs_go z (rw (sym same ∙ e) (next_no _ (rw m at v) y))

        pub runs_done : {last r2 : ℕ} {c2 room2 : List ℕ} → r ≡ 0 → last ≡ rows c i → Did x.plan x.parts wr (run_numbers x w i slot n last at.first.0 at.count c1) room1 r2 c2 room2
            → Did x.plan x.parts wr (copy_runs x child i slot n c) room r2 c2 room2
        unfolding run_numbers
        runs_done y l o = runs_go z (rw (sym same ∙ e) (next_ok _ (rw m at v) y (rw (l, q, p) at o)))

module _ (x : Join) (i n : ℕ) (c : List ℕ) {j w : ℕ} (p : j ≡ suc i) (q : w ≡ bytes_of x.plan j) (r : Ready x i n c) where
  pub runs_wide : (w ≡ 2 → ⊥) → (w ≡ 4 → ⊥) → w ≡ 8
  runs_wide a b =
      let e = q ∙ ap (λ (z : ℕ). bytes_of x.plan z) p in
      e ∙ r.wide (λ z. a (e ∙ z)) (λ z. b (e ∙ z))

  pub runs_inside : place x (suc i) 3 + w * (offset_of x (suc i) + length_of x (suc i)) ≤ length x.body
  runs_inside = rw (q, p) r.inside

  pub runs_fit : {last : ℕ} → last ≡ rows c i → last + n < half w
  runs_fit e = rw (e, q, p) r.fits

  -- the runs that were found are among those
  pub runs_found : (child : Walk) (slot : ℕ) {found : Option RunRange} {at : RunRange} → found ≡ runs_at x child w i slot n → found ≡ Some at
      → place x (suc i) 3 + w * (offset_of x (suc i) + (at.first.0 + at.count)) ≤ length x.body
  runs_found child slot {at = at} e f =
      let k = range_within w x.body (ends_at x child w i) (length_of x (suc i)) slot (slot + n) (λ z. bisect w x.body (ends_at x child w i) (length_of x (suc i)) z) e f in
      let l : offset_of x (suc i) + (at.first.0 + at.count) ≤ offset_of x (suc i) + length_of x (suc i) = omega (arith, k.within) in
      omega (arith, runs_inside, mul-le-mul_left w l)
