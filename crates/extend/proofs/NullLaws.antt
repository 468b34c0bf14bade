-- The walk of nulls at a node, by the ways that the code goes. Assumes nothing.
use mathlib.Core.Path.{◌≡◌, refl, sym, subst, ◌∙◌}
use mathlib.Core.Bool.{Bool, true, false, not, cond, ◌&&◌}
use mathlib.Core.List.{List}
use Prim.Native.Nat.{ℕ, zero, suc, ◌+◌, ◌*◌, ◌-◌, ◌≤◌, ◌<◌}
use native.Mathlib.Numerals.{sub-one}
use native.Mathlib.Omega.{arith}
use lib.Dec.{ltb, leb, eqb}
use borrow.Author.Tests.{lt-ltb, le-ltb, eq-eqb, ne_eqb}
use Rattle.columnar.specs.Types.{half}
use Rattle.utils.specs.Offsets.{counted_up}
use Rattle.array_data.proofs.lent_tables.Laws.{no, yes}
use Rattle.walk.specs.State.{Join, code_of, bytes_of, end_of, rows, gap, add_rows}
use Rattle.walk.specs.Log.{Out, Did, put, wrote, need, next}
use Rattle.walk.specs.Leaves.{null_mask, count_nulls}
use Rattle.walk.specs.Copy.{is_width, masked, each_field}
use Rattle.walk.specs.Nulls.{NullWalk, nullable_child, no_home, null_sparse, null_dense, add_run, grow_run, null_runs, null_data, null_node, null_walk}
use Rattle.walk.proofs.Laws.{fail_did, done_did, need_no, need_ok, found_no, found_ok, next_no, next_ok}
use Rattle.nested_rows.specs.Numbers.{null_ids, null_positions, null_end, longer_end}
use Rattle.nested_rows.proofs.Laws.{then_child}
use Rattle.nested_rows.proofs.node_data.Laws.{null_sparse_lem, null_dense_lem, null_runs_lem}
use Rattle.walk.proofs.Names.{null_fields}

by : {plan parts : List ℕ} {wr : Bool} {room : List ℕ} {r : ℕ} {c2 room2 : List ℕ} {o o2 : Out} → o ≡ o2 → Did plan parts wr o room r c2 room2 → Did plan parts wr o2 room r c2 room2
by {plan} {parts} {wr} {room} {r} {c2} {room2} e d = subst (λ (o : Out). Did plan parts wr o room r c2 room2) e d

-- ---- a node

module _ (x : Join) (wr : Bool) (depth i n : ℕ) (c room : List ℕ) where
  pub at_none : depth ≡ 0 → Did x.plan x.parts wr (null_walk x depth i n c) room 12 c room
  unfolding null_walk
  at_none e = rw e (fail_did wr 12 c room)

  more : {r : ℕ} {c2 room2 : List ℕ} → (depth ≡ 0 → ⊥) → Did x.plan x.parts wr (null_node x (null_walk x (depth - 1)) i n c) room r c2 room2
      → Did x.plan x.parts wr (null_walk x depth i n c) room r c2 room2
  unfolding null_walk
  more {r} {c2} {room2} f d = go depth f d
    where
      go : (k : ℕ) → (k ≡ 0 → ⊥) → Did x.plan x.parts wr (null_node x (null_walk x (k - 1)) i n c) room r c2 room2 → Did x.plan x.parts wr (null_walk x k i n c) room r c2 room2
      go zero g e = absurd (g refl)
      go (suc k) g e = rw (sub-one (suc k)) at e

  pub at_zero : (depth ≡ 0 → ⊥) → n ≡ 0 → Did x.plan x.parts wr (null_walk x depth i n c) room 0 c room
  unfolding null_node
  at_zero f h = more f (rw h (done_did wr c room))

  module _ (f : depth ≡ 0 → ⊥) (s : n ≡ 0 → ⊥) where
    pub at_out : 32 ≤ i → Did x.plan x.parts wr (null_walk x depth i n c) room 12 c room
    unfolding null_node
    at_out h = more f (rw (ne_eqb n 0 s) (need_no _ (le-ltb i 32 h)))

    module _ (h : i < 32) {r : ℕ} {c1 room1 : List ℕ} (d : Did x.plan x.parts wr (null_data x (null_walk x (depth - 1)) (code_of x.plan i) i n c) room r c1 room1) where
      pub at_data : (r ≡ 0 → ⊥) → Did x.plan x.parts wr (null_walk x depth i n c) room r c1 room1
      unfolding null_node
      at_data z = more f (rw (ne_eqb n 0 s) (need_ok 12 c (lt-ltb i 32 h) (next_no _ d z)))

      module _ (z : r ≡ 0) {r2 : ℕ} {c2 room2 : List ℕ} (g : Did x.plan x.parts wr (cond (masked (code_of x.plan i)) (null_mask x i n c1) (count_nulls x i n c1)) room1 r2 c2 room2) where
        pub at_valid : (r2 ≡ 0 → ⊥) → Did x.plan x.parts wr (null_walk x depth i n c) room r2 c2 room2
        unfolding null_node
        at_valid y = more f (rw (ne_eqb n 0 s) (need_ok 12 c (lt-ltb i 32 h) (next_ok _ d z (next_no _ g y))))

        pub at_done : {c3 : List ℕ} → r2 ≡ 0 → c3 ≡ add_rows i n c2 → Did x.plan x.parts wr (null_walk x depth i n c) room 0 c3 room2
        unfolding null_node
        at_done y k = more f (rw (ne_eqb n 0 s) (need_ok 12 c (lt-ltb i 32 h) (next_ok _ d z (next_ok _ g y (rw k (done_did wr _ room2))))))

-- ---- its data by the code

pub leaf_code : (plan : List ℕ) (i : ℕ) {code : ℕ} → code ≡ code_of plan i → (code ≡ 21 → ⊥) → (code ≡ 22 → ⊥) → (code ≡ 23 → ⊥) → 21 ≤ code_of plan i → 23 < code_of plan i
leaf_code plan i {code} e a b d h =
    let m : 23 < code = omega (arith, e, h, a, b, d) in
    omega (arith, m, e)

module _ (x : Join) (child : NullWalk) (wr : Bool) (i n : ℕ) (c room : List ℕ) {code : ℕ} (e : code ≡ code_of x.plan i) {r : ℕ} {c2 room2 : List ℕ} where
  pub to_sparse : code ≡ 21 → Did x.plan x.parts wr (null_sparse x child i n c) room r c2 room2 → Did x.plan x.parts wr (null_data x child (code_of x.plan i) i n c) room r c2 room2
  to_sparse f d = by (null_sparse_lem x child (code_of x.plan i) i n c (sym e ∙ f)) d

  pub to_dense : code ≡ 22 → Did x.plan x.parts wr (null_dense x child i n c) room r c2 room2 → Did x.plan x.parts wr (null_data x child (code_of x.plan i) i n c) room r c2 room2
  to_dense f d = by (null_dense_lem x child (code_of x.plan i) i n c (sym e ∙ f)) d

  pub to_runs : code ≡ 23 → Did x.plan x.parts wr (null_runs x child i n c) room r c2 room2 → Did x.plan x.parts wr (null_data x child (code_of x.plan i) i n c) room r c2 room2
  to_runs f d = by (null_runs_lem x child (code_of x.plan i) i n c (sym e ∙ f)) d

-- ---- unions

module _ (x : Join) (child : NullWalk) (wr : Bool) (n end : ℕ) where
  module _ (k : ℕ) (c room : List ℕ) where
    pub fields_none : (f : ℕ) → end ≤ k → Did x.plan x.parts wr (null_fields x child n end f k c) room 0 c room
    unfolding each_field
    fields_none zero h = done_did wr c room
    fields_none (suc f) h = rw (le-ltb k end h) (done_did wr c room)

    pub fields_over : {f : ℕ} → f ≡ 0 → Did x.plan x.parts wr (null_fields x child n end f k c) room 0 c room
    unfolding each_field
    fields_over e = rw e (done_did wr c room)

    module _ {f f' g : ℕ} {c1 room1 : List ℕ} (e : f ≡ suc f') (h : k < end) (d : Did x.plan x.parts wr (child k n c) room g c1 room1) where
      pub fields_stop : (g ≡ 0 → ⊥) → Did x.plan x.parts wr (null_fields x child n end f k c) room g c1 room1
      unfolding each_field
      fields_stop z = rw (e, lt-ltb k end h) (next_no _ d z)

      pub fields_more : {k' g2 : ℕ} {c2 room2 : List ℕ} → g ≡ 0 → k' ≡ end_of x.plan k → Did x.plan x.parts wr (null_fields x child n end f' k' c1) room1 g2 c2 room2
          → Did x.plan x.parts wr (null_fields x child n end f k c) room g2 c2 room2
      unfolding each_field
      fields_more z q m = rw (e, lt-ltb k end h) (next_ok _ d z (rw q at m))

module _ (x : Join) (child : NullWalk) (wr : Bool) (i n : ℕ) (c room : List ℕ) {h : ℕ} (e : h ≡ nullable_child x.plan (end_of x.plan i) 32 (suc i)) where
  pub sparse_none : {g : ℕ} → 32 ≤ h → g ≡ no_home x.plan i → Did x.plan x.parts wr (null_sparse x child i n c) room g c room
  unfolding null_sparse
  sparse_none l q = rw q (found_no _ e l)

  pub dense_none : {g : ℕ} → 32 ≤ h → g ≡ no_home x.plan i → Did x.plan x.parts wr (null_dense x child i n c) room g c room
  unfolding null_dense
  dense_none l q = rw q (found_no _ e l)

  dense_is : next (null_positions x.plan i h n c) (λ c2. child h n c2)
      ≡ need (leb (rows c h + n) (half 4)) 6 c
      (next (null_ids x.plan i h n c) (λ c2. next (wrote (put i 2 (rows c2 i * 4) (counted_up 4 (rows c2 h) n)) c2) (λ c3. child h n c3)))
  unfolding null_positions
  dense_is = then_child _ 6 _ c _ _ (λ z. omega arith)

  module _ (l : h < 32) {g : ℕ} {room1 : List ℕ} where
    module _ (d : Did x.plan x.parts wr (null_ids x.plan i h n c) room g c room1) where
      pub sparse_stop : (g ≡ 0 → ⊥) → Did x.plan x.parts wr (null_sparse x child i n c) room g c room1
      unfolding null_sparse
      sparse_stop z = found_ok _ c _ e l (next_no _ d z)

      pub sparse_go : {end j g2 : ℕ} {c2 room2 : List ℕ} → g ≡ 0 → end ≡ end_of x.plan i → j ≡ suc i → Did x.plan x.parts wr (null_fields x child n end 32 j c) room1 g2 c2 room2
          → Did x.plan x.parts wr (null_sparse x child i n c) room g2 c2 room2
      unfolding null_sparse
      sparse_go z f q m = found_ok _ c _ e l (next_ok _ d z (rw (f, q) at m))

    module _ (d : Did x.plan x.parts wr (null_positions x.plan i h n c) room g c room1) where
      pub dense_stop : (g ≡ 0 → ⊥) → Did x.plan x.parts wr (null_dense x child i n c) room g c room1
      unfolding null_dense
      dense_stop z = found_ok _ c _ e l (by dense_is (next_no _ d z))

      pub dense_go : {g2 : ℕ} {c2 room2 : List ℕ} → g ≡ 0 → Did x.plan x.parts wr (child h n c) room1 g2 c2 room2 → Did x.plan x.parts wr (null_dense x child i n c) room g2 c2 room2
      unfolding null_dense
      dense_go z m = found_ok _ c _ e l (by dense_is (next_ok _ d z m))

-- ---- run-end nodes

module _ (x : Join) (child : NullWalk) (wr : Bool) (i n : ℕ) (c room : List ℕ) {t : Bool} (e : t ≡ (ltb (suc (suc i)) 32 && is_width (bytes_of x.plan (suc i)))) where
  pub runs_none : not t ≡ true → Did x.plan x.parts wr (null_runs x child i n c) room 12 c room
  unfolding null_runs
  runs_none h = need_no _ (no e h)

  module _ (h : not t ≡ false) {v : ℕ} (a : v ≡ gap c i) where
    -- the last run grows
    pub runs_grow : {g : ℕ} {c2 room2 : List ℕ} → v ≡ 2 → Did x.plan x.parts wr (longer_end x.plan i n c) room g c2 room2 → Did x.plan x.parts wr (null_runs x child i n c) room g c2 room2
    unfolding null_runs grow_run longer_end
    runs_grow f m = need_ok 12 c (yes e h) (rw (eq-eqb (gap c i) 2 (sym a ∙ f)) m)

  module _ (h : not t ≡ false) {v : ℕ} (a : v ≡ gap c i) (f : v ≡ 2 → ⊥) {k g : ℕ} {c1 room1 : List ℕ} (q : k ≡ suc (suc i)) (d : Did x.plan x.parts wr (child k 1 c) room g c1 room1) where
    other : eqb (gap c i) 2 ≡ false
    other = ne_eqb (gap c i) 2 (λ z. f (a ∙ z))

    pub runs_stop : (g ≡ 0 → ⊥) → Did x.plan x.parts wr (null_runs x child i n c) room g c1 room1
    unfolding null_runs add_run
    runs_stop z = need_ok 12 c (yes e h) (rw other (next_no _ (rw q at d) z))

    pub runs_go : {g2 : ℕ} {c2 room2 : List ℕ} → g ≡ 0 → Did x.plan x.parts wr (null_end x.plan i n c1) room1 g2 c2 room2 → Did x.plan x.parts wr (null_runs x child i n c) room g2 c2 room2
    unfolding null_runs add_run null_end
    runs_go z m = need_ok 12 c (yes e h) (rw other (next_ok _ (rw q at d) z m))
