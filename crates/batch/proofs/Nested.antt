-- A list-view that keeps no nulls may be cut where its child may be walked by stretches. Assumes nothing.
use mathlib.Core.Path.{◌≡◌, refl, ap, subst, ◌∙◌}
use mathlib.Core.Bool.{Bool, true, false, cond, ◌&&◌}
use mathlib.Core.List.{List}
use Prim.Native.Nat.{ℕ, zero, suc, ◌+◌, ◌*◌, ◌≤◌, ◌<◌}
use native.Mathlib.Omega.{arith}
use lib.ListN.{length}
use lib.Dec.{leb, ltb}
use borrow.Author.Tests.{leb-true, le-leb, ltb-true, lt-ltb}
use Rattle.number.specs.Number.{entry}
use Rattle.columnar.specs.Types.{half}
use Rattle.schema.specs.formats.Code.{is_list_view}
use Rattle.refinement.proofs.walk_is_model.Counters.{rows_added, rows_other}
use Rattle.walk.specs.State.{Join, code_of, keeps_of, bytes_of, rows, grown, add_rows, place, offset_of, far, slot_of, rows_in}
use Rattle.walk.specs.Log.{Out, done, found, next, each}
use Rattle.walk.specs.Leaves.{copy_mask}
use Rattle.walk.specs.Copy.{Walk, masked, list_view_row, copy_list_view, copy_data, copy_slots, copy_node}
use Rattle.batch.specs.Batch.{batch_list_view, batch_data, batch_slots, batch_node}
use Rattle.batch.proofs.Ends.{Leaves, leaves_own, leaves_done, leaves_wrote, leaves_need, leaves_found, leaves_next, need_was, need_rest, wrote_rest, found_was, found_is, next_start_lem, next_rest}
use Rattle.batch.proofs.Tally.{Counts, rows_counters, rows_none, rows_twice, rows_either}
use Rattle.batch.proofs.Stretches.{and_left, and_right, Cuts, each_counters, each_split}
use Rattle.batch.proofs.Leaves.{more_bytes}
use Rattle.batch.proofs.LeafNode.{list_view_width}
use Rattle.batch.proofs.ListViews.{list_data, list_views_same}

done_next : (c : List ℕ) (f : List ℕ → Out) → next (done c) f ≡ f c
unfolding next done
done_next c f = refl

fewer : (q p l : ℕ) → q ≤ p → leb p l ≡ true → leb q l ≡ true
fewer q p l h e = let g = leb-true p l e in le-leb q l (omega arith)

both : (a b : Bool) → a ≡ true → b ≡ true → (a && b) ≡ true
both a b e f = rw (e, f)

module _ (x : Join) (k : ℕ) (is : is_list_view (code_of x.plan k) ≡ true) (plain : keeps_of x.plan k ≡ 0) where
  abbrev C : ℕ
  C = code_of x.plan k

  abbrev pub W : ℕ
  W = bytes_of x.plan k

  -- the slot of row a
  abbrev pub at : ℕ → ℕ
  at a = offset_of x k + a

  mask_is : (slot n : ℕ) (c : List ℕ) → cond (masked C) (copy_mask x k slot n c) (done c) ≡ done c
  unfolding copy_mask
  mask_is slot n c =
      let m : masked C ≡ true = lt-ltb C 21 (let h = leb-true C 18 (and_right (leb 17 C) _ is) in omega arith) in
      rw (m, plain) refl

  pub slots_is : (child : Walk) (slot n : ℕ) (c : List ℕ) → copy_slots x child k slot n c ≡ next (copy_list_view x child W k slot n c) (λ e. done (add_rows k n e))
  unfolding copy_slots
  slots_is child slot n c =
      let on : List ℕ → Out = λ e. next (copy_data x child C k slot n e) (λ e2. done (add_rows k n e2)) in
      ap (λ o. next o on) (mask_is slot n c) ∙ done_next c on ∙ ap (λ o. next o (λ e. done (add_rows k n e))) (list_data x child k slot n c is)

  pub stretches_is : (below : Walk) (slot n : ℕ) (c : List ℕ) → batch_slots x below k slot n c ≡ next (batch_list_view x below W k slot n c) (λ e. done (add_rows k n e))
  unfolding batch_slots batch_data
  stretches_is below slot n c =
      let on : List ℕ → Out = λ e. next (batch_data x below C k slot n e) (λ e2. done (add_rows k n e2)) in
      ap (λ o. next o on) (mask_is slot n c) ∙ done_next c on ∙ rw is refl

  -- what a walk of the rows a .. a + n - 1 asks for beside its child
  pub record Lies (a n : ℕ) : Type 0 where
    pub node : k < 32
    pub near : at a + n < far
    pub kids : ltb (suc k) 32 ≡ true
    pub starts : rows_in x (place x k 3) W (at a) n ≡ true
    pub sizes : rows_in x (place x k 5) W (at a) n ≡ true

  lies_at : (a n b m : ℕ) → at b + m ≤ at a + n → Lies a n → Lies b m
  unfolding rows_in
  lies_at a n b m h l =
      let e = l.near in
      record {
        node = l.node;
        near = omega arith;
        kids = l.kids;
        starts = fewer (place x k 3 + W * (at b + m)) (place x k 3 + W * (at a + n)) (length x.body) (more_bytes (place x k 3) W (at b + m) (at a + n) h) l.starts;
        sizes = fewer (place x k 5 + W * (at b + m)) (place x k 5 + W * (at a + n)) (length x.body) (more_bytes (place x k 5) W (at b + m) (at a + n) h) l.sizes;
      }

  -- a walk by stretches
  pub by_was : (below : Walk) (a n : ℕ) (c d : List ℕ) → Leaves (batch_node x below k a n c) d
      → (k < 32) × (at a + n < far) × Leaves (next (batch_list_view x below W k (at a) n c) (λ e. done (add_rows k n e))) d
  unfolding batch_node slot_of
  by_was below a n c d l =
      let b = need_was (ltb k 32) 12 c _ (omega arith) l.ok in
      let l1 = need_rest (ltb k 32) 12 c _ (omega arith) l in
      go (ltb-true k 32 b) (ltb (at a + n) far) refl l1
    where
      go : k < 32 → (t : Bool) → ltb (at a + n) far ≡ t → Leaves (found far (cond t (at a) far) 12 c (λ slot. batch_slots x below k slot n c)) d
          → (k < 32) × (at a + n < far) × Leaves (next (batch_list_view x below W k (at a) n c) (λ e. done (add_rows k n e))) d
      go b true e g =
          let h = ltb-true (at a + n) far e in
          let g1 = rw (found_is far (at a) 12 c (λ slot. batch_slots x below k slot n c) (omega arith)) at g in
          (b, h, rw (stretches_is below (at a) n c) at g1)
      go b false e g = let z = found_was far far 12 c _ (omega arith) g.ok in absurd (omega arith)

  module _ (child : Walk) where
    abbrev pub kid : ℕ → ℕ → List ℕ → Out
    kid a n c = copy_node x child k a n c

    abbrev pub start : ℕ → ℕ
    start slot = entry W x.body (place x k 3) slot

    abbrev pub size : ℕ → ℕ
    size slot = entry W x.body (place x k 5) slot

    abbrev pub row : ℕ → ℕ → List ℕ → Out
    row slot r c = list_view_row x child W k slot r c

    -- the child's rows of one row
    abbrev pub item : ℕ → ℕ → List ℕ → Out
    item slot r c = child (suc k) (start (slot + r)) (size (slot + r)) c

    -- the counters before the rows of the node are counted
    abbrev pub mid : ℕ → ℕ → List ℕ → List ℕ
    mid a n c = (each (row (at a)) n 0 c).counters

    list_was : (a n : ℕ) (c d : List ℕ) → k < 32 → at a + n < far → Leaves (copy_list_view x child W k (at a) n c) d → Lies a n × Leaves (each (row (at a)) n 0 c) d
    unfolding copy_list_view
    list_was a n c d s h l =
        let t = need_was (ltb (suc k) 32) 12 c _ (omega arith) l.ok in
        let l1 = need_rest (ltb (suc k) 32) 12 c _ (omega arith) l in
        let p = need_was (rows_in x (place x k 3) W (at a) n && rows_in x (place x k 5) W (at a) n) 12 c _ (omega arith) l1.ok in
        let l2 = need_rest (rows_in x (place x k 3) W (at a) n && rows_in x (place x k 5) W (at a) n) 12 c _ (omega arith) l1 in
        (record { node = s; near = h; kids = t; starts = and_left _ (rows_in x (place x k 5) W (at a) n) p; sizes = and_right (rows_in x (place x k 3) W (at a) n) _ p }, l2)

    pub list_goes : (a n : ℕ) (c d : List ℕ) → Lies a n → Leaves (each (row (at a)) n 0 c) d → Leaves (copy_list_view x child W k (at a) n c) d
    unfolding copy_list_view
    list_goes a n c d h l = leaves_need 12 c h.kids (leaves_need 12 c (both _ _ h.starts h.sizes) l)

    pub view_was : (a n : ℕ) (c d : List ℕ) → Leaves (kid a n c) d → Lies a n × Leaves (each (row (at a)) n 0 c) (mid a n c) × (add_rows k n (mid a n c) ≡ d)
    unfolding copy_node slot_of done
    view_was a n c d l =
        let b = need_was (ltb k 32) 12 c _ (omega arith) l.ok in
        let l1 = need_rest (ltb k 32) 12 c _ (omega arith) l in
        go (ltb-true k 32 b) (ltb (at a + n) far) refl l1
      where
        go : k < 32 → (t : Bool) → ltb (at a + n) far ≡ t → Leaves (found far (cond t (at a) far) 12 c (λ slot. copy_slots x child k slot n c)) d
            → Lies a n × Leaves (each (row (at a)) n 0 c) (mid a n c) × (add_rows k n (mid a n c) ≡ d)
        go b true e g =
            let h = ltb-true (at a + n) far e in
            let g1 = rw (found_is far (at a) 12 c (λ slot. copy_slots x child k slot n c) (omega arith)) at g in
            let o : Out = copy_list_view x child W k (at a) n c in
            let on : List ℕ → Out = λ e. done (add_rows k n e) in
            let g2 : Leaves (next o on) d = rw (slots_is child (at a) n c) at g1 in
            let v = list_was a n c o.counters b h (next_start_lem o on g2) in
            (v.0, leaves_own v.1.ok, ap (add_rows k n) v.1.left ∙ (next_rest o on g2).left)
        go b false e g = let z = found_was far far 12 c _ (omega arith) g.ok in absurd (omega arith)

    pub view_goes : (a n : ℕ) (c d : List ℕ) → Lies a n → Leaves (each (row (at a)) n 0 c) d → Leaves (kid a n c) (add_rows k n d)
    unfolding copy_node slot_of
    view_goes a n c d h l =
        let e = h.near in
        leaves_need 12 c (lt-ltb k 32 h.node)
        (rw (lt-ltb (at a + n) far e) (leaves_found far (at a) 12 c _ (omega arith)
        (rw (slots_is child (at a) n c) (leaves_next (λ e. done (add_rows k n e)) (list_goes a n c d h l) (leaves_done (add_rows k n d))))))

    pub row_was : (slot r : ℕ) (c d : List ℕ) → Leaves (row slot r c) d → (ltb (rows c (suc k) + size (slot + r)) (half W) ≡ true) × Leaves (item slot r c) d
    unfolding list_view_row
    row_was slot r c d l =
        (need_was (ltb (rows c (suc k) + size (slot + r)) (half W)) 6 c _ (omega arith) l.ok, wrote_rest _ c _ (wrote_rest _ c _ (need_rest _ 6 c _ (omega arith) l)))

    row_goes : (slot r : ℕ) (c d : List ℕ) → ltb (rows c (suc k) + size (slot + r)) (half W) ≡ true → Leaves (item slot r c) d → Leaves (row slot r c) d
    unfolding list_view_row
    row_goes slot r c d t l = leaves_need 6 c t (leaves_next _ (leaves_wrote _ c) (leaves_next _ (leaves_wrote _ c) l))

    -- the child's rows alone
    pub bare : (slot n r : ℕ) (c d : List ℕ) → Leaves (each (row slot) n r c) d → Leaves (each (item slot) n r c) d
    unfolding each
    bare slot zero r c d l = l
    bare slot (suc n) r c d l =
        let on : List ℕ → Out = λ e. each (row slot) n (suc r) e in
        leaves_next (λ e. each (item slot) n (suc r) e) (row_was slot r c _ (next_start_lem (row slot r c) on l)).1 (bare slot n (suc r) (row slot r c).counters d (next_rest (row slot r c) on l))

    module _ (below : Walk) (good : ℕ → ℕ → List ℕ → Type 0) (cuts : Cuts (suc k) good (λ a n c. below (suc k) a n c) (λ a n c. child (suc k) a n c)) where
      pub each_after : (slot n r : ℕ) (c d : List ℕ) → Counts c → Leaves (each (row slot) n r c) d → Counts d × ((j : ℕ) → j < suc k → rows d j ≡ rows c j)
      each_after slot n r c d f l =
          each_counters (suc k) good (λ a n c. below (suc k) a n c) (λ a n c. child (suc k) a n c) cuts (λ r. start (slot + r)) (λ r. size (slot + r)) n r c d f (bare slot n r c d l)

      -- T: a change of counters that the child does not see
      module _ (T : List ℕ → List ℕ) (kept : (c : List ℕ) → rows (T c) (suc k) ≡ rows c (suc k))
          (moves : (a n : ℕ) (c d : List ℕ) → Counts c → Leaves (child (suc k) a n c) d → Leaves (child (suc k) a n (T c)) (T d)) where
        pub row_moved : (slot to r q : ℕ) (c d : List ℕ) → slot + r ≡ to + q → Counts c → Leaves (row slot r c) d → Leaves (row to q (T c)) (T d)
        row_moved slot to r q c d e f l =
            let v = row_was slot r c d l in
            row_goes to q (T c) (T d) (rw (kept c, ← e) v.0) (rw (← e) (moves (start (slot + r)) (size (slot + r)) c d f v.1))

        pub each_moved : (slot to n r q : ℕ) (c d : List ℕ) → slot + r ≡ to + q → Counts c → Leaves (each (row slot) n r c) d → Leaves (each (row to) n q (T c)) (T d)
        unfolding each done
        each_moved slot to zero r q c d e f l = record { ok = refl; left = ap T l.left }
        each_moved slot to (suc n) r q c d e f l =
            let on : List ℕ → Out = λ z. each (row slot) n (suc r) z in
            let one = next_start_lem (row slot r c) on l in
            let s = cuts.step (start (slot + r)) (size (slot + r)) c _ f (row_was slot r c _ one).1 in
            let y : slot + suc r ≡ to + suc q = omega arith in
            leaves_next (λ z. each (row to) n (suc q) z) (row_moved slot to r q c _ e f one)
            (each_moved slot to n (suc r) (suc q) (row slot r c).counters d y s.0 (next_rest (row slot r c) on l))

      -- ---- what stretches ask of a child

      view_same : (a n : ℕ) (c : List ℕ) → Counts c → (batch_node x below k a n c).ans ≡ 0 → Lies a n × Leaves (kid a n c) (batch_node x below k a n c).counters
      unfolding done
      view_same a n c f h =
          let g = by_was below a n c (batch_node x below k a n c).counters (leaves_own h) in
          let o : Out = batch_list_view x below W k (at a) n c in
          let on : List ℕ → Out = λ e. done (add_rows k n e) in
          let s = list_views_same x below child W k (at a) good cuts (list_view_width C is) n c f (next_start_lem o on g.2).ok in
          let v = list_was a n c o.counters g.0 g.1 s in
          let w = view_goes a n c o.counters v.0 v.1 in
          (v.0, record { ok = w.ok; left = w.left ∙ (next_rest o on g.2).left })

      view_cut : (a m s : ℕ) (c d : List ℕ) → Counts c → Lies a (m + s) → Leaves (kid a (m + s) c) d → Lies a m × Leaves (next (kid a m c) (λ e. kid (a + m) s e)) d
      view_cut a m s c d f g l =
          let v = view_was a (m + s) c d l in
          let p = each_split (row (at a)) m s 0 c (mid a (m + s) c) v.1 in
          let u = each_after (at a) m 0 c (mid a m c) f p.0 in
          let w = each_after (at a) (m + s) 0 c (mid a (m + s) c) f v.1 in
          let h = lies_at a (m + s) a m (omega arith) g in
          let q = lies_at a (m + s) (a + m) s (omega arith) g in
          let e : at a + (0 + m) ≡ at (a + m) + 0 = omega arith in
          let z =
          each_moved (λ y. add_rows k m y) (λ y. rows_other y k m (suc k) (λ e. omega arith)) (λ b n y o fy ly. cuts.frame b n k m y o fy (omega arith) ly)
          (at a) (at (a + m)) s (0 + m) 0 (mid a m c) (mid a (m + s) c) e u.0 p.1 in
          let two = view_goes (a + m) s (add_rows k m (mid a m c)) (add_rows k m (mid a (m + s) c)) q z in
          (h, leaves_next (λ e. kid (a + m) s e) (view_goes a m c (mid a m c) h p.0) (record { ok = two.ok; left = two.left ∙ rows_twice k m s (mid a (m + s) c) g.node w.0 ∙ v.2 }))

      view_none : (a m o : ℕ) (c d : List ℕ) → Counts c → Counts d → Lies a m → o ≤ a + m → Lies o 0 × Leaves (kid o 0 d) d
      unfolding each
      view_none a m o c d f q g h =
          let l = lies_at a m o 0 (omega arith) g in
          let w = view_goes o 0 d d l (leaves_done d) in
          (l, record { ok = w.ok; left = w.left ∙ rows_none k d g.node q })

      view_step : (a n : ℕ) (c d : List ℕ) → Counts c → Leaves (kid a n c) d → Counts d × (rows d k ≡ grown (rows c k) n) × ((j : ℕ) → j < k → rows d j ≡ rows c j)
      view_step a n c d f l =
          let v = view_was a n c d l in
          let s = each_after (at a) n 0 c (mid a n c) f v.1 in
          subst (λ d. Counts d × (rows d k ≡ grown (rows c k) n) × ((j : ℕ) → j < k → rows d j ≡ rows c j)) v.2 (
            rows_counters k n (mid a n c) v.0.node s.0,
            rows_added (mid a n c) s.0.long k v.0.node n ∙ ap (λ y. grown y n) (s.1 k (omega arith)),
            λ j h. rows_other (mid a n c) k n j (λ e. omega arith) ∙ s.1 j (omega arith),
          )

      view_frame : (a n j m : ℕ) (c d : List ℕ) → Counts c → j < k → Leaves (kid a n c) d → Leaves (kid a n (add_rows j m c)) (add_rows j m d)
      view_frame a n j m c d f h l =
          let v = view_was a n c d l in
          let b = v.0.node in
          let s = each_after (at a) n 0 c (mid a n c) f v.1 in
          let z =
          each_moved (λ y. add_rows j m y) (λ y. rows_other y j m (suc k) (λ e. omega arith)) (λ b n y o fy ly. cuts.frame b n j m y o fy (omega arith) ly)
          (at a) (at a) n 0 0 c (mid a n c) refl f v.1 in
          let w = view_goes a n (add_rows j m c) (add_rows j m (mid a n c)) v.0 z in
          record { ok = w.ok; left = w.left ∙ rows_either k j b (omega arith) (λ e. omega arith) n m (mid a n c) s.0 ∙ ap (add_rows j m) v.2 }

      -- A LIST-VIEW MAY BE CUT
      pub view_cuts : Cuts k (λ a n c. Lies a n) (λ a n c. batch_node x below k a n c) kid
      view_cuts = record { same = view_same; cut = view_cut; none = view_none; step = view_step; frame = view_frame }
