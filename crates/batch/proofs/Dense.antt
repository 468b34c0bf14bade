-- Rows of a dense union child after child are its rows one after the other, where children are nodes without children. Assumes nothing.
use mathlib.Core.Path.{◌≡◌, refl, sym, ap, subst, ◌∙◌}
use mathlib.Core.Bool.{Bool, true, false, cond, not, ◌&&◌}
use mathlib.Core.List.{List}
use Prim.Native.Nat.{ℕ, zero, suc, ◌+◌, ◌*◌, ◌≤◌, ◌<◌}
use native.Mathlib.Omega.{arith}
use lib.Dec.{eqb}
use borrow.Author.Tests.{eqb-true, eqb-false}
use Rattle.walk.specs.State.{Join, code_of, bytes, offset_of}
use Rattle.walk.specs.Log.{Out, done, each}
use Rattle.walk.specs.Copy.{Walk, copy_node}
use Rattle.batch.specs.Batch.{is_leaf}
use Rattle.batch.proofs.Ends.{Leaves, leaves_own, leaves_done, leaves_next, next_start_lem, next_rest}
use Rattle.batch.proofs.Tally.{Counts, tally_else, tally_swap}
use Rattle.batch.proofs.Leaves.{mask_zeros}
use Rattle.batch.proofs.LeafNode.{leaf_data}
use Rattle.batch.proofs.LeafCuts.{after, Range, node_was, node_goes, after_counters, leaf_step}

module _ (x : Join) (child : Walk) where
  abbrev kid : ℕ → ℕ → ℕ → List ℕ → Out
  kid k a n c = copy_node x child k a n c

  abbrev Leaf : ℕ → Type 0
  Leaf k = is_leaf (code_of x.plan k) ≡ true

  -- walks at two nodes, either first
  pub leaf_swap : (k h : ℕ) → Leaf k → Leaf h → (h ≡ k → ⊥) → (a n b m : ℕ) (c d e : List ℕ) → Counts c → Leaves (kid k a n c) d → Leaves (kid h b m d) e
      → Leaves (kid h b m c) (kid h b m c).counters × Leaves (kid k a n (kid h b m c).counters) e
  leaf_swap k h p q ne a n b m c d e f l g =
      let r = node_was x k p child a n c f l.ok in
      let dk : d ≡ after x k p a n c = sym l.left ∙ (node_goes x k p child a n c f r).left in
      let fd : Counts d = rw dk (after_counters x k p a n c f r) in
      let s = node_was x h q child b m d fd g.ok in
      let ee : e ≡ after x h q b m d = sym g.left ∙ (node_goes x h q child b m d fd s).left in
      let bh : bytes d h ≡ bytes c h = ap (λ y. bytes y h) dk ∙ tally_else k n (mask_zeros x k (offset_of x k + a) n) ((leaf_data x k p).amount (offset_of x k + a) n) c (3 * h + 2) (λ (z : 3 * h + 2 ≡ 3 * k). omega arith, λ (z : 3 * h + 2 ≡ 3 * k + 1). omega arith, λ (z : 3 * h + 2 ≡ 3 * k + 2). ne (omega arith)) in
      let s0 : Range x h q b m (bytes c h) = rw bh at s in
      let lh = node_goes x h q child b m c f s0 in
      let fh = after_counters x h q b m c f s0 in
      let bk : bytes (after x h q b m c) k ≡ bytes c k = tally_else h m (mask_zeros x h (offset_of x h + b) m) ((leaf_data x h q).amount (offset_of x h + b) m) c (3 * k + 2) (λ (z : 3 * k + 2 ≡ 3 * h). omega arith, λ (z : 3 * k + 2 ≡ 3 * h + 1). omega arith, λ (z : 3 * k + 2 ≡ 3 * h + 2). ne (omega arith)) in
      let rk : Range x k p a n (bytes (after x h q b m c) k) = rw bk r in
      let w = tally_swap k h r.node s.node ne c f.long n (mask_zeros x k (offset_of x k + a) n) ((leaf_data x k p).amount (offset_of x k + a) n) m (mask_zeros x h (offset_of x h + b) m) ((leaf_data x h q).amount (offset_of x h + b) m) in
      let lk = node_goes x k p child a n (after x h q b m c) fh rk in
      (leaves_own lh.ok, rw (lh.left, ee, dk) (record { ok = lk.ok; left = lk.left ∙ w }))

  module _ (home pos : ℕ → ℕ) where
    -- the row of one row of the union, and those of a child alone
    abbrev pub pure : ℕ → List ℕ → Out
    pure r c = kid (home r) (pos r) 1 c

    abbrev pub of_child : ℕ → ℕ → List ℕ → Out
    of_child k r c = kid k (cond (eqb (home r) k) (pos r) 0) (cond (eqb (home r) k) 1 0) c

    -- those that are left
    abbrev pub of_left : (ℕ → Bool) → ℕ → List ℕ → Out
    of_left left r c = cond (left r) (pure r c) (done c)

    module _ (k : ℕ) (leaf : Leaf k) (empty : (c : List ℕ) → Counts c → Leaves (kid k 0 0 c) c) where
      step_counters : (a n : ℕ) (c d : List ℕ) → Counts c → Leaves (kid k a n c) d → Counts d
      step_counters a n c d f l = (leaf_step x k leaf child a n c d f l).0

      -- a walk at another node may go before a child's rows
      pub rows_swap : (h : ℕ) → Leaf h → (h ≡ k → ⊥) → (b m n r : ℕ) (c d e : List ℕ) → Counts c → Leaves (each (of_child k) n r c) d → Leaves (kid h b m d) e
          → Leaves (kid h b m c) (kid h b m c).counters × Leaves (each (of_child k) n r (kid h b m c).counters) e
      unfolding each done
      rows_swap h q ne b m zero r c d e f l g =
          let y : Leaves (kid h b m c) e = rw l.left g in
          (leaves_own y.ok, record { ok = refl; left = y.left })
      rows_swap h q ne b m (suc n) r c d e f l g =
          let one = next_start_lem (of_child k r c) (λ z. each (of_child k) n (suc r) z) l in
          let more = next_rest (of_child k r c) (λ z. each (of_child k) n (suc r) z) l in
          let f1 = step_counters _ _ c _ f one in
          let t = rows_swap h q ne b m n (suc r) (of_child k r c).counters d e f1 more g in
          let s = leaf_swap k h leaf q ne _ _ b m c _ _ f one t.0 in
          (s.0, leaves_next (λ z. each (of_child k) n (suc r) z) s.1 t.1)

      module _ (N : ℕ) (left : ℕ → Bool) (gone : (r : ℕ) → r < N → left r ≡ false → home r ≡ k → ⊥)
          (leafs : (r : ℕ) → r < N → left r ≡ true → (home r ≡ k → ⊥) → Leaf (home r)) where
        abbrev fewer : ℕ → Bool
        fewer r = left r && not (eqb (home r) k)

        -- A CHILD'S ROWS BEFORE THE OTHERS are all rows in turn
        pub peel : (n r : ℕ) (c d e : List ℕ) → r + n ≤ N → Counts c → Leaves (each (of_child k) n r c) d → Leaves (each (of_left fewer) n r d) e → Leaves (each (of_left left) n r c) e
        unfolding each done
        peel zero r c d e s f l g = record { ok = refl; left = l.left ∙ g.left }
        peel (suc n) r c d e s f l g =
            go (λ c d e f l g. peel n (suc r) c d e (omega arith) f l g) (left r) refl (eqb (home r) k) refl
            (next_start_lem (of_child k r c) (λ z. each (of_child k) n (suc r) z) l) (next_rest (of_child k r c) (λ z. each (of_child k) n (suc r) z) l)
            (next_start_lem (of_left fewer r d) (λ z. each (of_left fewer) n (suc r) z) g) (next_rest (of_left fewer r d) (λ z. each (of_left fewer) n (suc r) z) g)
          where
            go : ((c d e : List ℕ) → Counts c → Leaves (each (of_child k) n (suc r) c) d → Leaves (each (of_left fewer) n (suc r) d) e → Leaves (each (of_left left) n (suc r) c) e)
                → (t : Bool) → left r ≡ t → (u : Bool) → eqb (home r) k ≡ u → {c1 d1 : List ℕ}
                → Leaves (kid k (cond u (pos r) 0) (cond u 1 0) c) c1 → Leaves (each (of_child k) n (suc r) c1) d
                → Leaves (cond (t && not u) (pure r d) (done d)) d1 → Leaves (each (of_left fewer) n (suc r) d1) e
                → Leaves (each (of_left left) (suc n) r c) e
            go ih false a true b one more one2 more2 = absurd (gone r (omega arith) a (eqb-true (home r) k b))
            go ih false a false b one more one2 more2 =
                let m : Leaves (each (of_child k) n (suc r) c) d = subst (λ z. Leaves (each (of_child k) n (suc r) z) d) (sym one.left ∙ (empty c f).left) more in
                let m2 : Leaves (each (of_left fewer) n (suc r) d) e = rw one2.left more2 in
                rw a (leaves_next (λ z. each (of_left left) n (suc r) z) (leaves_done c) (ih c d e f m m2))
            go ih true a true b one more one2 more2 =
                let m2 : Leaves (each (of_left fewer) n (suc r) d) e = rw one2.left more2 in
                let h = eqb-true (home r) k b in
                rw (a, h) (leaves_next (λ z. each (of_left left) n (suc r) z) one (ih _ d e (step_counters _ _ c _ f one) more m2))
            go ih true a false b one more one2 more2 =
                let m : Leaves (each (of_child k) n (suc r) c) d = subst (λ z. Leaves (each (of_child k) n (suc r) z) d) (sym one.left ∙ (empty c f).left) more in
                let ne = eqb-false (home r) k b in
                let q = leafs r (omega arith) a ne in
                let t = rows_swap (home r) q ne (pos r) 1 n (suc r) c d _ f m one2 in
                let f1 = (leaf_step x (home r) q child (pos r) 1 c _ f t.0).0 in
                rw a (leaves_next (λ z. each (of_left left) n (suc r) z) t.0 (ih _ _ e f1 t.1 more2))
