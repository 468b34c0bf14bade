-- The rows of a dense union, seen at the parts of one child, are that child's rows. Assumes nothing.
use mathlib.Core.Path.{◌≡◌, refl, sym, ap, subst, ◌∙◌}
use mathlib.Core.Bool.{Bool, true, false, cond}
use mathlib.Core.List.{List}
use Prim.Native.Nat.{ℕ, zero, suc, ◌+◌, ◌*◌, ◌≤◌, ◌<◌}
use native.Mathlib.Omega.{arith}
use lib.Dec.{eqb}
use borrow.Author.Tests.{eqb-true, eqb-false}
use Rattle.bits.proofs.Laws.{Below}
use Rattle.walk.specs.State.{Join, code_of, rows, bytes, grown, offset_of}
use Rattle.walk.specs.Log.{Out, done, each}
use Rattle.walk.specs.Copy.{Walk, copy_node}
use Rattle.batch.specs.Batch.{is_leaf}
use Rattle.batch.proofs.Ends.{Leaves, next_start_lem, next_rest}
use Rattle.batch.proofs.Tally.{Counts, tally_rows, tally_bytes, tally_else}
use Rattle.batch.proofs.Leaves.{mask_zeros}
use Rattle.batch.proofs.LeafNode.{leaf_data}
use Rattle.batch.proofs.LeafCuts.{node_was, leaf_step}
use Rattle.batch.proofs.Windows.{within, within_append, AllInside, inside_append}
use Rattle.batch.proofs.Alike.{Window, within_window}
use Rattle.batch.proofs.LeafLogs.{Roomy, roomy_before, node_logs_none}
use Rattle.batch.proofs.StretchLogs.{next_log}
use Rattle.batch.proofs.Dense.{pure, of_child}
use Rattle.batch.proofs.DenseLogs.{roomy_as, left_is, log_same, log_self, log_off}

module _ (x : Join) (M : ℕ) (K : ℕ → ℕ → Type 0) (body : Below 256 x.body) (child : Walk) where
  abbrev kid : ℕ → ℕ → ℕ → List ℕ → Out
  kid k a n c = copy_node x child k a n c

  abbrev Leaf : ℕ → Type 0
  Leaf k = is_leaf (code_of x.plan k) ≡ true

  abbrev R : (k : ℕ) → Leaf k → List ℕ → Type 0
  R k p c = Roomy x M K body k p c

  -- the same rows and bytes at node j
  abbrev pub Agree : ℕ → List ℕ → List ℕ → Type 0
  Agree j c d = (rows c j ≡ rows d j) × (bytes c j ≡ bytes d j)

  pub kid_counters : (k : ℕ) (p : Leaf k) (a n : ℕ) (c d : List ℕ) → Counts c → Leaves (kid k a n c) d → Counts d
  kid_counters k p a n c d f l = (leaf_step x k p child a n c d f l).0

  -- a walk at another node
  pub kid_else : (k : ℕ) (p : Leaf k) (a n : ℕ) (c d : List ℕ) → Counts c → Leaves (kid k a n c) d → (j : ℕ) → (j ≡ k → ⊥) → Agree j d c
  kid_else k p a n c d f l j ne = (
    (leaf_step x k p child a n c d f l).2 j ne,
    ap (λ y. bytes y j) (left_is x M K body child k p a n c d f l)
        ∙ tally_else k n (mask_zeros x k (offset_of x k + a) n) ((leaf_data x k p).amount (offset_of x k + a) n) c (3 * j + 2)
        (λ (z : 3 * j + 2 ≡ 3 * k). omega arith, λ (z : 3 * j + 2 ≡ 3 * k + 1). omega arith, λ (z : 3 * j + 2 ≡ 3 * k + 2). ne (omega arith)),
  )

  -- the same walk from counters that agree
  kid_own : (k : ℕ) (p : Leaf k) (a n : ℕ) (c d c2 d2 : List ℕ) → Counts c → Counts c2 → Leaves (kid k a n c) d → Leaves (kid k a n c2) d2 → Agree k c c2 → Agree k d d2
  kid_own k p a n c d c2 d2 f f2 l l2 e =
      let r = node_was x k p child a n c f l.ok in
      let r2 = node_was x k p child a n c2 f2 l2.ok in
      let z = mask_zeros x k (offset_of x k + a) n in
      let m = (leaf_data x k p).amount (offset_of x k + a) n in (
        ap (λ y. rows y k) (left_is x M K body child k p a n c d f l) ∙ tally_rows k n z m c f.long r.node ∙ ap (λ v. grown v n) e.0 ∙ sym (ap (λ y. rows y k) (left_is x M K body child k p a n c2 d2 f2 l2) ∙ tally_rows k n z m c2 f2.long r2.node),
        ap (λ y. bytes y k) (left_is x M K body child k p a n c d f l) ∙ tally_bytes k n z m c f.long r.node ∙ ap (λ v. v + m) e.1 ∙ sym (ap (λ y. bytes y k) (left_is x M K body child k p a n c2 d2 f2 l2) ∙ tally_bytes k n z m c2 f2.long r2.node),
      )

  pub kid_before : (k : ℕ) (p : Leaf k) (a n : ℕ) (c d : List ℕ) → Counts c → Leaves (kid k a n c) d → R k p d → R k p c
  kid_before k p a n c d f l h = roomy_before x M K body k p a n c f (node_was x k p child a n c f l.ok) (rw (left_is x M K body child k p a n c d f l) at h)

  module _ (home pos : ℕ → ℕ) (N : ℕ) (leafs : (r : ℕ) → r < N → Leaf (home r)) where
    abbrev Rows : ℕ → ℕ → List ℕ → Out
    Rows n r c = each (pure x child home pos) n r c

    -- counters before hold less, at every node
    pub rows_before : (j : ℕ) (p : Leaf j) (n r : ℕ) (c d : List ℕ) → r + n ≤ N → Counts c → Leaves (Rows n r c) d → R j p d → R j p c
    unfolding each done
    rows_before j p zero r c d s f l h = rw l.left h
    rows_before j p (suc n) r c d s f l h =
        let o : Out = pure x child home pos r c in
        let on : List ℕ → Out = λ z. Rows n (suc r) z in
        let q = leafs r (omega arith) in
        let one = next_start_lem o on l in
        let y = rows_before j p n (suc r) o.counters d (omega arith) (kid_counters (home r) q (pos r) 1 c _ f one) (next_rest o on l) h in
        go q one y (eqb j (home r)) refl
      where
        go : (q : Leaf (home r)) → Leaves (pure x child home pos r c) (pure x child home pos r c).counters → R j p (pure x child home pos r c).counters → (t : Bool) → eqb j (home r) ≡ t → R j p c
        go q one y true e = at_home (eqb-true j (home r) e) p y
          where
            at_home : j ≡ home r → (p : Leaf j) → R j p (pure x child home pos r c).counters → R j p c
            at_home z p y = subst (λ v. (p : Leaf v) → R v p (pure x child home pos r c).counters → R v p c) (sym z) (λ p y. kid_before (home r) p (pos r) 1 c _ f one y) p y
        go q one y false e = let a = kid_else (home r) q (pos r) 1 c _ f one j (eqb-false j (home r) e) in roomy_as x M K body child j p _ c a.0 a.1 y

    -- all rows' logs lie inside
    pub rows_inside : (n r : ℕ) (c d : List ℕ) → r + n ≤ N → Counts c → Leaves (Rows n r c) d → ((q : ℕ) (t : q < N) → R (home q) (leafs q t) d) → AllInside x.plan x.parts M K (Rows n r c).log
    unfolding each done AllInside
    rows_inside zero r c d s f l h = tt
    rows_inside (suc n) r c d s f l h =
        let o : Out = pure x child home pos r c in
        let on : List ℕ → Out = λ z. Rows n (suc r) z in
        let t : r < N = omega arith in
        let q = leafs r t in
        let one = next_start_lem o on l in
        let f1 = kid_counters (home r) q (pos r) 1 c _ f one in
        let more = next_rest o on l in
        let y = rows_before (home r) q n (suc r) o.counters d (omega arith) f1 more (h r t) in
        rw (next_log on one) (inside_append x.plan x.parts M K o.log (on o.counters).log (log_self x M K body child (home r) q (pos r) 1 c _ f one y).one (rows_inside n (suc r) o.counters d (omega arith) f1 more h))

    -- no row at node j
    pub rows_off : (j b : ℕ) → K j b → ((r : ℕ) → r < N → home r ≡ j → ⊥) → (n r : ℕ) (c d w : List ℕ) → r + n ≤ N → Counts c → Leaves (Rows n r c) d → ((q : ℕ) (t : q < N) → R (home q) (leafs q t) d)
        → Window x.plan x.parts M K j b w → within j b (Rows n r c).log w ≡ w
    unfolding each done within
    rows_off j b y ne zero r c d w s f l h u = refl
    rows_off j b y ne (suc n) r c d w s f l h u =
        let o : Out = pure x child home pos r c in
        let on : List ℕ → Out = λ z. Rows n (suc r) z in
        let t : r < N = omega arith in
        let q = leafs r t in
        let one = next_start_lem o on l in
        let f1 = kid_counters (home r) q (pos r) 1 c _ f one in
        let more = next_rest o on l in
        let z = rows_before (home r) q n (suc r) o.counters d (omega arith) f1 more (h r t) in
        let e = log_off x M K body child (home r) q (pos r) 1 c _ f one z j b (λ v. ne r t (sym v)) y w u in
        rw (next_log on one, within_append j b o.log (on o.counters).log w, e) (rows_off j b y ne n (suc r) o.counters d w (omega arith) f1 more h u)

    module _ (j : ℕ) (p : Leaf j) (empty : (c : List ℕ) → Counts c → Leaves (kid j 0 0 c) c) where
      abbrev Own : ℕ → ℕ → List ℕ → Out
      Own n r c = each (of_child x child home pos j) n r c

      pub own_before : (n r : ℕ) (c d : List ℕ) → Counts c → Leaves (Own n r c) d → R j p d → R j p c
      unfolding each done
      own_before zero r c d f l h = rw l.left h
      own_before (suc n) r c d f l h =
          let o : Out = of_child x child home pos j r c in
          let on : List ℕ → Out = λ z. Own n (suc r) z in
          let one = next_start_lem o on l in
          kid_before j p _ _ c _ f one (own_before n (suc r) o.counters d (kid_counters j p _ _ c _ f one) (next_rest o on l) h)

      -- one row
      row_own : (b : ℕ) → K j b → (r : ℕ) (q : Leaf (home r)) (c c1 c2 c3 w : List ℕ) → Counts c → Counts c2 → Agree j c c2 → (t : Bool) → eqb (home r) j ≡ t
          → Leaves (kid (home r) (pos r) 1 c) c1 → Leaves (kid j (cond t (pos r) 0) (cond t 1 0) c2) c3 → R j p c1 → R (home r) q c1 → R j p c3 → Window x.plan x.parts M K j b w
          → (within j b (kid (home r) (pos r) 1 c).log w ≡ within j b (kid j (cond t (pos r) 0) (cond t 1 0) c2).log w) × Agree j c1 c3
      unfolding within
      row_own b y r q c c1 c2 c3 w f f2 e true g l l2 h hq h2 u =
          let z = eqb-true (home r) j g in
          let m : Leaves (kid j (pos r) 1 c) c1 = rw z at l in
          (rw z ((log_same x M K body child j p (pos r) 1 c c1 c2 c3 f f2 m l2 h h2 e.0 e.1).same j b y w u), kid_own j p (pos r) 1 c c1 c2 c3 f f2 m l2 e)
      row_own b y r q c c1 c2 c3 w f f2 e false g l l2 h hq h2 u =
          let ne = eqb-false (home r) j g in
          let m = kid_else (home r) q (pos r) 1 c c1 f l j (λ v. ne (sym v)) in
          let k : c3 ≡ c2 = sym l2.left ∙ (empty c2 f2).left in
          let a = (node_logs_none x M K body j p child 0 c2 f2 (node_was x j p child 0 0 c2 f2 l2.ok) (rw k at h2)).same j b y w u in
          (log_off x M K body child (home r) q (pos r) 1 c c1 f l hq j b (λ v. ne (sym v)) y w u ∙ sym a, rw k (m.0 ∙ e.0, m.1 ∙ e.1))

      -- ALL ROWS, SEEN AT A CHILD'S PARTS, are the child's
      pub rows_own : (b : ℕ) → K j b → (n r : ℕ) (c d c2 d2 w : List ℕ) → r + n ≤ N → Counts c → Counts c2 → Agree j c c2 → Leaves (Rows n r c) d → Leaves (Own n r c2) d2
          → ((q : ℕ) (t : q < N) → R (home q) (leafs q t) d) → R j p d → R j p d2 → Window x.plan x.parts M K j b w → within j b (Rows n r c).log w ≡ within j b (Own n r c2).log w
      unfolding each done within
      rows_own b y zero r c d c2 d2 w s f f2 e l l2 h hd h2 u = refl
      rows_own b y (suc n) r c d c2 d2 w s f f2 e l l2 h hd h2 u =
          let o : Out = pure x child home pos r c in
          let on : List ℕ → Out = λ z. Rows n (suc r) z in
          let o2 : Out = of_child x child home pos j r c2 in
          let on2 : List ℕ → Out = λ z. Own n (suc r) z in
          let one = next_start_lem o on l in
          let one2 = next_start_lem o2 on2 l2 in
          let t : r < N = omega arith in
          let q = leafs r t in
          let f1 = kid_counters (home r) q (pos r) 1 c _ f one in
          let more = next_rest o on l in
          let g2 = kid_counters j p _ _ c2 _ f2 one2 in
          let more2 = next_rest o2 on2 l2 in
          let z = rows_before j p n (suc r) o.counters d (omega arith) f1 more hd in
          let zq = rows_before (home r) q n (suc r) o.counters d (omega arith) f1 more (h r t) in
          let z2 = own_before n (suc r) o2.counters d2 g2 more2 h2 in
          let a = row_own b y r q c o.counters c2 o2.counters w f f2 e (eqb (home r) j) refl one one2 z zq z2 u in
          let v = within_window x.plan x.parts M K j b o.log (log_self x M K body child (home r) q (pos r) 1 c _ f one zq).one w u in
          rw (next_log on one, next_log on2 one2, within_append j b o.log (on o.counters).log w, within_append j b o2.log (on2 o2.counters).log w)
          (rows_own b y n (suc r) o.counters d o2.counters d2 (within j b o.log w) (omega arith) f1 g2 a.1 more more2 h hd h2 v ∙ ap (within j b (on2 o2.counters).log) a.0)
