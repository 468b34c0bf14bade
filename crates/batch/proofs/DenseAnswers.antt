-- THEOREM 1 for dense unions: where the walk by stretches answers 0, the walk of a copy answers 0 and leaves the same counters. Assumes nothing.
use mathlib.Core.Path.{◌≡◌, refl, sym, ap, subst, ◌∙◌}
use mathlib.Core.Bool.{Bool, true, false, cond, not, ◌&&◌}
use mathlib.Core.List.{List}
use Prim.Native.Nat.{ℕ, zero, suc, ◌+◌, ◌*◌, ◌≤◌, ◌<◌, min}
use native.Mathlib.Nat.{add-zero}
use native.Mathlib.Omega.{arith}
use lib.Dec.{ltb, eqb}
use borrow.Author.Tests.{eqb-true, eqb-false, ne_eqb, ltb-true, lt-ltb}
use Rattle.columnar.specs.Types.{half}
use Rattle.columnar.specs.Test.{every}
use Rattle.plan.proofs.parts.Placed.{every_at}
use Rattle.walk.specs.State.{Join, code_of, end_of, id_of, rows, top, grown, place, rows_in}
use Rattle.walk.specs.Log.{Out, done, need, next, each}
use Rattle.walk.specs.Copy.{Walk, child_with, id_at, position_at, dense_to, dense_row, copy_dense, copy_node, copy_walk}
use Rattle.batch.specs.Stretch.{sum_of, stretches}
use Rattle.batch.specs.Batch.{is_leaf, owned, batch_leaf}
use Rattle.batch.specs.Dense.{home, takes, takes_at, lands_at, batch_fields, batch_dense}
use Rattle.batch.proofs.Ends.{Leaves, leaves_own, leaves_done, leaves_wrote, leaves_need, leaves_found, leaves_next, need_was, need_rest, wrote_rest, next_start_lem, next_rest}
use Rattle.batch.proofs.Tally.{Counts}
use Rattle.batch.proofs.Stretches.{and_left, and_right, Cuts, stretch_meets, stretches_each, stretch_shows}
use Rattle.batch.proofs.LeafCuts.{good, leaf_step, leaf_cuts}
use Rattle.batch.proofs.Dense.{pure, of_child, of_left, peel}

module _ (x : Join) (depth i slot N : ℕ) where
  abbrev S : List ℕ
  S = x.plan

  abbrev kids : Walk
  kids = copy_walk x depth

  abbrev H : ℕ → ℕ
  H r = home x (batch_leaf x) i slot r

  abbrev P : ℕ → ℕ
  P r = position_at x (batch_leaf x) i (slot + r)

  abbrev ID : ℕ → ℕ
  ID r = id_at x (batch_leaf x) i (slot + r)

  abbrev Leaf : ℕ → Type 0
  Leaf k = is_leaf (code_of S k) ≡ true

  -- no rows are left
  none_left : (left : ℕ → Bool) → ((r : ℕ) → r < N → left r ≡ false) → (n r : ℕ) (c : List ℕ) → r + n ≤ N → Leaves (each (of_left x kids H P left) n r c) c
  unfolding each
  none_left left h zero r c s = leaves_done c
  none_left left h (suc n) r c s =
      let e = h r (omega arith) in
      rw e (leaves_next (λ z. each (of_left x kids H P left) n (suc r) z) (leaves_done c) (none_left left h n (suc r) c (omega arith)))

  no_more : (left : ℕ → Bool) → ((r : ℕ) → r < N → left r ≡ true → ⊥) → (r : ℕ) → r < N → left r ≡ false
  no_more left h r l = go (left r) refl
    where
      go : (t : Bool) → left r ≡ t → t ≡ false
      go true e = absurd (h r l e)
      go false e = refl

  -- one child
  module _ (k : ℕ) (c d : List ℕ) (f : Counts c) (l : Leaves (stretches (λ a m e. batch_leaf x k a m e) (takes_at x (batch_leaf x) i slot k) (takes x (batch_leaf x) i slot k) N c) d) where
    pub child_leaf : Leaf k
    unfolding batch_leaf
    child_leaf = stretch_shows (λ a m e. batch_leaf x k a m e) (takes_at x (batch_leaf x) i slot k) (takes x (batch_leaf x) i slot k) (λ a m e g. need_was (is_leaf (code_of S k)) 12 e _ (omega arith) g) N 0 0 0 c l.ok

    abbrev pub cuts : Cuts k (good x k child_leaf) (λ a n c. batch_leaf x k a n c) (λ a n c. copy_node x kids k a n c)
    cuts = leaf_cuts x k child_leaf kids

    pub child_rows : Leaves (each (of_child x kids H P k) N 0 c) d
    child_rows =
        let q = stretches_each k (good x k child_leaf) (λ a n c. batch_leaf x k a n c) (λ a n c. copy_node x kids k a n c) cuts (takes_at x (batch_leaf x) i slot k) (takes x (batch_leaf x) i slot k) N c f l.ok in
        record { ok = q.ok; left = q.left ∙ l.left }

    pub child_empty : (e : List ℕ) → Counts e → Leaves (copy_node x kids k 0 0 e) e
    child_empty e g =
        let t = stretch_meets k (good x k child_leaf) (λ a n c. batch_leaf x k a n c) (λ a n c. copy_node x kids k a n c) cuts (takes_at x (batch_leaf x) i slot k) (takes x (batch_leaf x) i slot k) N 0 0 0 c f l.ok in
        (cuts.none 0 0 0 c e f g t.0 (omega arith)).1

    many : (n r : ℕ) (b e : List ℕ) → Counts b → Leaves (each (of_child x kids H P k) n r b) e → Counts e
    unfolding each done
    many zero r b e g m = subst Counts m.left g
    many (suc n) r b e g m =
        let o : Out = of_child x kids H P k r b in
        many n (suc r) o.counters e (cuts.step _ _ b o.counters g (next_start_lem o (λ z. each (of_child x kids H P k) n (suc r) z) m)).0 (next_rest o (λ z. each (of_child x kids H P k) n (suc r) z) m)

    pub child_counters : Counts d
    child_counters = many N 0 c d f child_rows

  -- all children from node k on
  abbrev pub Found : ℕ → ℕ → (ℕ → Bool) → Type 0
  Found f k left = (r : ℕ) → r < N → left r ≡ true → (H r < 32) × (H r ≡ child_with S (ID r) (end_of S i) f k)

  abbrev pub Result : (ℕ → Bool) → List ℕ → List ℕ → Type 0
  Result left c d = Leaves (each (of_left x kids H P left) N 0 c) d × ((r : ℕ) → r < N → left r ≡ true → Leaf (H r))

  ended : (left : ℕ → Bool) (c d : List ℕ) → ((r : ℕ) → r < N → left r ≡ true → H r ≡ 32) → ((r : ℕ) → r < N → left r ≡ true → H r < 32) → c ≡ d → Result left c d
  ended left c d h g e =
      let z : (r : ℕ) → r < N → left r ≡ true → ⊥ = λ r l t. let a = h r l t in let b = g r l t in omega arith in
      (rw (← e) (none_left left (no_more left z) N 0 c (omega arith)), λ r l t. absurd (z r l t))

  not_bool : (b : Bool) → not b ≡ true → b ≡ false
  not_bool true h = sym h
  not_bool false h = refl

  -- one child walked, the others by what follows
  module _ (f k : ℕ) (left : ℕ → Bool) (c d : List ℕ) (fc : Counts c) (rises : k < end_of S k) (gone : (r : ℕ) → r < N → left r ≡ false → H r < k)
      (here : (r : ℕ) → r < N → left r ≡ true → (H r < 32) × (H r ≡ cond (eqb (id_of S k) (ID r)) k (child_with S (ID r) (end_of S i) f (end_of S k))))
      (c2 : List ℕ) (one : Leaves (stretches (λ a m e. batch_leaf x k a m e) (takes_at x (batch_leaf x) i slot k) (takes x (batch_leaf x) i slot k) N c) c2) where
    abbrev pub fewer : ℕ → Bool
    fewer r = left r && not (eqb (H r) k)

    pub gone2 : (r : ℕ) → r < N → fewer r ≡ false → H r < end_of S k
    gone2 r l h = go (left r) refl (eqb (H r) k) refl h
      where
        go : (t : Bool) → left r ≡ t → (u : Bool) → eqb (H r) k ≡ u → (t && not u) ≡ false → H r < end_of S k
        go false a u b z = let y = gone r l a in omega arith
        go true a true b z = let y = eqb-true (H r) k b in omega arith
        go true a false b z = let y : ◌≡◌ {A = ℕ} 1 0 = ap (λ q. cond q 1 0) z in absurd (omega arith)

    still : (r : ℕ) → fewer r ≡ true → (left r ≡ true) × (H r ≡ k → ⊥)
    still r h = (and_left (left r) (not (eqb (H r) k)) h, eqb-false (H r) k (not_bool (eqb (H r) k) (and_right (left r) (not (eqb (H r) k)) h)))

    pub here2 : Found f (end_of S k) fewer
    here2 r l h =
        let s = still r h in
        let t = here r l s.0 in
        (t.0, go (eqb (id_of S k) (ID r)) t.1 s.1)
      where
        go : (t : Bool) → H r ≡ cond t k (child_with S (ID r) (end_of S i) f (end_of S k)) → (H r ≡ k → ⊥) → H r ≡ child_with S (ID r) (end_of S i) f (end_of S k)
        go true e n = absurd (n e)
        go false e n = e

    again : (r : ℕ) → left r ≡ true → (H r ≡ k → ⊥) → fewer r ≡ true
    again r h n = rw (h, ne_eqb (H r) k n) refl

    joined : Result fewer c2 d → Result left c d
    joined q =
        let leaf = child_leaf k c c2 fc one in (
          peel x kids H P k leaf (child_empty k c c2 fc one) N left (λ r l h e. let y = gone r l h in omega arith) (λ r l h n. q.1 r l (again r h n)) N 0 c c2 d (omega arith) fc (child_rows k c c2 fc one) q.0,
          λ r l h. go leaf r l h (eqb (H r) k) refl,
        )
      where
        go : Leaf k → (r : ℕ) → r < N → left r ≡ true → (t : Bool) → eqb (H r) k ≡ t → Leaf (H r)
        go leaf r l h true e = rw (eqb-true (H r) k e) leaf
        go leaf r l h false e = q.1 r l (again r h (eqb-false (H r) k e))

  pub fields_same : (f k : ℕ) (left : ℕ → Bool) (c d : List ℕ) → Counts c → Leaves (batch_fields x (batch_leaf x) i slot N (end_of S i) f k c) d
      → ((r : ℕ) → r < N → left r ≡ false → H r < k) → Found f k left → Result left c d
  unfolding batch_fields child_with done
  fields_same zero k left c d fc l gone here = ended left c d (λ r s t. (here r s t).1) (λ r s t. (here r s t).0) l.left
  fields_same (suc f) k left c d fc l gone here = go (λ left c fc l gone here. fields_same f (end_of S k) left c d fc l gone here) (ltb k (end_of S i)) l here
    where
      go : ((left : ℕ → Bool) (c : List ℕ) → Counts c → Leaves (batch_fields x (batch_leaf x) i slot N (end_of S i) f (end_of S k) c) d → ((r : ℕ) → r < N → left r ≡ false → H r < end_of S k) → Found f (end_of S k) left → Result left c d)
          → (t : Bool)
          → Leaves (cond t (need (ltb k (end_of S k) && owned S k) 12 c (next (stretches (λ a m e. batch_leaf x k a m e) (takes_at x (batch_leaf x) i slot k) (takes x (batch_leaf x) i slot k) N c) (λ c2. batch_fields x (batch_leaf x) i slot N (end_of S i) f (end_of S k) c2))) (done c)) d
          → ((r : ℕ) → r < N → left r ≡ true → (H r < 32) × (H r ≡ cond t (cond (eqb (id_of S k) (ID r)) k (child_with S (ID r) (end_of S i) f (end_of S k))) 32)) → Result left c d
      go ih false l here = ended left c d (λ r s t. (here r s t).1) (λ r s t. (here r s t).0) l.left
      go ih true l here =
          let o : Out = stretches (λ a m e. batch_leaf x k a m e) (takes_at x (batch_leaf x) i slot k) (takes x (batch_leaf x) i slot k) N c in
          let on : List ℕ → Out = λ c2. batch_fields x (batch_leaf x) i slot N (end_of S i) f (end_of S k) c2 in
          let t = need_was (ltb k (end_of S k) && owned S k) 12 c (next o on) (omega arith) l.ok in
          let l1 = need_rest (ltb k (end_of S k) && owned S k) 12 c (next o on) (omega arith) l in
          let rises = ltb-true k (end_of S k) (and_left _ (owned S k) t) in
          let one = next_start_lem o on l1 in
          joined f k left c d fc rises gone here o.counters one
          (ih (fewer f k left c d fc rises gone here o.counters one) o.counters (child_counters k c o.counters fc one) (next_rest o on l1)
          (gone2 f k left c d fc rises gone here o.counters one) (here2 f k left c d fc rises gone here o.counters one))

  -- ---- with the ids and positions of each row

  -- rows that a child has by then
  abbrev Kept : List ℕ → ℕ → List ℕ → Type 0
  Kept c0 r c = (k : ℕ) → rows c k ≡ min (rows c0 k + sum_of (takes x (batch_leaf x) i slot k) r) top

  rows_dense : (c0 : List ℕ) → ((r : ℕ) → r < N → (ltb (H r) 32 && ltb (lands_at x (batch_leaf x) i slot c0 r) (half 4)) ≡ true) → ((r : ℕ) → r < N → Leaf (H r))
      → (n r : ℕ) (c d : List ℕ) → r + n ≤ N → Counts c → Kept c0 r c → Leaves (each (pure x kids H P) n r c) d → Leaves (each (dense_row x (copy_walk x (suc depth)) i slot) n r c) d
  unfolding each dense_row dense_to sum_of grown copy_walk
  rows_dense c0 tests leafs zero r c d s f kept l = l
  rows_dense c0 tests leafs (suc n) r c d s f kept l =
      let o : Out = pure x kids H P r c in
      let on : List ℕ → Out = λ z. each (pure x kids H P) n (suc r) z in
      let one = next_start_lem o on l in
      let t = tests r (omega arith) in
      let h = ltb-true (H r) 32 (and_left _ (ltb (lands_at x (batch_leaf x) i slot c0 r) (half 4)) t) in
      let g = ltb-true (lands_at x (batch_leaf x) i slot c0 r) (half 4) (and_right (ltb (H r) 32) _ t) in
      let st = leaf_step x (H r) (leafs r (omega arith)) kids (P r) 1 c o.counters f one in
      let q = kept (H r) in
      let below : rows c (H r) < half 4 = omega arith in
      leaves_next (λ z. each (dense_row x (copy_walk x (suc depth)) i slot) n (suc r) z)
      (leaves_found 32 (H r) 12 c _ h (leaves_need 6 c (lt-ltb _ _ below) (leaves_next _ (leaves_wrote _ c) (leaves_next _ (leaves_wrote _ c) one))))
      (rows_dense c0 tests leafs n (suc r) o.counters d (omega arith) st.0 (λ k. next_kept o.counters k (eqb (H r) k) refl st.1 st.2 (kept k)) (next_rest o on l))
    where
      next_kept : (c1 : List ℕ) (k : ℕ) (t : Bool) → eqb (H r) k ≡ t → rows c1 (H r) ≡ min (rows c (H r) + 1) top → ((j : ℕ) → (j ≡ H r → ⊥) → rows c1 j ≡ rows c j)
          → rows c k ≡ min (rows c0 k + sum_of (takes x (batch_leaf x) i slot k) r) top → rows c1 k ≡ min (rows c0 k + (sum_of (takes x (batch_leaf x) i slot k) r + cond t 1 0)) top
      next_kept c1 k true e a b q = let y = eqb-true (H r) k e in let a2 = rw y at a in omega arith
      next_kept c1 k false e a b q = let y = eqb-false (H r) k e in b k (λ z. y (sym z)) ∙ q ∙ rw (add-zero (sum_of (takes x (batch_leaf x) i slot k) r)) refl

  -- THEOREM 1 for dense unions
  pub dense_same : (c : List ℕ) → Counts c → (batch_dense x (batch_leaf x) i slot N c).ans ≡ 0 → Leaves (copy_dense x (copy_walk x (suc depth)) i slot N c) (batch_dense x (batch_leaf x) i slot N c).counters
  unfolding batch_dense copy_dense sum_of
  dense_same c f h =
      let l = leaves_own {o = batch_dense x (batch_leaf x) i slot N c} h in
      let l1 = need_rest (owned S i) 12 c _ (omega arith) l in
      let b = need_was (rows_in x (place x i 3) 1 slot N && rows_in x (place x i 5) 4 slot N) 12 c _ (omega arith) l1.ok in
      let l2 = need_rest (rows_in x (place x i 3) 1 slot N && rows_in x (place x i 5) 4 slot N) 12 c _ (omega arith) l1 in
      let e = need_was (every (λ r. ltb (H r) 32 && ltb (lands_at x (batch_leaf x) i slot c r) (half 4)) N) 12 c _ (omega arith) l2.ok in
      let l3 = wrote_rest _ c _ (wrote_rest _ c _ (need_rest (every (λ r. ltb (H r) 32 && ltb (lands_at x (batch_leaf x) i slot c r) (half 4)) N) 12 c _ (omega arith) l2)) in
      let tests : (r : ℕ) → r < N → (ltb (H r) 32 && ltb (lands_at x (batch_leaf x) i slot c r) (half 4)) ≡ true = every_at (λ r. ltb (H r) 32 && ltb (lands_at x (batch_leaf x) i slot c r) (half 4)) N e in
      let q = fields_same 32 (suc i) (λ r. true) c _ f l3 (λ r s z. let y : ◌≡◌ {A = ℕ} 1 0 = ap (λ t. cond t 1 0) z in absurd (omega arith))
      (λ r s z. (ltb-true (H r) 32 (and_left _ (ltb (lands_at x (batch_leaf x) i slot c r) (half 4)) (tests r s)), refl)) in
      leaves_need 12 c b (rows_dense c tests (λ r s. q.1 r s refl) N 0 c _ (omega arith) f (λ k. let y = f.small (3 * k) in omega arith) q.0)
