-- A child that is a node without children, or a list-view that keeps no nulls of such a child: what its walk by stretches shows. Assumes nothing.
use mathlib.Core.Path.{◌≡◌, refl}
use mathlib.Core.Bool.{Bool, true, false, cond, ◌&&◌}
use mathlib.Core.List.{List}
use mathlib.Core.Logic.{◌⊎◌, inl, inr}
use Prim.Native.Nat.{ℕ, zero, suc}
use native.Mathlib.Omega.{arith}
use lib.Dec.{leb, ltb, eqb}
use borrow.Author.Tests.{leb-true, lt-leb, eqb-true}
use Rattle.schema.specs.formats.Code.{is_list_view}
use Rattle.walk.specs.State.{Join, code_of, keeps_of, add_rows}
use Rattle.walk.specs.Log.{Out, done, need}
use Rattle.walk.specs.Copy.{Walk, copy_node, copy_walk}
use Rattle.batch.specs.Batch.{is_leaf, owned, batch_leaf, batch_list_view, batch_node, batch_below}
use Rattle.batch.proofs.Ends.{leaves_own, need_was, need_is, need_rest, wrote_rest, next_start_lem}
use Rattle.batch.proofs.Stretches.{and_left, and_right, Cuts, stretch_shows}
use Rattle.batch.proofs.LeafCuts.{good, leaf_cuts}
use Rattle.batch.proofs.Nested.{W, at, Lies, by_was, view_cuts}

-- a child that a list-view was walked with, and the parts of both
pub list_shows : (x : Join) (below : Walk) (w i slot n : ℕ) (c : List ℕ) {P : Type 0} → ((a m : ℕ) (d : List ℕ) → (below (suc i) a m d).ans ≡ 0 → P)
    → (batch_list_view x below w i slot n c).ans ≡ 0 → (owned x.plan i ≡ true) × (owned x.plan (suc i) ≡ true) × P
unfolding batch_list_view
list_shows x below w i slot n c f h =
    let own : Bool = ltb (suc i) 32 && (owned x.plan i && owned x.plan (suc i)) in
    let l = leaves_own {o = batch_list_view x below w i slot n c} h in
    let o = and_right (ltb (suc i) 32) _ (need_was own 12 c _ (omega arith) l.ok) in
    let l1 = need_rest _ 12 c _ (omega arith) (need_rest own 12 c _ (omega arith) l) in
    let l2 = wrote_rest _ c _ (wrote_rest _ c _ (need_rest _ 6 c _ (omega arith) l1)) in
    (and_left _ (owned x.plan (suc i)) o, and_right (owned x.plan i) _ o, stretch_shows (λ a n c. below (suc i) a n c) _ _ f n 0 0 0 c l2.ok)

module _ (x : Join) where
  abbrev pub Leaf : ℕ → Type 0
  Leaf k = is_leaf (code_of x.plan k) ≡ true

  -- a list-view that keeps no nulls, with the parts of both nodes
  pub record View (k : ℕ) : Type 0 where
    pub is : is_list_view (code_of x.plan k) ≡ true
    pub plain : keeps_of x.plan k ≡ 0
    pub own : owned x.plan k ≡ true
    pub kid : owned x.plan (suc k) ≡ true

  -- at most `depth` list-views down
  unfoldable pub Chain : ℕ → ℕ → Type 0
  Chain zero k = Leaf k
  Chain (suc depth) k = Leaf k ⊎ (View k × Chain depth (suc k))

  leaf_was : (k a n : ℕ) (c : List ℕ) → (batch_leaf x k a n c).ans ≡ 0 → Leaf k
  unfolding batch_leaf
  leaf_was k a n c h = need_was (is_leaf (code_of x.plan k)) 12 c _ (omega arith) h

  pub chain_was : (depth k a n : ℕ) (c : List ℕ) → (batch_below x depth k a n c).ans ≡ 0 → Chain depth k
  unfolding Chain batch_below
  chain_was zero k a n c h = leaf_was k a n c h
  chain_was (suc depth) k a n c h = go (λ a n c h. chain_was depth (suc k) a n c h) (is_list_view (code_of x.plan k)) refl h
    where
      go : ((a n : ℕ) (c : List ℕ) → (batch_below x depth (suc k) a n c).ans ≡ 0 → Chain depth (suc k)) → (t : Bool) → is_list_view (code_of x.plan k) ≡ t
          → (cond t (need (eqb (keeps_of x.plan k) 0) 12 c (batch_node x (batch_below x depth) k a n c)) (batch_leaf x k a n c)).ans ≡ 0 → Leaf k ⊎ (View k × Chain depth (suc k))
      go ih true e h =
          let p = need_was (eqb (keeps_of x.plan k) 0) 12 c _ (omega arith) h in
          let q = eqb-true (keeps_of x.plan k) 0 p in
          let l = leaves_own (rw (need_is 12 c (batch_node x (batch_below x depth) k a n c) p) at h) in
          let b = by_was x k e q (batch_below x depth) a n c _ l in
          let o : Out = batch_list_view x (batch_below x depth) (W x k e q) k (at x k e q a) n c in
          let v = list_shows x (batch_below x depth) (W x k e q) k (at x k e q a) n c ih (next_start_lem o (λ z. done (add_rows k n z)) b.2).ok in
          inr (record { is = e; plain = q; own = v.0; kid = v.1 }, v.2)
      go ih false e h = inl (leaf_was k a n c h)

  -- the walk by another name
  pub leaf_below : (depth k a n : ℕ) (c : List ℕ) → Leaf k → batch_below x (suc depth) k a n c ≡ batch_leaf x k a n c
  unfolding batch_below
  leaf_below depth k a n c h =
      let g = leb-true (code_of x.plan k) 16 (and_right (leb 1 (code_of x.plan k)) _ h) in
      rw (lt-leb 17 (code_of x.plan k) (omega arith)) refl

  pub view_below : (depth k a n : ℕ) (c : List ℕ) → View k → batch_below x (suc depth) k a n c ≡ batch_node x (batch_below x depth) k a n c
  unfolding batch_below need
  view_below depth k a n c v = rw (v.is, v.plain) refl

  -- what is asked of a child's answers
  pub record Cutting (k : ℕ) (below kid : ℕ → ℕ → List ℕ → Out) : Type 1 where
    pub good : ℕ → ℕ → List ℕ → Type 0
    pub cuts : Cuts k good below kid

  pub cuts_as : (k : ℕ) (good : ℕ → ℕ → List ℕ → Type 0) (below other kid : ℕ → ℕ → List ℕ → Out) → ((a n : ℕ) (c : List ℕ) → other a n c ≡ below a n c)
      → Cuts k good below kid → Cuts k good other kid
  cuts_as k good below other kid e q =
      record {
        same = λ a n c f h. rw (e a n c) (q.same a n c f (rw (e a n c) at h));
        cut = q.cut;
        none = q.none;
        step = q.step;
        frame = q.frame;
      }

  pub chain_cuts : (depth k : ℕ) → Chain depth k → Cutting k (λ a n c. batch_below x depth k a n c) (λ a n c. copy_walk x (suc depth) k a n c)
  unfolding Chain batch_below copy_walk
  chain_cuts zero k h = record { good = good x k h; cuts = leaf_cuts x k h (copy_walk x 0) }
  chain_cuts (suc depth) k h = go (λ h. chain_cuts depth (suc k) h) h
    where
      go : (Chain depth (suc k) → Cutting (suc k) (λ a n c. batch_below x depth (suc k) a n c) (λ a n c. copy_walk x (suc depth) (suc k) a n c)) → Leaf k ⊎ (View k × Chain depth (suc k))
          → Cutting k (λ a n c. batch_below x (suc depth) k a n c) (λ a n c. copy_node x (copy_walk x (suc depth)) k a n c)
      go ih (inl h) =
          record {
            good = good x k h;
            cuts = cuts_as k (good x k h) (λ a n c. batch_leaf x k a n c) (λ a n c. batch_below x (suc depth) k a n c) (λ a n c. copy_node x (copy_walk x (suc depth)) k a n c) (λ a n c. leaf_below depth k a n c h)
                (leaf_cuts x k h (copy_walk x (suc depth)));
          }
      go ih (inr v) =
          let q = ih v.1 in
          record {
            good = λ a n c. Lies x k v.0.is v.0.plain a n;
            cuts = cuts_as k (λ a n c. Lies x k v.0.is v.0.plain a n) (λ a n c. batch_node x (batch_below x depth) k a n c) (λ a n c. batch_below x (suc depth) k a n c) (λ a n c. copy_node x (copy_walk x (suc depth)) k a n c)
                (λ a n c. view_below depth k a n c v.0) (view_cuts x k v.0.is v.0.plain (copy_walk x (suc depth)) (batch_below x depth) q.good q.cuts);
          }
