-- List-views of list-views: what a type says of them, and the walk of a child. Assumes nothing.
use mathlib.Core.Path.{◌≡◌, refl, sym, ap, subst, fun_ext, ◌∙◌}
use mathlib.Core.Bool.{Bool, true, false, cond, not, ◌&&◌}
use mathlib.Core.List.{List}
use Prim.Native.Nat.{ℕ, zero, suc, ◌+◌, ◌-◌, ◌≤◌, ◌<◌}
use native.Mathlib.Numerals.{add-one}
use native.Mathlib.Omega.{arith}
use lib.Dec.{leb, eqb}
use borrow.Author.Tests.{lt-ltb, lt-leb, leb-true}
use Rattle.array_data.proofs.lent_tables.Laws.{no, yes}
use Rattle.schema.specs.formats.Code.{is_fixed, is_string, is_list_view}
use Rattle.walk.specs.State.{Join, code_of, keeps_of, bytes_of}
use Rattle.walk.specs.Log.{Out, Did}
use Rattle.walk.specs.Leaves.{copy_mask}
use Rattle.walk.specs.Copy.{Walk, masked}
use Rattle.nested_rows.proofs.node_data.Laws.{list_wide}
use Rattle.batch.specs.Stretch.{stretches}
use Rattle.batch.specs.Batch.{batch_leaf, batch_list_view, batch_data, batch_node, batch_below}
use Rattle.batch.specs.batch_walk.Plain.{is_plain, is_text, is_flat, is_nested, is_listed}
use Rattle.batch.proofs.Ends.{need_is}
use Rattle.batch.proofs.Stretches.{and_left, and_right}
use Rattle.batch.proofs.batch_walk.Node.{Maskless}

-- ---- what a type says

module _ (S : List ℕ) where
  pub nested_not : (k : ℕ) {code : ℕ} {r : Bool} → code ≡ code_of S k → r ≡ is_list_view code → not r ≡ true → false ≡ is_nested S k
  nested_not k e q h = let f : is_list_view (code_of S k) ≡ false = rw e at (no q h) in rw f refl

  pub nested_keeps : (k : ℕ) {code v : ℕ} {r : Bool} → code ≡ code_of S k → r ≡ is_list_view code → not r ≡ false → v ≡ keeps_of S k → eqb v 0 ≡ is_nested S k
  nested_keeps k e q h o = let f : is_list_view (code_of S k) ≡ true = rw e at (yes q h) in rw f (ap (λ z. eqb z 0) o)

  -- node k of the chain from the root on: what is left of it is the whole
  pub chain_end : (k : ℕ) → 7 ≤ k → is_listed S 7 0 ≡ is_listed S (7 - k) k → false ≡ is_listed S 7 0
  unfolding is_listed
  chain_end k h e = let z : 7 - k ≡ 0 = omega arith in sym (e ∙ ap (λ d. is_listed S d k) z)

  module _ (k : ℕ) (l : k < 7) (e : is_listed S 7 0 ≡ is_listed S (7 - k) k) {r : Bool} (f : r ≡ is_nested S k) where
    step : is_listed S 7 0 ≡ (is_nested S k && cond (is_flat S (suc k)) true (is_listed S (7 - (k + 1)) (suc k)))
    unfolding is_listed
    step = let z : 7 - k ≡ suc (7 - (k + 1)) = omega arith in e ∙ ap (λ d. is_listed S d k) z

    pub chain_no : not r ≡ true → false ≡ is_listed S 7 0
    chain_no h = rw (step, no f h) refl

    module _ (h : not r ≡ false) {t : Bool} (g : t ≡ is_flat S (k + 1)) where
      flat_as : t ≡ is_flat S (suc k)
      flat_as = rw (add-one k) at g

      pub chain_yes : t ≡ true → true ≡ is_listed S 7 0
      chain_yes y = let z : is_flat S (suc k) ≡ true = sym flat_as ∙ y in rw (step, yes f h, z) refl

      pub chain_more : t ≡ false → is_listed S 7 0 ≡ is_listed S (7 - (k + 1)) (k + 1)
      chain_more y =
          let z : is_flat S (suc k) ≡ false = sym flat_as ∙ y in
          let u : is_listed S 7 0 ≡ is_listed S (7 - (k + 1)) (suc k) = rw (step, yes f h, z) refl in
          subst (λ v. is_listed S 7 0 ≡ is_listed S (7 - (k + 1)) v) (sym (add-one k)) u

  -- a list-view of the chain
  module _ (depth k : ℕ) (is : is_listed S (suc depth) k ≡ true) where
    pub listed_here : is_nested S k ≡ true
    unfolding is_listed
    listed_here = and_left (is_nested S k) _ is

    pub listed_child : cond (is_flat S (suc k)) true (is_listed S depth (suc k)) ≡ true
    unfolding is_listed
    listed_child = and_right (is_nested S k) _ is

    -- its offsets have 4 or 8 bytes
    pub listed_wide : {w : ℕ} → w ≡ bytes_of S k → (w ≡ 4 → ⊥) → w ≡ 8
    listed_wide e = list_wide S k refl e refl (and_left (is_list_view (code_of S k)) _ listed_here)

  -- a child that is not flat
  module _ (depth k : ℕ) (is : cond (is_flat S k) true (is_listed S depth k) ≡ true) (h : is_flat S k ≡ false) where
    pub child_listed : is_listed S depth k ≡ true
    child_listed = rw h at is

    pub child_deep : 1 ≤ depth
    unfolding is_listed
    child_deep = go depth child_listed
      where
        go : (d : ℕ) → is_listed S d k ≡ true → 1 ≤ d
        go zero e = let z : ◌≡◌ {A = ℕ} 0 1 = ap (λ b. cond b 1 0) e in omega (arith, z)
        go (suc d) e = omega arith

    pub child_under : is_listed S (suc (depth - 1)) k ≡ true
    child_under = let l = child_deep in let z : suc (depth - 1) ≡ depth = omega arith in subst (λ d. is_listed S d k ≡ true) (sym z) child_listed

-- ---- the walk of a child

-- numbers and byte strings are no list-views
flat_code : (S : List ℕ) (k : ℕ) → is_flat S k ≡ true → code_of S k ≤ 14
flat_code S k is = go (is_text S k) refl
  where
    go : (t : Bool) → is_text S k ≡ t → code_of S k ≤ 14
    go true e = leb-true (code_of S k) 14 (and_right (leb 11 (code_of S k)) _ (and_left (is_string (code_of S k)) _ e))
    go false e =
        let p : is_plain S k ≡ true = rw e at is in
        let l = leb-true (code_of S k) 10 (and_right (leb 1 (code_of S k)) _ (and_left (is_fixed (code_of S k)) _ p)) in
        omega arith

flat_view : (S : List ℕ) (k : ℕ) → is_flat S k ≡ true → is_list_view (code_of S k) ≡ false
flat_view S k is = let l = flat_code S k is in let z : leb 17 (code_of S k) ≡ false = lt-leb 17 (code_of S k) (omega arith) in rw z refl

module _ (x : Join) where
  pub below_flat : (depth k : ℕ) → is_flat x.plan k ≡ true → (a n : ℕ) (c : List ℕ) → batch_leaf x k a n c ≡ batch_below x depth k a n c
  unfolding batch_below
  below_flat zero k is a n c = refl
  below_flat (suc depth) k is a n c = rw (flat_view x.plan k is) refl

  pub below_nested : (depth k : ℕ) → is_nested x.plan k ≡ true → (a n : ℕ) (c : List ℕ) → batch_node x (batch_below x depth) k a n c ≡ batch_below x (suc depth) k a n c
  unfolding batch_below
  below_nested depth k is a n c =
      let v : is_list_view (code_of x.plan k) ≡ true = and_left (is_list_view (code_of x.plan k)) _ is in
      let z : eqb (keeps_of x.plan k) 0 ≡ true = and_right (is_list_view (code_of x.plan k)) _ is in
      rw v (sym (need_is 12 c (batch_node x (batch_below x depth) k a n c) z))

  -- a walk by stretches goes by what the walk of a stretch is
  module _ (walk other : ℕ → ℕ → List ℕ → Out) (e : (a n : ℕ) (c : List ℕ) → walk a n c ≡ other a n c) (start size : ℕ → ℕ) where
    pub stretches_as : {wr : Bool} (n : ℕ) (c : List ℕ) {room : List ℕ} {g : ℕ} {c2 room2 : List ℕ} → Did x.plan x.parts wr (stretches (λ a m d. walk a m d) start size n c) room g c2 room2
        → Did x.plan x.parts wr (stretches (λ a m d. other a m d) start size n c) room g c2 room2
    stretches_as {wr} n c {room} {g} {c2} {room2} d =
        let z : walk ≡ other = fun_ext (λ a. fun_ext (λ m. fun_ext (λ c. e a m c))) in
        subst (λ y. Did x.plan x.parts wr (stretches y start size n c) room g c2 room2) z d

  -- ---- a list-view that keeps no nulls

  module _ (k : ℕ) (is : is_nested x.plan k ≡ true) where
    view : is_list_view (code_of x.plan k) ≡ true
    view = and_left (is_list_view (code_of x.plan k)) _ is

    pub nested_mask : (child : Walk) → Maskless x child k
    unfolding copy_mask
    nested_mask child slot n c =
        let m : masked (code_of x.plan k) ≡ true = lt-ltb (code_of x.plan k) 21 (let h = leb-true (code_of x.plan k) 18 (and_right (leb 17 (code_of x.plan k)) _ view) in omega arith) in
        let z : eqb (keeps_of x.plan k) 0 ≡ true = and_right (is_list_view (code_of x.plan k)) _ is in
        rw (m, z) refl

    pub nested_data : (child : Walk) {wr : Bool} (slot n : ℕ) (c : List ℕ) {room : List ℕ} {g : ℕ} {c2 room2 : List ℕ} {w : ℕ} → w ≡ bytes_of x.plan k → Did x.plan x.parts wr (batch_list_view x child w k slot n c) room g c2 room2
        → Did x.plan x.parts wr (batch_data x child (code_of x.plan k) k slot n c) room g c2 room2
    unfolding batch_data
    nested_data child slot n c e d = rw view (rw e at d)
