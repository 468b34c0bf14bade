-- A list-view that keeps no nulls, or a dense union, by stretches. Assumes nothing.
use mathlib.Core.Path.{◌≡◌, refl, sym, ap, subst, fun_ext, ◌∙◌}
use mathlib.Core.Bool.{Bool, true, false, cond, not, ◌&&◌}
use mathlib.Core.List.{List, ◌∷◌, []}
use Prim.Native.Nat.{ℕ, zero, suc, ◌+◌, ◌*◌, ◌-◌, ◌≤◌, ◌<◌, min}
use native.Mathlib.Omega.{arith}
use lib.ListN.{length, take, drop}
use lib.Dec.{leb, ltb, eqb}
use borrow.Author.Tests.{lt-ltb, le-ltb, eq-eqb, ne_eqb, leb-true, ltb-true, ltb-false, eqb-true, eqb-false}
use Rattle.array_data.proofs.lent_tables.Laws.{no, yes}
use Rattle.number.specs.Number.{entry}
use Rattle.columnar.specs.Types.{half}
use Rattle.columnar.specs.Test.{every}
use Rattle.plan.proofs.parts.Placed.{every_at}
use Rattle.utils.specs.Pieces.{numbers}
use Rattle.walk.specs.State.{Join, code_of, end_of, rows, add_rows, grown, scaled, top, place, far, slot_of, rows_in}
use Rattle.walk.specs.Log.{Out, Did, put, apply_if, done, found, next}
use Rattle.walk.specs.Leaves.{copy_mask}
use Rattle.walk.specs.Copy.{Walk, masked}
use Rattle.walk.proofs.Laws.{done_did, need_no, need_ok, found_no, found_ok, next_no, next_ok}
use Rattle.leaf_walk.proofs.Laws.{wrote_at}
use Rattle.batch.specs.Stretch.{sum_of, stretches}
use Rattle.batch.specs.Dense.{batch_dense}
use Rattle.batch.specs.Batch.{owned, batch_leaf, batch_list_view, batch_data, batch_slots, batch_node, batch_below, batch_walk_of}
use Rattle.batch.proofs.Ends.{need_is}
use Rattle.batch.proofs.Stretches.{and_left, and_right}
use Rattle.batch.specs.batch_walk.Plain.{is_flat, is_listed, flat_below, is_stretched}

-- ---- what a type says

every_fewer : (p : ℕ → Bool) (m n : ℕ) → m ≤ n → every p n ≡ true → every p m ≡ true
every_fewer p zero n h e = refl
every_fewer p (suc m) n h e = rw (every_fewer p m n (omega arith) e, every_at p n e m (omega arith)) refl

module _ (S : List ℕ) where
  -- ---- the nodes below the root

  abbrev flat_from : ℕ → Bool
  flat_from j = is_flat S (suc j)

  pub below_none : true ≡ every flat_from (1 - 1)
  below_none = refl

  pub below_more : (k : ℕ) → 1 ≤ k → true ≡ every flat_from (k - 1) → {t : Bool} → t ≡ is_flat S k → not t ≡ false → true ≡ every flat_from (k + 1 - 1)
  below_more k h e {t} f g =
      let y : k + 1 - 1 ≡ suc (k - 1) = omega arith in
      let z : suc (k - 1) ≡ k = omega arith in
      let p : is_flat S (suc (k - 1)) ≡ true = subst (λ v. is_flat S v ≡ true) (sym z) (yes f g) in
      rw (y, ← e, p) refl

  pub below_no : (k : ℕ) → 1 ≤ k → {end : ℕ} → end ≡ end_of S 0 → k < end → {t : Bool} → t ≡ is_flat S k → not t ≡ true → false ≡ flat_below S
  below_no k h {end} e l f g = go (every flat_from (end_of S 0 - 1)) refl
    where
      go : (t : Bool) → every flat_from (end_of S 0 - 1) ≡ t → false ≡ t
      go true q =
          let z : suc (k - 1) ≡ k = omega arith in
          let y = every_at flat_from (end_of S 0 - 1) q (k - 1) (omega arith) in
          sym (no f g) ∙ subst (λ v. is_flat S v ≡ true) z y
      go false q = refl

  pub below_all : (k : ℕ) → 1 ≤ k → true ≡ every flat_from (k - 1) → {end : ℕ} → end ≡ end_of S 0 → end ≤ k → true ≡ flat_below S
  below_all k h e {end} f g = sym (every_fewer flat_from (end_of S 0 - 1) (k - 1) (omega arith) (sym e))

  -- ---- which of them

  pub of_dense : {code : ℕ} {t : Bool} → code ≡ code_of S 0 → code ≡ 22 → t ≡ flat_below S → t ≡ is_stretched S
  of_dense e f g = rw (eq-eqb (code_of S 0) 22 (sym e ∙ f)) g

  pub of_list : {code : ℕ} {t : Bool} → code ≡ code_of S 0 → (code ≡ 22 → ⊥) → t ≡ is_listed S 7 0 → t ≡ is_stretched S
  of_list e f g = rw (ne_eqb (code_of S 0) 22 (λ z. f (e ∙ z))) g

  module _ (is : is_stretched S ≡ true) where
    pub kids_flat : {code : ℕ} → code ≡ code_of S 0 → code ≡ 22 → (j : ℕ) → 0 < j → j < end_of S 0 → is_flat S j ≡ true
    kids_flat e f j l h =
        let g : flat_below S ≡ true = rw (eq-eqb (code_of S 0) 22 (sym e ∙ f)) at is in
        let z : suc (j - 1) ≡ j = omega arith in
        subst (λ v. is_flat S v ≡ true) z (every_at flat_from (end_of S 0 - 1) g (j - 1) (omega arith))

    pub list_is : {code : ℕ} → code ≡ code_of S 0 → (code ≡ 22 → ⊥) → is_listed S 7 0 ≡ true
    list_is e f = rw (ne_eqb (code_of S 0) 22 (λ z. f (e ∙ z))) at is

-- ---- its data

pub offset_same : (w v s : ℕ) → half w ≤ top → ltb (grown v s) (half w) ≡ ltb (v + s) (half w)
unfolding grown
offset_same w v s h = go (ltb (v + s) (half w)) refl
  where
    go : (t : Bool) → ltb (v + s) (half w) ≡ t → ltb (min (v + s) top) (half w) ≡ t
    go true e = let l = ltb-true (v + s) (half w) e in lt-ltb (min (v + s) top) (half w) (omega arith)
    go false e = let l = ltb-false (v + s) (half w) e in le-ltb (min (v + s) top) (half w) (omega arith)

-- offsets of 4 or 8 bytes
pub half_most : (w : ℕ) → ((w ≡ 4 → ⊥) → w ≡ 8) → half w ≤ far
half_most w h = go (eqb w 4) refl
  where
    go : (t : Bool) → eqb w 4 ≡ t → half w ≤ far
    go true e = rw (eqb-true w 4 e) (omega arith)
    go false e = rw (h (eqb-false w 4 e)) (omega arith)

-- both buffers stand in the body
pub pairs_within : (x : Join) (i w slot n : ℕ) {s : Bool} → s ≡ (rows_in x (place x i 3) w slot n && rows_in x (place x i 5) w slot n) → not s ≡ false
    → (place x i 3 + w * (slot + n) ≤ length x.body) × (place x i 5 + w * (slot + n) ≤ length x.body)
unfolding rows_in
pairs_within x i w slot n e h = (
  leb-true (place x i 3 + w * (slot + n)) (length x.body) (and_left _ (leb (place x i 5 + w * (slot + n)) (length x.body)) (yes e h)),
  leb-true (place x i 5 + w * (slot + n)) (length x.body) (and_right (leb (place x i 3 + w * (slot + n)) (length x.body)) _ (yes e h)),
)

-- a sum that is an offset is the sum itself
pub sum_parts : (x : Join) (i w slot n : ℕ) {at k sum : ℕ} {t : Bool} → half w ≤ far → at ≡ place x i 5 → sum ≡ grown k (sum_of (λ y. entry w x.body at (slot + y)) n) → t ≡ ltb sum (half w) → not t ≡ false
    → (k + sum_of (λ y. entry w x.body at (slot + y)) n < far) × (k ≤ sum) × (sum_of (λ y. entry w x.body (place x i 5) (slot + y)) n < far) × (sum - k ≡ sum_of (λ y. entry w x.body (place x i 5) (slot + y)) n)
unfolding grown
sum_parts x i w slot n {at} {k} {sum} {t} big p u v l =
    let y : sum < half w = ltb-true sum (half w) (yes v l) in
    let z : sum_of (λ y. entry w x.body at (slot + y)) n ≡ sum_of (λ y. entry w x.body (place x i 5) (slot + y)) n = ap (λ z. sum_of (λ y. entry w x.body z (slot + y)) n) p in
    (omega arith, omega arith, omega arith, omega arith)

module _ (x : Join) (child : Walk) (i w slot n : ℕ) (wr : Bool) (c room : List ℕ) where
  abbrev size : ℕ → ℕ
  size r = entry w x.body (place x i 5) (slot + r)

  abbrev List-view : Out
  List-view = batch_list_view x child w i slot n c

  module _ {r : Bool} (e : r ≡ (ltb (suc i) 32 && (owned x.plan i && owned x.plan (suc i)))) where
    pub list_childless : not r ≡ true → Did x.plan x.parts wr List-view room 12 c room
    unfolding batch_list_view
    list_childless h = need_no _ (no e h)

    module _ (h : not r ≡ false) {s : Bool} (f : s ≡ (rows_in x (place x i 3) w slot n && rows_in x (place x i 5) w slot n)) where
      pub list_short : not s ≡ true → Did x.plan x.parts wr List-view room 12 c room
      unfolding batch_list_view
      list_short g = need_ok 12 c (yes e h) (need_no _ (no f g))

      module _ (g : not s ≡ false) (big : half w ≤ top) {at k sum : ℕ} {t : Bool} (p : at ≡ place x i 5) (q : k ≡ rows c (suc i)) (u : sum ≡ grown k (sum_of (λ y. entry w x.body at (slot + y)) n)) (v : t ≡ ltb sum (half w)) where
        fits_as : t ≡ ltb (rows c (suc i) + sum_of size n) (half w)
        fits_as =
            let m : sum ≡ grown (rows c (suc i)) (sum_of size n) = u ∙ ap (λ z. grown z (sum_of (λ y. entry w x.body at (slot + y)) n)) q ∙ ap (λ z. grown (rows c (suc i)) (sum_of (λ y. entry w x.body z (slot + y)) n)) p in
            v ∙ ap (λ z. ltb z (half w)) m ∙ offset_same w (rows c (suc i)) (sum_of size n) big

        pub list_over : not t ≡ true → Did x.plan x.parts wr List-view room 6 c room
        unfolding batch_list_view
        list_over l = need_ok 12 c (yes e h) (need_ok 12 c (yes f g) (need_no _ (no fits_as l)))

        pub sum_fits : not t ≡ false → rows c (suc i) + sum_of size n < half w
        sum_fits l = ltb-true _ _ (yes fits_as l)

        pub list_goes : not t ≡ false → length room < top → {o j : ℕ} {room1 room2 : List ℕ} {a : ℕ} {c2 room3 : List ℕ} → j ≡ rows c i → o ≡ scaled j w
            → room1 ≡ apply_if x.plan x.parts wr (put i 1 o (numbers w (λ r. k + sum_of (λ y. entry w x.body at (slot + y)) r) n) ∷ []) room → length room1 < top
            → room2 ≡ apply_if x.plan x.parts wr (put i 2 o (take (w * n) (drop (at + w * slot) x.body)) ∷ []) room1
            → Did x.plan x.parts wr (stretches (λ a m d. child (suc i) a m d) (λ r. entry w x.body (place x i 3) (slot + r)) size n c) room2 a c2 room3
            → Did x.plan x.parts wr List-view room a c2 room3
        unfolding batch_list_view
        list_goes l small {o} {j} {room1} {room2} m y one small1 two d =
            let one2 : room1 ≡ apply_if x.plan x.parts wr (put i 1 o (numbers w (λ r. rows c (suc i) + sum_of size r) n) ∷ []) room =
            one ∙ ap (λ z. apply_if x.plan x.parts wr (put i 1 o (numbers w (λ r. z + sum_of (λ y. entry w x.body at (slot + y)) r) n) ∷ []) room) q
            ∙ ap (λ z. apply_if x.plan x.parts wr (put i 1 o (numbers w (λ r. rows c (suc i) + sum_of (λ y. entry w x.body z (slot + y)) r) n) ∷ []) room) p in
            let two2 : room2 ≡ apply_if x.plan x.parts wr (put i 2 o (take (w * n) (drop (place x i 5 + w * slot) x.body)) ∷ []) room1 =
            two ∙ ap (λ z. apply_if x.plan x.parts wr (put i 2 o (take (w * n) (drop (z + w * slot) x.body)) ∷ []) room1) p in
            need_ok 12 c (yes e h) (need_ok 12 c (yes f g) (need_ok 6 c (yes fits_as l)
            (next_ok _ (wrote_at x.plan x.parts wr i 1 (rows c i) w (numbers w (λ r. rows c (suc i) + sum_of size r) n) c room m y small one2) refl
            (next_ok _ (wrote_at x.plan x.parts wr i 2 (rows c i) w (take (w * n) (drop (place x i 5 + w * slot) x.body)) c room1 m y small1 two2) refl d))))

-- ---- the whole node

done_next : (c : List ℕ) (f : List ℕ → Out) → next (done c) f ≡ f c
unfolding next done
done_next c f = refl

module _ (x : Join) (child : Walk) (k : ℕ) where
  abbrev C : ℕ
  C = code_of x.plan k

  -- its validity: none is written
  abbrev pub Maskless : Type 0
  Maskless = (slot n : ℕ) (c : List ℕ) → cond (masked C) (copy_mask x k slot n c) (done c) ≡ done c

  module _ (within : k < 32) (mask : Maskless) where
    slots_is : (n : ℕ) (c : List ℕ) (slot : ℕ) → batch_slots x child k slot n c ≡ next (batch_data x child C k slot n c) (λ c2. done (add_rows k n c2))
    unfolding batch_slots
    slots_is n c slot =
        ap (λ o. next o (λ c2. next (batch_data x child C k slot n c2) (λ c3. done (add_rows k n c3)))) (mask slot n c)
        ∙ done_next c (λ c2. next (batch_data x child C k slot n c2) (λ c3. done (add_rows k n c3)))

    node_is : (a n : ℕ) (c : List ℕ) → batch_node x child k a n c ≡ found far (slot_of x k a n) 12 c (λ slot. next (batch_data x child C k slot n c) (λ c2. done (add_rows k n c2)))
    unfolding batch_node
    node_is a n c =
        need_is 12 c (found far (slot_of x k a n) 12 c (λ slot. batch_slots x child k slot n c)) (lt-ltb k 32 within)
        ∙ ap (found far (slot_of x k a n) 12 c) (fun_ext (λ slot. slots_is n c slot))

    module _ (a n : ℕ) (wr : Bool) (c room : List ℕ) {s : ℕ} (e : s ≡ slot_of x k a n) where
      pub node_far : far ≤ s → Did x.plan x.parts wr (batch_node x child k a n c) room 12 c room
      node_far h = rw (node_is a n c) (found_no _ e h)

      module _ (h : s < far) {g : ℕ} {c2 room2 : List ℕ} (d : Did x.plan x.parts wr (batch_data x child C k s n c) room g c2 room2) where
        pub node_stop : (g ≡ 0 → ⊥) → Did x.plan x.parts wr (batch_node x child k a n c) room g c2 room2
        node_stop l = rw (node_is a n c) (found_ok 12 c _ e h (next_no _ d l))

        pub node_done : g ≡ 0 → {c3 : List ℕ} → c3 ≡ add_rows k n c2 → Did x.plan x.parts wr (batch_node x child k a n c) room 0 c3 room2
        node_done l q = rw (node_is a n c) (found_ok 12 c _ e h (next_ok _ d l (rw q (done_did wr _ room2))))

-- ---- a dense union, which is a root

module _ (x : Join) (is : code_of x.plan 0 ≡ 22) where
  pub dense_mask : (child : Walk) → Maskless x child 0
  unfolding copy_mask
  dense_mask child slot n c = rw (le-ltb (code_of x.plan 0) 21 (omega arith)) refl

  pub data_dense : (child : Walk) {wr : Bool} (slot n : ℕ) (c : List ℕ) {room : List ℕ} {g : ℕ} {c2 room2 : List ℕ} → Did x.plan x.parts wr (batch_dense x (batch_leaf x) 0 slot n c) room g c2 room2
      → Did x.plan x.parts wr (batch_data x child (code_of x.plan 0) 0 slot n c) room g c2 room2
  unfolding batch_data
  data_dense child slot n c d = rw is d

-- the walk is its root's
pub walk_is : (x : Join) (i a n : ℕ) (c : List ℕ) → batch_walk_of x i a n c ≡ batch_node x (batch_below x 6) i a n c
unfolding batch_walk_of
walk_is x i a n c = refl
