-- A dense union that stands by stretches of its children: what the code does, step by step. Assumes nothing.
use mathlib.Core.Path.{◌≡◌, refl, ap, subst, fun_ext, ◌∙◌}
use mathlib.Core.Bool.{Bool, true, false, not, ◌&&◌}
use mathlib.Core.List.{List, ◌∷◌, []}
use Prim.Native.Nat.{ℕ, zero, suc, ◌+◌, ◌*◌, ◌≤◌, ◌<◌}
use native.Mathlib.Omega.{arith}
use lib.ListN.{length, take, drop, get_or}
use lib.Dec.{leb, ltb}
use borrow.Author.Tests.{lt-ltb, le-ltb, leb-true}
use Rattle.array_data.proofs.lent_tables.Laws.{no, yes}
use Rattle.number.specs.Number.{entry}
use Rattle.utils.specs.Pieces.{numbers}
use Rattle.walk.specs.State.{Join, end_of, rows, scaled, top, place, rows_in}
use Rattle.walk.specs.Log.{Out, Did, put, apply_if}
use Rattle.walk.specs.Copy.{child_with, position_at}
use Rattle.walk.proofs.Laws.{done_did, wrote_did, need_no, need_ok, next_no, next_ok}
use Rattle.leaf_walk.proofs.Laws.{wrote_at}
use Rattle.batch.specs.Stretch.{stretches}
use Rattle.batch.specs.Rise.{owned}
use Rattle.batch.specs.Dense.{home, takes, takes_at, lands_at, batch_fields, batch_dense}
use Rattle.batch.specs.Batch.{batch_leaf}
use Rattle.batch.proofs.Stretches.{and_left, and_right}
use Rattle.batch.specs.batch_walk.Fall.{Homed, home_by, takes_of, takes_from, lands_by, all_land}

-- homes and positions by another name
pub child_same : {S P : List ℕ} {wr : Bool} (walk : ℕ → ℕ → List ℕ → Out) (k n : ℕ) (c : List ℕ) {h h2 p p2 : ℕ → ℕ} → h ≡ h2 → p ≡ p2 → {room : List ℕ} {g : ℕ} {c1 room1 : List ℕ}
    → Did S P wr (stretches walk (takes_from h p k) (takes_of h k) n c) room g c1 room1 → Did S P wr (stretches walk (takes_from h2 p2 k) (takes_of h2 k) n c) room g c1 room1
child_same {S} {P} {wr} walk k n c {h} {h2} {p} {p2} e f {room} {g} {c1} {room1} d =
    subst (λ y. Did S P wr (stretches walk (takes_from h2 y k) (takes_of h2 k) n c) room g c1 room1) f
    (subst (λ y. Did S P wr (stretches walk (takes_from y p k) (takes_of y k) n c) room g c1 room1) e d)

module _ (x : Join) (i slot : ℕ) where
  pub homes_same : (homes : List ℕ) → Homed x.plan i homes → ((q : ℕ) → get_or x.body q 0 < 256) → {ids : ℕ} → ids ≡ place x i 3
      → ◌≡◌ {A = ℕ → ℕ} (λ r. home_by homes x.body (ids + (slot + r))) (λ r. home x (batch_leaf x) i slot r)
  homes_same homes h small {ids} e =
      fun_ext (λ r. h (get_or x.body (ids + (slot + r)) 0) (small (ids + (slot + r))) ∙ ap (λ v. child_with x.plan (get_or x.body (v + (slot + r)) 0) (end_of x.plan i) 32 (suc i)) e)

  pub positions_same : {positions : ℕ} → positions ≡ place x i 5 → ◌≡◌ {A = ℕ → ℕ} (λ r. entry 4 x.body positions (slot + r)) (λ r. position_at x (batch_leaf x) i (slot + r))
  positions_same e = ap (λ v. λ r. entry 4 x.body v (slot + r)) e

  module _ (n : ℕ) (wr : Bool) where
    -- ---- one child after the other

    abbrev Fields : ℕ → ℕ → ℕ → List ℕ → Out
    Fields end f k c = batch_fields x (batch_leaf x) i slot n end f k c

    abbrev One : ℕ → List ℕ → Out
    One k c = stretches (λ a m d. batch_leaf x k a m d) (takes_at x (batch_leaf x) i slot k) (takes x (batch_leaf x) i slot k) n c

    module _ (c room : List ℕ) where
      pub fields_none : (end f k : ℕ) → f ≡ 0 → Did x.plan x.parts wr (Fields end f k c) room 0 c room
      unfolding batch_fields
      fields_none end f k e = rw e (done_did wr c room)

      pub fields_end : (end f k : ℕ) → end ≤ k → Did x.plan x.parts wr (Fields end f k c) room 0 c room
      unfolding batch_fields
      fields_end end zero k h = done_did wr c room
      fields_end end (suc f) k h = rw (le-ltb k end h) (done_did wr c room)

      module _ (end f k : ℕ) {f2 : ℕ} (e : f ≡ suc f2) (more : k < end) {v : ℕ} (next_is : v ≡ end_of x.plan k) where
        pub fields_turned : v ≤ k → Did x.plan x.parts wr (Fields end f k c) room 12 c room
        unfolding batch_fields
        fields_turned h =
            let g : ltb k (end_of x.plan k) ≡ false = le-ltb k (end_of x.plan k) (subst (λ y. y ≤ k) next_is h) in
            rw (e, lt-ltb k end more) (need_no _ (rw g refl))

        module _ (on : k < v) {t : Bool} (has : t ≡ owned x.plan k) where
          rises : ltb k (end_of x.plan k) ≡ true
          rises = lt-ltb k (end_of x.plan k) (subst (λ y. k < y) next_is on)

          pub fields_bare : not t ≡ true → Did x.plan x.parts wr (Fields end f k c) room 12 c room
          unfolding batch_fields
          fields_bare h = rw (e, lt-ltb k end more) (need_no _ (rw rises (no has h)))

          module _ (h : not t ≡ false) {g : ℕ} {c1 room1 : List ℕ} (d : Did x.plan x.parts wr (One k c) room g c1 room1) where
            pub fields_stop : (g ≡ 0 → ⊥) → Did x.plan x.parts wr (Fields end f k c) room g c1 room1
            unfolding batch_fields
            fields_stop l = rw (e, lt-ltb k end more) (need_ok 12 c (rw rises (yes has h)) (next_no _ d l))

            pub fields_more : g ≡ 0 → {g2 : ℕ} {c2 room2 : List ℕ} → Did x.plan x.parts wr (Fields end f2 v c1) room1 g2 c2 room2 → Did x.plan x.parts wr (Fields end f k c) room g2 c2 room2
            unfolding batch_fields
            fields_more l {g2} {c2} {room2} m =
                let m2 : Did x.plan x.parts wr (Fields end f2 (end_of x.plan k) c1) room1 g2 c2 room2 = subst (λ y. Did x.plan x.parts wr (Fields end f2 y c1) room1 g2 c2 room2) next_is m in
                rw (e, lt-ltb k end more) (need_ok 12 c (rw rises (yes has h)) (next_ok _ d l m2))

      -- ---- the node

      abbrev Dense : Out
      Dense = batch_dense x (batch_leaf x) i slot n c

      module _ {r : Bool} (e : r ≡ owned x.plan i) where
        pub dense_bare : not r ≡ true → Did x.plan x.parts wr Dense room 12 c room
        unfolding batch_dense
        dense_bare h = need_no _ (no e h)

        module _ (h : not r ≡ false) {s : Bool} (f : s ≡ (rows_in x (place x i 3) 1 slot n && rows_in x (place x i 5) 4 slot n)) where
          pub dense_short : not s ≡ true → Did x.plan x.parts wr Dense room 12 c room
          unfolding batch_dense
          dense_short g = need_ok 12 c (yes e h) (need_no _ (no f g))

          module _ (g : not s ≡ false) {hm : ℕ → ℕ} (same : hm ≡ (λ r. home x (batch_leaf x) i slot r)) {t : Bool} (sound : t ≡ all_land hm c n) where
            lands : t ≡ all_land (λ r. home x (batch_leaf x) i slot r) c n
            lands = sound ∙ ap (λ y. all_land y c n) same

            pub dense_astray : not t ≡ true → Did x.plan x.parts wr Dense room 12 c room
            unfolding batch_dense
            dense_astray l = need_ok 12 c (yes e h) (need_ok 12 c (yes f g) (need_no _ (no lands l)))

            pub dense_goes : not t ≡ false → {ids o j : ℕ} {room1 room2 : List ℕ} {a : ℕ} {c2 room3 : List ℕ} → ids ≡ place x i 3 → j ≡ rows c i → o ≡ scaled j 4
                → room1 ≡ apply_if x.plan x.parts wr (put i 1 j (take n (drop (ids + slot) x.body)) ∷ []) room → length room1 < top
                → room2 ≡ apply_if x.plan x.parts wr (put i 2 o (numbers 4 (lands_by hm c) n) ∷ []) room1
                → Did x.plan x.parts wr (Fields (end_of x.plan i) 32 (suc i) c) room2 a c2 room3
                → Did x.plan x.parts wr Dense room a c2 room3
            unfolding batch_dense
            dense_goes l {ids} {o} {j} {room1} {room2} p q y one small two d =
                let one2 : room1 ≡ apply_if x.plan x.parts wr (put i 1 (rows c i) (take n (drop (place x i 3 + slot) x.body)) ∷ []) room =
                one ∙ ap (λ z. apply_if x.plan x.parts wr (put i 1 z (take n (drop (ids + slot) x.body)) ∷ []) room) q
                ∙ ap (λ z. apply_if x.plan x.parts wr (put i 1 (rows c i) (take n (drop (z + slot) x.body)) ∷ []) room) p in
                let two2 : room2 ≡ apply_if x.plan x.parts wr (put i 2 o (numbers 4 (lands_by (λ r. home x (batch_leaf x) i slot r) c) n) ∷ []) room1 =
                two ∙ ap (λ z. apply_if x.plan x.parts wr (put i 2 o (numbers 4 (lands_by z c) n) ∷ []) room1) same in
                need_ok 12 c (yes e h) (need_ok 12 c (yes f g) (need_ok 12 c (yes lands l)
                (next_ok _ (wrote_did wr _ c room room1 one2) refl
                (next_ok _ (wrote_at x.plan x.parts wr i 2 (rows c i) 4 (numbers 4 (lands_at x (batch_leaf x) i slot c) n) c room1 q y small two2) refl d))))

-- both buffers stand in the body
pub dense_within : (x : Join) (i slot n : ℕ) {s : Bool} {ids positions : ℕ} → s ≡ (rows_in x (place x i 3) 1 slot n && rows_in x (place x i 5) 4 slot n) → not s ≡ false → ids ≡ place x i 3 → positions ≡ place x i 5
    → (ids + (slot + n) ≤ length x.body) × (positions + 4 * (slot + n) ≤ length x.body)
unfolding rows_in
dense_within x i slot n {s} {ids} {positions} e h p q =
    let a = leb-true (place x i 3 + 1 * (slot + n)) (length x.body) (and_left _ (leb (place x i 5 + 4 * (slot + n)) (length x.body)) (yes e h)) in
    let b = leb-true (place x i 5 + 4 * (slot + n)) (length x.body) (and_right (leb (place x i 3 + 1 * (slot + n)) (length x.body)) _ (yes e h)) in
    (omega arith, omega arith)
