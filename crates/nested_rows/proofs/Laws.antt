-- The walk's steps at a node with children, by the ways that the code goes. Assumes nothing.
use mathlib.Core.Path.{◌≡◌, refl, sym, ap, ◌∙◌}
use mathlib.Core.Bool.{Bool, true, false, not, cond, ◌&&◌}
use mathlib.Core.List.{List, [], ◌∷◌}
use Prim.Native.Nat.{ℕ, suc, ◌+◌, ◌-◌, ◌*◌, ◌≤◌, ◌<◌, min}
use native.Mathlib.Nat.{mul-le-mul_right}
use native.Mathlib.Omega.{arith}
use lib.ListN.{length, get_or, replicate}
use lib.Dec.{ltb, leb, eqb}
use borrow.Author.Tests.{lt-ltb, le-ltb, le-leb, lt-leb, ltb-true, ltb-false, eqb-true, eqb-false, ne_eqb}
use Rattle.number.specs.Number.{encode, entry}
use Rattle.columnar.specs.Types.{half}
use Rattle.utils.specs.Offsets.{counted_up}
use Rattle.run_ends.specs.Lookup.{found_run, runs_of}
use Rattle.run_ends.specs.Clip.{clipped}
use Rattle.std.specs.Prelude.{Option}
use Rattle.run_ends.specs.declared.RunRange.{RunRange}
use Rattle.array_data.proofs.lent_tables.Laws.{no, yes, and_left, and_right}
use Rattle.walk.specs.State.{Join, bytes_of, end_of, id_of, rows, bytes, add_rows, set_bytes, end_gap, begin_gap, place, length_of, offset_of, rows_in, scaled, grown, top}
use Rattle.walk.specs.Log.{Entry, Out, Did, put, amend, enter, apply, apply_if, wrote, need, next}
use Rattle.walk.specs.Copy.{Walk, is_width, list_view_row, dense_to, id_at, position_at, runs_at}
use Rattle.walk.specs.Nulls.{nullable_child, no_home}
use Rattle.walk.proofs.Laws.{done_did, wrote_did, need_no, need_ok, next_no, next_ok, next_need, next_wrote}
use Rattle.room_writes.proofs.Laws.{Alike, alike_grown}
use Rattle.leaf_walk.proofs.Laws.{wrote_alike, wrote_at, wrote_behind}
use Rattle.nested_rows.specs.Numbers.{list_numbers, dense_numbers, runs_ready, run_numbers, null_ids, null_positions, null_end, longer_end}

over_same : (plan parts : List ℕ) (w : Bool) (i b o : ℕ) (bs room : List ℕ) → apply_if plan parts w (put i b o bs ∷ []) room ≡ apply_if plan parts w (amend i b o bs ∷ []) room
unfolding apply_if apply enter
over_same plan parts true i b o bs room = refl
over_same plan parts false i b o bs room = refl

-- a write over bytes is made as one behind them
pub amend_did : {plan parts : List ℕ} {wr : Bool} (i b o : ℕ) (bs c : List ℕ) {room room2 : List ℕ} → Did plan parts wr (wrote (put i b o bs) c) room 0 c room2
    → Did plan parts wr (wrote (amend i b o bs) c) room 0 c room2
unfolding wrote
amend_did {plan} {parts} {wr} i b o bs c {room} d = record { answer = d.answer; counters = d.counters; bytes = d.bytes ∙ over_same plan parts wr i b o bs room }

-- ---- the steps that a function takes together, and a child's walk behind them

pub then_child : (b : Bool) (g : ℕ) (e : Entry) (c : List ℕ) (f k : List ℕ → Out) → (g ≡ 0 → ⊥)
    → next (need b g c (next (wrote e c) f)) k ≡ need b g c (next (wrote e c) (λ c2. next (f c2) k))
then_child b g e c f k h = sym (next_need b g c (next (wrote e c) f) k h) ∙ sym (ap (need b g c) (next_wrote e c f k))

module _ (x : Join) (child : Walk) (i slot r : ℕ) (c : List ℕ) where
  pub list_row_is : (w : ℕ) → next (list_numbers w i r (entry w x.body (place x i 5) (slot + r)) c)
      (λ c2. child (suc i) (entry w x.body (place x i 3) (slot + r)) (entry w x.body (place x i 5) (slot + r)) c2)
      ≡ list_view_row x child w i slot r c
  unfolding list_view_row list_numbers
  list_row_is w = then_child _ 6 _ c _ _ (λ z. omega arith)

  pub dense_row_is : (k : ℕ) → next (dense_numbers i r k (id_at x child i (slot + r)) c) (λ c2. child k (position_at x child i (slot + r)) 1 c2) ≡ dense_to x child i slot r k c
  unfolding dense_to dense_numbers
  dense_row_is k = then_child _ 6 _ c _ _ (λ z. omega arith)

-- ---- widths and sums

module _ (w v n : ℕ) where
  pub sum_fits : {s : ℕ} (b : ℕ) → b ≡ half w → b ≤ 9223372036854775808 → s ≡ grown v n → ltb s b ≡ ltb (v + n) (half w)
  unfolding grown
  sum_fits {s} b e h f = rw (← e) (go (ltb (v + n) b) refl)
    where
      go : (t : Bool) → ltb (v + n) b ≡ t → ltb s b ≡ ltb (v + n) b
      go true q = lt-ltb s b (omega (arith, f, ltb-true (v + n) b q)) ∙ sym q
      go false q = le-ltb s b (omega (arith, f, ltb-false (v + n) b q)) ∙ sym q

pub ends_ready : (i w : ℕ) {t : Bool} → t ≡ (ltb (suc (suc i)) 32 && is_width w) → not t ≡ false → (i + 2 < 32) × ((w ≡ 2 → ⊥) → (w ≡ 4 → ⊥) → w ≡ 8)
unfolding is_width
ends_ready i w e h =
    let l : suc (suc i) < 32 = ltb-true _ _ (and_left (ltb (suc (suc i)) 32) _ (yes e h)) in
    (omega arith, λ a b. eqb-true w 8 (rw (ne_eqb w 2 a, ne_eqb w 4 b) at (and_right (ltb (suc (suc i)) 32) _ (yes e h))))

pub two_wide : (w : ℕ) → w ≡ 2 → true ≡ is_width w
unfolding is_width
two_wide w e = rw e

pub four_wide : (w : ℕ) → w ≡ 4 → true ≡ is_width w
unfolding is_width
four_wide w e = rw e

pub else_wide : (w : ℕ) → (w ≡ 2 → ⊥) → (w ≡ 4 → ⊥) → eqb w 8 ≡ is_width w
unfolding is_width
else_wide w a b = rw (ne_eqb w 2 a, ne_eqb w 4 b)

pub ends_far : (i : ℕ) (t : Bool) → 30 ≤ i → false ≡ (ltb (suc (suc i)) 32 && t)
ends_far i t h = rw (le-ltb (suc (suc i)) 32 (omega arith))

pub ends_near : (i : ℕ) {w j : ℕ} {t : Bool} (plan : List ℕ) → i < 30 → j ≡ suc i → w ≡ bytes_of plan j → t ≡ is_width w → t ≡ (ltb (suc (suc i)) 32 && is_width (bytes_of plan (suc i)))
ends_near i plan h e f g = rw (lt-ltb (suc (suc i)) 32 (omega arith)) (g ∙ ap is_width (f ∙ ap (λ (z : ℕ). bytes_of plan z) e))

pub wide_in : (w : ℕ) → ((w ≡ 2 → ⊥) → (w ≡ 4 → ⊥) → w ≡ 8) → (2 ≤ w) × (w ≤ 8)
wide_in w h = go (eqb w 2) (eqb w 4) refl refl
  where
    go : (t u : Bool) → eqb w 2 ≡ t → eqb w 4 ≡ u → (2 ≤ w) × (w ≤ 8)
    go true u e f = omega (arith, eqb-true w 2 e)
    go false true e f = omega (arith, eqb-true w 4 f)
    go false false e f = omega (arith, h (eqb-false w 2 e) (eqb-false w 4 f))

pub half_top : (w : ℕ) → ((w ≡ 2 → ⊥) → (w ≡ 4 → ⊥) → w ≡ 8) → half w ≤ 9223372036854775808
half_top w h = go (eqb w 2) (eqb w 4) refl refl
  where
    go : (t u : Bool) → eqb w 2 ≡ t → eqb w 4 ≡ u → half w ≤ 9223372036854775808
    go true u e f = rw (eqb-true w 2 e) (omega arith)
    go false true e f = rw (eqb-true w 4 f) (omega arith)
    go false false e f = rw (h (eqb-false w 2 e) (eqb-false w 4 f)) (omega arith)

module _ (plan parts : List ℕ) (wr : Bool) (i : ℕ) (c room : List ℕ) where
  -- ---- list-views

  module _ (w r size : ℕ) where
    pub list_no : {j off : ℕ} {t : Bool} → j ≡ suc i → off ≡ rows c j → t ≡ ltb (off + size) (half w) → not t ≡ true → Did plan parts wr (list_numbers w i r size c) room 6 c room
    unfolding list_numbers
    list_no e f g h = need_no _ (rw (f, e) at (no g h))

    pub list_yes : {j off o p q : ℕ} {t : Bool} {room1 room2 : List ℕ} → j ≡ suc i → off ≡ rows c j → t ≡ ltb (off + size) (half w) → not t ≡ false
        → p ≡ rows c i → q ≡ grown p r → o ≡ scaled q w → 1 ≤ w → length room < top → length room1 < top → room1 ≡ apply_if plan parts wr (put i 1 o (encode w off) ∷ []) room
        → room2 ≡ apply_if plan parts wr (put i 2 o (encode w size) ∷ []) room1 → Did plan parts wr (list_numbers w i r size c) room 0 c room2
    unfolding list_numbers
    list_yes {room1 = room1} e f g h k l m s y z a b =
        need_ok 6 c (rw (f, e) at (yes g h))
        (next_ok _ (wrote_behind plan parts wr i 1 (rows c i) r w (encode w (rows c (suc i))) c room k l m s y (rw (f, e) at a)) refl
        (wrote_behind plan parts wr i 2 (rows c i) r w (encode w size) c room1 k l m s z b))

  -- ---- dense unions

  module _ (r k id : ℕ) where
    pub dense_no : {p : ℕ} → p ≡ rows c k → half 4 ≤ p → Did plan parts wr (dense_numbers i r k id c) room 6 c room
    unfolding dense_numbers
    dense_no e h = need_no _ (le-ltb (rows c k) (half 4) (rw e at h))

    pub dense_yes : {o p q v : ℕ} {room1 room2 : List ℕ} → v ≡ rows c k → v < half 4 → p ≡ rows c i → q ≡ grown p r → o ≡ scaled q 4 → length room < top → length room1 < top
        → room1 ≡ apply_if plan parts wr (put i 1 q (replicate 1 id) ∷ []) room → room2 ≡ apply_if plan parts wr (put i 2 o (encode 4 v) ∷ []) room1
        → Did plan parts wr (dense_numbers i r k id c) room 0 c room2
    unfolding dense_numbers
    dense_yes {q = q} {room1 = room1} e h l m s x y a b =
        let z : Alike q (rows c i + r) = rw (m, l) (alike_grown (rows c i) r) in
        need_ok 6 c (lt-ltb (rows c k) (half 4) (rw e at h))
        (next_ok _ (wrote_alike plan parts wr i 1 q (rows c i + r) (id ∷ []) c room x z a) refl
        (wrote_behind plan parts wr i 2 (rows c i) r 4 (encode 4 (rows c k)) c room1 l m s (omega arith) y (rw e at b)))

  -- ---- nulls of unions

  module _ (h n : ℕ) where
    pub ids_did : {o v : ℕ} {room2 : List ℕ} → o ≡ rows c i → v ≡ id_of plan h → room2 ≡ apply_if plan parts wr (put i 1 o (replicate n v) ∷ []) room
        → Did plan parts wr (null_ids plan i h n c) room 0 c room2
    ids_did e f g = wrote_did wr _ c room _ (rw (e, f) at g)

    pub positions_no : {p q : ℕ} → p ≡ rows c h → q ≡ grown p n → half 4 < q → Did plan parts wr (null_positions plan i h n c) room 6 c room
    unfolding null_positions grown
    positions_no e f g = need_no _ (lt-leb (rows c h + n) (half 4) (omega (arith, e, f)))

    pub positions_stop : {p q r : ℕ} {room1 : List ℕ} → p ≡ rows c h → q ≡ grown p n → q ≤ half 4 → Did plan parts wr (null_ids plan i h n c) room r c room1 → (r ≡ 0 → ⊥)
        → Did plan parts wr (null_positions plan i h n c) room r c room1
    unfolding null_positions grown
    positions_stop e f g d z = need_ok 6 c (le-leb (rows c h + n) (half 4) (omega (arith, e, f))) (next_no _ d z)

    pub positions_yes : {o p q r v : ℕ} {room1 room2 : List ℕ} → p ≡ rows c h → q ≡ grown p n → q ≤ half 4 → Did plan parts wr (null_ids plan i h n c) room r c room1 → r ≡ 0
        → v ≡ rows c i → o ≡ scaled v 4 → length room1 < top → room2 ≡ apply_if plan parts wr (put i 2 o (counted_up 4 p n) ∷ []) room1 → Did plan parts wr (null_positions plan i h n c) room 0 c room2
    unfolding null_positions grown
    positions_yes {room1 = room1} e f g d z k l s m =
        need_ok 6 c (le-leb (rows c h + n) (half 4) (omega (arith, e, f)))
        (next_ok _ d z (wrote_at plan parts wr i 2 (rows c i) 4 (counted_up 4 (rows c h) n) c room1 k l s (rw e at m)))

  -- ---- the run of nulls

  module _ (n : ℕ) where
    pub end_no : {j p w : ℕ} {t : Bool} → j ≡ suc i → w ≡ bytes_of plan j → p ≡ rows c i → t ≡ ltb (p + n) (half w) → not t ≡ true → Did plan parts wr (null_end plan i n c) room 7 c room
    unfolding null_end
    end_no e f g h k = need_no _ (rw (g, f, e) at (no h k))

    pub end_yes : {j o p v w : ℕ} {t : Bool} {c2 room2 : List ℕ} → j ≡ suc i → w ≡ bytes_of plan j → p ≡ rows c i → t ≡ ltb (p + n) (half w) → not t ≡ false
        → v ≡ rows c j → o ≡ scaled v w → length room < top → room2 ≡ apply_if plan parts wr (put j 1 o (encode w (p + n)) ∷ []) room → c2 ≡ begin_gap i (add_rows (suc i) 1 c) → Did plan parts wr (null_end plan i n c) room 0 c2 room2
    unfolding null_end
    end_yes {room2 = room2} e f g h k l m s a b =
        let y = f ∙ ap (λ (z : ℕ). bytes_of plan z) e in
        need_ok 7 c (rw (g, y) at (yes h k))
        (next_ok _ (wrote_at plan parts wr (suc i) 1 (rows c (suc i)) (bytes_of plan (suc i)) (encode (bytes_of plan (suc i)) (rows c i + n)) c room (l ∙ ap (λ (z : ℕ). rows c z) e) (rw y at m) s (rw (g, y, e) at a)) refl
        (rw b (done_did wr _ room2)))

    pub longer_none : {j r : ℕ} → j ≡ suc i → r ≡ rows c j → r ≡ 0 → Did plan parts wr (longer_end plan i n c) room 12 c room
    unfolding longer_end
    longer_none e f z = need_no _ (lt-leb 1 (rows c (suc i)) (omega (arith, f, ap (λ (z : ℕ). rows c z) e)))

    module _ {j r : ℕ} (e : j ≡ suc i) (l : r ≡ rows c j) (some : r ≡ 0 → ⊥) where
      is_some : leb 1 (rows c (suc i)) ≡ true
      is_some = le-leb 1 (rows c (suc i)) (omega (arith, l, ap (λ (z : ℕ). rows c z) e))

      pub longer_no : {p w : ℕ} {t : Bool} → w ≡ bytes_of plan j → p ≡ rows c i → t ≡ ltb (p + n) (half w) → not t ≡ true → Did plan parts wr (longer_end plan i n c) room 7 c room
      unfolding longer_end
      longer_no f g h k = need_ok 12 c is_some (need_no _ (rw (g, f, e) at (no h k)))

      pub longer_yes : {o p w : ℕ} {t : Bool} {room2 : List ℕ} → w ≡ bytes_of plan j → p ≡ rows c i → t ≡ ltb (p + n) (half w) → not t ≡ false
          → o ≡ scaled (r - 1) w → length room < top → room2 ≡ apply_if plan parts wr (put j 1 o (encode w (p + n)) ∷ []) room → Did plan parts wr (longer_end plan i n c) room 0 c room2
      unfolding longer_end
      longer_yes {room2 = room2} f g h k m s a =
          let y = f ∙ ap (λ (z : ℕ). bytes_of plan z) e in
          let v : r - 1 ≡ rows c (suc i) - 1 = ap (◌- 1) (l ∙ ap (λ (z : ℕ). rows c z) e) in
          let d = wrote_at plan parts wr (suc i) 1 (rows c (suc i) - 1) (bytes_of plan (suc i)) (encode (bytes_of plan (suc i)) (rows c i + n)) c room v (rw y at m) s (rw (g, y, e) at a) in
          need_ok 12 c is_some (need_ok 7 c (rw (g, y) at (yes h k)) (amend_did (suc i) 1 ((rows c (suc i) - 1) * bytes_of plan (suc i)) (encode (bytes_of plan (suc i)) (rows c i + n)) c d))

-- ---- the home of nulls

pub home_is : (plan : List ℕ) (i : ℕ) {e j r : ℕ} → e ≡ end_of plan i → j ≡ suc i → r ≡ nullable_child plan e 32 j → r ≡ nullable_child plan (end_of plan i) 32 (suc i)
home_is plan i f g h = rw (f, g) at h

pub home_five : (plan : List ℕ) (i : ℕ) {e j : ℕ} → e ≡ end_of plan i → j ≡ suc i → j < e → 5 ≡ no_home plan i
home_five plan i f g h = rw (lt-ltb (suc i) (end_of plan i) (rw (f, g) at h))

pub home_four : (plan : List ℕ) (i : ℕ) {e j : ℕ} → e ≡ end_of plan i → j ≡ suc i → e ≤ j → 4 ≡ no_home plan i
home_four plan i f g h = rw (le-ltb (suc i) (end_of plan i) (rw (f, g) at h))

-- ---- rows in the body

module _ (x : Join) (i v w slot n : ℕ) where
  pub pairs_no : {at : ℕ} {r : Bool} → at ≡ place x i 3 → r ≡ rows_in x at v slot n → not r ≡ true → false ≡ (rows_in x (place x i 3) v slot n && rows_in x (place x i 5) w slot n)
  pairs_no e f h = rw (rw e at (no f h))

  pub pairs_yes : {at at2 : ℕ} {r r2 : Bool} → at ≡ place x i 3 → r ≡ rows_in x at v slot n → not r ≡ false → at2 ≡ place x i 5 → r2 ≡ rows_in x at2 w slot n
      → r2 ≡ (rows_in x (place x i 3) v slot n && rows_in x (place x i 5) w slot n)
  pairs_yes e f h g l = rw (rw e at (yes f h)) (rw g at l)

-- ---- run ends

-- so many entries are in no body
pub ends_past : (x : Join) (at w o n : ℕ) → 1 ≤ w → length x.body < o + n → false ≡ rows_in x at w o n
unfolding rows_in
ends_past x at w o n h l =
    let m : 1 * (o + n) ≤ w * (o + n) = mul-le-mul_right (o + n) h in
    sym (lt-leb (at + w * (o + n)) (length x.body) (omega arith))

pub ends_given : (x : Join) (i w : ℕ) {at n o : ℕ} {r : Bool} → at ≡ place x i 3 → o ≡ offset_of x i → n ≡ length_of x i → r ≡ rows_in x at w o n
    → r ≡ rows_in x (place x i 3) w (offset_of x i) (length_of x i)
ends_given x i w e f g h = rw (e, f, g) at h

module _ (x : Join) (wr : Bool) (i : ℕ) (c room : List ℕ) where
  module _ (n : ℕ) where
    pub ready_none : {t : Bool} → t ≡ (ltb (suc (suc i)) 32 && is_width (bytes_of x.plan (suc i))) → not t ≡ true → Did x.plan x.parts wr (runs_ready x i n c) room 12 c room
    unfolding runs_ready
    ready_none e h = need_no _ (no e h)

    module _ {j p w : ℕ} {t u : Bool} (e : t ≡ (ltb (suc (suc i)) 32 && is_width (bytes_of x.plan (suc i)))) (f : not t ≡ false) (g : j ≡ suc i) (h : w ≡ bytes_of x.plan j) (k : p ≡ rows c i)
        (l : u ≡ ltb (p + n) (half w)) where
      pub ready_over : not u ≡ true → Did x.plan x.parts wr (runs_ready x i n c) room 7 c room
      unfolding runs_ready
      ready_over m = need_ok 12 c (yes e f) (need_no _ (rw (k, h, g) at (no l m)))

      module _ {v : Bool} (m : not u ≡ false) (o : v ≡ rows_in x (place x j 3) w (offset_of x j) (length_of x j)) where
        pub ready_out : not v ≡ true → Did x.plan x.parts wr (runs_ready x i n c) room 12 c room
        unfolding runs_ready
        ready_out q = need_ok 12 c (yes e f) (need_ok 7 c (rw (k, h, g) at (yes l m)) (need_no _ (rw (h, g) at (no o q))))

        pub ready_yes : not v ≡ false → Did x.plan x.parts wr (runs_ready x i n c) room 0 c room
        unfolding runs_ready
        ready_yes q = need_ok 12 c (yes e f) (need_ok 7 c (rw (k, h, g) at (yes l m)) (need_ok 12 c (rw (h, g) at (yes o q)) (done_did wr c room)))

-- where the run ends stand, with as many behind the array's offset
pub ends_from : (x : Join) (w i more : ℕ) {k at o : ℕ} → k ≡ x.first + suc i → at ≡ get_or x.places (9 * k + 3) 0 → o ≡ get_or x.lengths (2 * k + 1) 0
    → place x (suc i) 3 + w * (offset_of x (suc i) + more) ≤ length x.body → at + w * o + w * more ≤ length x.body
ends_from x w i more e f g h = rw (f, g, e) (omega (arith, h))

pub runs_from : (x : Join) (w i : ℕ) {k at m o : ℕ} → k ≡ x.first + suc i → at ≡ get_or x.places (9 * k + 3) 0 → o ≡ get_or x.lengths (2 * k + 1) 0 → m ≡ get_or x.lengths (2 * k) 0
    → place x (suc i) 3 + w * (offset_of x (suc i) + length_of x (suc i)) ≤ length x.body → at + w * o + w * m ≤ length x.body
runs_from x w i e f g l h = rw (l, e) (ends_from x w i (length_of x (suc i)) e f g h)

pub runs_given : (x : Join) (child : Walk) (w i slot n : ℕ) {k at m o : ℕ} {r : Option RunRange} → k ≡ x.first + suc i → at ≡ get_or x.places (9 * k + 3) 0 → o ≡ get_or x.lengths (2 * k + 1) 0 → m ≡ get_or x.lengths (2 * k) 0
    → r ≡ runs_of (found_run w x.body (at + w * o) m (slot + n)) slot (slot + n) → r ≡ runs_at x child w i slot n
runs_given x child w i slot n e f g h l = rw (f, g, h, e) at l

pub run_did : (x : Join) (wr : Bool) (w i slot n last run count : ℕ) (c room : List ℕ) {j k at o p v : ℕ} {c2 room2 : List ℕ} → j ≡ suc i → k ≡ x.first + suc i → at ≡ get_or x.places (9 * k + 3) 0
    → o ≡ get_or x.lengths (2 * k + 1) 0 → v ≡ rows c j → p ≡ scaled v w → length room < top
    → room2 ≡ apply_if x.plan x.parts wr (put j 1 p (clipped w x.body (at + w * o + w * run) count slot (slot + n) last) ∷ []) room → c2 ≡ end_gap i (add_rows (suc i) count c)
    → Did x.plan x.parts wr (run_numbers x w i slot n last run count c) room 0 c2 room2
unfolding run_numbers
run_did x wr w i slot n last run count c room {room2 = room2} e f g h l m s a b =
    next_ok _ (wrote_at x.plan x.parts wr (suc i) 1 (rows c (suc i)) w (clipped w x.body (place x (suc i) 3 + w * offset_of x (suc i) + w * run) count slot (slot + n) last) c room (l ∙ ap (λ (z : ℕ). rows c z) e) m s (rw (g, h, f, e) at a)) refl
    (rw b (done_did wr _ room2))

-- ---- gaps

pub gap_one : (g : ℕ) → 1 < g → ◌≡◌ {A = ℕ} 1 (min g 1)
gap_one g h = omega arith

pub gap_low : (g : ℕ) → g ≤ 1 → g ≡ min g 1
gap_low g h = omega arith

pub gap_off : (g : ℕ) → g ≡ 0 → ◌≡◌ {A = ℕ} 0 (cond (eqb g 0) 0 2)
gap_off g e = rw e

pub gap_on : (g : ℕ) → (g ≡ 0 → ⊥) → ◌≡◌ {A = ℕ} 2 (cond (eqb g 0) 0 2)
gap_on g h = rw (ne_eqb g 0 h)

module _ (c c1 c2 : List ℕ) (i j n g v : ℕ) (e : j ≡ suc i) (h : c1 ≡ add_rows j n c) (k : g ≡ bytes c1 i) (q : c2 ≡ set_bytes i v c1) where
  ends_rows_lem : c1 ≡ add_rows (suc i) n c
  ends_rows_lem = h ∙ ap (λ (z : ℕ). add_rows z n c) e

  pub counted_runs : v ≡ min g 1 → c2 ≡ end_gap i (add_rows (suc i) n c)
  counted_runs f = q ∙ ap (λ (z : ℕ). set_bytes i z c1) (f ∙ ap (λ (z : ℕ). min z 1) k) ∙ ap (end_gap i) ends_rows_lem

  pub counted_nulls : v ≡ cond (eqb g 0) 0 2 → c2 ≡ begin_gap i (add_rows (suc i) n c)
  counted_nulls f = q ∙ ap (λ (z : ℕ). set_bytes i z c1) (f ∙ ap (λ (z : ℕ). cond (eqb z 0) 0 2) k) ∙ ap (begin_gap i) ends_rows_lem
