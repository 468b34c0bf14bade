-- A write that is made, and one that is left out; and numbers of 64 bits that stand for exact ones. Assumes nothing.
use mathlib.Core.Path.{◌≡◌, refl, sym, ap, ◌∙◌}
use mathlib.Core.Bool.{Bool, true, false, cond, ◌&&◌}
use mathlib.Core.List.{List, [], ◌∷◌}
use Rattle.std.specs.Prelude.{Option, Some, None}
use Prim.Native.Nat.{ℕ, ◌+◌, ◌*◌, ◌≤◌, ◌<◌, min}
use native.Mathlib.Nat.{mul-le-mul_left, mul-one, mul_comm}
use native.Mathlib.Omega.{arith}
use lib.ListN.{length}
use lib.Dec.{ltb}
use borrow.Author.Tests.{ltb-true, ltb-false, lt-leb}
use Rattle.number.specs.Number.{splice}
use Rattle.bits.specs.Bits.{put_bits}
use Rattle.array_data.proofs.lent_tables.Laws.{and_left, and_right}
use Rattle.walk.specs.State.{top, scaled, grown}
use Rattle.walk.specs.Log.{put, mask, start_of, in_room, enter, apply, apply_if}
use Rattle.walk.specs.plan_words.Target.{target_of, mask_target_of}
use Rattle.walk.proofs.plan_words.Laws.{inside}

-- ---- numbers of 64 bits

-- the same number, or both at least the largest, which no room holds
pub record Alike (x y : ℕ) : Type 0 where
  pub less : x < top → x ≡ y
  pub more : top ≤ x → top ≤ y

pub alike_same : {x y : ℕ} → x ≡ y → Alike x y
alike_same e = record { less = λ h. e; more = λ h. omega (arith, e) }

pub alike_scaled : (r w : ℕ) → Alike (scaled r w) (r * w)
unfolding scaled
alike_scaled r w = record { less = λ h. omega arith; more = λ h. omega arith }

-- a number of 64 bits that stands for r, times w
pub alike_times : (x r w : ℕ) → Alike x r → 1 ≤ w → Alike (scaled x w) (r * w)
unfolding scaled
alike_times x r w a h = go (ltb x top) refl
  where
    go : (t : Bool) → ltb x top ≡ t → Alike (min (x * w) top) (r * w)
    go true e = rw (← a.less (ltb-true x top e)) (record { less = λ h. omega arith; more = λ h. omega arith })
    go false e =
        let l : top ≤ r = a.more (ltb-false x top e) in
        let k : top ≤ x * w = omega (arith, ltb-false x top e, mul-le-mul_left x h, mul-one x) in
        record { less = λ q. absurd (omega arith); more = λ q. omega (arith, mul-le-mul_left r h, mul-one r) }

pub alike_grown : (r n : ℕ) → Alike (grown r n) (r + n)
unfolding grown
alike_grown r n = record { less = λ h. omega arith; more = λ h. omega arith }

-- ---- a range asked of the room by its number of 64 bits

room_over : (start o n m : ℕ) → m < start + o + n → in_room start o n m ≡ false
unfolding in_room
room_over start o n m h = lt-leb (start + o + n) m h

pub room_alike : (start x y n k m : ℕ) → m < top → Alike x y → Alike n k → in_room start x n m ≡ in_room start y k m
room_alike start x y n k m s a b = go (ltb x top) (ltb n top) refl refl
  where
    go : (t u : Bool) → ltb x top ≡ t → ltb n top ≡ u → in_room start x n m ≡ in_room start y k m
    go false u e f =
        let h = ltb-false x top e in
        room_over start x n m (omega arith) ∙ sym (room_over start y k m (omega (arith, a.more h)))
    go true false e f =
        let h = ltb-false n top f in
        room_over start x n m (omega arith) ∙ sym (room_over start y k m (omega (arith, b.more h)))
    go true true e f = rw (a.less (ltb-true x top e), b.less (ltb-true n top f))

module _ (plan parts : List ℕ) (write : Bool) where
  -- ---- where a write is placed, as a number of 64 bits

  enter_alike : (i b o o2 : ℕ) (bs room : List ℕ) → length room < top → Alike o o2 → enter plan parts (put i b o bs) room ≡ enter plan parts (put i b o2 bs) room
  unfolding enter
  enter_alike i b o o2 bs room l a = go (ltb o top) refl
    where
      s : ℕ
      s = start_of plan parts i b

      go : (t : Bool) → ltb o top ≡ t
          → cond (in_room s o (length bs) (length room)) (splice (s + o) bs room) room ≡ cond (in_room s o2 (length bs) (length room)) (splice (s + o2) bs room) room
      go true e = rw (a.less (ltb-true o top e))
      go false e =
          let h = ltb-false o top e in
          rw (room_over s o (length bs) (length room) (omega arith), room_over s o2 (length bs) (length room) (omega (arith, a.more h)))

  pub place_alike : (i b o o2 : ℕ) (bs room : List ℕ) → length room < top → Alike o o2
      → apply_if plan parts write (put i b o bs ∷ []) room ≡ apply_if plan parts write (put i b o2 bs ∷ []) room
  unfolding apply_if apply
  place_alike i b o o2 bs room l a = go write
    where
      go : (t : Bool) → apply_if plan parts t (put i b o bs ∷ []) room ≡ apply_if plan parts t (put i b o2 bs ∷ []) room
      go true = enter_alike i b o o2 bs room l a
      go false = refl

-- ---- what an answer says

pub record Made (write : Bool) (start o n m a : ℕ) : Type 0 where
  pub writes : write ≡ true
  pub test : in_room start o n m ≡ true
  pub at : a ≡ start + o
  pub within : a + n ≤ m

pub record MaskMade (write : Bool) (start p n m : ℕ) : Type 0 where
  pub writes : write ≡ true
  pub test : in_room (8 * start) p n (8 * m) ≡ true
  pub within : 8 * start + p + n ≤ 8 * m

module _ (plan parts : List ℕ) (m : ℕ) (write : Bool) (i : ℕ) where
  pub made : (b o n : ℕ) {g : Option ℕ} {a : ℕ} → g ≡ target_of plan parts m write i b o n → g ≡ Some a → Made write (start_of plan parts i b) o n m a
  unfolding target_of
  made b o n {g} {a} e h = go (write && in_room (start_of plan parts i b) o n m) refl (sym e ∙ h)
    where
      go : (t : Bool) → write && in_room (start_of plan parts i b) o n m ≡ t → cond t (Some (start_of plan parts i b + o)) None ≡ Some a
          → Made write (start_of plan parts i b) o n m a
      go true q r =
          let z : start_of plan parts i b + o ≡ a = cc in
          let t = and_right write _ q in
          let d = inside (start_of plan parts i b) o n m t in
          record { writes = and_left write _ q; test = t; at = sym z; within = omega arith }
      go false q r = absurd (let z : ◌≡◌ {A = ℕ} 0 1 = cc in omega arith)

  skipped : (b o n : ℕ) {g : Option ℕ} → g ≡ target_of plan parts m write i b o n → g ≡ None → write && in_room (start_of plan parts i b) o n m ≡ false
  unfolding target_of
  skipped b o n {g} e h = go (write && in_room (start_of plan parts i b) o n m) (sym e ∙ h)
    where
      go : (t : Bool) → cond t (Some (start_of plan parts i b + o)) None ≡ None → t ≡ false
      go true r = absurd (let z : ◌≡◌ {A = ℕ} 0 1 = cc in omega arith)
      go false r = refl

  pub mask_made : (p n : ℕ) {g : Option ℕ} {a : ℕ} → g ≡ mask_target_of plan parts m write i p n → g ≡ Some a → (MaskMade write (start_of plan parts i 0) p n m) × (a ≡ start_of plan parts i 0)
  unfolding mask_target_of
  mask_made p n {g} {a} e h = go (write && in_room (8 * start_of plan parts i 0) p n (8 * m)) refl (sym e ∙ h)
    where
      go : (t : Bool) → write && in_room (8 * start_of plan parts i 0) p n (8 * m) ≡ t → cond t (Some (start_of plan parts i 0)) None ≡ Some a
          → (MaskMade write (start_of plan parts i 0) p n m) × (a ≡ start_of plan parts i 0)
      go true q r =
          let z : start_of plan parts i 0 ≡ a = cc in
          let t = and_right write _ q in
          let d = inside (8 * start_of plan parts i 0) p n (8 * m) t in
          (record { writes = and_left write _ q; test = t; within = d }, sym z)
      go false q r = absurd (let z : ◌≡◌ {A = ℕ} 0 1 = cc in omega arith)

  mask_skipped : (p n : ℕ) {g : Option ℕ} → g ≡ mask_target_of plan parts m write i p n → g ≡ None → write && in_room (8 * start_of plan parts i 0) p n (8 * m) ≡ false
  unfolding mask_target_of
  mask_skipped p n {g} e h = go (write && in_room (8 * start_of plan parts i 0) p n (8 * m)) (sym e ∙ h)
    where
      go : (t : Bool) → cond t (Some (start_of plan parts i 0)) None ≡ None → t ≡ false
      go true r = absurd (let z : ◌≡◌ {A = ℕ} 0 1 = cc in omega arith)
      go false r = refl

-- n entries of w bytes, asked by their number of 64 bits
pub times_within : (n w : ℕ) {write : Bool} {start o m a : ℕ} → Made write start o (scaled n w) m a → m < top → a + w * n ≤ m
unfolding scaled
times_within n w d l = omega (arith, d.within, mul_comm n w)

pub alike_sized : (n w : ℕ) {k : ℕ} → k ≡ w * n → Alike (scaled n w) k
alike_sized n w e = rw (e ∙ mul_comm w n) (alike_scaled n w)

-- ---- the room behind a write

module _ (plan parts : List ℕ) (write : Bool) (i : ℕ) where
  pub put_at : (b o : ℕ) (bs room : List ℕ) {n : ℕ} {g : Option ℕ} {a : ℕ} {room2 : List ℕ} → length room < top → g ≡ target_of plan parts (length room) write i b o n → g ≡ Some a → Alike n (length bs)
      → room2 ≡ splice a bs room → room2 ≡ apply_if plan parts write (put i b o bs ∷ []) room
  unfolding apply_if apply enter
  put_at b o bs room {n} l e h k r =
      let d = made plan parts (length room) write i b o n e h in
      let s = start_of plan parts i b in
      r ∙ rw (d.writes, sym (room_alike s o o n (length bs) (length room) l (alike_same refl) k) ∙ d.test) (ap (λ (z : ℕ). splice z bs room) d.at)

  pub put_skip : (b o : ℕ) (bs room : List ℕ) {n : ℕ} {g : Option ℕ} → length room < top → g ≡ target_of plan parts (length room) write i b o n → g ≡ None → Alike n (length bs)
      → room ≡ apply_if plan parts write (put i b o bs ∷ []) room
  unfolding apply_if apply enter
  put_skip b o bs room {n} l e h k = go write (skipped plan parts (length room) write i b o n e h)
    where
      s : ℕ
      s = start_of plan parts i b

      go : (t : Bool) → t && in_room s o n (length room) ≡ false → room ≡ apply_if plan parts t (put i b o bs ∷ []) room
      go true q = rw (sym (room_alike s o o n (length bs) (length room) l (alike_same refl) k) ∙ q)
      go false q = refl

  pub mask_at_lem : (p n : ℕ) (vs room : List ℕ) {g : Option ℕ} {a : ℕ} {room2 : List ℕ} → g ≡ mask_target_of plan parts (length room) write i p n → g ≡ Some a → length vs ≡ n
      → room2 ≡ put_bits (8 * a + p) vs room → room2 ≡ apply_if plan parts write (mask i p vs ∷ []) room
  unfolding apply_if apply enter
  mask_at_lem p n vs room e h k r =
      let d = mask_made plan parts (length room) write i p n e h in
      r ∙ rw (d.0.writes, k, d.0.test) (ap (λ (z : ℕ). put_bits (8 * z + p) vs room) d.1)

  pub mask_skip : (p n : ℕ) (vs room : List ℕ) {g : Option ℕ} → g ≡ mask_target_of plan parts (length room) write i p n → g ≡ None → length vs ≡ n
      → room ≡ apply_if plan parts write (mask i p vs ∷ []) room
  unfolding apply_if apply enter
  mask_skip p n vs room e h k = go write (mask_skipped plan parts (length room) write i p n e h)
    where
      go : (t : Bool) → t && in_room (8 * start_of plan parts i 0) p n (8 * length room) ≡ false → room ≡ apply_if plan parts t (mask i p vs ∷ []) room
      go true q = rw (k, q)
      go false q = refl
