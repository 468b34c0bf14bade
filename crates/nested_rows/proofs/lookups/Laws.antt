-- Slots, and the children of a union looked at one after the other. Assumes nothing.
use mathlib.Core.Path.{◌≡◌, refl, sym, ap, ◌∙◌}
use mathlib.Core.Bool.{Bool, true, false, cond}
use mathlib.Core.List.{List}
use Prim.Native.Nat.{ℕ, zero, suc, ◌+◌, ◌≤◌, ◌<◌}
use native.Mathlib.Omega.{arith}
use lib.Dec.{ltb}
use borrow.Author.Tests.{lt-ltb, le-ltb, ltb-true, eq-eqb, ne_eqb}
use Rattle.walk.specs.State.{Join, offset_of, end_of, id_of, nullable_of, slot_of, grown, far}
use Rattle.walk.specs.Copy.{child_with}
use Rattle.walk.specs.Nulls.{nullable_child}

-- ---- slots

module _ (x : Join) (i a n : ℕ) where
  pub slot_far : {o p q : ℕ} → o ≡ offset_of x i → p ≡ grown o a → q ≡ grown p n → far ≤ q → far ≡ slot_of x i a n
  unfolding slot_of grown
  slot_far e f g h = rw (le-ltb (offset_of x i + a + n) far (omega (arith, e, f, g)))

  pub slot_near : {o p q : ℕ} → o ≡ offset_of x i → p ≡ grown o a → q ≡ grown p n → q < far → o + a ≡ slot_of x i a n
  unfolding slot_of grown
  slot_near e f g h = rw (lt-ltb (offset_of x i + a + n) far (omega (arith, e, f, g))) (ap (◌+ a) e)

  -- the rows from a slot on end before 2^63
  pub slot_rows : {s : ℕ} → s ≡ slot_of x i a n → s < far → s + n < far
  unfolding slot_of
  slot_rows {s} e h = go (ltb (offset_of x i + a + n) far) refl e
    where
      go : (t : Bool) → ltb (offset_of x i + a + n) far ≡ t → s ≡ cond t (offset_of x i + a) far → s + n < far
      go true q r = omega (arith, ltb-true (offset_of x i + a + n) far q)
      go false q r = absurd (omega arith)

-- ---- children

module _ (plan : List ℕ) (end k : ℕ) where
  pub child_none : (id f : ℕ) → end ≤ k → child_with plan id end f k ≡ 32
  unfolding child_with
  child_none id zero h = refl
  child_none id (suc f) h = rw (le-ltb k end h)

  pub child_here : (id : ℕ) {f f' v : ℕ} → f ≡ suc f' → k < end → v ≡ id_of plan k → v ≡ id → child_with plan id end f k ≡ k
  unfolding child_with
  child_here id e h q r = rw (e, lt-ltb k end h, eq-eqb (id_of plan k) id (sym q ∙ r))

  pub child_next : (id : ℕ) {f f' v k' : ℕ} → f ≡ suc f' → k < end → v ≡ id_of plan k → (v ≡ id → ⊥) → k' ≡ end_of plan k → child_with plan id end f k ≡ child_with plan id end f' k'
  unfolding child_with
  child_next id e h q r l = rw (e, lt-ltb k end h, ne_eqb (id_of plan k) id (λ z. r (q ∙ z)), l)

  pub nullable_none : (f : ℕ) → end ≤ k → nullable_child plan end f k ≡ 32
  unfolding nullable_child
  nullable_none zero h = refl
  nullable_none (suc f) h = rw (le-ltb k end h)

  pub nullable_here : {f f' v : ℕ} → f ≡ suc f' → k < end → v ≡ nullable_of plan k → v ≡ 1 → nullable_child plan end f k ≡ k
  unfolding nullable_child
  nullable_here e h q r = rw (e, lt-ltb k end h, eq-eqb (nullable_of plan k) 1 (sym q ∙ r))

  pub nullable_next : {f f' v k' : ℕ} → f ≡ suc f' → k < end → v ≡ nullable_of plan k → (v ≡ 1 → ⊥) → k' ≡ end_of plan k → nullable_child plan end f k ≡ nullable_child plan end f' k'
  unfolding nullable_child
  nullable_next e h q r l = rw (e, lt-ltb k end h, ne_eqb (nullable_of plan k) 1 (λ z. r (q ∙ z)), l)
