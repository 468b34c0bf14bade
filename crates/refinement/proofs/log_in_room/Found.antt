-- What codes and widths say of a node's buffers, and that a child that is found is one. Assumes nothing.
use mathlib.Core.Path.{◌≡◌, refl, sym, ap, ◌∙◌}
use mathlib.Core.Bool.{Bool, true, false, cond, ◌&&◌}
use mathlib.Core.List.{List}
use Prim.Native.Nat.{ℕ, zero, suc, ◌+◌, ◌-◌, ◌≤◌, ◌<◌}
use native.Mathlib.Omega.{arith}
use lib.ListN.{drop, get_or}
use lib.Seq.{get_or-drop}
use lib.Dec.{ltb, leb, eqb}
use borrow.Author.Tests.{ltb-true, ltb-false, leb-true, le-leb}
use Rattle.columnar.specs.Types.{half}
use Rattle.schema.specs.formats.Code.{between, widths, width_of}
use Rattle.walk.specs.State.{end_of, id_of, nullable_of}
use Rattle.walk.specs.Copy.{child_with}
use Rattle.walk.specs.Nulls.{nullable_child}
use Rattle.refinement.specs.log_in_room.Reach.{Child, first, later}

pub between_both : (low high z : ℕ) → between low high z ≡ true → (low ≤ z) × (z ≤ high)
between_both low high z h = go (leb low z) refl (leb z high) refl h
  where
    go : (s : Bool) → leb low z ≡ s → (t : Bool) → leb z high ≡ t → (s && t) ≡ true → (low ≤ z) × (z ≤ high)
    go true p true q h = (leb-true low z p, leb-true z high q)
    go true p false q h = absurd (let y : ◌≡◌ {A = ℕ} 0 1 = cc h in omega arith)
    go false p t q h = absurd (let y : ◌≡◌ {A = ℕ} 0 1 = cc h in omega arith)

-- a range within a wider one
pub between_wide : (low high low2 high2 z : ℕ) → low2 ≤ low → high ≤ high2 → between low high z ≡ true → between low2 high2 z ≡ true
between_wide low high low2 high2 z p q h =
    let b = between_both low high z h in
    rw (le-leb low2 z (omega (arith, b.0)), le-leb z high2 (omega (arith, b.1)))

pub and_first : (a b : Bool) → (a && b) ≡ true → a ≡ true
and_first true b h = refl
and_first false b h = h

-- ---- run ends: a format whose numbers hold something has a first buffer

no_widths : (d : ℕ) → get_or (drop 21 widths) d 0 ≡ 0
no_widths zero = refl
no_widths (suc zero) = refl
no_widths (suc (suc zero)) = refl
no_widths (suc (suc (suc d))) = refl

no_width : (z : ℕ) → 21 ≤ z → width_of z ≡ 0
no_width z h =
    let e : 21 + (z - 21) ≡ z = omega arith in
    ap (λ y. get_or widths y 0) (sym e) ∙ sym (get_or-drop 21 widths (z - 21) 0) ∙ no_widths (z - 21)

nothing_below : (v w : ℕ) → w ≡ 0 → ltb v (half w) ≡ true → ⊥
nothing_below v w e h = let l : ltb v (half 0) ≡ true = rw e at h in omega (arith, ltb-true v (half 0) l)

pub ends_code : (v z : ℕ) → ltb v (half (width_of z)) ≡ true → (1 ≤ z) × (z < 21)
ends_code v zero h = absurd (nothing_below v (width_of 0) refl h)
ends_code v (suc z) h = (omega arith, go (ltb (suc z) 21) refl)
  where
    go : (t : Bool) → ltb (suc z) 21 ≡ t → suc z < 21
    go true e = ltb-true (suc z) 21 e
    go false e = absurd (nothing_below v (width_of (suc z)) (no_width (suc z) (ltb-false (suc z) 21 e)) h)

-- ---- children

module _ (plan : List ℕ) (i : ℕ) where
  pub child_first : suc i < end_of plan i → Child plan i (suc i)
  child_first h = first h

  pub child_later : (k : ℕ) → Child plan i k → end_of plan k < end_of plan i → Child plan i (end_of plan k)
  child_later k c h = later k c h

  pub child_with_lem : (id fuel k : ℕ) → (k < end_of plan i → Child plan i k) → child_with plan id (end_of plan i) fuel k < 32 → Child plan i (child_with plan id (end_of plan i) fuel k)
  unfolding child_with
  child_with_lem id zero k c = λ h. absurd (omega arith)
  child_with_lem id (suc f) k c = go (ltb k (end_of plan i)) refl (eqb (id_of plan k) id) (λ d. child_with_lem id f (end_of plan k) d)
    where
      go : (s : Bool) → ltb k (end_of plan i) ≡ s → (t : Bool) → ((end_of plan k < end_of plan i → Child plan i (end_of plan k)) → child_with plan id (end_of plan i) f (end_of plan k) < 32
          → Child plan i (child_with plan id (end_of plan i) f (end_of plan k)))
          → cond s (cond t k (child_with plan id (end_of plan i) f (end_of plan k))) 32 < 32 → Child plan i (cond s (cond t k (child_with plan id (end_of plan i) f (end_of plan k))) 32)
      go true e true r h = c (ltb-true k (end_of plan i) e)
      go true e false r h = r (later k (c (ltb-true k (end_of plan i) e))) h
      go false e t r h = absurd (omega arith)

  pub child_nullable : (fuel k : ℕ) → (k < end_of plan i → Child plan i k) → nullable_child plan (end_of plan i) fuel k < 32 → Child plan i (nullable_child plan (end_of plan i) fuel k)
  unfolding nullable_child
  child_nullable zero k c = λ h. absurd (omega arith)
  child_nullable (suc f) k c = go (ltb k (end_of plan i)) refl (eqb (nullable_of plan k) 1) (λ d. child_nullable f (end_of plan k) d)
    where
      go : (s : Bool) → ltb k (end_of plan i) ≡ s → (t : Bool) → ((end_of plan k < end_of plan i → Child plan i (end_of plan k)) → nullable_child plan (end_of plan i) f (end_of plan k) < 32
          → Child plan i (nullable_child plan (end_of plan i) f (end_of plan k)))
          → cond s (cond t k (nullable_child plan (end_of plan i) f (end_of plan k))) 32 < 32 → Child plan i (cond s (cond t k (nullable_child plan (end_of plan i) f (end_of plan k))) 32)
      go true e true r h = c (ltb-true k (end_of plan i) e)
      go true e false r h = r (later k (c (ltb-true k (end_of plan i) e))) h
      go false e t r h = absurd (omega arith)
