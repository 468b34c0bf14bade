-- The number needed is above the allowed one. Assumes nothing.
use mathlib.Core.Path.{◌≡◌, refl, subst}
use mathlib.Core.Bool.{Bool, true, false, cond, ◌||◌}
use mathlib.Core.List.{List}
use Prim.Native.Nat.{ℕ, zero, suc, ◌+◌, ◌-◌, ◌≤◌, ◌<◌, min}
use native.Mathlib.Omega.{arith}
use native.Mathlib.Numerals.{add-one}
use lib.Dec.{ltb, eqb}
use borrow.Author.Tests.{ltb-true, ltb-false, eqb-true, eqb-false}
use Rattle.columnar.specs.Types.{half}
use Rattle.number.specs.Number.{entry}
use Rattle.utils.specs.Offsets.{largest, moved, first_above}
use Rattle.utils.specs.Extension.{extended, over_at}
use Rattle.utils.specs.declared.Extended.{Extended}
use Rattle.utils.specs.declared.Extended.TheVariants.{Fits, Over, Falls}
use Rattle.walk.specs.State.{far, top}
use Rattle.walk.specs.Copy.{is_width}
use Rattle.explain.specs.stops.Why.{clash}
use Rattle.explain.specs.stops.Copy.{most}
use Rattle.explain.specs.stops.Table.{Numbered, offset, run_end, RowOf, Stated, above}

-- the numbers of w bytes: there are some, and no more than 2^63
pub record Wide (w : ℕ) : Type 0 where
  pub some : 1 ≤ half w
  pub few : half w ≤ far

two_wide : Wide 2
two_wide = record { some = omega arith; few = omega arith }

pub four_wide : Wide 4
four_wide = record { some = omega arith; few = omega arith }

eight_wide : Wide 8
eight_wide = record { some = omega arith; few = omega arith }

pub wide_offset : (w : ℕ) → ((w ≡ 4 → ⊥) → w ≡ 8) → Wide w
wide_offset w h = go (eqb w 4) refl
  where
    go : (b : Bool) → eqb w 4 ≡ b → Wide w
    go true e = rw (eqb-true w 4 e) four_wide
    go false e = rw (h (eqb-false w 4 e)) eight_wide

pub wide_end : (w : ℕ) → is_width w ≡ true → Wide w
unfolding is_width
wide_end w h = go (eqb w 2) (eqb w 4) (eqb w 8) refl refl refl h
  where
    go : (a b d : Bool) → eqb w 2 ≡ a → eqb w 4 ≡ b → eqb w 8 ≡ d → (a || b || d) ≡ true → Wide w
    go true b d e f g h = rw (eqb-true w 2 e) two_wide
    go false true d e f g h = rw (eqb-true w 4 f) four_wide
    go false false true e f g h = rw (eqb-true w 8 g) eight_wide
    go false false false e f g h = absurd (let y : ◌≡◌ {A = ℕ} 0 1 = cc h in omega arith)

-- a number that does not fit
pub over_offset : (w i r n : ℕ) → Wide w → half w ≤ n → Stated (clash 6 i r n (most w))
over_offset w i r n z h = above 6 i r n (most w) offset tt (omega (arith, z.some, z.few))

pub over_end_lem : (w i n : ℕ) → Wide w → half w ≤ n → Stated (clash 7 i 0 n (most w))
over_end_lem w i n z h = above 7 i 0 n (most w) run_end refl (omega (arith, z.some, z.few))

-- ---- "the first that clashes"

found_above : (max : ℕ) (f : ℕ → ℕ) (n k : ℕ) → k < n → max < f k → max < f (first_above max f n)
unfolding first_above
found_above max f zero k l h = absurd (omega arith)
found_above max f (suc n) k l h = go (ltb max (f 0)) refl k l h (λ j. found_above max (λ i. f (suc i)) n j)
  where
    go : (b : Bool) → ltb max (f 0) ≡ b → (k : ℕ) → k < suc n → max < f k → ((j : ℕ) → j < n → max < f (suc j) → max < f (suc (first_above max (λ i. f (suc i)) n)))
        → max < f (cond b 0 (suc (first_above max (λ i. f (suc i)) n)))
    go true e k l h r = ltb-true _ _ e
    go false e zero l h r = absurd (omega (arith, ltb-false max (f 0) e))
    go false e (suc j) l h r = r j (omega arith) h

-- where an extension is over, its number is above the largest
abbrev pub AboveMost : ℕ → Extended → Type 0
AboveMost w (Fits last first) = Unit {0}
AboveMost w (Over row needed) = most w < min needed top
AboveMost w Falls = Unit {0}

module _ (w : ℕ) (s : List ℕ) (from n last : ℕ) (z : Wide w) where
  over_above : last ≤ largest w → largest w < moved w s from last n → AboveMost w (over_at w s from n last)
  unfolding over_at
  over_above h g = go n g
    where
      go : (n : ℕ) → largest w < moved w s from last n → most w < min (min (moved w s from last (first_above (largest w) (λ k. moved w s from last (k + 1)) n + 1)) 18446744073709551615) top
      go zero g = absurd (omega arith)
      go (suc k) g =
          let e : largest w < moved w s from last (k + 1) = rw add-one g in
          omega (arith, found_above (largest w) (λ k. moved w s from last (k + 1)) (suc k) k (omega arith) e, z.some, z.few)

  pub extended_above : AboveMost w (extended w s from n last)
  unfolding extended
  extended_above = go (ltb (entry w s from n) (entry w s from 0)) (ltb (largest w) last) (ltb (largest w) (moved w s from last n)) refl refl
    where
      go : (a b d : Bool) → ltb (largest w) last ≡ b → ltb (largest w) (moved w s from last n) ≡ d
          → AboveMost w (cond a Falls (cond b Falls (cond d (over_at w s from n last) (Fits (moved w s from last n) (entry w s from 0)))))
      go true b d e f = tt
      go false true d e f = tt
      go false false true e f = over_above (ltb-false _ _ e) (ltb-true _ _ f)
      go false false false e f = tt
