-- What the proofs of the calls beside the join go by. Assumes nothing.
use mathlib.Core.Path.{◌≡◌, refl, sym, ap, ap₂, ◌∙◌}
use mathlib.Core.Bool.{Bool, true, false, not, cond, ◌&&◌, and-false}
use mathlib.Core.List.{List, [], ◌∷◌}
use Prim.Native.Nat.{ℕ}
use native.Mathlib.Omega.{arith}
use lib.ListN.{length, set}
use lib.Dec.{eqb}
use lib.Ieee.{Float}
use borrow.Author.Tests.{eq-eqb, ne_eqb}
use Rattle.frames.specs.declared.Frame.{Frame}
use Rattle.frames.specs.Frames.{joined}
use Rattle.lafkuno.specs.Beside.{sides, frame_of, four, sides_or, frame_ground, frame_after, join_ground, join_after}
use Rattle.std.specs.Prelude.{Result, Ok, Err}

pub set_four : (s : List Float) (a b c d : Float) → length s ≡ 4 → set (set (set (set s 0 a) 1 b) 2 c) 3 d ≡ a ∷ b ∷ c ∷ d ∷ []
set_four [] a b c d e = absurd (omega (arith, e))
set_four (p ∷ []) a b c d e = absurd (omega (arith, e))
set_four (p ∷ q ∷ []) a b c d e = absurd (omega (arith, e))
set_four (p ∷ q ∷ r ∷ []) a b c d e = absurd (omega (arith, e))
set_four (p ∷ q ∷ r ∷ t ∷ []) a b c d e = refl
set_four (p ∷ q ∷ r ∷ t ∷ u ∷ l) a b c d e = absurd (omega (arith, e))

module _ (box : Result Frame ℕ) (s : List Float) where
  pub no_room : (f : Frame) → (length s ≡ 4 → ⊥) → box ≡ Ok f → (14 ≡ frame_ground box s) × (s ≡ frame_after box s)
  unfolding frame_ground frame_after
  no_room f h e = rw e (rw (ne_eqb (length s) 4 h), rw (ne_eqb (length s) 4 h))

  pub answered : length s ≡ 4 → (f : Frame) → box ≡ Ok f → (t : List Float) → t ≡ sides f → (0 ≡ frame_ground box s) × (t ≡ frame_after box s)
  unfolding frame_ground frame_after
  answered h f e t q = rw e (rw (eq-eqb (length s) 4 h), rw (eq-eqb (length s) 4 h) q)

  pub refused : (g : ℕ) → box ≡ Err g → (g ≡ frame_ground box s) × (s ≡ frame_after box s)
  unfolding frame_ground frame_after
  refused g e = rw e (refl, same (four s))
    where
      same : (b : Bool) → s ≡ cond b s s
      same true = refl
      same false = refl

module _ (left right s : List Float) where
  pub not_four : four left && four right && four s ≡ false → (14 ≡ join_ground left right s) × (s ≡ join_after left right s)
  unfolding join_ground join_after
  not_four h = (rw h, rw h)

  pub all_four : four left && four right && four s ≡ true → (t : List Float) → t ≡ sides (joined (frame_of left) (frame_of right)) → (0 ≡ join_ground left right s) × (t ≡ join_after left right s)
  unfolding join_ground join_after
  all_four h t e = (rw h, rw h e)

pub first_not : (p q r : Bool) → p ≡ false → p && q && r ≡ false
first_not p q r e = rw e

pub second_not : (p q r : Bool) → q ≡ false → p && q && r ≡ false
second_not true q r e = rw e
second_not false q r e = refl

pub third_not : (p q r : Bool) → r ≡ false → p && q && r ≡ false
third_not p q r e = rw (e, and-false)

pub three : {p q r : Bool} → p ≡ true → q ≡ true → r ≡ true → p && q && r ≡ true
three e f g = rw (e, f, g)
