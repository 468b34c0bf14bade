-- Codes of keys, and the node before the end of a subtree. Assumes nothing.
use mathlib.Core.Path.{◌≡◌, refl}
use mathlib.Core.Bool.{Bool, true, false, false≢true}
use mathlib.Core.List.{List}
use Prim.Native.Nat.{ℕ, zero, suc, ◌<◌}
use native.Mathlib.Omega.{arith}
use lib.Dec.{T}
use Rattle.columnar.specs.Wider.{integer}
use Rattle.schema.specs.formats.Code.{is_integer}
use Rattle.schema.specs.formats.Types.{number_of, number_or}
use Rattle.schema.specs.Tree.{below, end_of, child_at, whole}
use Rattle.schema.proofs.Trees.{child_inside, end_after, end_inside}
use Rattle.schema.proofs.Depth.{nested, child_before}
use Rattle.width_walks.proofs.target_rules.Codes.{range}

pub integer_number : (c : ℕ) → is_integer c ≡ true → T (integer (number_or (number_of c)))
unfolding number_of
integer_number zero h = absurd (false≢true h)
integer_number (suc zero) h = tt
integer_number (suc (suc zero)) h = tt
integer_number (suc (suc (suc zero))) h = tt
integer_number (suc (suc (suc (suc zero)))) h = tt
integer_number (suc (suc (suc (suc (suc zero))))) h = tt
integer_number (suc (suc (suc (suc (suc (suc zero)))))) h = tt
integer_number (suc (suc (suc (suc (suc (suc (suc zero))))))) h = tt
integer_number (suc (suc (suc (suc (suc (suc (suc (suc zero)))))))) h = tt
integer_number (suc (suc (suc (suc (suc (suc (suc (suc (suc c))))))))) h =
    let k = suc (suc (suc (suc (suc (suc (suc (suc (suc c)))))))) in
    let p = range 1 8 k h in
    absurd (omega arith)

-- ---- the node before the end of a subtree has nothing below it

module _ (schema : List ℕ) (first n : ℕ) (w : whole schema first n ≡ true) (q : ℕ → Bool) (big : (m : ℕ) → m < n → q m ≡ true → 0 < below schema first m) where
  -- q of the node before
  abbrev pub prev : ℕ → Bool
  prev zero = false
  prev (suc m) = q m

  prev_after : (e k : ℕ) → k < n → end_of schema first n k ≡ e → prev e ≡ false
  unfolding child_at
  prev_after zero k l h = refl
  prev_after (suc m) k l h = go (q m) refl
    where
      go : (b : Bool) → q m ≡ b → b ≡ false
      go false e = refl
      go true e =
          let up = end_after schema first n k l in
          let top = end_inside schema first n k (omega arith) in
          let c : suc m < end_of schema first n m = child_before schema first n w m 0 (omega arith) (big m (omega arith) e) in
          absurd (omega (arith, nested schema first n m k (omega arith) (omega arith)))

  -- a child behind another
  pub prev_later : (i j : ℕ) → i < n → suc j < below schema first i → prev (child_at schema first n i (suc j)) ≡ false
  unfolding child_at
  prev_later i j l h = prev_after (end_of schema first n (child_at schema first n i j)) (child_at schema first n i j) (child_inside schema first n w i j l (omega arith)) refl

  pub prev_child : (i j : ℕ) → i < n → j < below schema first i → q i ≡ false → prev (child_at schema first n i j) ≡ false
  unfolding child_at
  prev_child i zero l h e = e
  prev_child i (suc j) l h e = prev_later i j l h
