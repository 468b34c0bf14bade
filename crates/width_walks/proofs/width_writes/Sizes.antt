-- How many bytes the converter's writes are. Assumes nothing.
use mathlib.Core.Path.{◌≡◌, sym, ap, ap₂, ◌∙◌}
use mathlib.Core.List.{List, ◌++◌}
use Prim.Native.Nat.{ℕ, ◌+◌, ◌*◌, ◌-◌, ◌≤◌}
use native.Mathlib.Nat.{mul-add, mul-one}
use native.Mathlib.Omega.{arith}
use lib.ListN.{length, length-append}
use Rattle.number.specs.Number.{encode, splice}
use Rattle.number.proofs.Laws.{length_encode, splice_splice}
use Rattle.utils.proofs.Pieces.{length_numbers}
use Rattle.recode.specs.Recode.{recoded, lessened, valid_only}

module _ (w w' : ℕ) (s : List ℕ) (from n : ℕ) where
  pub length_recoded : length (recoded w w' s from n) ≡ w' * n
  unfolding recoded
  length_recoded = length_numbers w' _ n

  pub length_less : (base : ℕ) → length (lessened w w' s from base n) ≡ w' * n
  unfolding lessened
  length_less base = length_numbers w' _ n

  pub length_valid : (p : ℕ) → length (valid_only w w' s from p n) ≡ w' * n
  unfolding valid_only
  length_valid p = length_numbers w' _ n

-- one entry more, behind the others
pub times_last : (w m : ℕ) → 1 ≤ m → w * (m - 1) + w ≡ w * m
times_last w m h =
    let e : m ≡ m - 1 + 1 = omega arith in
    sym (ap (λ z. w * z) e ∙ mul-add w (m - 1) 1 ∙ ap (λ z. w * (m - 1) + z) (mul-one w))

module _ (w w' : ℕ) (s : List ℕ) (from base last m : ℕ) (h : 1 ≤ m) where
  pub length_ends : length (lessened w w' s from base (m - 1) ++ encode w' last) ≡ w' * m
  length_ends = length-append (lessened w w' s from base (m - 1)) (encode w' last) ∙ ap₂ ◌+◌ (length_less w w' s from (m - 1) base) (length_encode w' last) ∙ times_last w' m h

  -- a run of entries, and then one
  pub ends_join : (at : ℕ) (room r1 r2 : List ℕ) → at + w' * m ≤ length room → r1 ≡ splice at (lessened w w' s from base (m - 1)) room → r2 ≡ splice (at + w' * (m - 1)) (encode w' last) r1
      → r2 ≡ splice at (lessened w w' s from base (m - 1) ++ encode w' last) room
  ends_join at room r1 r2 l e f =
      let n = length_less w w' s from (m - 1) base in
      f
      ∙ ap (splice (at + w' * (m - 1)) (encode w' last)) e
      ∙ ap (λ z. splice (at + z) (encode w' last) (splice at (lessened w w' s from base (m - 1)) room)) (sym n)
      ∙ splice_splice at (lessened w w' s from base (m - 1)) (encode w' last) room (omega (arith, n, length_encode w' last, times_last w' m h))
