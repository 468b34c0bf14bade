-- The bytes that a walk writes: how many they are, and that a number's lowest bytes are enough for them. Assumes nothing.
use mathlib.Core.Path.{◌≡◌, refl}
use mathlib.Core.Bool.{Bool, true, false, cond}
use mathlib.Core.List.{List, ◌++◌}
use Prim.Native.Nat.{ℕ, ◌+◌, ◌*◌, ◌-◌, ◌%◌, ◌^◌, ◌≤◌}
use native.Mathlib.Nat.{add-mod-mod, mod-add-mod}
use native.Mathlib.Omega.{arith}
use lib.ListN.{length, take, drop, length-append, length-take, length-drop}
use lib.Dec.{ltb, eqb}
use borrow.Author.Tests.{eqb-true, eqb-false}
use Rattle.number.specs.Number.{encode, entry, number}
use Rattle.number.proofs.Laws.{length_encode, encode_mod}
use Rattle.utils.specs.Offsets.{moved_offsets, repeated, counted_up}
use Rattle.utils.proofs.Pieces.{length_pieces, length_numbers, pieces_same, numbers_same}
use Rattle.utils.specs.primitive.Primitive.{rebased}
use Rattle.utils.specs.byte_view.View.{reviewed, reviewed_one}

pub length_copied : (s : List ℕ) (from n : ℕ) → from + n ≤ length s → length (take n (drop from s)) ≡ n
length_copied s from n h = simp (length-take, length-drop) (omega arith)

module _ (w : ℕ) (s : List ℕ) (from x n : ℕ) where
  pub length_moved : length (moved_offsets w s from x n) ≡ w * n
  unfolding moved_offsets
  length_moved = length_numbers w _ n

  pub length_rebased : length (rebased w s from x n) ≡ w * n
  unfolding rebased
  length_rebased = length_numbers w _ n

  pub length_repeated : length (repeated w x n) ≡ w * n
  unfolding repeated
  length_repeated = length_numbers w _ n

  pub length_counted : length (counted_up w x n) ≡ w * n
  unfolding counted_up
  length_counted = length_numbers w _ n

  -- ---- a number may be cut to its lowest w bytes

  pub moved_cut : moved_offsets w s from (x % 256 ^ w) n ≡ moved_offsets w s from x n
  unfolding moved_offsets
  moved_cut = numbers_same w _ _ n (λ k l. mod-add-mod x (256 ^ w) (entry w s from (k + 1) + 256 ^ w - entry w s from 0))

  pub rebased_cut : rebased w s from (x % 256 ^ w) n ≡ rebased w s from x n
  unfolding rebased
  rebased_cut = numbers_same w _ _ n (λ k l. add-mod-mod (entry w s from k) x (256 ^ w))

  pub repeated_cut : repeated w (x % 256 ^ w) n ≡ repeated w x n
  unfolding repeated
  repeated_cut = pieces_same _ _ n (λ k l. encode_mod w x)

  pub counted_cut : counted_up w (x % 256 ^ w) n ≡ counted_up w x n
  unfolding counted_up
  counted_cut = numbers_same w _ _ n (λ k l. mod-add-mod x (256 ^ w) k)

-- ---- views

length_one : (s : List ℕ) (base : ℕ) → 16 ≤ length s → length (reviewed_one s base) ≡ 16
unfolding reviewed_one
length_one s base h = go (ltb 12 (number 4 s))
  where
    go : (t : Bool) → length (cond t (take 8 s ++ encode 4 ((number 4 (drop 8 s) + base) % 256 ^ 4) ++ take 4 (drop 12 s)) (take 16 s)) ≡ 16
    go true = simp (length-append, length_encode, length-take, length-drop) (omega arith)
    go false = simp length-take (omega arith)

module _ (s : List ℕ) (from base n : ℕ) where
  pub length_reviewed : from + 16 * n ≤ length s → length (reviewed s from base n) ≡ 16 * n
  unfolding reviewed
  length_reviewed h = length_pieces 16 _ n (λ k l. length_one (drop (from + 16 * k) s) base (simp length-drop (omega arith)))

  pub reviewed_cut : reviewed s from (base % 256 ^ 4) n ≡ reviewed s from base n
  unfolding reviewed reviewed_one
  reviewed_cut = pieces_same _ _ n (λ k l. simp add-mod-mod)

-- ---- widths of 1, 2, 4 and 8 bytes

pub width_in_lem : (w : ℕ) → ((w ≡ 1 → ⊥) → (w ≡ 2 → ⊥) → (w ≡ 4 → ⊥) → w ≡ 8) → (1 ≤ w) × (w ≤ 16)
width_in_lem w h = go (eqb w 1) (eqb w 2) (eqb w 4) refl refl refl
  where
    go : (t u v : Bool) → eqb w 1 ≡ t → eqb w 2 ≡ u → eqb w 4 ≡ v → (1 ≤ w) × (w ≤ 16)
    go true u v e f g = omega (arith, eqb-true w 1 e)
    go false true v e f g = omega (arith, eqb-true w 2 f)
    go false false true e f g = omega (arith, eqb-true w 4 g)
    go false false false e f g = omega (arith, h (eqb-false w 1 e) (eqb-false w 2 f) (eqb-false w 4 g))
