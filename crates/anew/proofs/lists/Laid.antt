-- Rows laid out anew: their bits, and what they read as. Assumes nothing.
use mathlib.Core.Path.{◌≡◌, refl, ◌∙◌}
use mathlib.Core.Bool.{Bool, true, false}
use mathlib.Core.Option.{Option, none, some}
use mathlib.Core.List.{List}
use Prim.Native.Nat.{ℕ, zero, suc, ◌+◌, ◌<◌}
use native.Mathlib.Nat.{zero-add, add_assoc}
use native.Mathlib.Omega.{arith}
use lib.Dec.{T}
use Rattle.columnar.specs.Row.{Row, seg}
use Rattle.columnar.specs.Array.{Array, ok, sight, read_with, nulls_in, null_count_of, Mask}
use Rattle.model.specs.Mutable.{zeros, pack, validity}
use Rattle.model.proofs.Bits.{length_seg, get_d_seg, zeros_seg}
use Rattle.model.proofs.Node.{valid_bit_lem}
use Rattle.model.proofs.Counters.{bits_count}
use Rattle.model.proofs.Joined.{mask_holds}
use Rattle.anew.specs.lists.Laid.{laid}

-- two readings of one validity
pub sights : (b : Bool) (r s : Row) → (T b → r ≡ s) → sight b r ≡ sight b s
sights true r s h = h tt
sights false r s h = refl

module _ {B C : Type 0} (masks : Bool) (x : Array B) (a n : ℕ) (b : C) where
  -- a bit for each row
  pub laid_mask : Mask masks (laid masks x a n b).valid (0 + n)
  laid_mask = go masks
    where
      go : (c : Bool) → Mask c (validity c (some (seg (ok x.valid) (x.off + a) n))) (0 + n)
      go true = rw zero-add (mask_holds (some (seg (ok x.valid) (x.off + a) n)) n (length_seg (ok x.valid) (x.off + a) n))
      go false = tt

  module _ (z : ℕ) (m : Mask masks x.valid z) (i : ℕ) (q : i < n) where
    -- a row is valid where it was
    pub laid_ok : ok (laid masks x a n b).valid i ≡ ok x.valid (x.off + a + i)
    laid_ok = go masks x.valid m
      where
        go : (c : Bool) (v : Option (List ℕ)) → Mask c v z → ok (validity c (some (seg (ok v) (x.off + a) n))) i ≡ ok v (x.off + a + i)
        go true v h =
            valid_bit_lem true (some (seg (ok v) (x.off + a) n)) n i (length_seg (ok v) (x.off + a) n) q ∙ get_d_seg (ok v) (x.off + a) n i false q
        go false none h = refl
        go false (some l) h = absurd h

    -- A ROW READS AS THE ROW THAT IT WAS MADE OF, where its slot holds the same
    pub laid_read : (at : B → ℕ → Row) (at' : C → ℕ → Row) → (T (ok x.valid (x.off + a + i)) → at' b i ≡ at x.body (x.off + a + i))
        → read_with at' (laid masks x a n b) i ≡ read_with at x (a + i)
    laid_read at at' h =
        let e : x.off + a + i ≡ x.off + (a + i) = add_assoc x.off a i in
        rw (zero-add i, laid_ok, ← e) (sights (ok x.valid (x.off + a + i)) _ _ h)

module _ {B C : Type 0} (x : Array B) (a n : ℕ) (b : C) where
  -- "NULL COUNTS TAKEN FROM ITS BITS": as many as the rows that it was made of have
  pub laid_nulls : null_count_of (laid true x a n b) ≡ nulls_in (ok x.valid) (x.off + a) n
  laid_nulls =
      bits_count true (some (seg (ok x.valid) (x.off + a) n)) n (zeros (seg (ok x.valid) (x.off + a) n)) (length_seg (ok x.valid) (x.off + a) n) refl
      ∙ zeros_seg (ok x.valid) (x.off + a) n

  -- "A NODE KEEPING NULLS EXACTLY WHERE THE NODE IT COMES FROM HAS ONE": rows without a null have no validity
  pub laid_none : nulls_in (ok x.valid) (x.off + a) n ≡ 0 → (laid true x a n b).valid ≡ none
  laid_none e = go (zeros (seg (ok x.valid) (x.off + a) n)) (zeros_seg (ok x.valid) (x.off + a) n ∙ e)
    where
      go : (z : ℕ) → z ≡ 0 → ◌≡◌ {A = Option (List ℕ)} (elim z [ zero ↦ none | suc c ↦ some (pack (seg (ok x.valid) (x.off + a) n)) ]) none
      go zero q = refl
      go (suc c) q = absurd (omega arith)
