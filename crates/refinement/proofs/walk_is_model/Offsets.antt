-- Offsets of a source as the walk reads them in the body, for byte strings and lists. Assumes nothing.
use mathlib.Core.Path.{◌≡◌, refl, sym, ap, ◌∙◌}
use mathlib.Core.List.{List}
use Prim.Native.Nat.{ℕ, zero, suc, ◌+◌, ◌-◌, ◌*◌, ◌≤◌, ◌<◌}
use native.Mathlib.Nat.{add-zero, mul-le-mul_right, le_trans}
use native.Mathlib.Omega.{arith}
use lib.ListN.{length}
use Rattle.number.specs.Number.{encode, entry}
use Rattle.columnar.specs.Row.{seg}
use Rattle.columnar.specs.Types.{half}
use Rattle.columnar.specs.Array.{item}
use Rattle.columnar.specs.Entries.{encodes}
use Rattle.columnar.specs.Plain.{OffsetsRule, empty, full}
use Rattle.columnar.proofs.Items.{entry_end}
use Rattle.utils.specs.Offsets.{moved, moved_offsets}
use Rattle.utils.specs.TryExtendOffsets.{NeverFalls}
use Rattle.utils.proofs.Pieces.{pieces_same}
use Rattle.utils.proofs.TryExtendOffsets.{no_wrap}
use Rattle.model.proofs.TextLaw.{Rising, rising_below}
use Rattle.walk.specs.State.{Join, place}
use Rattle.refinement.specs.walk_is_model.Lent.{First}
use Rattle.refinement.proofs.walk_is_model.Parts.{part_length, part_entry}
use Rattle.refinement.proofs.walk_is_model.Entries.{encodes_pieces}

-- what a copy of n rows from `slot` on, one at least, asks of a source's offsets into `most` bytes or rows
pub record Rows (w : ℕ) (s : List ℕ) (most slot n : ℕ) : Type 0 where
  pub hold : (slot + suc n) * w ≤ length s
  pub rises : Rising (item w s) slot n
  pub within : item w s (slot + n) ≤ most

pub rows_of : (w : ℕ) (s : List ℕ) (most off len slot n : ℕ) → OffsetsRule w s most off len → off ≤ slot → slot + n ≤ off + len → 0 < n → Rows w s most slot n
rows_of w s most off len slot n (empty e f) p q h = absurd (omega arith)
rows_of w s most off len slot n (full r) p q h =
    let o : ℕ → ℕ = item w s in
    let rise : Rising o off len = λ i l. let e : suc (off + i) ≡ off + i + 1 = omega arith in rw e (r.rises i l) in
    let y : off + (slot - off + n) ≡ slot + n = omega arith in
    let last : o (slot + n) ≤ o (off + len) = rw y at (rising_below o off len rise (slot - off + n) len (omega arith) (omega arith)) in
    let t : slot + suc n ≤ off + len + 1 = omega arith in
    record {
      hold = le_trans (mul-le-mul_right w t) r.hold;
      rises = λ i l. let e : off + (slot - off + i) ≡ slot + i = omega arith in rw e at (rise (slot - off + i) (omega arith));
      within = omega (arith, r.within);
    }

module _ (x : Join) (i w slot n : ℕ) (s : List ℕ) (most : ℕ) (p : First x i s) (r : Rows w s most slot n) where
  abbrev pub o : ℕ → ℕ
  o k = item w s k

  abbrev pub from : ℕ
  from = place x i 3 + w * slot

  offset_is : (k : ℕ) → k ≤ n → entry w x.body from k ≡ o (slot + k)
  offset_is k l =
      let e : (slot + k) * w + w ≤ (slot + suc n) * w = entry_end w (omega arith) in
      part_entry p w slot k (omega (arith, part_length p, r.hold))

  pub first_is : entry w x.body from 0 ≡ o slot
  first_is = offset_is 0 (omega arith) ∙ ap o (add-zero slot)

  pub first_below : o slot ≤ o (slot + n)
  first_below = rw add-zero at (rising_below o slot n r.rises 0 n (omega arith) (omega arith))

  pub never_falls_lem : NeverFalls (λ k. entry w x.body from k) n
  never_falls_lem k l =
      let e : slot + (k + 1) ≡ suc (slot + k) = omega arith in
      rw (offset_is k (omega arith), offset_is (k + 1) (omega arith), e) (r.rises k l)

  -- the last new offset
  pub last_is : (last : ℕ) → moved w x.body from last n ≡ last + (o (slot + n) - o slot)
  last_is last = rw (first_is, offset_is n (omega arith))

  pub new_are : (last : ℕ) → last + (o (slot + n) - o slot) < half w
      → moved_offsets w x.body from last n ≡ encodes w (seg (λ k. last + (o (slot + k) - o slot)) 1 n)
  new_are last h =
      no_wrap w x.body from n last never_falls_lem (omega (arith, last_is last))
      ∙ pieces_same (λ k. encode w (moved w x.body from last (k + 1))) (λ k. encode w (last + (o (slot + (1 + k)) - o slot))) n
      (λ k l. let e : k + 1 ≡ 1 + k = omega arith in rw (first_is, offset_is (k + 1) (omega arith), e))
      ∙ sym (encodes_pieces w (λ k. last + (o (slot + k) - o slot)) 1 n)
