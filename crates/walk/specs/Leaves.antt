-- The walk at nodes that have no children: validity, fixed-width numbers, keys, views and byte strings. Assumes nothing.
-- Follows arrow-data 60.1.0 src/transform/primitive.rs, variable_size.rs and mod.rs, Apache-2.0; see NOTICE.
use Rattle.std.specs.Prelude.{cond, ◌&&◌, List, ℕ, suc, ◌+◌, ◌*◌, ◌-◌, length, take, drop, replicate, leb, eqb}
use Rattle.number.specs.Number.{entry}
use Rattle.bits.specs.Bits.{bits_at, zeros}
use Rattle.utils.specs.Offsets.{largest, moved, moved_offsets, repeated}
use Rattle.utils.specs.declared.Extended.{Extended}
use Rattle.utils.specs.declared.Extended.TheVariants.{Fits, Over, Falls}
use Rattle.utils.specs.primitive.Primitive.{rebased}
use Rattle.utils.specs.byte_view.View.{reviewed}
use Rattle.walk.specs.State.{Join, keeps_of, base_of, rows, bytes, add_nulls, set_bytes, place, rows_in}
use Rattle.walk.specs.Log.{Out, put, mask, fail, done, wrote, need, next}

-- the offsets of n rows behind `last`: what is put with the last of them and the source's first; "Ground 6" where the last does not fit; 12 where they
-- fall, which no accepted source has
abbrev pub with_offsets : ℕ → List ℕ → ℕ → ℕ → ℕ → (ℕ → ℕ → List ℕ → Out) → List ℕ → Out
with_offsets w s from n last k c =
    need (leb (entry w s from 0) (entry w s from n) && leb last (largest w)) 12 c
    (need (leb (moved w s from last n) (largest w)) 6 c (k (moved w s from last n) (entry w s from 0) c))

-- the same by what an extension of the offsets comes to (proofs/Offsets.antt)
abbrev pub offered : Extended → (ℕ → ℕ → List ℕ → Out) → List ℕ → Out
offered (Fits last first) k c = k last first c
offered (Over row needed) k c = fail 6 c
offered Falls k c = fail 12 c

module _ (x : Join) (i : ℕ) where
  -- ---- validity

  -- the source's bits from `slot` on (12 where they leave the body), with their zeros counted
  unfoldable pub copy_bits : ℕ → ℕ → List ℕ → Out
  copy_bits slot n c =
      need (leb (8 * place x i 1 + slot + n) (8 * length x.body)) 12 c
      (next (wrote (mask i (rows c i) (bits_at (8 * place x i 1 + slot) n x.body)) c)
      (λ c2. done (add_nulls i (zeros (bits_at (8 * place x i 1 + slot) n x.body)) c2)))

  -- a node that keeps nulls gets a bit a row: the source's, or ones where it has no validity
  unfoldable pub copy_mask : ℕ → ℕ → List ℕ → Out
  copy_mask slot n c =
      cond (eqb (keeps_of x.plan i) 0) (done c)
      (cond (eqb (place x i 0) 0) (wrote (mask i (rows c i) (replicate n 1)) c)
      (copy_bits slot n c))

  -- .. and n zeros, all counted, for n nulls
  unfoldable pub null_mask : ℕ → List ℕ → Out
  null_mask n c =
      cond (eqb (keeps_of x.plan i) 0) (done c)
      (next (wrote (mask i (rows c i) (replicate n 0)) c) (λ c2. done (add_nulls i n c2)))

  -- a union or run-end node holds no validity: "The running null count counts each null order in full, for unions and run-end nodes too"
  unfoldable pub count_nulls : ℕ → List ℕ → Out
  count_nulls n c = cond (eqb (keeps_of x.plan i) 0) (done c) (done (add_nulls i n c))

  -- ---- entries of w bytes: numbers, keys with their base added, views with their buffer numbers raised

  -- these bytes, where the source's entries stand in the body
  abbrev pub put_entries : ℕ → ℕ → ℕ → List ℕ → List ℕ → Out
  put_entries w slot n new c = need (rows_in x (place x i 3) w slot n) 12 c (wrote (put i 1 (rows c i * w) new) c)

  unfoldable pub copy_numbers : ℕ → ℕ → ℕ → List ℕ → Out
  copy_numbers w slot n c = put_entries w slot n (take (w * n) (drop (place x i 3 + w * slot) x.body)) c

  unfoldable pub copy_keys : ℕ → ℕ → ℕ → List ℕ → Out
  copy_keys w slot n c = put_entries w slot n (rebased w x.body (place x i 3 + w * slot) (base_of x.plan x.source i) n) c

  unfoldable pub copy_views : ℕ → ℕ → List ℕ → Out
  copy_views slot n c = put_entries 16 slot n (reviewed x.body (place x i 3 + 16 * slot) (base_of x.plan x.source i) n) c

  -- "A null slot is written as zeros"; buffer b
  unfoldable pub null_numbers : ℕ → ℕ → ℕ → List ℕ → Out
  null_numbers b w n c = wrote (put i b (rows c i * w) (replicate (n * w) 0)) c

  -- ---- byte strings with offsets of w bytes

  -- the offsets behind the last one, and the bytes from the source's first offset to its last
  unfoldable pub put_string : ℕ → ℕ → ℕ → ℕ → ℕ → List ℕ → Out
  put_string w from n last first c =
      need (leb (place x i 5 + first + (last - bytes c i)) (length x.body)) 12 c
      (next (wrote (put i 1 (suc (rows c i) * w) (moved_offsets w x.body from (bytes c i) n)) c)
      (λ c2. next (wrote (put i 2 (bytes c2 i) (take (last - bytes c2 i) (drop (place x i 5 + first) x.body))) c2)
      (λ c3. done (set_bytes i last c3))))

  -- the bytes and offsets that the offsets of n rows come to
  abbrev pub put_extended : ℕ → ℕ → ℕ → Extended → List ℕ → Out
  put_extended w from n e c = offered e (put_string w from n) c

  -- a copy of no rows reads no offset: "a byte string of length 0 may have an empty offsets buffer"
  unfoldable pub copy_string : ℕ → ℕ → ℕ → List ℕ → Out
  copy_string w slot n c =
      cond (eqb n 0) (done c)
      (need (rows_in x (place x i 3) w slot (suc n)) 12 c
      (with_offsets w x.body (place x i 3 + w * slot) n (bytes c i) (put_string w (place x i 3 + w * slot) n) c))

  -- "a null repeats the last offset, no bytes"
  unfoldable pub null_string : ℕ → ℕ → List ℕ → Out
  null_string w n c = wrote (put i 1 (suc (rows c i) * w) (repeated w (bytes c i) n)) c
