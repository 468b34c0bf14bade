-- The walk of a reclaiming writes only into parts that there are. Assumes nothing.
use mathlib.Core.Path.{◌≡◌, refl, sym, ap, subst}
use mathlib.Core.Bool.{true, false}
use mathlib.Core.List.{List, [], ◌∷◌, ◌++◌}
use Prim.Native.Nat.{ℕ, zero, suc, ◌+◌, ◌*◌, ◌≤◌, ◌<◌, min}
use native.Mathlib.Omega.{arith}
use lib.ListN.{replicate}
use lib.Dec.{eqb}
use borrow.Author.Tests.{eqb-false}
use Rattle.number.specs.Number.{encode}
use Rattle.columnar.specs.Row.{seg}
use Rattle.columnar.specs.Entries.{encodes}
use Rattle.schema.specs.formats.Code.{is_fixed, is_string}
use Rattle.walk.specs.State.{Join, code_of, bytes_of, keeps_of, rows, place, add_rows, length_of, offset_of}
use Rattle.walk.specs.Log.{put, mask, wrote}
use Rattle.walk.specs.Leaves.{copy_bits, copy_mask}
use Rattle.walk.specs.Copy.{copy_walk}
use Rattle.bits.specs.Bits.{bits_at}
use Rattle.plan.specs.parts.Parts.{nodes_of, copied, has_offsets, Used}
use Rattle.plan.proofs.parts.Words.{offsets_buffer, has_buffers}
use Rattle.refinement.specs.log_in_room.Room.{AllBelow}
use Rattle.refinement.specs.log_in_room.Reach.{Closed, UsedAt}
use Rattle.refinement.proofs.log_in_room.Bytes.{bytes_encode, bits_part, bits_same}
use Rattle.refinement.proofs.log_in_room.Copies.{used_copies}
use Rattle.refinement.proofs.log_in_room.Found.{between_both}
use Rattle.refinement.proofs.log_in_room.Uses.{used_wide, Uses, uses_done, uses_wrote, uses_cond, uses_need, uses_next}
use Rattle.refinement.proofs.orders.Buffers.{fixed_one, buffer_copied, bits_copied, copied_part}
use Rattle.reclaim.specs.used_entries.Keys.{new_key, new_keys}
use Rattle.reclaim.specs.reclaim_walk.Walk.{keys_of, keys_in, first_entry, run_of, copy_run, copy_runs, copy_blocks, reclaim_walk_of}

-- bytes
all_append : (s t : List ℕ) → AllBelow 256 s → AllBelow 256 t → AllBelow 256 (s ++ t)
all_append [] t h g k = g k
all_append (b ∷ s) t h g zero = h 0
all_append (b ∷ s) t h g (suc k) = all_append s t (λ j. h (suc j)) g k

encodes_bytes : (w : ℕ) (vs : List ℕ) → AllBelow 256 (encodes w vs)
encodes_bytes w [] = λ j. omega arith
encodes_bytes w (v ∷ vs) = all_append (encode w v) (encodes w vs) (bytes_encode w v) (encodes_bytes w vs)

-- a walk at plain entries stays there
closed_values : (plan : List ℕ) (v : ℕ) → code_of plan v < 15 → Closed plan (λ j. j ≡ v) (λ j. j ≡ v)
closed_values plan v l =
    record {
      own = λ i e. e;
      item = λ i e h. absurd (let z = between_both 17 20 (code_of plan i) h in low i e (omega (arith, z.0)));
      child = λ i k e h d. absurd (let z = between_both 21 22 (code_of plan i) h in low i e (omega (arith, z.0)));
      ends = λ i e h. absurd (low i e (omega (arith, h)));
      values = λ i e h. absurd (low i e (omega (arith, h)));
    }
  where
    low : (i : ℕ) → i ≡ v → 15 ≤ code_of plan i → ⊥
    low i e h = let z : code_of plan i ≡ code_of plan v = ap (code_of plan) e in omega arith

-- the parts of a dictionary column
pub record InParts (plan : List ℕ) : Type 0 where
  pub nodes : nodes_of plan ≡ 2
  pub keys_copied : copied plan 0 ≡ true
  pub entries_copied : copied plan 1 ≡ true
  pub keys_fixed : is_fixed (code_of plan 0) ≡ true
  pub entries_low : code_of plan 1 < 15

module _ (y : Join) (parts : InParts y.plan) (bytes : AllBelow 256 y.body) where
  abbrev plan : List ℕ
  plan = y.plan

  abbrev U : ℕ → ℕ → Type 0
  U = Used plan

  keys_part : U 0 1
  keys_part = record { node = omega (arith, parts.nodes); part = buffer_copied plan 0 0 parts.keys_copied (omega (arith, fixed_one (code_of plan 0) parts.keys_fixed)) }

  bits_there : (eqb (keeps_of plan 0) 0 ≡ false) → U 0 0
  bits_there e =
      let b = between_both 1 10 (code_of plan 0) parts.keys_fixed in
      record { node = omega (arith, parts.nodes); part = bits_copied plan 0 parts.keys_copied (eqb-false (keeps_of plan 0) 0 e) (omega (arith, b.1)) }

  mask_uses : (slot n : ℕ) (c : List ℕ) → Uses U (copy_mask y 0 slot n c)
  unfolding copy_mask copy_bits
  mask_uses slot n c =
      uses_cond U (eqb (keeps_of plan 0) 0) _ _ (λ e. uses_done U c)
      (λ e. uses_cond U (eqb (place y 0 0) 0) _ _ (λ f. uses_wrote U (mask 0 (rows c 0) (replicate n 1)) c (bits_there e, bits_same n 1 (omega arith)))
      (λ f. uses_need U _ 12 c _
      (λ g. uses_next U _ _ (uses_wrote U (mask 0 (rows c 0) (bits_at (8 * place y 0 1 + slot) n y.body)) c (bits_there e, bits_part (8 * place y 0 1 + slot) n y.body)) (λ c2. uses_done U _))))

  keys_use : (c : List ℕ) → Uses U (wrote (put 0 1 0 (new_keys (keys_of y) (length_of y 1))) c)
  unfolding new_keys
  keys_use c = uses_wrote U (put 0 1 0 (new_keys (keys_of y) (length_of y 1))) c (keys_part, omega arith, encodes_bytes (bytes_of plan 0) (seg (new_key (keys_of y) (length_of y 1)) 0 (length_of y 0)))

  first_uses : (c : List ℕ) → Uses U (first_entry y c)
  unfolding first_entry
  first_uses c =
      uses_cond U (is_string (code_of plan 1)) _ _
      (λ e. let o : has_offsets (code_of plan 1) ≡ true = rw e in
      let s = offsets_buffer (code_of plan 1) o in
      uses_wrote U (put 1 1 0 (encode (bytes_of plan 1) 0)) c (record { node = omega (arith, parts.nodes); part = has_buffers plan 1 parts.entries_copied 0 (omega arith) }, omega arith, bytes_encode _ 0))
      (λ e. uses_done U c)

  there : (i b : ℕ) → UsedAt plan (λ j. j ≡ 1) i b → U i b
  there i b u =
      let e : 1 ≡ i = sym u.node in
      record { node = omega (arith, parts.nodes); part = copied_part plan i b (subst (λ j. copied plan j ≡ true) e parts.entries_copied) u.buffer }

  run_uses : (e k : ℕ) (c : List ℕ) → Uses U (copy_run y e k c)
  unfolding copy_run
  run_uses e k c =
      uses_cond U (eqb k 0) _ _ (λ q. uses_done U c)
      (λ q. record { log_used = used_wide there (copy_walk y 1 1 e k c).log (used_copies y _ _ (closed_values plan 1 parts.entries_low) bytes 1 1 e k c refl) })

  runs_use : (f e n : ℕ) (c : List ℕ) → Uses U (copy_runs y f e n c)
  unfolding copy_runs
  runs_use zero e n c = uses_done U c
  runs_use (suc f) e n c = uses_cond U (eqb n 0) _ _ (λ q. uses_done U c) (λ q. uses_next U _ _ (run_uses e (run_of y e n) c) (λ c2. runs_use f _ _ c2))

  blocks_use : (f e n : ℕ) (c : List ℕ) → Uses U (copy_blocks y f e n c)
  unfolding copy_blocks
  blocks_use zero e n c = uses_done U c
  blocks_use (suc f) e n c = uses_cond U (eqb n 0) _ _ (λ q. uses_done U c) (λ q. uses_next U _ _ (runs_use (min n 512) e (min n 512) c) (λ c2. blocks_use f _ _ c2))

  -- ONLY PARTS THAT THERE ARE
  pub reclaim_uses : (c : List ℕ) → Uses U (reclaim_walk_of y c)
  unfolding reclaim_walk_of
  reclaim_uses c =
      uses_need U (keys_in y) 12 c _
      (λ q. uses_next U _ _ (mask_uses (offset_of y 0) (length_of y 0) c)
      (λ c1. uses_next U _ _ (keys_use c1) (λ c2. uses_next U _ _ (first_uses (add_rows 0 (length_of y 0) c2)) (λ c3. blocks_use (length_of y 1) 0 (length_of y 1) c3))))
