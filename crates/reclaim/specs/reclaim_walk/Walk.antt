-- The walk that writes a dictionary column anew with the entries in use: node 0 holds its keys, node 1 the entries (02, W9).
-- Assumes nothing.
use Rattle.std.specs.Prelude.{Bool, true, not, cond, ◌&&◌, List, ℕ, zero, suc, ◌+◌, ◌*◌, ◌-◌, min, max, length, leb, ltb, eqb}
use Rattle.number.specs.Number.{encode}
use Rattle.schema.specs.formats.Code.{is_fixed, is_string}
use Rattle.walk.specs.State.{Join, code_of, bytes_of, add_rows, place, length_of, offset_of, far, rows_in}
use Rattle.walk.specs.Log.{Out, put, done, wrote, need, next}
use Rattle.walk.specs.Leaves.{copy_mask}
use Rattle.walk.specs.Copy.{copy_walk}
use Rattle.reclaim.specs.used_entries.Keys.{Keys, keys, used, new_keys}

module _ (x : Join) where
  -- the keys of the column
  abbrev pub keys_of : Keys
  keys_of = keys x.body (bytes_of x.plan 0) (place x 0 3) (not (eqb (place x 0 0) 0)) (place x 0 1) (offset_of x 0) (length_of x 0)

  -- the validity of the keys lies in the body, if there is one
  abbrev pub bits_in : Bool
  bits_in = cond (eqb (place x 0 0) 0) true (leb (8 * place x 0 1 + offset_of x 0 + length_of x 0) (8 * length x.body))

  -- keys and validity lie in the body
  unfoldable pub keys_in : Bool
  keys_in =
      is_fixed (code_of x.plan 0) && ltb (offset_of x 0 + length_of x 0) far && ltb (length_of x 1) far
      && rows_in x (place x 0 3) (bytes_of x.plan 0) (offset_of x 0) (length_of x 0) && bits_in

  -- the first zero offset of byte strings
  unfoldable pub first_entry : List ℕ → Out
  first_entry c = cond (is_string (code_of x.plan 1)) (wrote (put 1 1 0 (encode (bytes_of x.plan 1) 0)) c) (done c)

  -- how many of the n entries from e on are in use, up to the first that is not
  unfoldable pub run_of : ℕ → ℕ → ℕ
  run_of e zero = 0
  run_of e (suc n) = cond (used keys_of e) (suc (run_of (suc e) n)) 0

  -- "only the entries that some valid key names, each copied as an order copies it": k of them, one behind the other, by one order
  unfoldable pub copy_run : ℕ → ℕ → List ℕ → Out
  copy_run e k c = cond (eqb k 0) (done c) (copy_walk x 1 1 e k c)

  -- the n entries from e on, run by run, in at most so many steps
  unfoldable pub copy_runs : ℕ → ℕ → ℕ → List ℕ → Out
  copy_runs zero e n c = done c
  copy_runs (suc f) e n c =
      cond (eqb n 0) (done c) (next (copy_run e (run_of e n) c) (λ c2. copy_runs f (e + max (run_of e n) 1) (n - max (run_of e n) 1) c2))

  -- .. in blocks of 512
  unfoldable pub copy_blocks : ℕ → ℕ → ℕ → List ℕ → Out
  copy_blocks zero e n c = done c
  copy_blocks (suc f) e n c =
      cond (eqb n 0) (done c) (next (copy_runs (min n 512) e (min n 512) c) (λ c2. copy_blocks f (e + min n 512) (n - min n 512) c2))

  -- THE WALK: validity and new keys of all rows, then the entries in use "in their old order"; 12 for tables that no accepted column has
  unfoldable pub reclaim_walk_of : List ℕ → Out
  reclaim_walk_of c =
      need keys_in 12 c
      (next (copy_mask x 0 (offset_of x 0) (length_of x 0) c)
      (λ c1. next (wrote (put 0 1 0 (new_keys keys_of (length_of x 1))) c1)
      (λ c2. next (first_entry (add_rows 0 (length_of x 0) c2)) (λ c3. copy_blocks (length_of x 1) 0 (length_of x 1) c3))))
