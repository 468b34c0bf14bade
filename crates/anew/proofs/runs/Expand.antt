-- The expansion: it reads as the range's rows, after the encoder as those that it started from. Assumes nothing.
use mathlib.Core.Path.{◌≡◌, sym, ap, ◌∙◌}
use mathlib.Core.Bool.{false}
use Prim.Native.Nat.{ℕ, ◌+◌, ◌≤◌, ◌<◌}
use native.Mathlib.Nat.{zero-add, add-zero}
use native.Mathlib.Omega.{arith}
use lib.ListN.{replicate}
use Rattle.columnar.specs.Row.{seg}
use Rattle.columnar.specs.Types.{Number, width, half, fixed, t_plain, t_run_end}
use Rattle.columnar.specs.Plain.{stored}
use Rattle.columnar.specs.Reading.{Column, read, read_all, Source}
use Rattle.columnar.proofs.Kept.{seg_same}
use Rattle.model.proofs.Bits.{length_seg, get_d_seg}
use Rattle.anew.specs.runs.Runs.{ok_at}
use Rattle.anew.specs.runs.Coding.{encoded, run_at, expanded}
use Rattle.anew.proofs.runs.Picked.{Inside, picked_read, picked_zeros, picked_source}
use Rattle.anew.proofs.runs.Encode.{seg_from, encode_rows, encode_source}
use Rattle.anew.proofs.runs.Fewest.{run_value, run_there}

module _ (k : Number) (w : ℕ) (x : Column (t_run_end w (t_plain (fixed k)))) (s : Source (t_run_end w (t_plain (fixed k))) x) (a m : ℕ) (within : a + m ≤ x.len) where
  -- the runs of the rows are there
  pub runs_inside : Inside (seg (run_at w x) a m) x.body.values.len
  runs_inside j q =
      let p : j < m = omega (arith, length_seg (run_at w x) a m) in
      rw (get_d_seg (run_at w x) a m j 0 p, s.slots.as_many) (run_there w (t_plain (fixed k)) x s (a + j) (omega arith))

  pub expand_row : (i : ℕ) → i < m → read (t_plain (fixed k)) (expanded k w x a m) i ≡ read (t_run_end w (t_plain (fixed k))) x (a + i)
  expand_row i q =
      picked_read k x.body.values s.slots.child_rule (seg (run_at w x) a m) runs_inside i (omega (arith, length_seg (run_at w x) a m))
      ∙ ap (read (t_plain (fixed k)) x.body.values) (get_d_seg (run_at w x) a m i 0 q)
      ∙ sym (run_value w (t_plain (fixed k)) x s (a + i))

  -- THE EXPANDED COLUMN READS AS THE RANGE'S ROWS
  pub expand_rows : read_all (t_plain (fixed k)) (expanded k w x a m) ≡ seg (read (t_run_end w (t_plain (fixed k))) x) a m
  expand_rows =
      ap (seg (read (t_plain (fixed k)) (expanded k w x a m)) 0) (length_seg (run_at w x) a m)
      ∙ seg_same (read (t_plain (fixed k)) (expanded k w x a m)) (λ i. read (t_run_end w (t_plain (fixed k))) x (a + i)) 0 m (λ i q. rw (zero-add i) (expand_row i q))
      ∙ seg_from (read (t_run_end w (t_plain (fixed k))) x) a 0 m
      ∙ ap (λ b. seg (read (t_run_end w (t_plain (fixed k))) x) b m) (add-zero a)

  -- "NULL SLOTS AS ZEROS"
  pub expand_zeros : (j : ℕ) → j < m → ok_at (expanded k w x a m) j ≡ false → stored (fixed k) (expanded k w x a m).body j ≡ replicate (width k) 0
  expand_zeros j q e =
      picked_zeros k x.body.values s.slots.child_rule (seg (run_at w x) a m) runs_inside j (omega (arith, length_seg (run_at w x) a m)) e

  -- IT OBEYS THE RULES, so that it can be lent again
  pub expand_source : Source (t_plain (fixed k)) (expanded k w x a m)
  expand_source = picked_source k x.body.values s.slots.child_rule (seg (run_at w x) a m) runs_inside

-- EXPANDING WHAT THE ENCODER WROTE GIVES THE ROWS THAT IT STARTED FROM
pub expand_encode : (k : Number) (w : ℕ) (x : Column (t_plain (fixed k))) (a m : ℕ) → m < half w → Source (t_plain (fixed k)) x → a + m ≤ x.len
    → read_all (t_plain (fixed k)) (expanded k w (encoded k w x a m) 0 m) ≡ seg (read (t_plain (fixed k)) x) a m
expand_encode k w x a m fits s within =
    expand_rows k w (encoded k w x a m) (encode_source k x a m w fits s within) 0 m (omega arith) ∙ encode_rows k x a m w fits s within
