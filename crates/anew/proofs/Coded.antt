-- A plain column as runs, and a run-end column as a plain one (02, W1): what counters and memory must have for the result to stand.
-- Assumes nothing.
use mathlib.Core.Path.{◌≡◌, refl, sym, ap, ◌∙◌}
use mathlib.Core.Bool.{Bool, true, false}
use mathlib.Core.List.{List, map}
use Prim.Native.Nat.{ℕ, suc, ◌+◌, ◌*◌, ◌≤◌, ◌<◌}
use native.Mathlib.Omega.{arith}
use lib.ListN.{length, length-map}
use lib.Dec.{ltb}
use borrow.Author.Tests.{ltb-true, ltb-false}
use Rattle.columnar.specs.Row.{seg}
use Rattle.columnar.specs.Types.{Number, width, fixed, t_plain, t_run_end}
use Rattle.columnar.specs.Array.{Array, null_count_of}
use Rattle.columnar.specs.Entries.{encodes}
use Rattle.columnar.specs.Reading.{Column, Source}
use Rattle.columnar.proofs.Items.{length_encodes}
use Rattle.walk.specs.State.{keeps_of, rows}
use Rattle.refinement.specs.walk_is_model.Memory.{Memory}
use Rattle.refinement.specs.walk_is_model.Holds.{flag}
use Rattle.refinement.specs.orders.Order.{Lent}
use Rattle.anew.specs.runs.Runs.{ok_at, run_ends, run_rows}
use Rattle.anew.specs.runs.Picked.{cells, picked}
use Rattle.anew.specs.runs.Coding.{ends_of, encoded, run_at, expanded}
use Rattle.anew.proofs.runs.Picked.{Inside, cells_long}
use Rattle.anew.proofs.runs.Encode.{rows_inside}
use Rattle.anew.proofs.runs.Expand.{runs_inside}
use Rattle.anew.specs.Stood.{StoodNode, Stored, StoodPlain, Stood}
use Rattle.anew.proofs.Bits.{rows_valid, bits_none, bits_stand}

module _ (x : Lent) (buffers counters : List ℕ) (μ : Memory) where
  -- NODE i HAS THE ROWS rs OF A COLUMN: their bytes, and their bits where the column has a null
  pub record PickedAt (k : Number) (v : Column (t_plain (fixed k))) (rs : List ℕ) (i : ℕ) : Type 0 where
    pub rows_are : rows counters i ≡ length rs
    pub keeps_are : keeps_of x.plan i ≡ flag (ltb 0 (null_count_of v))
    pub bytes_are : μ.at i 1 ≡ cells k v rs
    pub bits_are : 0 < null_count_of v → μ.bits i ≡ map flag (map (ok_at v) rs)

  pub picked_stands : (k : Number) (v : Column (t_plain (fixed k))) (rs : List ℕ) (i : ℕ) → Source (t_plain (fixed k)) v → Inside rs v.len → PickedAt k v rs i
      → Stood x buffers counters μ (t_plain (fixed k)) i (picked k v rs)
  picked_stands k v rs i s inside h =
      record {
        rows_are = h.rows_are;
        from_zero = refl;
        bits_are = bits_stand x buffers counters μ i (ltb 0 (null_count_of v)) (length rs) (map (ok_at v) rs) h.keeps_are (length-map rs (ok_at v)) (λ e. h.bits_are (ltb-true 0 (null_count_of v) e))
            (λ e. rows_valid v (omega (arith, ltb-false 0 (null_count_of v) e)) rs inside);
        body_is = record { bytes_are = h.bytes_are; long = cells_long k v s rs inside };
      }

  -- ---- the encoder

  -- counters and memory that the walk of an encoder leaves: m rows from a on, with run ends of w bytes
  pub record EncodedAt (k : Number) (w : ℕ) (v : Column (t_plain (fixed k))) (a m : ℕ) : Type 0 where
    pub root_rows : rows counters 0 ≡ m
    pub root_keeps : keeps_of x.plan 0 ≡ 0
    pub ends_rows_lem : rows counters 1 ≡ length (run_ends k v a m)
    pub ends_keep : keeps_of x.plan 1 ≡ 0
    pub ends_bytes : μ.at 1 1 ≡ encodes w (run_ends k v a m)
    pub values : PickedAt k v (run_rows k v a m) 2

  ends_stand : (i w : ℕ) (es : List ℕ) → rows counters i ≡ length es → keeps_of x.plan i ≡ 0 → μ.at i 1 ≡ encodes w es
      → StoodNode x buffers counters μ i true (λ m s. Stored x buffers counters μ i 1 m w s) (ends_of w es)
  ends_stand i w es r e b =
      record {
        rows_are = r;
        from_zero = refl;
        bits_are = bits_none x buffers counters μ i true (length es) e;
        body_is = record { bytes_are = b; long = length_encodes w es };
      }

  -- THE ENCODED COLUMN STANDS
  pub encoded_stands : (k : Number) (w : ℕ) (v : Column (t_plain (fixed k))) (a m : ℕ) → Source (t_plain (fixed k)) v → a + m ≤ v.len → EncodedAt k w v a m
      → Stood x buffers counters μ (t_run_end w (t_plain (fixed k))) 0 (encoded k w v a m)
  encoded_stands k w v a m s within h =
      record {
        rows_are = h.root_rows;
        from_zero = refl;
        bits_are = bits_none x buffers counters μ 0 false m h.root_keeps;
        body_is = (ends_stand 1 w (run_ends k v a m) h.ends_rows_lem h.ends_keep h.ends_bytes, picked_stands k v (run_rows k v a m) 2 s (rows_inside k v a m within) h.values);
      }

  -- ---- the expansion

  -- THE EXPANDED COLUMN STANDS, where the root has the value of each row's run
  pub expanded_stands : (k : Number) (w : ℕ) (v : Column (t_run_end w (t_plain (fixed k)))) (a m : ℕ) → Source (t_run_end w (t_plain (fixed k))) v → a + m ≤ v.len
      → PickedAt k v.body.values (seg (run_at w v) a m) 0 → Stood x buffers counters μ (t_plain (fixed k)) 0 (expanded k w v a m)
  expanded_stands k w v a m s within h = picked_stands k v.body.values (seg (run_at w v) a m) 0 s.slots.child_rule (runs_inside k w v s a m within) h
