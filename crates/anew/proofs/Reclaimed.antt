-- A dictionary column with the entries in use alone (02, W9): what counters and memory must have for it to stand. Assumes nothing.
use mathlib.Core.Path.{◌≡◌, refl, sym, ap, ◌∙◌}
use mathlib.Core.Bool.{Bool, true, false}
use mathlib.Core.List.{List, map}
use Prim.Native.Nat.{ℕ, ◌+◌, ◌*◌, ◌<◌}
use native.Mathlib.Omega.{arith}
use lib.ListN.{length}
use lib.Dec.{ltb}
use borrow.Author.Tests.{ltb-true, ltb-false}
use Rattle.columnar.specs.Row.{seg}
use Rattle.columnar.specs.Types.{Number, width, Plain, t_dictionary}
use Rattle.columnar.specs.Array.{null_count_of}
use Rattle.columnar.specs.Entries.{encodes}
use Rattle.columnar.specs.Reading.{Column}
use Rattle.columnar.proofs.Items.{length_encodes}
use Rattle.model.proofs.Bits.{length_seg}
use Rattle.walk.specs.State.{word, keeps_of, rows}
use Rattle.refinement.specs.walk_is_model.Memory.{Memory}
use Rattle.refinement.specs.walk_is_model.Holds.{flag}
use Rattle.refinement.specs.orders.Order.{Lent}
use Rattle.anew.specs.runs.Runs.{ok_at}
use Rattle.anew.specs.entries.Used.{kept}
use Rattle.anew.specs.entries.Reclaimed.{entries_of, new_key, reclaimed}
use Rattle.anew.specs.Stood.{StoodNode, StoodPlain, in_parts, Stood}
use Rattle.anew.proofs.Bits.{seg_valid, bits_stand}

module _ (x : Lent) (buffers counters : List ℕ) (μ : Memory) where
  -- counters and memory that a walk leaves: new keys for all rows, and the entries in use in parts
  pub record ReclaimedAt (k : Number) (p : Plain) (v : Column (t_dictionary k p)) : Type 0 where
    pub rows_are : rows counters 0 ≡ v.len
    pub keeps_are : keeps_of x.plan 0 ≡ flag (ltb 0 (null_count_of v))
    pub keys_are : μ.at 0 1 ≡ encodes (width k) (seg (new_key k p v) 0 v.len)
    pub bits_are : 0 < null_count_of v → μ.bits 0 ≡ map flag (seg (ok_at v) 0 v.len)
    pub has_parts : word x.plan 0 7 ≡ 1
    pub entries : StoodNode x buffers counters μ 1 true (StoodPlain x buffers counters μ p 1) (entries_of p v.body.values (kept k v))

  -- THE RECLAIMED COLUMN STANDS
  pub reclaimed_stands : (k : Number) (p : Plain) (v : Column (t_dictionary k p)) → ReclaimedAt k p v → Stood x buffers counters μ (t_dictionary k p) 0 (reclaimed k p v)
  reclaimed_stands k p v h =
      record {
        rows_are = h.rows_are;
        from_zero = refl;
        bits_are = bits_stand x buffers counters μ 0 (ltb 0 (null_count_of v)) v.len (seg (ok_at v) 0 v.len) h.keeps_are (length_seg (ok_at v) 0 v.len) (λ e. h.bits_are (ltb-true 0 (null_count_of v) e))
            (λ e. seg_valid v (omega (arith, ltb-false 0 (null_count_of v) e)) 0 v.len (omega arith));
        body_is = (
          record { bytes_are = h.keys_are; long = length_encodes (width k) (seg (new_key k p v) 0 v.len) ∙ ap (λ n. n * width k) (length_seg (new_key k p v) 0 v.len) },
          in_parts h.has_parts h.entries,
        );
      }
