-- The root of a result: no rows yet, then the bits of all rows of the column that it comes from. Assumes nothing.
use mathlib.Core.Path.{◌≡◌, refl, sym, ap, ◌∙◌}
use mathlib.Core.Bool.{Bool, true, false, cond, true≢false}
use mathlib.Core.Option.{Option, none, some}
use mathlib.Core.List.{List, [], map}
use Prim.Native.Nat.{ℕ, ◌+◌}
use native.Mathlib.Omega.{arith}
use lib.ListN.{length}
use lib.Dec.{eqb}
use Rattle.columnar.specs.Row.{seg}
use Rattle.columnar.specs.Array.{Array, ok, Mask}
use Rattle.array_data.specs.Tables.{part}
use Rattle.model.specs.Mutable.{grow}
use Rattle.model.proofs.Law.{BitsFor}
use Rattle.walk.specs.State.{Join, keeps_of, rows, nulls, place, length_of, offset_of}
use Rattle.walk.specs.Log.{Out}
use Rattle.walk.specs.Leaves.{copy_mask}
use Rattle.refinement.specs.walk_is_model.Memory.{Memory}
use Rattle.refinement.specs.walk_is_model.Holds.{flag, HoldsBits}
use Rattle.refinement.specs.walk_is_model.Lent.{LentValid, LentNode}
use Rattle.refinement.proofs.walk_is_model.Goes.{Quiet}
use Rattle.refinement.proofs.walk_is_model.Frame.{SameAt}
use Rattle.refinement.proofs.walk_is_model.Mask.{Masked, copy_mask_lem}

pub quiet_map : {μ : Memory} {Q R : List ℕ → Memory → Type 0} {o : Out} → ((c : List ℕ) (ν : Memory) → Q c ν → R c ν) → Quiet μ Q o → Quiet μ R o
quiet_map {o = o} f q = record { is_done = q.is_done; in_place = q.in_place; leaves = f o.counters _ q.leaves }

-- a slot is valid as the tables say
pub ok_lent : (x : Join) (valid : Option (List ℕ)) → LentValid x 0 valid → (k : ℕ) → ok (cond (eqb (place x 0 0) 0) none (some (part x.body (place x 0 1) (place x 0 2)))) k ≡ ok valid k
ok_lent x none h k = rw h refl
ok_lent x (some m) h k = rw h.0 (ap (λ s. ok (some s) k) (sym h.1.bytes_are))

-- node 0 has its bits, and no rows are counted yet
pub record RootBits {B : Type 0} (a : Array B) (keep : Bool) (c c' : List ℕ) (μ μ' : Memory) : Type 0 where
  pub long : length c' ≡ 96
  pub no_rows : rows c' 0 ≡ 0
  pub bits_are : keep ≡ true → μ'.bits 0 ≡ map flag (seg (ok a.valid) a.off a.len)
  pub bytes_same : (b : ℕ) → μ'.at 0 b ≡ μ.at 0 b
  pub others : (j : ℕ) → (j ≡ 0 → ⊥) → SameAt c c' μ μ' j

-- THE ROOT'S VALIDITY is copied
pub root_bits : {B : Type 0} (x : Join) (inner : B → Type 0) (a : Array B) (keep : Bool) → LentNode x 0 inner a → Mask true a.valid (a.off + a.len) → keeps_of x.plan 0 ≡ flag keep
    → (c : List ℕ) (μ : Memory) → length c ≡ 96 → rows c 0 ≡ 0 → nulls c 0 ≡ 0 → μ.bits 0 ≡ []
    → Quiet μ (λ c' μ'. RootBits a keep c c' μ μ') (copy_mask x 0 (offset_of x 0) (length_of x 0) c)
root_bits x inner a keep lent mask e c μ long r z b =
    let vs = seg (ok a.valid) a.off a.len in
    let start : Option (List Bool) = cond keep (some []) none in
    rw (lent.off_is, lent.len_is)
    (quiet_map (λ c' μ' h. root_of _ c' μ' h)
    (copy_mask_lem x 0 (omega arith) c long μ a.valid start 0 0 a.off a.len (a.off + a.len) lent.valid_is mask (omega arith) (start_held keep e) (start_long keep) r z (omega (arith, lent.sum))))
  where
    start_held : (k : Bool) → keeps_of x.plan 0 ≡ flag k → HoldsBits x.plan 0 true (cond k (some []) none) μ
    start_held true q = (λ y. omega (arith, q, y), b)
    start_held false q = q

    start_long : (k : Bool) → BitsFor true (cond k (some []) none) 0
    start_long true = refl
    start_long false = tt

    bits_of : (k : Bool) (vs : List Bool) (μ' : Memory) → HoldsBits x.plan 0 true (grow true vs (cond k (some []) none)) μ' → k ≡ true → μ'.bits 0 ≡ map flag vs
    bits_of true vs μ' h q = h.1
    bits_of false vs μ' h q = absurd (true≢false (sym q))

    root_of : (count : ℕ) (c' : List ℕ) (μ' : Memory) → Masked x.plan 0 true (grow true (seg (ok a.valid) a.off a.len) (cond keep (some []) none)) count c c' μ μ' → RootBits a keep c c' μ μ'
    root_of count c' μ' h =
        record {
          long = h.long ∙ long;
          no_rows = h.rows_same 0 ∙ r;
          bits_are = bits_of keep (seg (ok a.valid) a.off a.len) μ' h.bits_are;
          bytes_same = λ b. h.at_same 0 b;
          others = λ j q. record { rows_same = h.rows_same j; nulls_same = h.nulls_else j q; bytes_same = h.bytes_same j; at_same = λ b. h.at_same j b; bits_same = h.bits_else j q };
        }
