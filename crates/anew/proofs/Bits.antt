-- The validity of a node that comes from another: bits where that has a null, and else none is needed. For whoever proves that a result
-- stands. Assumes nothing.
use mathlib.Core.Path.{◌≡◌, refl, sym, ap, subst, ◌∙◌}
use mathlib.Core.Bool.{Bool, true, false, cond, ◌&&◌}
use mathlib.Core.Option.{Option, none, some}
use mathlib.Core.List.{List, [], ◌∷◌, map}
use Prim.Native.Nat.{ℕ, zero, suc, ◌+◌, ◌-◌, ◌≤◌, ◌<◌}
use native.Mathlib.Nat.{zero-add}
use native.Mathlib.Omega.{arith}
use lib.ListN.{length, get_or}
use lib.Dec.{ltb}
use borrow.Author.Tests.{lt-ltb, ltb-true, ltb-false}
use Rattle.columnar.specs.Row.{seg}
use Rattle.columnar.specs.Array.{Array, ok, null_count_of}
use Rattle.array_data.specs.Tables.{Tables, array_with}
use Rattle.array_data.specs.Typed.{tables_from}
use Rattle.array_data.specs.lent_tables.Lent.{tables}
use Rattle.plan.specs.dictionaries.Sources.{array_of}
use Rattle.plan.proofs.dictionaries.Laws.{array_from}
use Rattle.model.specs.Mutable.{pack, zeros, validity}
use Rattle.model.proofs.Start.{no_null_in}
use Rattle.walk.specs.State.{keeps_of}
use Rattle.refinement.specs.walk_is_model.Memory.{Memory}
use Rattle.refinement.specs.walk_is_model.Holds.{flag}
use Rattle.refinement.specs.orders.Order.{Lent}
use Rattle.anew.specs.ResultPlan.{keeps_from}
use Rattle.anew.specs.Stood.{StoodBits}

-- NODE i COMES FROM NODE j of the column: it keeps nulls exactly where that has one
pub keeps_typed : {B : Type 0} (x : Tables) (first : ℕ) (from : List ℕ) (i j : ℕ) → get_or from i 0 ≡ suc j → (b : B)
    → keeps_from (tables x.lengths x.places x.body) first from i ≡ ltb 0 (null_count_of (array_with (tables_from x first) b j))
unfolding keeps_from
keeps_typed x first from i j e b =
    let p : get_or from i 0 - 1 ≡ j = omega (arith, e) in
    rw (lt-ltb 0 (get_or from i 0) (omega (arith, e)), p) (ap (λ a. ltb 0 (null_count_of a)) (sym (array_from x first j)))

-- ---- rows without a null

module _ {B : Type 0} (a : Array B) (h : null_count_of a ≡ 0) where
  valid_at_lem : (r : ℕ) → r < a.len → ok a.valid (a.off + r) ≡ true
  valid_at_lem = no_null_in (ok a.valid) a.off a.len h

  -- rows of any order
  pub rows_valid : (rs : List ℕ) → ((k : ℕ) → k < length rs → get_or rs k 0 < a.len) → zeros (map (λ r. ok a.valid (a.off + r)) rs) ≡ 0
  rows_valid [] f = refl
  rows_valid (r ∷ rs) f = rw (valid_at_lem r (f 0 (omega arith)), rows_valid rs (λ k l. f (suc k) (omega arith)))

  -- rows one behind the other
  pub seg_valid : (s n : ℕ) → s + n ≤ a.len → zeros (seg (λ r. ok a.valid (a.off + r)) s n) ≡ 0
  seg_valid s zero l = refl
  seg_valid s (suc n) l = rw (valid_at_lem s (omega arith), seg_valid (suc s) n (omega arith))

-- ---- the validity of a result's node

module _ (x : Lent) (buffers counters : List ℕ) (μ : Memory) (i : ℕ) where
  no_zeros : (l : List Bool) → zeros l ≡ 0 → none ≡ validity true (some l)
  no_zeros l e = ap (λ z. elim z as (λ m. Option (List ℕ)) [ zero ↦ none | suc m ↦ some (pack l) ]) (sym e)

  -- A NODE WITHOUT VALIDITY: one that is new, or holds run ends
  pub bits_none : (masks : Bool) (n : ℕ) → keeps_of x.plan i ≡ 0 → StoodBits x buffers counters μ i masks n none
  bits_none masks n e = record { bits = none; long = tt; held = e; valid_is = refl }

  -- A NODE THAT COMES FROM ONE with or without nulls: a bit for each row, which the memory has where it keeps nulls, and none of them is 0 where not
  pub bits_stand : (keep : Bool) (n : ℕ) (l : List Bool) → keeps_of x.plan i ≡ flag keep → length l ≡ n → (keep ≡ true → μ.bits i ≡ map flag l) → (keep ≡ false → zeros l ≡ 0)
      → StoodBits x buffers counters μ i true n (validity true (some l))
  bits_stand true n l k e f g = record { bits = some l; long = e; held = (λ z. omega (arith, k, z), f refl); valid_is = refl }
  bits_stand false n l k e f g = record { bits = none; long = tt; held = k; valid_is = sym (no_zeros l (g refl)) }
