-- Finishing a column that stands is never refused, where the lent tables are of its lengths and the room begins within the ceiling.
-- Assumes nothing.
use mathlib.Core.Path.{◌≡◌}
use mathlib.Core.Bool.{true}
use mathlib.Core.List.{List}
use Prim.Native.Nat.{ℕ, suc, ◌*◌, ◌≤◌}
use native.Mathlib.Omega.{arith}
use lib.ListN.{length}
use borrow.Author.Tests.{le-leb, eq-eqb}
use Rattle.columnar.specs.Types.{Plain, Ty}
use Rattle.columnar.specs.Array.{Array}
use Rattle.columnar.specs.Plain.{PlainBody}
use Rattle.columnar.specs.Reading.{Column}
use Rattle.columnar.specs.Test.{every}
use Rattle.array_data.specs.Typed.{Tree}
use Rattle.walk.specs.State.{dictionary_of}
use Rattle.refinement.specs.walk_is_model.Memory.{Memory}
use Rattle.columns.specs.Grounds.{ceiling}
use Rattle.plan.specs.parts.Parts.{nodes_of, copied}
use Rattle.refinement.specs.orders.Order.{Lent}
use Rattle.refinement.proofs.orders.Buffers.{copied_free}
use Rattle.refinement.proofs.orders.Enough.{every_all}
use Rattle.refinement.specs.finishing.Finish.{Finished, kept_in, buffers_before, length_table, null_table, place_table, buffer_table, tables_fit, room_fits, sizes_fit, finishing}
use Rattle.refinement.proofs.finishing.KeptValues.{kept_in_lem}
use Rattle.refinement.proofs.finishing.Finished.{kept_not}
use Rattle.anew.specs.Stood.{StoodValues, in_parts, kept}
use Rattle.anew.proofs.Standing.{Standing, every_node}
use Rattle.anew.proofs.Bounds.{parts_copied}

module _ (x : Lent) (buffers : List ℕ) (tree : Tree) (root : Ty) (column : Column root) (counters room : List ℕ) (μ : Memory) (st : Standing x buffers tree root column counters room μ) where
  abbrev plan : List ℕ
  plan = x.plan

  module _ (base : ℕ) where
    -- ---- the tables

    tables_fit_lem : (lengths nulls places names : List ℕ) → length lengths ≡ 2 * nodes_of plan → length nulls ≡ nodes_of plan → length places ≡ 9 * nodes_of plan
        → length names ≡ 2 * buffers_before x buffers counters room base (nodes_of plan) → tables_fit x buffers counters room base lengths nulls places names ≡ true
    unfolding tables_fit
    tables_fit_lem lengths nulls places names a b c d = rw (eq-eqb _ _ a, eq-eqb _ _ b, eq-eqb _ _ c, eq-eqb _ _ d)

    sizes_fit_lem : (lengths nulls places names : List ℕ) → base ≤ ceiling → sizes_fit x buffers counters room base lengths nulls places names ≡ true
    unfolding sizes_fit
    sizes_fit_lem lengths nulls places names l = rw (le-leb base ceiling l, le-leb (length room) ceiling (omega (arith, st.placed.small)))

    room_fits_lem : (lengths nulls places names : List ℕ) → room_fits x buffers counters room base lengths nulls places names ≡ true
    unfolding room_fits
    room_fits_lem lengths nulls places names = rw (eq-eqb (length counters) 96 st.long, st.within) st.enough

    -- ---- kept dictionaries

    copied_in : (i : ℕ) → copied plan i ≡ true → kept_in x buffers counters room base i ≡ true
    unfolding kept_in
    copied_in i c = rw c

    values_in : (p : Plain) (i : ℕ) (a : Array (PlainBody p)) → (dictionary_of plan i ≡ 0 → ⊥) → StoodValues x buffers counters μ p i a → kept_in x buffers counters room base (suc i) ≡ true
    values_in p i a dict (in_parts e h) = copied_in (suc i) (parts_copied plan i dict e)
    values_in p i a dict (kept e v h o q) = kept_in_lem x buffers counters room base (suc i) (kept_not plan i dict e) p v h o

    pub all_kept_lem : every (kept_in x buffers counters room base) (nodes_of plan) ≡ true
    all_kept_lem =
        every_all (kept_in x buffers counters room base) (nodes_of plan)
        (every_node x buffers tree root column counters μ st.of_type st.stood (λ j. kept_in x buffers counters room base j ≡ true)
        (λ k t i a w l o mn h. copied_in i (copied_free plan i o)) (λ w i a l o f e mn h. copied_in i (copied_free plan i o)) (λ p i a l dict mn h. values_in p i a dict h))

    -- ---- the whole

    -- the tables as they are left
    abbrev pub finished : Finished
    finished =
        record {
          refusal = 0;
          lengths = length_table x buffers counters room base;
          nulls = null_table x buffers counters room base;
          places = place_table x buffers counters room base;
          buffers = buffer_table x buffers counters room base;
        }

    -- FINISHING IS NEVER REFUSED, where the room begins within a body's ceiling and the tables are of the column's lengths
    pub stood_accepted : base ≤ ceiling → (lengths nulls places names : List ℕ) → length lengths ≡ 2 * nodes_of plan → length nulls ≡ nodes_of plan
        → length places ≡ 9 * nodes_of plan → length names ≡ 2 * buffers_before x buffers counters room base (nodes_of plan)
        → finishing x buffers counters room base lengths nulls places names ≡ finished
    unfolding finishing
    stood_accepted small lengths nulls places names a b c d =
        rw (sizes_fit_lem lengths nulls places names small, all_kept_lem, room_fits_lem lengths nulls places names, tables_fit_lem lengths nulls places names a b c d)
