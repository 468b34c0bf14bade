-- Finishing is never refused after an accepted opening and any orders, where the lent tables are of the finished array's lengths.
-- Assumes nothing.
use mathlib.Core.Path.{◌≡◌, refl, ◌∙◌}
use mathlib.Core.Bool.{Bool, true, false}
use mathlib.Core.List.{List}
use Prim.Native.Nat.{ℕ, suc, ◌+◌, ◌*◌, ◌≤◌, ◌<◌}
use native.Mathlib.Omega.{arith}
use lib.ListN.{length}
use borrow.Author.Tests.{le-leb, eq-eqb}
use Rattle.columnar.specs.Types.{Plain, Ty}
use Rattle.columnar.specs.Array.{Obeys}
use Rattle.columnar.specs.Plain.{PlainBody, PlainRule}
use Rattle.columnar.specs.Dictionary.{Dictionary}
use Rattle.columnar.specs.Reading.{Column}
use Rattle.columnar.specs.Test.{every}
use Rattle.array_data.specs.Typed.{Tree}
use Rattle.model.specs.Opening.{shared}
use Rattle.model.specs.Transform.{Destination}
use Rattle.walk.specs.State.{dictionary_of}
use Rattle.refinement.specs.walk_is_model.Memory.{Memory}
use Rattle.plan.specs.parts.Parts.{nodes_of, copied, has_part, part_holds, parts_hold}
use Rattle.columns.specs.Grounds.{ceiling}
use Rattle.refinement.specs.orders.Order.{Lent}
use Rattle.refinement.proofs.orders.Buffers.{copied_free}
use Rattle.refinement.proofs.orders.Enough.{every_all, only_if_lem}
use Rattle.refinement.proofs.opening.Zeros.{values_copied}
use Rattle.refinement.specs.finishing.Finish.{kept_in, null_table, length_table, place_table, buffer_table, buffers_before, tables_fit, room_fits, sizes_fit, finishing}
use Rattle.refinement.proofs.finishing.Given.{Valued, Given}
use Rattle.refinement.proofs.finishing.KeptValues.{kept_in_lem}
use Rattle.refinement.proofs.finishing.Finished.{kept_not}
use Rattle.refinement.proofs.finishing.Nodes.{every_node}

module _ (x : Lent) (buffers : List ℕ) (tree : Tree) (root : Ty) (m : ℕ) (columns : ℕ → Column root) (dest : Destination root) (counters room : List ℕ) (μ : Memory)
    (given : Given x buffers tree root m columns dest counters room μ) (base : ℕ) where
  -- ---- counters, parts and room

  every_part_lem : parts_hold x.plan counters x.parts ≡ true
  unfolding parts_hold part_holds
  every_part_lem =
      every_all (λ i. every (λ b. part_holds x.plan counters x.parts i b) 3) (nodes_of x.plan)
      (λ i l. every_all (λ b. part_holds x.plan counters x.parts i b) 3
      (λ b q. only_if_lem (has_part x.plan i b) (λ g. le-leb _ _ (given.bounded i b (record { node = l; part = g })).needs)))

  pub room_fits_lem : (lengths nulls places names : List ℕ) → room_fits x buffers counters room base lengths nulls places names ≡ true
  unfolding room_fits
  room_fits_lem lengths nulls places names = rw (eq-eqb (length counters) 96 given.long, given.within) every_part_lem

  -- ---- the bits of kept dictionaries

  copied_in : (i : ℕ) → copied x.plan i ≡ true → kept_in x buffers counters room base i ≡ true
  unfolding kept_in
  copied_in i c = rw c

  values_in : (p : Plain) (i : ℕ) (ds : ℕ → Dictionary (PlainBody p)) → suc i < nodes_of x.plan → (dictionary_of x.plan i ≡ 0 → ⊥) → Obeys true (PlainRule p) (ds 0).values
      → Valued x m counters μ p i ds → kept_in x buffers counters room base (suc i) ≡ true
  values_in p i ds l dict o h = go (shared m ds) refl
    where
      go : (b : Bool) → shared m ds ≡ b → kept_in x buffers counters room base (suc i) ≡ true
      go true s = kept_in_lem x buffers counters room base (suc i) (kept_not x.plan i dict (h.joined_word_lem ∙ rw s)) p (ds 0).values (h.kept s) o
      go false s = copied_in (suc i) (values_copied x.plan i (shared m ds) dict h.joined_word_lem s)

  pub all_kept_lem : every (kept_in x buffers counters room base) (nodes_of x.plan) ≡ true
  all_kept_lem =
      every_all (kept_in x buffers counters room base) (nodes_of x.plan)
      (every_node x buffers tree root m columns dest counters room μ given (λ j. kept_in x buffers counters room base j ≡ true)
      (λ k t i ss w l o mn st. copied_in i (copied_free x.plan i o))
      (λ w i l o code mn. copied_in i (copied_free x.plan i o))
      (λ p i ds l dict mn o h. values_in p i ds l dict o h))

  -- ---- the lent tables, and sizes

  tables_fit_lem : (lengths nulls places names : List ℕ) → length lengths ≡ 2 * nodes_of x.plan → length nulls ≡ nodes_of x.plan → length places ≡ 9 * nodes_of x.plan
      → length names ≡ 2 * buffers_before x buffers counters room base (nodes_of x.plan) → tables_fit x buffers counters room base lengths nulls places names ≡ true
  unfolding tables_fit
  tables_fit_lem lengths nulls places names a b c d = rw (eq-eqb _ _ a, eq-eqb _ _ b, eq-eqb _ _ c, eq-eqb _ _ d)

  sizes_fit_lem : (lengths nulls places names : List ℕ) → base ≤ ceiling → sizes_fit x buffers counters room base lengths nulls places names ≡ true
  unfolding sizes_fit
  sizes_fit_lem lengths nulls places names l = rw (le-leb base ceiling l, le-leb (length room) ceiling (omega (arith, given.placed.small)))

  -- FINISHING IS NEVER REFUSED, where the room begins within a body's ceiling and the tables are of the finished array's lengths
  pub never_refused : (lengths nulls places names : List ℕ) → base ≤ ceiling → length lengths ≡ 2 * nodes_of x.plan
      → length nulls ≡ nodes_of x.plan → length places ≡ 9 * nodes_of x.plan → length names ≡ 2 * buffers_before x buffers counters room base (nodes_of x.plan)
      → finishing x buffers counters room base lengths nulls places names
      ≡ record {
        refusal = 0;
        lengths = length_table x buffers counters room base;
        nulls = null_table x buffers counters room base;
        places = place_table x buffers counters room base;
        buffers = buffer_table x buffers counters room base;
      }
  unfolding finishing
  never_refused lengths nulls places names l a b c d =
      rw (sizes_fit_lem lengths nulls places names l, all_kept_lem, room_fits_lem lengths nulls places names, tables_fit_lem lengths nulls places names a b c d)
