-- Where the nodes have no rows, counters and memory hold the destination with no rows that keeps nulls exactly where a column has one.
-- Assumes nothing.
use mathlib.Core.Path.{◌≡◌, refl, ap, ◌∙◌}
use mathlib.Core.Bool.{Bool, true, false, cond, ◌&&◌, ◌||◌}
use mathlib.Core.Option.{none, some}
use mathlib.Core.List.{List, []}
use Prim.Native.Nat.{ℕ, zero, suc, ◌<◌}
use native.Mathlib.Omega.{arith}
use lib.ListN.{get_or}
use lib.Dec.{ltb, eqb}
use borrow.Author.Tests.{lt-leb}
use Rattle.number.specs.Number.{encode}
use Rattle.columnar.specs.Types.{Plain, fixed, string, Ty, t_plain, t_view, t_list_view, t_list, t_sparse, t_dense, t_run_end, t_dictionary}
use Rattle.columnar.specs.Array.{Array, null_count_of}
use Rattle.columnar.specs.Reading.{Body, Column, masks}
use Rattle.schema.specs.formats.Code.{between, is_fixed, is_list, is_union, is_run_end}
use Rattle.model.specs.Primitive.{plain_start}
use Rattle.walk.specs.State.{code_of, keeps_of}
use Rattle.refinement.specs.walk_is_model.Memory.{Memory}
use Rattle.refinement.specs.walk_is_model.Holds.{child_of, flag, WordedPlain, Worded, HoldsBits, HoldsNode, HoldsPlain, HoldsData, Holds}
use Rattle.refinement.proofs.walk_is_model.Codes.{between_apart}
use Rattle.refinement.proofs.log_in_room.Found.{between_both, between_wide}
use Rattle.plan.specs.parts.Parts.{has_offsets}
use Rattle.refinement.proofs.orders.Buffers.{fixed_else}
use Rattle.refinement.proofs.orders.Cover.{Laid}
use Rattle.refinement.proofs.opening.Zeros.{gap_of}
use Rattle.refinement.proofs.opening.Zeros as zeros
use Rattle.refinement.proofs.opening.Starts.{Here, There, closed_here, is_union_lem, child_here}
use Rattle.anew.specs.lists.Fresh.{fresh_node, fresh_data, fresh}
use Rattle.convert.specs.convert_lists.Exact.{Exact, ExactData}

neither : {a b : Bool} → a ≡ false → b ≡ false → a || b ≡ false
neither p q = rw (p, q)

fixed_offsets : (z : ℕ) → is_fixed z ≡ true → has_offsets z ≡ false
fixed_offsets z h = let e = fixed_else z h in neither e.0 e.3

pub lists_offsets : (z : ℕ) → is_list z ≡ true → has_offsets z ≡ true
lists_offsets z h = rw (between_apart 19 20 11 14 z (omega arith) h, h)

module _ (plan c : List ℕ) (μ : Memory) (no_gaps : get_or plan 867 0 ≡ 0) where
  start_bits_lem : (i : ℕ) (m keep : Bool) → keeps_of plan i ≡ flag keep → μ.bits i ≡ [] → HoldsBits plan i m (cond keep (some []) none) μ
  start_bits_lem i true true e b = (λ z. omega (arith, e, z), b)
  start_bits_lem i false true e b = λ z. omega (arith, e, z)
  start_bits_lem i m false e b = e

  -- a node that keeps nulls exactly where the column's has one
  fresh_node_lem : {B D : Type 0} (i : ℕ) (m : Bool) (inner : D → List ℕ → Memory → Type 0) (f : B → D) (a : Array B) → zeros.Fresh plan c μ i → keeps_of plan i ≡ flag (ltb 0 (null_count_of a))
      → inner (f a.body) c μ → HoldsNode plan i m inner (fresh_node f a) c μ
  fresh_node_lem i m inner f a h e d =
      record { rows_are = h.no_rows; nulls_are = h.no_nulls; few_nulls = omega arith; bits_are = start_bits_lem i m (ltb 0 (null_count_of a)) e h.no_bits; data_are = d }

  -- no run for a gap is chosen
  no_gap : (i : ℕ) → gap_of plan i ≡ 0
  no_gap i = ap (λ v. cond (is_run_end (code_of plan i) && eqb v 1) 1 0) no_gaps ∙ go (is_run_end (code_of plan i))
    where
      go : (b : Bool) → ◌≡◌ {A = ℕ} (cond (b && false) 1 0) 0
      go true = refl
      go false = refl

  fresh_plain : (p : Plain) (i : ℕ) → WordedPlain plan p i → zeros.Fresh plan c μ i → HoldsPlain plan p i (plain_start p) c μ
  fresh_plain (fixed n) i w f = f.no_entries (fixed_offsets (code_of plan i) w.0)
  fresh_plain (string v) i w f = (f.zero_offset (rw w.0) ∙ ap (λ n. encode n 0) w.1, f.no_data, f.first_gap ∙ no_gap i)

  module _ (laid : Laid plan) (none_yet : (j : ℕ) → There plan j → zeros.Fresh plan c μ j) where
    new : (i : ℕ) → Here plan i → zeros.Fresh plan c μ i
    new i here = none_yet i ((closed_here plan laid).own i here)

    low_offsets : (i low high : ℕ) → 14 < low → high < 19 → between low high (code_of plan i) ≡ true → has_offsets (code_of plan i) ≡ false
    low_offsets i low high p q h =
        let b = between_both low high (code_of plan i) h in
        neither (between_apart low high 11 14 (code_of plan i) p h) (rw (lt-leb 19 (code_of plan i) (omega (arith, b.1))))

    union_offsets : (i : ℕ) → is_union (code_of plan i) ≡ true → has_offsets (code_of plan i) ≡ false
    union_offsets i h = neither (between_apart 21 22 11 14 (code_of plan i) (omega arith) h) (between_apart 21 22 19 20 (code_of plan i) (omega arith) h)

    -- a node of which its data is held
    kid : (t : Ty) (i : ℕ) (a : Column t) → Here plan i → Exact plan t i a → (Here plan i → ExactData plan t i a.body → HoldsData plan t i (fresh_data t a.body) c μ) → Holds plan t i (fresh t a) c μ
    kid t i a here e h = fresh_node_lem i (masks t) (HoldsData plan t i) (fresh_data t) a (new i here) e.keeps_are (h here e.below)

    fresh_data_lem : (k : ℕ) (t : Ty) (i : ℕ) (b : Body t) → Worded plan k t i → Here plan i → ExactData plan t i b → HoldsData plan t i (fresh_data t b) c μ
    fresh_data_lem (suc k) (t_plain p) i b w here e = fresh_plain p i w.3 (new i here)
    fresh_data_lem (suc k) t_view i b w here e = (new i here).no_entries (low_offsets i 15 16 (omega arith) (omega arith) w.2)
    fresh_data_lem (suc k) (t_list_view v t) i b w here e = (
      (new i here).no_entries (low_offsets i 17 18 (omega arith) (omega arith) w.2),
      (new i here).no_data,
      kid t (suc i) b.child ((closed_here plan laid).item i here (between_wide 17 18 17 20 (code_of plan i) (omega arith) (omega arith) w.2)) e (fresh_data_lem k t (suc i) b.child.body w.4),
    )
    fresh_data_lem (suc k) (t_list v t) i b w here e = (
      (new i here).zero_offset (lists_offsets (code_of plan i) w.2) ∙ ap (λ n. encode n 0) w.3,
      kid t (suc i) b.child ((closed_here plan laid).item i here (between_wide 19 20 17 20 (code_of plan i) (omega arith) (omega arith) w.2)) e (fresh_data_lem k t (suc i) b.child.body w.4),
    )
    fresh_data_lem (suc k) (t_sparse ids nullable f) i b w here e =
        let z = is_union_lem plan i 21 w.1 refl in (
          (new i here).no_entries (union_offsets i z),
          λ c q. let d = child_here plan laid k f nullable ids i here z w.2 w.4 c q in kid (f c) (child_of plan i c) (b.children c) d.0 (e c q) (fresh_data_lem k (f c) (child_of plan i c) (b.children c).body d.1),
        )
    fresh_data_lem (suc k) (t_dense ids nullable f) i b w here e =
        let z = is_union_lem plan i 22 w.1 refl in (
          (new i here).no_entries (union_offsets i z),
          (new i here).no_data,
          λ c q. let d = child_here plan laid k f nullable ids i here z w.2 w.4 c q in kid (f c) (child_of plan i c) (b.children c) d.0 (e c q) (fresh_data_lem k (f c) (child_of plan i c) (b.children c).body d.1),
        )
    fresh_data_lem (suc k) (t_run_end v t) i b w here e =
        let a = none_yet (suc i) ((closed_here plan laid).ends i here w.2) in
        let fix : is_fixed (code_of plan (suc i)) ≡ true = (laid.run_ends_lem i ((closed_here plan laid).own i here).0.1 w.2).0 in (
          a.no_rows,
          a.no_entries (fixed_offsets (code_of plan (suc i)) fix),
          kid t (suc (suc i)) b.values ((closed_here plan laid).values i here w.2) e (fresh_data_lem k t (suc (suc i)) b.values.body w.4),
          (new i here).first_gap ∙ no_gap i,
        )
    fresh_data_lem (suc k) (t_dictionary n p) i b w here e = (new i here).no_entries (fixed_offsets (code_of plan i) w.3)
    fresh_data_lem zero t i b w here e = elim w [ ]

    -- THE DESTINATION WITH NO ROWS is held, from node i on
    pub fresh_held : (k : ℕ) (t : Ty) (i : ℕ) (a : Column t) → Worded plan k t i → Here plan i → Exact plan t i a → Holds plan t i (fresh t a) c μ
    fresh_held k t i a w here e = kid t i a here e (fresh_data_lem k t i a.body w)
