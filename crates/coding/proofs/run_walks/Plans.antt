-- The plans of W1's results have what their walks ask: parts for run ends and values, and bits exactly where the values come from a null.
-- Assumes nothing.
use mathlib.Core.Path.{◌≡◌, ap, subst, ◌∙◌}
use mathlib.Core.Bool.{Bool, true, false}
use mathlib.Core.List.{List}
use Prim.Native.Nat.{ℕ, zero, suc, ◌≤◌, ◌<◌}
use native.Mathlib.Omega.{arith}
use lib.Dec.{eqb}
use Rattle.columnar.specs.Types.{Number, fixed, Ty, t_plain, t_run_end}
use Rattle.schema.specs.formats.Code.{is_fixed}
use Rattle.schema.specs.Tree.{ceilings, typed}
use Rattle.schema.specs.Tree as trees
use Rattle.array_data.specs.Typed.{Means}
use Rattle.array_data.specs.type_tree.Lent.{tree_of, type_of}
use Rattle.array_data.proofs.type_tree.Lent.{means}
use Rattle.refinement.proofs.plan_is_type.Codes.{Coded}
use Rattle.refinement.proofs.plan_is_type.Planted.{code_is, coded_is}
use Rattle.walk.specs.State.{code_of, keeps_of}
use Rattle.refinement.specs.walk_is_model.Holds.{flag, Worded}
use Rattle.refinement.proofs.log_in_room.Found.{between_both}
use Rattle.plan.specs.parts.Parts.{copied, Used}
use Rattle.refinement.proofs.orders.Buffers.{fixed_one, buffer_copied, bits_copied}
use Rattle.anew.specs.ResultPlan.{plan_anew}
use Rattle.anew.proofs.PlanWords.{keeps_is}
use Rattle.anew.proofs.Planted.{few, planted, worded, nodes_is}
use Rattle.anew.proofs.Parts.{copied_is, root_copied}

module _ (formats schema : List ℕ) (target n : ℕ) (keep : ℕ → Bool) (t : typed formats schema target n ≡ true) (c : ceilings formats schema target n ≡ true) where
  abbrev plan : List ℕ
  plan = plan_anew formats schema target n keep true 0

  small : n ≤ 32
  small = few formats schema target n keep true 0 t c

  -- every node is in parts
  all_copied : (i : ℕ) → i < n → copied plan i ≡ true
  all_copied zero l = root_copied formats schema target n keep true 0 small
  all_copied (suc i) l = copied_is formats schema target n keep true 0 small i l

  keeps_at : (i : ℕ) → i < n → keeps_of plan i ≡ flag (keep i)
  keeps_at i l = keeps_is formats schema target n keep true 0 small i l

  -- a node of numbers has a part for them, and one for its validity where it keeps nulls
  numbers_part : (i : ℕ) → i < n → is_fixed (code_of plan i) ≡ true → Used plan i 1
  numbers_part i l f =
      record {
        node = omega (arith, nodes_is formats schema target n keep true 0 t c);
        part = buffer_copied plan i 0 (all_copied i l) (omega (arith, fixed_one (code_of plan i) f));
      }

  bits_part : (i : ℕ) → i < n → is_fixed (code_of plan i) ≡ true → keep i ≡ true → Used plan i 0
  bits_part i l f e =
      let b = between_both 1 10 (code_of plan i) f in
      let k : keeps_of plan i ≡ 1 = keeps_at i l ∙ ap flag e in
      record {
        node = omega (arith, nodes_is formats schema target n keep true 0 t c);
        part = bits_copied plan i (all_copied i l) (λ z. omega (arith, k, z)) (omega (arith, b.1));
      }

  -- the node behind a run-end root holds numbers
  ends_fixed : (w : ℕ) (u : Ty) → type_of formats schema target n ≡ t_run_end w u → is_fixed (code_of plan 1) ≡ true
  ends_fixed w u e =
      let mn : Means (tree_of formats schema target n) (t_run_end w u) 0 = subst (λ z. Means (tree_of formats schema target n) z 0) e (means formats schema target n t c) in
      let h = mn.1.is_ends_lem in
      let p = planted formats schema target n keep true 0 t c in
      ap is_fixed (code_is formats schema target n plan t c p 1 h.0)
      ∙ (subst (Coded (trees.code_of formats schema target 1) (eqb (trees.dictionary schema target 1) 0) (trees.ids_of formats schema target 1) (trees.code_of formats schema target 2)) h.1
      (coded_is formats schema target n plan t c p 1 h.0)).0

-- ---- the encoder's: three nodes, of which only the values come from the column

-- what `encode-fills` asks of a plan
pub record RunsPlan (plan : List ℕ) (keep : Bool) : Type 0 where
  pub root_keeps : keeps_of plan 0 ≡ 0
  pub ends_keep : keeps_of plan 1 ≡ 0
  pub values_keep : keeps_of plan 2 ≡ flag keep
  pub ends_part : Used plan 1 1
  pub values_part : Used plan 2 1
  pub bits_there : keep ≡ true → Used plan 2 0

pub runs_plan : (formats schema : List ℕ) (target : ℕ) (keep : ℕ → Bool) → typed formats schema target 3 ≡ true → ceilings formats schema target 3 ≡ true → (w : ℕ) (k : Number)
    → type_of formats schema target 3 ≡ t_run_end w (t_plain (fixed k)) → keep 0 ≡ false → keep 1 ≡ false → RunsPlan (plan_anew formats schema target 3 keep true 0) (keep 2)
runs_plan formats schema target keep t c w k e k0 k1 =
    let plan = plan_anew formats schema target 3 keep true 0 in
    let words : Worded plan 8 (t_run_end w (t_plain (fixed k))) 0 = subst (λ u. Worded plan 8 u 0) e (worded formats schema target 3 keep true 0 t c) in
    let f1 = ends_fixed formats schema target 3 keep t c w (t_plain (fixed k)) e in
    let f2 : is_fixed (code_of plan 2) ≡ true = words.4.3.0 in
    record {
      root_keeps = keeps_at formats schema target 3 keep t c 0 (omega arith) ∙ ap flag k0;
      ends_keep = keeps_at formats schema target 3 keep t c 1 (omega arith) ∙ ap flag k1;
      values_keep = keeps_at formats schema target 3 keep t c 2 (omega arith);
      ends_part = numbers_part formats schema target 3 keep t c 1 (omega arith) f1;
      values_part = numbers_part formats schema target 3 keep t c 2 (omega arith) f2;
      bits_there = bits_part formats schema target 3 keep t c 2 (omega arith) f2;
    }

-- run ends keep no nulls, as `anew-result` asks
pub runs_ends : (formats schema : List ℕ) (target : ℕ) (keep : ℕ → Bool) → typed formats schema target 3 ≡ true → ceilings formats schema target 3 ≡ true → (w : ℕ) (k : Number)
    → type_of formats schema target 3 ≡ t_run_end w (t_plain (fixed k)) → keep 1 ≡ false → (i : ℕ) → suc i < 3 → code_of (plan_anew formats schema target 3 keep true 0) i ≡ 23 → keep (suc i) ≡ false
runs_ends formats schema target keep t c w k e k1 zero l q = k1
runs_ends formats schema target keep t c w k e k1 (suc zero) l q =
    let b = between_both 1 10 (code_of (plan_anew formats schema target 3 keep true 0) 1) (ends_fixed formats schema target 3 keep t c w (t_plain (fixed k)) e) in absurd (omega (arith, b.1, q))
runs_ends formats schema target keep t c w k e k1 (suc (suc i)) l q = absurd (omega arith)

-- ---- the expansion's: one node, which comes from the values

pub record RowsPlan (plan : List ℕ) (keep : Bool) : Type 0 where
  pub keeps : keeps_of plan 0 ≡ flag keep
  pub values_part : Used plan 0 1
  pub bits_there : keep ≡ true → Used plan 0 0

pub rows_plan : (formats schema : List ℕ) (target : ℕ) (keep : ℕ → Bool) → typed formats schema target 1 ≡ true → ceilings formats schema target 1 ≡ true → (k : Number)
    → type_of formats schema target 1 ≡ t_plain (fixed k) → RowsPlan (plan_anew formats schema target 1 keep true 0) (keep 0)
rows_plan formats schema target keep t c k e =
    let plan = plan_anew formats schema target 1 keep true 0 in
    let words : Worded plan 8 (t_plain (fixed k)) 0 = subst (λ u. Worded plan 8 u 0) e (worded formats schema target 1 keep true 0 t c) in
    let f = words.3.0 in
    record {
      keeps = keeps_at formats schema target 1 keep t c 0 (omega arith);
      values_part = numbers_part formats schema target 1 keep t c 0 (omega arith) f;
      bits_there = bits_part formats schema target 1 keep t c 0 (omega arith) f;
    }
