-- Where no ground of the room stands, each part has room for what the counters say. Assumes nothing.
use mathlib.Core.Path.{◌≡◌, refl, ap, subst, ◌∙◌}
use mathlib.Core.Bool.{Bool, true, false, cond, ◌&&◌}
use mathlib.Core.List.{List}
use Prim.Native.Nat.{ℕ, suc, ◌+◌, ◌*◌, ◌/◌, ◌≤◌, ◌<◌}
use native.Mathlib.Omega.{arith}
use lib.ListN.{length}
use lib.Dec.{eqb}
use Rattle.columnar.specs.Types.{Ty, t_run_end}
use Rattle.schema.specs.formats.Code.{is_fixed, width_of}
use Rattle.schema.specs.Tree.{ceilings, typed}
use Rattle.schema.specs.Tree as trees
use Rattle.array_data.specs.Typed.{Means}
use Rattle.array_data.specs.type_tree.Lent.{tree_of, type_of}
use Rattle.array_data.proofs.type_tree.Lent.{means}
use Rattle.refinement.proofs.plan_is_type.Codes.{Coded}
use Rattle.refinement.proofs.plan_is_type.Planted.{code_is, coded_is}
use Rattle.walk.specs.State.{code_of, rows, bytes}
use Rattle.walk.specs.Log.{start_of}
use Rattle.columns.specs.Grounds.{small_body}
use Rattle.plan.specs.parts.Parts.{part_total, parts_placed, parts_hold, size_of, needed, Used}
use Rattle.anew.specs.Anew.{join_lengths, room_ground}
use Rattle.anew.specs.ResultPlan.{plan_anew}
use Rattle.anew.proofs.Planted.{planted, placed_well}
use Rattle.refinement.proofs.orders.Buffers.{needed_fixed}
use Rattle.plan.proofs.parts.Placed.{used_holds}

pub record Free (made tally parts : List ℕ) (plan counters room : ℕ) : Type 0 where
  pub lengths : join_lengths plan counters ≡ true
  pub placed : parts_placed parts (part_total made) room ≡ true
  pub holds : parts_hold made tally parts ≡ true

pub room_free : (made tally parts : List ℕ) (plan counters room : ℕ) → room_ground made tally parts plan counters room ≡ 0 → Free made tally parts plan counters room
unfolding room_ground
room_free made tally parts plan counters room = go (join_lengths plan counters) refl (parts_placed parts (part_total made) room) refl (parts_hold made tally parts) refl
  where
    go : (a : Bool) → join_lengths plan counters ≡ a → (b : Bool) → parts_placed parts (part_total made) room ≡ b → (c : Bool) → parts_hold made tally parts ≡ c
        → ◌≡◌ {A = ℕ} (cond (a && b) (cond c 0 13) 14) 0 → Free made tally parts plan counters room
    go true p true q true r h = record { lengths = p; placed = q; holds = r }
    go true p true q false r h = absurd (omega arith)
    go true p false q c r h = absurd (omega arith)
    go false p b q c r h = absurd (omega arith)

module _ (formats schema : List ℕ) (target n : ℕ) (keep : ℕ → Bool) (t : typed formats schema target n ≡ true) (c : ceilings formats schema target n ≡ true)
    (ends : (i : ℕ) → suc i < n → code_of (plan_anew formats schema target n keep true 0) i ≡ 23 → keep (suc i) ≡ false) where
  abbrev made : List ℕ
  made = plan_anew formats schema target n keep true 0

  code_same : (i : ℕ) → i < n → code_of made i ≡ trees.code_of formats schema target i
  code_same i l = code_is formats schema target n made t c (planted formats schema target n keep true 0 t c) i l

  -- the node behind a run-end root holds numbers
  pub ends_fixed : (w : ℕ) (u : Ty) → type_of formats schema target n ≡ t_run_end w u → is_fixed (trees.code_of formats schema target 1) ≡ true
  ends_fixed w u e =
      let mn : Means (tree_of formats schema target n) (t_run_end w u) 0 = subst (λ z. Means (tree_of formats schema target n) z 0) e (means formats schema target n t c) in
      let h = mn.1.is_ends_lem in
      (subst (Coded (trees.code_of formats schema target 1) (eqb (trees.dictionary schema target 1) 0) (trees.ids_of formats schema target 1) (trees.code_of formats schema target 2)) h.1
      (coded_is formats schema target n made t c (planted formats schema target n keep true 0 t c) 1 h.0)).0

  module _ (counters parts room : List ℕ) (small : small_body room ≡ true) (placed : parts_placed parts (part_total made) (length room) ≡ true) (holds : parts_hold made counters parts ≡ true) where
    inside : (i b : ℕ) → Used made i b → start_of made parts i b + size_of made parts i b ≤ length room
    inside i b u = (placed_well formats schema target n keep true 0 t c ends parts room small placed).inside i b u

    -- NUMBERS FIT
    pub numbers_fit : (i : ℕ) → i < n → is_fixed (trees.code_of formats schema target i) ≡ true → Used made i 1 → start_of made parts i 1 + rows counters i * width_of (trees.code_of formats schema target i) ≤ length room
    numbers_fit i l f u =
        let e = code_same i l in
        let h = used_holds made counters parts holds i 1 u in
        let g : needed made counters i 1 ≡ rows counters i * width_of (code_of made i) = needed_fixed (code_of made i) (rows counters i) (bytes counters i) (ap is_fixed e ∙ f) in
        let d : rows counters i * width_of (code_of made i) ≡ rows counters i * width_of (trees.code_of formats schema target i) = ap (λ z. rows counters i * width_of z) e in
        omega (arith, h, g, d, inside i 1 u)

    -- .. and bits
    pub bits_fit : (i : ℕ) → Used made i 0 → 8 * start_of made parts i 0 + rows counters i ≤ 8 * length room
    bits_fit i u =
        let h : (rows counters i + 7) / 8 ≤ size_of made parts i 0 = used_holds made counters parts holds i 0 u in
        omega (arith, h, inside i 0 u)
