-- Nulls of a list of numbers, tried and made. Assumes nothing.
use mathlib.Core.Path.{◌≡◌, refl, sym, ap, subst, ◌∙◌}
use mathlib.Core.Bool.{Bool, true, false, not, cond}
use mathlib.Core.List.{List, [], ◌∷◌}
use Prim.Native.Nat.{ℕ, ◌≤◌, ◌<◌}
use native.Mathlib.Omega.{arith}
use lib.ListN.{length}
use lib.Seq.{get_or-set_same, get_or-set_other}
use borrow.Author.Tests.{lt-ltb, le-leb, lt-leb}
use Rattle.utils.specs.Offsets.{repeated}
use Rattle.walk.specs.State.{Join, code_of, bytes_of, rows, grown, scaled, add_rows, top}
use Rattle.walk.specs.Log.{Out, Did, put, apply_if}
use Rattle.walk.specs.Leaves.{null_mask}
use Rattle.walk.specs.Copy.{masked}
use Rattle.walk.specs.Nulls.{null_list, null_data, null_walk}
use Rattle.walk.proofs.Laws.{wrote_did, need_ok}
use Rattle.leaf_walk.specs.Join.{join}
use Rattle.leaf_walk.proofs.variable_size.Lists.{null_near}
use Rattle.nested_rows.proofs.node_data.Laws.{null_list_lem, nulls_masked}
use Rattle.extend.proofs.NullLaws.{at_done}
use Rattle.plan.specs.parts.Parts.{parts_within, parts_hold}
use Rattle.sound.proofs.trying.Near.{near_same}
use Rattle.refinement.specs.orders.Order.{settled}
use Rattle.transform.specs.Answer.{lent, Answers}
use Rattle.transform.proofs.Laws.{settled_parts, settled_made}
use Rattle.transform.proofs.leaf_nulls.Laws.{mask_alike, mask_dry}
use Rattle.transform.proofs.null_ways.Laws.{Lists, list_code}

module _ (plan parts : List ℕ) (n : ℕ) (c room : List ℕ) (o : Lists plan) where
  abbrev x : Join
  x = join plan parts [] [] [] 0 0

  low : (19 ≤ code_of plan 0) × (code_of plan 0 ≤ 20)
  low = list_code plan o

  masks : masked (code_of plan 0) ≡ true
  masks = lt-ltb (code_of plan 0) 21 (omega (arith, low.1))

  to_list_lem : {wr : Bool} {g : ℕ} {c2 room2 : List ℕ} → Did plan parts wr (null_list x (null_walk x 7) (bytes_of plan 0) 0 n c) room g c2 room2
      → Did plan parts wr (null_data x (null_walk x 7) (code_of plan 0) 0 n c) room g c2 room2
  to_list_lem {wr} {g} {c2} {room2} d =
      let code = code_of plan 0 in
      subst (λ (y : Out). Did plan parts wr y room g c2 room2)
      (null_list_lem x (null_walk x 7) code 0 n c (rw (le-leb 1 code (omega (arith, low.0)), lt-leb code 10 (omega (arith, low.0)))) (rw (le-leb 11 code (omega (arith, low.0)), lt-leb code 14 (omega (arith, low.0))))
      (rw (le-leb 15 code (omega (arith, low.0)), lt-leb code 16 (omega (arith, low.0)))) (rw (le-leb 17 code (omega (arith, low.0)), lt-leb code 18 (omega (arith, low.0)))) o.code)
      d

  data_dry : Did plan parts false (null_list x (null_walk x 7) (bytes_of plan 0) 0 n c) room 0 c room
  unfolding null_list apply_if
  data_dry = need_ok 12 c (lt-ltb 1 32 (omega arith)) (wrote_did false _ c room room refl)

  module _ (some : n ≡ 0 → ⊥) (l : length c ≡ 96) where
    abbrev walk : List ℕ → Out
    walk d = null_walk x 8 0 n d

    abbrev masked_counters : List ℕ
    masked_counters = (null_mask x 0 n c).counters

    abbrev tried : List ℕ
    tried = add_rows 0 n masked_counters

    dry : Did plan parts false (walk c) room 0 tried room
    dry =
        at_done x false 8 0 n c room (λ q. omega arith) some (omega arith) (to_list_lem data_dry) refl (nulls_masked x false 0 n c room refl refl (ap not masks) (mask_dry x 0 n c room)) refl refl

    module _ (sources lengths places body : List ℕ) {p r last a : ℕ} (ep : p ≡ rows c 0) (er : r ≡ grown p n) (el : last ≡ rows c 1)
        (ask : (counters : List ℕ) → rows counters 0 ≡ r → rows counters 1 ≡ last → a ≡ cond (parts_within plan parts (length room)) (cond (parts_hold plan counters parts) 0 13) 14) where
      abbrev Settled : ℕ → List ℕ → List ℕ → Type 0
      Settled g c2 room2 = Answers (settled (lent plan parts sources lengths places body) c room (walk c)) g c2 room2

      root_rows : rows tried 0 ≡ r
      root_rows =
          get_or-set_same masked_counters 0 (grown (rows masked_counters 0) n) 0 (omega (arith, (mask_alike x 0 n c).size, l))
          ∙ ap (λ (v : ℕ). grown v n) ((mask_alike x 0 n c).rows_same 0 ∙ sym ep)
          ∙ sym er

      item_rows : rows tried 1 ≡ last
      item_rows = get_or-set_other masked_counters 0 3 (grown (rows masked_counters 0) n) 0 (λ (z : 3 ≡ 0). omega arith) ∙ (mask_alike x 0 n c).rows_same 1 ∙ sym el

      asked : a ≡ cond (parts_within plan parts (length room)) (cond (parts_hold plan tried parts) 0 13) 14
      asked = ask tried root_rows item_rows

      pub list_refused : (a ≡ 0 → ⊥) → Settled a c room
      list_refused z = settled_parts (lent plan parts sources lengths places body) c room walk (near_same refl) dry refl asked z

      pub list_made : {w q e : ℕ} {room1 c2 room2 c3 : List ℕ} → a ≡ 0 → w ≡ bytes_of plan 0 → 1 ≤ w → length room < top → q ≡ grown p 1 → e ≡ scaled q w
          → room1 ≡ apply_if plan parts true (put 0 1 e (repeated w last n) ∷ []) room → Did plan parts true (null_mask x 0 n c) room1 0 c2 room2 → c3 ≡ add_rows 0 n c2 → Settled 0 c3 room2
      list_made {w} {room1 = room1} z k wide short eq ee g m s =
          let d = null_near x (null_walk x 7) true w 0 n c room refl (omega arith) refl el ep eq ee wide short g in
          settled_made (lent plan parts sources lengths places body) c room walk (near_same refl) dry refl asked z refl
          (at_done x true 8 0 n c room (λ y. omega arith) some (omega arith) (to_list_lem (rw k at d)) refl (nulls_masked x true 0 n c room1 refl refl (ap not masks) m) refl s) refl
