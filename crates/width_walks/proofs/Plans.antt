-- The plan of a result has what the converter's walk asks of it. Assumes nothing.
use mathlib.Core.Path.{◌≡◌, refl, sym, ap, subst, ◌∙◌}
use mathlib.Core.Bool.{Bool, true, false, cond}
use mathlib.Core.List.{List}
use Prim.Native.Nat.{ℕ, zero, suc, ◌+◌, ◌≤◌, ◌<◌}
use native.Mathlib.Omega.{arith}
use lib.Dec.{ltb}
use borrow.Author.Tests.{ne_eqb, ltb-true}
use Rattle.columnar.specs.Types.{Plain, fixed, string, Ty, t_plain, t_view, t_list_view, t_list, t_sparse, t_dense, t_run_end, t_dictionary}
use Rattle.walk.specs.State.{word, code_of, dictionary_of, end_of, keeps_of}
use Rattle.refinement.specs.walk_is_model.Holds.{flag, child_of, WordedPlain, Worded}
use Rattle.refinement.proofs.walk_is_model.Frame.{field_of, worded_span}
use Rattle.refinement.proofs.walk_is_model.Node.{masked_is}
use Rattle.refinement.proofs.orders.Cover.{Laid}
use Rattle.schema.specs.Tree.{ceilings, typed}
use Rattle.array_data.specs.Typed.{Tree, Means}
use Rattle.array_data.specs.type_tree.Lent.{tree_of, type_of}
use Rattle.plan.specs.parts.Parts.{buffer_count, copied, Used}
use Rattle.refinement.proofs.orders.Buffers.{fixed_one, string_two, view_one, list_two, lists_one, buffer_copied, bits_copied}
use Rattle.anew.specs.ResultPlan.{plan_anew}
use Rattle.anew.proofs.Standing.{TypePlan}
use Rattle.anew.proofs.PlanWords.{keeps_is, joined_is}
use Rattle.anew.proofs.Planted.{few, root_is, type_plan}
use Rattle.columnar.specs.Array.{ok, null_count_of, Mask}
use Rattle.columnar.specs.Reading.{Body, Column, masks, SlotRule, Source}
use Rattle.columnar.proofs.WiderKinds.{declares}
use Rattle.refinement.specs.orders.Order.{Lent}
use Rattle.refinement.proofs.log_in_room.Found.{between_both}
use Rattle.anew.specs.widths.Widths.{Widths, s_plain, s_view, s_list_view, s_list, s_sparse, s_dense, s_run_end, s_dictionary}
use Rattle.width_walks.specs.Ready.{InParts, ReadyBody}
use Rattle.width_walks.proofs.Node.{unmasked}
use Rattle.width_walks.proofs.Laws.{same_masks}
use Rattle.width_walks.proofs.Used.{PartsPlain, PartsBits, PartsIn}

module _ (plan : List ℕ) (laid : Laid plan) (joined : (i : ℕ) → i < end_of plan 0 → (dictionary_of plan i ≡ 0 → ⊥) → word plan i 7 ≡ 1) (ends : (i : ℕ) → suc i < end_of plan 0 → code_of plan i ≡ 23 → keeps_of plan (suc i) ≡ 0) where
  pub in_parts_at : (k : ℕ) (t : Ty) (i : ℕ) → Worded plan k t i → end_of plan i ≤ end_of plan 0 → InParts plan t i
  in_parts_at zero t i w l = absurd w
  in_parts_at (suc k) (t_plain p) i w l = tt
  in_parts_at (suc k) t_view i w l = tt
  in_parts_at (suc k) (t_list_view v t) i w l = let e : end_of plan i ≡ end_of plan (suc i) = w.1 in in_parts_at k t (suc i) w.4 (omega (arith, e))
  in_parts_at (suc k) (t_list v t) i w l = let e : end_of plan i ≡ end_of plan (suc i) = w.1 in in_parts_at k t (suc i) w.4 (omega (arith, e))
  in_parts_at (suc k) (t_sparse ids nullable f) i w l = λ c m.
      let g = field_of plan (λ c. Worded plan k (f c)) nullable (end_of plan i) ids (suc i) 32 c w.4 (omega (arith, w.2)) m in
      in_parts_at k (f c) (child_of plan i c) g.is_kid (omega (arith, g.ends))
  in_parts_at (suc k) (t_dense ids nullable f) i w l = λ c m.
      let g = field_of plan (λ c. Worded plan k (f c)) nullable (end_of plan i) ids (suc i) 32 c w.4 (omega (arith, w.2)) m in
      in_parts_at k (f c) (child_of plan i c) g.is_kid (omega (arith, g.ends))
  in_parts_at (suc k) (t_run_end v t) i w l =
      let e : end_of plan i ≡ end_of plan (suc (suc i)) = w.1 in
      let s = worded_span plan k t (suc (suc i)) w.4 in
      (ends i (omega (arith, e, s)) w.2, in_parts_at k t (suc (suc i)) w.4 (omega (arith, e)))
  in_parts_at (suc k) (t_dictionary m p) i w l =
      let z = laid.tabled.keys_end i (omega (arith, w.1)) w.2 in
      (joined i (omega (arith, w.1)) w.2, omega (arith, z))

-- ---- the plan of a target of n nodes whose dictionaries are all in parts

module _ (formats schema : List ℕ) (target n : ℕ) (keep : ℕ → Bool) (t : typed formats schema target n ≡ true) (c : ceilings formats schema target n ≡ true)
    (no_ends_lem : (i : ℕ) → suc i < n → code_of (plan_anew formats schema target n keep true 0) i ≡ 23 → keep (suc i) ≡ false) where
  abbrev made : List ℕ
  made = plan_anew formats schema target n keep true 0

  pub of_type : TypePlan made (tree_of formats schema target n) (type_of formats schema target n)
  of_type = type_plan formats schema target n keep true 0 t c no_ends_lem

  -- DICTIONARIES ARE IN PARTS, AND RUN ENDS KEEP NO NULLS
  pub in_parts : InParts made (type_of formats schema target n) 0
  in_parts =
      let small = few formats schema target n keep true 0 t c in
      let root = root_is formats schema target n keep true 0 t c in
      in_parts_at made of_type.laid
      (λ i l h. joined_is formats schema target n keep true 0 small i (omega (arith, root)) ∙ ap (λ b. cond b 0 (flag true)) (ne_eqb (dictionary_of made i) 0 h))
      (λ i l h. keeps_is formats schema target n keep true 0 small (suc i) (omega (arith, root)) ∙ ap flag (no_ends_lem i (omega (arith, root)) h))
      8 (type_of formats schema target n) 0 of_type.worded (omega arith)

-- ---- parts for all that the walk writes

-- a node that may have validity
low_code : (plan : List ℕ) (k : ℕ) (t : Ty) (i : ℕ) → Worded plan k t i → masks t ≡ true → code_of plan i < 21
low_code plan k t i w e = ltb-true (code_of plan i) 21 (masked_is plan k t i w ∙ e)

module _ (x : Lent) (buffers : List ℕ) (tree : Tree) (root : Ty) (type : TypePlan x.plan tree root) (Copied-all : (i : ℕ) → i < end_of x.plan 0 → copied x.plan i ≡ true) where
  abbrev plan : List ℕ
  plan = x.plan

  buffer : (i b : ℕ) → i < end_of plan 0 → b < buffer_count (code_of plan i) → Used plan i (suc b)
  buffer i b l h = record { node = omega (arith, type.all_nodes_lem); part = buffer_copied plan i b (Copied-all i l) h }

  bits_of : (i : ℕ) → i < end_of plan 0 → code_of plan i < 21 → PartsBits plan (Used plan) i
  bits_of i l q h = record { node = omega (arith, type.all_nodes_lem); part = bits_copied plan i (Copied-all i l) h q }

  -- a node keeps nulls only where it may have validity
  pub bits_for : (u u' : Ty) (d : Widths u u') (k i : ℕ) → Worded plan k u' i → i < end_of plan 0 → (v : Column u) → Source u v → keeps_of plan i ≡ flag (ltb 0 (null_count_of v)) → PartsBits plan (Used plan) i
  bits_for u u' d k i w l v s e h = go (masks u') refl
    where
      go : (b : Bool) → masks u' ≡ b → Used plan i 0
      go true m = bits_of i l (low_code plan k u' i w m) h
      go false m =
          let y : Mask false v.valid (v.off + v.len) = subst (λ z. Mask z v.valid (v.off + v.len)) (same_masks u u' d ∙ m) s.mask in
          absurd (h (e ∙ ap (λ z. flag (ltb 0 z)) (unmasked v v.valid refl y)))

  plain_parts : (p : Plain) (i : ℕ) → i < end_of plan 0 → WordedPlain plan p i → PartsPlain plan (Used plan) p i
  plain_parts (fixed k) i l w = buffer i 0 l (omega (arith, fixed_one (code_of plan i) w.0))
  plain_parts (string v) i l w = (buffer i 0 l (omega (arith, string_two (code_of plan i) w.0)), buffer i 1 l (omega (arith, string_two (code_of plan i) w.0)))

  plain_low : (p : Plain) (i : ℕ) → WordedPlain plan p i → code_of plan i < 21
  plain_low (fixed k) i w = omega (arith, (between_both 1 10 (code_of plan i) w.0).1)
  plain_low (string v) i w = omega (arith, (between_both 11 14 (code_of plan i) w.0).1)

  pub parts_at : (u u' : Ty) (d : Widths u u') (k i : ℕ) → Worded plan k u' i → Means tree u' i → end_of plan i ≤ end_of plan 0 → (okay : ℕ → Bool) (b : Body u) (s n : ℕ) → SlotRule u okay b s n → ReadyBody x buffers u i b
      → PartsIn plan (Used plan) u' i
  parts_at u u' d zero i w m l okay b s n h r = absurd w
  parts_at u u' (s_plain p p' d) (suc k) i w m l okay b s n h r = plain_parts p' i (omega (arith, w.1)) w.3
  parts_at u u' s_view (suc k) i w m l okay b s n h r = buffer i 0 (omega (arith, w.1)) (omega (arith, view_one (code_of plan i) w.2))
  parts_at u u' (s_list_view v v' t t' d) (suc k) i w m l okay b s n h r =
      let e : end_of plan i ≡ end_of plan (suc i) = w.1 in
      let q = worded_span plan k t' (suc i) w.4 in
      let a = list_two (code_of plan i) w.2 in
      let c = b.child in
      let g = h.child_rule in
      (buffer i 0 (omega (arith, e, q)) (omega (arith, a)), buffer i 1 (omega (arith, e, q)) (omega (arith, a)), bits_for t t' d k (suc i) w.4 (omega (arith, e, q)) c g r.keeps, parts_at t t' d k (suc i) w.4 m.1 (omega (arith, e)) (ok c.valid) c.body c.off c.len g.slots r.body_ready)
  parts_at u u' (s_list v v' t t' d) (suc k) i w m l okay b s n h r =
      let e : end_of plan i ≡ end_of plan (suc i) = w.1 in
      let q = worded_span plan k t' (suc i) w.4 in
      let a = lists_one (code_of plan i) w.2 in
      let c = b.child in
      let g = h.child_rule in
      (buffer i 0 (omega (arith, e, q)) (omega (arith, a)), bits_for t t' d k (suc i) w.4 (omega (arith, e, q)) c g r.keeps, parts_at t t' d k (suc i) w.4 m.1 (omega (arith, e)) (ok c.valid) c.body c.off c.len g.slots r.body_ready)
  parts_at u u' (s_sparse ids nullable nullable' f f' y d) (suc k) i w m l okay b s n h r = (
    buffer i 0 (omega (arith, w.3)) (subst (λ z. 0 < buffer_count z) (sym w.1) (omega arith)),
    λ e q. let g = field_of plan (λ c. Worded plan k (f' c)) nullable' (end_of plan i) ids (suc i) 32 e w.4 (omega (arith, w.2)) q in
        let c = b.children e in
        let o = h.child_rule e q in
        let z = declares e ids q in (
          bits_for (f e) (f' e) (d e z) k (child_of plan i e) g.is_kid (omega (arith, g.span, g.ends)) c o (r e q).keeps,
          parts_at (f e) (f' e) (d e z) k (child_of plan i e) g.is_kid (subst (Means tree (f' e)) (sym (type.kids i true ids m.0 e q)) (m.1 e q).1) (omega (arith, g.ends)) (ok c.valid) c.body c.off c.len o.slots (r e q).body_ready,
        ),
  )
  parts_at u u' (s_dense ids nullable nullable' f f' y d) (suc k) i w m l okay b s n h r = (
    buffer i 0 (omega (arith, w.3)) (subst (λ z. 0 < buffer_count z) (sym w.1) (omega arith)),
    buffer i 1 (omega (arith, w.3)) (subst (λ z. 1 < buffer_count z) (sym w.1) (omega arith)),
    λ e q. let g = field_of plan (λ c. Worded plan k (f' c)) nullable' (end_of plan i) ids (suc i) 32 e w.4 (omega (arith, w.2)) q in
        let c = b.children e in
        let o = h.child_rule e q in
        let z = declares e ids q in (
          bits_for (f e) (f' e) (d e z) k (child_of plan i e) g.is_kid (omega (arith, g.span, g.ends)) c o (r e q).keeps,
          parts_at (f e) (f' e) (d e z) k (child_of plan i e) g.is_kid (subst (Means tree (f' e)) (sym (type.kids i false ids m.0 e q)) (m.1 e q).1) (omega (arith, g.ends)) (ok c.valid) c.body c.off c.len o.slots (r e q).body_ready,
        ),
  )
  parts_at u u' (s_run_end v v' t t' d) (suc k) i w m l okay b s n h r =
      let e : end_of plan i ≡ end_of plan (suc (suc i)) = w.1 in
      let q = worded_span plan k t' (suc (suc i)) w.4 in
      let a = fixed_one (code_of plan (suc i)) (type.laid.run_ends_lem i (omega (arith, e, q)) w.2).0 in
      let c = b.values in
      let g = h.child_rule in
      (buffer (suc i) 0 (omega (arith, e, q)) (omega (arith, a)), bits_for t t' d k (suc (suc i)) w.4 (omega (arith, e, q)) c g r.keeps, parts_at t t' d k (suc (suc i)) w.4 m.2 (omega (arith, e)) (ok c.valid) c.body c.off c.len g.slots r.body_ready)
  parts_at u u' (s_dictionary k1 k2 p p' y y' d) (suc k) i w m l okay b s n h r =
      let z = type.laid.tabled.keys_end i (omega (arith, w.1)) w.2 in
      let v = type.plain_words p' (suc i) m.1 in
      (buffer i 0 (omega (arith, w.1)) (omega (arith, fixed_one (code_of plan i) w.3)), bits_of (suc i) (omega (arith, z)) (plain_low p' (suc i) v), plain_parts p' (suc i) (omega (arith, z)) v)
