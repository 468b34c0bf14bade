-- THE GROUNDS OF BOTH CALLS, in their order (02, W4: "refuses with 10 any other column, then row by row with 6 .. and with 6 or 7 what the child's copy
-- meets, and last with 13"; W1: "14 stands just before 13"). Assumes nothing.
use mathlib.Core.Path.{◌≡◌, refl, sym, ap, subst, ◌∙◌}
use mathlib.Core.Bool.{Bool, true, false, cond}
use mathlib.Core.List.{List, []}
use Prim.Native.Nat.{ℕ, zero, suc}
use native.Mathlib.Omega.{arith}
use lib.ListN.{length, replicate}
use Rattle.schema.specs.Tree.{end_from, whole, typed}
use Rattle.array_data.specs.Tables.{Tables}
use Rattle.walk.specs.Log.{Out}
use Rattle.refinement.specs.plan_is_type.Planted.{join_of}
use Rattle.columns.specs.Grounds.{small_body, column_ground}
use Rattle.anew.specs.Anew.{or_else, room_ground, anew}
use Rattle.anew.proofs.Laws.{or_zero, or_first, or_never, anew_order}
use Rattle.convert.specs.convert_lists.Turned.{to_list, to_view}
use Rattle.convert.specs.convert_lists.Viewing.{view_walk}
use Rattle.convert.specs.convert_lists.ToList.{list_own, list_plan, list_filled, make_list}
use Rattle.convert.specs.convert_lists.ToView.{view_own, view_plan, view_filled, make_view}
use Rattle.convert.proofs.convert_lists.ViewLent.{ViewDue, view_due, made_bytes, view_done}

own_none : (t : Bool) → ◌≡◌ {A = ℕ} (cond t 0 10) 0 → t ≡ true
own_none true e = refl
own_none false e = absurd (omega (arith, e))

no_type : (formats schema : List ℕ) (target : ℕ) → typed formats schema target 0 ≡ true → ⊥
unfolding typed whole end_from
no_type formats schema target e = let k : ◌≡◌ {A = ℕ} 0 1 = ap (λ t. cond t 1 0) e in omega (arith, k)

-- a column of n nodes and a target of tn, parts and room that are lent for it
module _ (formats schema : List ℕ) (x : Tables) (first n target tn : ℕ) (parts plan counters room : List ℕ) where
  abbrev of_column : ℕ
  of_column = column_ground formats schema x first n

  -- any call of this form, whatever its own ground, plan and walk
  in_order_lem : (own : ℕ) (made : List ℕ) (walk : Out) → small_body room ≡ true
      → (anew formats schema x first n own made walk parts plan counters room).refusal ≡ or_else of_column (or_else own (or_else walk.ans (room_ground made walk.counters parts (length plan) (length counters) (length room))))
  in_order_lem own made walk = anew_order formats schema x first n own made walk parts plan counters room

  -- ---- list-view to list

  -- 9, 10 and 12 of the column, 10, 6 or 7 as its rows meet them (`to-list-ground`), 14 and 13
  pub to_list_grounds : small_body room ≡ true
      → (make_list formats schema x first n target tn parts plan counters room).refusal
      ≡ or_else of_column
      (or_else (list_own formats schema x first n target tn)
      (or_else (list_filled formats schema x first n target tn).ans (room_ground (list_plan formats schema x first n target tn) (list_filled formats schema x first n target tn).counters parts (length plan) (length counters) (length room))))
  to_list_grounds = in_order_lem (list_own formats schema x first n target tn) (list_plan formats schema x first n target tn) (list_filled formats schema x first n target tn)

  -- ---- list to list-view

  done_at : (k : ℕ) → of_column ≡ 0 → n ≡ k → ViewDue formats schema first k target k → column_ground formats schema x first k ≡ 0 → (view_filled formats schema x first k target k).ans ≡ 0
  done_at zero c e d g = absurd (no_type formats schema target d.below.is_typed)
  done_at (suc m) c e d g =
      subst (λ b. (view_walk (join_of x (view_plan formats schema x first (suc m) target (suc m)) [] first 0) b (replicate 96 0)).ans ≡ 0) (sym (made_bytes formats schema x first m target g d)) (view_done formats schema x first m target g d []).is_done

  -- THE WALK IS NEVER REFUSED: no offset of an accepted list can fail to fit
  pub to_view_never : of_column ≡ 0 → view_own formats schema x first n target tn ≡ 0 → (view_filled formats schema x first n target tn).ans ≡ 0
  to_view_never c o =
      let d = view_due formats schema first n target tn (own_none (to_view formats schema first n target tn) o) in
      let s = d.below.sizes in
      subst (λ k. (view_filled formats schema x first n target k).ans ≡ 0) s (done_at n c refl (subst (λ k. ViewDue formats schema first n target k) (sym s) d) c)

  -- 9, 10 and 12 of the column, 10, 14 and 13; never 6
  pub to_view_grounds : small_body room ≡ true
      → (make_view formats schema x first n target tn parts plan counters room).refusal
      ≡ or_else of_column
      (or_else (view_own formats schema x first n target tn) (room_ground (view_plan formats schema x first n target tn) (view_filled formats schema x first n target tn).counters parts (length plan) (length counters) (length room)))
  to_view_grounds small =
      in_order_lem (view_own formats schema x first n target tn) (view_plan formats schema x first n target tn) (view_filled formats schema x first n target tn) small
      ∙ or_never of_column (view_own formats schema x first n target tn) (view_filled formats schema x first n target tn).ans _ to_view_never

  -- ---- the grounds of the column and of the target

  other : (own : ℕ) (made : List ℕ) (walk : Out) → small_body room ≡ true → of_column ≡ 0 → own ≡ 10 → (anew formats schema x first n own made walk parts plan counters room).refusal ≡ 10
  other own made walk small c o = in_order_lem own made walk small ∙ or_zero of_column _ c ∙ or_first own _ (λ z. omega (arith, o, z)) ∙ o

  -- "REFUSES WITH 10 ANY OTHER COLUMN"
  pub to_list_other : small_body room ≡ true → of_column ≡ 0 → to_list formats schema first n target tn ≡ false → (make_list formats schema x first n target tn parts plan counters room).refusal ≡ 10
  to_list_other small c f = other (list_own formats schema x first n target tn) (list_plan formats schema x first n target tn) (list_filled formats schema x first n target tn) small c (rw f)

  pub to_view_other : small_body room ≡ true → of_column ≡ 0 → to_view formats schema first n target tn ≡ false → (make_view formats schema x first n target tn parts plan counters room).refusal ≡ 10
  to_view_other small c f = other (view_own formats schema x first n target tn) (view_plan formats schema x first n target tn) (view_filled formats schema x first n target tn) small c (rw f)
