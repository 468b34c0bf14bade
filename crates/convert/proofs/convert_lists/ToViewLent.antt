-- A LIST-VIEW THAT A LIST COLUMN IS MADE INTO can be lent again: none of the grounds 9, 10 and 12 stands (02, W4). Assumes nothing.
use mathlib.Core.Path.{◌≡◌, refl, sym, ap, subst, ◌∙◌}
use mathlib.Core.Bool.{Bool, true, false, not, ◌||◌}
use mathlib.Core.List.{List}
use Prim.Native.Nat.{ℕ, zero, suc, ◌+◌, ◌≤◌, ◌<◌, ◌^◌}
use native.Mathlib.Omega.{arith}
use lib.Dec.{T, leb}
use lib.Ieee.Bits.{is_true}
use borrow.Author.Tests.{le-leb, lt-ltb}
use Rattle.schema.specs.formats.Code.{is_view}
use Rattle.schema.specs.Tree.{code_of}
use Rattle.schema.proofs.Laws.{every_all}
use Rattle.array_data.specs.Tables.{Tables, length_of, offset_of, place}
use Rattle.array_data.specs.Typed.{tables_from, source_rule}
use Rattle.array_data.specs.type_tree.Lent.{tree_of}
use Rattle.array_data.proofs.type_tree.Shaped.{at_view}
use Rattle.plan.proofs.Codes.{view_code}
use Rattle.plan.proofs.dictionaries.Laws.{length_from, offset_from, place_from}
use Rattle.refinement.specs.log_in_room.Room.{AllBelow}
use Rattle.refinement.proofs.log_in_room.Found.{between_both}
use Rattle.columns.specs.Grounds.{small_body, count_fits, few_buffers, node_fits, within_ceilings, obeys, column_ground}
use Rattle.refinement.specs.finishing.Shows.{Bodied}
use Rattle.convert.specs.convert_lists.ToView.{make_view}
use Rattle.convert.proofs.convert_lists.Below.{length_same, offset_same, place_same}
use Rattle.convert.proofs.convert_lists.ViewLent as lentView
use Rattle.convert.proofs.convert_lists.ViewLent.{ViewDue}
use Rattle.convert.proofs.convert_lists.ToViewResult.{answer, lent, root, tables_after, to_view_shows, to_view_again}

module _ (formats schema : List ℕ) (x : Tables) (first m target : ℕ) (good : column_ground formats schema x first (suc m) ≡ 0) (due : ViewDue formats schema first (suc m) target (suc m))
    (parts plan counters room : List ℕ) (room_bytes : AllBelow 256 room) (passed : (make_view formats schema x first (suc m) target (suc m) parts plan counters room).refusal ≡ 0)
    (base : ℕ) (body : List ℕ) (bodied : Bodied body (lent formats schema x first m target good due parts plan counters room room_bytes passed) (answer formats schema x first m target good due parts plan counters room room_bytes passed).room base) where
  abbrev n : ℕ
  n = suc m

  -- the result's tables, and the finished root's
  abbrev Y : Tables
  Y = tables_after formats schema x first m target good due parts plan counters room room_bytes passed base body bodied

  abbrev R : Tables
  R = root formats schema x first m target good due parts plan counters room room_bytes passed base body bodied

  abbrev own : Tables
  own = tables_from x first

  -- ---- lengths and offsets

  sum_fits : (i : ℕ) → i < n → offset_of Y i + length_of Y i < 2 ^ 63
  sum_fits zero l =
      let s = to_view_shows formats schema x first m target good due parts plan counters room room_bytes passed base body bodied in
      omega (arith, s.len_is, s.off_is, lentView.sums formats schema x first m target good due 0 (omega arith))
  sum_fits (suc i) l =
      omega (arith, length_same x first n R (suc i) (omega arith) l, offset_same x first n R (suc i) (omega arith) l, lentView.sums formats schema x first m target good due (suc i) l)

  -- ---- data buffers

  -- a view node of the result is one of the column
  few : (i : ℕ) → i < n → is_view (code_of formats schema target i) ≡ true → place Y i 8 ≤ 32
  few zero l h =
      let b = between_both 15 16 (code_of formats schema target 0) h in
      let c = between_both 17 18 (code_of formats schema target 0) (lentView.codes formats schema x first m target good due).0 in
      absurd (omega (arith, b.1, c.0))
  few (suc i) l h =
      let k = sym ((lentView.both_alike formats schema x first m target good due).kinds (suc i) (omega arith) l) ∙ at_view formats schema target (suc i) h in
      omega (arith, place_same x first n R (suc i) (omega arith) l 8 (omega arith) (omega arith), lentView.few_buffers_lem formats schema x first m target good due (suc i) l (view_code formats schema first (suc i) k))

  module _ (z : Tables) (same : tables_from z target ≡ Y) where
    fits : (i : ℕ) → i < n → node_fits formats schema z target i ≡ true
    unfolding node_fits count_fits few_buffers
    fits i l =
        let a : length_of z (target + i) ≡ length_of Y i = sym (length_from z target i) ∙ ap (λ y. length_of y i) same in
        let b : offset_of z (target + i) ≡ offset_of Y i = sym (offset_from z target i) ∙ ap (λ y. offset_of y i) same in
        let c : place z (target + i) 8 ≡ place Y i 8 = sym (place_from z target i 8) ∙ ap (λ y. place y i 8) same in
        rw (a, b, c, lt-ltb (offset_of Y i + length_of Y i) (2 ^ 63) (sum_fits i l)) (go (is_view (code_of formats schema target i)) refl)
      where
        go : (b : Bool) → is_view (code_of formats schema target i) ≡ b → not b || leb (place Y i 8) 32 ≡ true
        go true e = le-leb (place Y i 8) 32 (few i l e)
        go false e = refl

    obeyed : obeys formats schema z target n ≡ true
    unfolding obeys
    obeyed =
        is_true _ (subst (λ y. T (source_rule (tree_of formats schema target n) y)) (sym same) (to_view_again formats schema x first m target good due parts plan counters room room_bytes passed base body bodied))

    -- IT CAN BE LENT AGAIN: tables in which it stands from the target's node on meet none of 9, 10 and 12
    pub to_view_lent : small_body body ≡ true → column_ground formats schema z target n ≡ 0
    unfolding column_ground within_ceilings
    to_view_lent small =
        let s : small_body z.body ≡ true = subst (λ b. small_body b ≡ true) (sym (ap (λ y. y.body) same)) small in
        rw (s, lentView.low formats schema x first m target good due, every_all (node_fits formats schema z target) n fits, lentView.is_typed formats schema x first m target good due, obeyed)
