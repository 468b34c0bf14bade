-- A LIST-VIEW COLUMN AS A LIST (02, W4), over lent memory: the grounds are those of the definition, and the finished result has its bytes, reads as
-- the column's rows, and can be lent again. Assumes nothing.
use mathlib.Core.Path.{◌≡◌, refl, sym, ap, subst, ◌∙◌}
use mathlib.Core.Bool.{false}
use mathlib.Core.Logic.{inl, inr}
use mathlib.Core.List.{List, []}
use Prim.Native.Nat.{ℕ, suc, ◌*◌, ◌≤◌}
use native.Mathlib.Omega.{arith}
use lib.ListN.{length, replicate}
use lib.Dec.{T}
use Rattle.columnar.specs.Types.{Ty, t_list_view, t_list}
use Rattle.columnar.specs.Reading.{Column, read_all}
use Rattle.model.specs.Try.{Try, done, stop}
use Rattle.array_data.specs.Tables.{Tables}
use Rattle.array_data.specs.Typed.{Tree, column_of, tables_from, source_rule}
use Rattle.array_data.specs.type_tree.Lent.{tree_of, type_of}
use Rattle.array_data.specs.lent_tables.Lent.{tables}
use Rattle.refinement.specs.log_in_room.Room.{AllBelow}
use Rattle.refinement.specs.orders.Order.{Lent}
use Rattle.refinement.specs.opening.Open.{Opening}
use Rattle.anew.specs.ResultPlan.{keeps_from}
use Rattle.plan.specs.parts.Parts.{nodes_of}
use Rattle.refinement.specs.orders.Written.{OnlyUsed}
use Rattle.columns.specs.Grounds.{ceiling, column_ground}
use Rattle.refinement.specs.finishing.Finish.{buffers_before, length_table, null_table, place_table, buffer_table, finishing}
use Rattle.refinement.specs.finishing.Shows.{Shows, Counts, finished_tables, Bodied}
use Rattle.anew.specs.lists.Listed.{listed, ground_of}
use Rattle.anew.proofs.lists.Listed.{listed_rows}
use Rattle.anew.proofs.lists.Grounds.{listed_with}
use Rattle.anew.proofs.Laws.{anew_accepted}
use Rattle.anew.proofs.Result.{Filled, anew_writes, anew_finishes, anew_result, anew_again}
use Rattle.convert.specs.convert_lists.Turned.{all_nodes}
use Rattle.convert.specs.convert_lists.ToList.{lent_with, list_own, list_plan, list_filled, make_list}
use Rattle.convert.proofs.convert_lists.Listing.{ListView}
use Rattle.convert.proofs.convert_lists.ListFills.{list_fills, list_ground}
use Rattle.convert.proofs.convert_lists.ListParts.{list_same}
use Rattle.convert.proofs.convert_lists.ListLent.{Due, wide, item, column, type_is_lem, no_ends_lem, list_view, list_named, list_sound}

module _ (formats schema : List ℕ) (x : Tables) (first m target : ℕ) (ok : column_ground formats schema x first (suc m) ≡ 0) (due : Due formats schema first (suc m) target (suc m)) where
  abbrev n : ℕ
  n = suc m

  -- the list-view, and its type
  abbrev pub w : ℕ
  w = wide formats schema x first m target ok due

  abbrev pub t : Ty
  t = item formats schema x first m target ok due

  abbrev pub v : Column (t_list_view w t)
  v = column formats schema x first m target ok due

  pub lent_ok : (parts : List ℕ) → ListView (lent_with x (list_plan formats schema x first n target n) parts first n) w t v
  lent_ok = list_view formats schema x first m target ok due

  -- THE GROUND of an accepted column with the target that is due: 6 or 7, as the definition meets it
  pub to_list_ground : (list_filled formats schema x first n target n).ans ≡ ground_of (listed w t v)
  to_list_ground = list_ground (lent_with x (list_plan formats schema x first n target n) [] first n) w t v (lent_ok [])

  -- the list that it is made into
  is_done : (list_filled formats schema x first n target n).ans ≡ 0 → (y : Column (t_list w t)) × (listed w t v ≡ done y)
  is_done e = go (listed w t v) refl
    where
      go : (r : Try (Column (t_list w t))) → listed w t v ≡ r → (y : Column (t_list w t)) × (listed w t v ≡ done y)
      go (done y) p = (y, p)
      go (stop g) p =
          let z : g ≡ 0 = sym (ap ground_of p) ∙ sym to_list_ground ∙ e in
          absurd (elim (listed_with w t v (lent_ok []).formed (lent_ok []).obey (lent_ok []).few g p) [ inl a ↦ omega (arith, a, z) | inr a ↦ omega (arith, a, z) ])

  -- ---- an accepted call

  module _ (parts plan counters room : List ℕ) (body_bytes : AllBelow 256 x.body) (room_bytes : AllBelow 256 room) (passed : (make_list formats schema x first n target n parts plan counters room).refusal ≡ 0) where
    abbrev pub answer : Opening
    answer = make_list formats schema x first n target n parts plan counters room

    abbrev pub tree : Tree
    tree = tree_of formats schema target n

    abbrev pub lent : Lent
    lent = lent_with x (list_plan formats schema x first n target n) parts first n

    -- the list
    pub made_list : (y : Column (t_list w t)) × (listed w t v ≡ done y)
    made_list = is_done (anew_accepted formats schema x first n (list_own formats schema x first n target n) (list_plan formats schema x first n target n) (list_filled formats schema x first n target n) parts plan counters room passed).walk_done

    abbrev pub list : Column (t_list w t)
    list = made_list.0

    -- IT IS THE LIST OF THE DEFINITION
    pub to_list_made : listed w t v ≡ done list
    to_list_made = made_list.1

    filled : Filled lent x.buffers (t_list w t) (list_filled formats schema x first n target n) list
    filled =
        subst (λ o. Filled lent x.buffers (t_list w t) o list) (list_same x (list_plan formats schema x first n target n) parts first n (replicate 96 0))
        (list_fills lent w t v (lent_ok parts) x.buffers (λ c μ. list_named formats schema x first m target ok due parts c μ) (list_sound formats schema x first m target ok due) body_bytes list to_list_made)

    -- ---- what is written, and finishing

    abbrev made : List ℕ
    made = list_plan formats schema x first n target n

    abbrev Written : Type 0
    Written = OnlyUsed made parts room answer.counters answer.room

    abbrev Finishes : Type 0
    Finishes =
        (base : ℕ) → base ≤ ceiling → (lengths nulls places names : List ℕ) → length lengths ≡ 2 * nodes_of made → length nulls ≡ nodes_of made → length places ≡ 9 * nodes_of made
        → length names ≡ 2 * buffers_before lent x.buffers answer.counters answer.room base (nodes_of made)
        → finishing lent x.buffers answer.counters answer.room base lengths nulls places names
        ≡ record {
          refusal = 0;
          lengths = length_table lent x.buffers answer.counters answer.room base;
          nulls = null_table lent x.buffers answer.counters answer.room base;
          places = place_table lent x.buffers answer.counters answer.room base;
          buffers = buffer_table lent x.buffers answer.counters answer.room base;
        }

    both_at : (u : Ty) → type_of formats schema target n ≡ u → (y : Column u) → Filled lent x.buffers u (list_filled formats schema x first n target n) y → Written × Finishes
    both_at u e =
        subst (λ u. (y : Column u) → Filled lent x.buffers u (list_filled formats schema x first n target n) y → Written × Finishes) e
        (λ y f. (
          anew_writes formats schema x first n (list_own formats schema x first n target n) target n (keeps_from (tables x.lengths x.places x.body) first all_nodes) false 0
              (list_filled formats schema x first n target n) parts plan counters room due.is_typed due.low (no_ends_lem formats schema x first m target ok due) y f room_bytes passed,
          anew_finishes formats schema x first n (list_own formats schema x first n target n) target n (keeps_from (tables x.lengths x.places x.body) first all_nodes) false 0
              (list_filled formats schema x first n target n) parts plan counters room due.is_typed due.low (no_ends_lem formats schema x first m target ok due) y f room_bytes passed,
        ))

    -- AN ACCEPTED CALL CHANGES ONLY BYTES OF THE PARTS, up to what each needs
    pub to_list_writes : Written
    to_list_writes = (both_at (t_list w t) (type_is_lem formats schema x first m target ok due) list filled).0

    -- FINISHING IS ACCEPTED, where its tables are of the list's lengths and the room begins within a body's ceiling
    pub to_list_finishes : Finishes
    to_list_finishes = (both_at (t_list w t) (type_is_lem formats schema x first m target ok due) list filled).1

    module _ (base : ℕ) (body : List ℕ) (bodied : Bodied body lent answer.room base) where
      abbrev pub tables_after : Tables
      tables_after = finished_tables lent x.buffers answer.counters answer.room base body

      abbrev Result : (u : Ty) → Column u → Type 0
      Result u y =
          Shows tree tables_after u 0 y × Counts tree (null_table lent x.buffers answer.counters answer.room base) u 0 y
          × (read_all u (column_of tree tables_after u 0) ≡ read_all u y)
          × T (source_rule tree tables_after)

      at_type : (u : Ty) → type_of formats schema target n ≡ u → (y : Column u) → Filled lent x.buffers u (list_filled formats schema x first n target n) y → Result u y
      at_type u e =
          subst (λ u. (y : Column u) → Filled lent x.buffers u (list_filled formats schema x first n target n) y → Result u y) e
          (λ y f.
          anew_result formats schema x first n (list_own formats schema x first n target n) target n (keeps_from (tables x.lengths x.places x.body) first all_nodes) false 0
          (list_filled formats schema x first n target n) parts plan counters room due.is_typed due.low (no_ends_lem formats schema x first m target ok due) y f room_bytes passed base body bodied)

      result : Result (t_list w t) list
      result = at_type (t_list w t) (type_is_lem formats schema x first m target ok due) list filled

      -- THE RESULT: the finished tables describe the list byte for byte, with its null counts
      pub to_list_shows : Shows tree tables_after (t_list w t) 0 list
      to_list_shows = result.0

      pub to_list_nulls : Counts tree (null_table lent x.buffers answer.counters answer.room base) (t_list w t) 0 list
      to_list_nulls = result.1

      -- ITS ROWS READ AS THE LIST-VIEW'S
      pub to_list_rows : read_all (t_list w t) (column_of tree tables_after (t_list w t) 0) ≡ read_all (t_list_view w t) v
      to_list_rows = result.2 ∙ listed_rows w t v (lent_ok []).formed (lent_ok []).obey (lent_ok []).few list to_list_made

      -- IT CAN BE LENT AGAIN
      pub to_list_again : T (source_rule tree tables_after)
      to_list_again = result.3

      -- .. with the same schema, in tables that hold it from the target's node on: NONE OF 9, 10 AND 12 STANDS
      pub to_list_lent : length body ≤ ceiling → (z : Tables) → tables_from z target ≡ tables_after → column_ground formats schema z target n ≡ 0
      to_list_lent short z again =
          subst (λ u. (y : Column u) → Filled lent x.buffers u (list_filled formats schema x first n target n) y → column_ground formats schema z target n ≡ 0) (type_is_lem formats schema x first m target ok due)
          (λ y f.
          anew_again formats schema x first n (list_own formats schema x first n target n) target n (keeps_from (tables x.lengths x.places x.body) first all_nodes) false 0
          (list_filled formats schema x first n target n) parts plan counters room due.is_typed due.low (no_ends_lem formats schema x first m target ok due) y f room_bytes passed base body bodied short z again)
          list filled
