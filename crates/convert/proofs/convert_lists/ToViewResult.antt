-- A LIST COLUMN AS A LIST-VIEW (02, W4), over lent memory: the finished root, with the column's nodes behind it (specs/ViewTables), has the bytes of
-- `viewed`, reads as the column's rows, and can be lent again. Assumes nothing.
use mathlib.Core.Path.{◌≡◌, refl, sym, ap, subst, ◌∙◌}
use mathlib.Core.Bool.{Bool, true}
use mathlib.Core.List.{List}
use Prim.Native.Nat.{ℕ, zero, suc, ◌+◌, ◌≤◌, ◌<◌}
use native.Mathlib.Nat.{add-zero}
use native.Mathlib.Omega.{arith}
use lib.ListN.{length, take, length-take}
use lib.Dec.{T}
use Rattle.columnar.specs.Types.{Ty, t_list_view, t_list}
use Rattle.columnar.specs.Reading.{Column, read_all, Source}
use Rattle.columnar.specs.Test.{test}
use Rattle.columnar.proofs.Test.{test_complete}
use Rattle.array_data.specs.Tables.{Tables, part, place}
use Rattle.array_data.proofs.type_tree.ByKind.{placed_as, placed_as_lem}
use Rattle.array_data.specs.NodeKinds.{list_view_node}
use Rattle.array_data.specs.Typed.{Tree, column_of, source_rule, placed}
use Rattle.array_data.proofs.type_tree.Source.{lent_obeys}
use Rattle.refinement.specs.log_in_room.Room.{AllBelow}
use Rattle.columns.specs.Grounds.{column_ground}
use Rattle.refinement.specs.orders.Order.{Lent}
use Rattle.refinement.specs.opening.Open.{Opening}
use Rattle.refinement.specs.finishing.Finish.{null_table}
use Rattle.refinement.specs.finishing.Shows.{Shows, Counts, finished_tables, Bodied}
use Rattle.refinement.proofs.finishing.Lookups.{source_part}
use Rattle.refinement.proofs.finishing.Reading.{shows_all, shows_obeys}
use Rattle.anew.specs.lists.Viewed.{viewed}
use Rattle.anew.proofs.lists.Viewed.{viewed_rows, viewed_source}
use Rattle.convert.specs.convert_lists.ToList.{lent_with}
use Rattle.convert.specs.convert_lists.ToView.{view_plan, make_view}
use Rattle.convert.specs.convert_lists.ViewTables.{view_nulls, view_tables}
use Rattle.convert.proofs.convert_lists.Below.{held_at, root_length, root_offset, root_place, root_nulls_lem}
use Rattle.convert.proofs.convert_lists.BelowShown.{below_shows, below_counters, below_placed}
use Rattle.convert.proofs.convert_lists.ViewLent as lentView
use Rattle.convert.proofs.convert_lists.ViewLent.{ViewDue}
use Rattle.convert.proofs.convert_lists.ToView.{RootDone, to_view_root}

holds : {b : Bool} → b ≡ true → T b
holds e = subst T (sym e) tt

module _ (formats schema : List ℕ) (x : Tables) (first m target : ℕ) (good : column_ground formats schema x first (suc m) ≡ 0) (due : ViewDue formats schema first (suc m) target (suc m)) where
  abbrev n : ℕ
  n = suc m

  -- the list, and its type
  abbrev pub w : ℕ
  w = lentView.wide formats schema x first m target good due

  abbrev pub t : Ty
  t = lentView.item formats schema x first m target good due

  abbrev pub v : Column (t_list w t)
  v = lentView.column formats schema x first m target good due

  -- the column's tree and the result's
  abbrev here : Tree
  here = lentView.here formats schema x first m target good due

  abbrev pub tree : Tree
  tree = lentView.there formats schema x first m target good due

  obeys : Source (t_list w t) v
  obeys = lentView.column_good formats schema x first m target good due

  module _ (parts plan counters room : List ℕ) (room_bytes : AllBelow 256 room) (passed : (make_view formats schema x first n target n parts plan counters room).refusal ≡ 0) where
    abbrev pub answer : Opening
    answer = make_view formats schema x first n target n parts plan counters room

    -- what finishing is given
    abbrev pub lent : Lent
    lent = lent_with x (view_plan formats schema x first n target n) parts first n

    module _ (base : ℕ) (body : List ℕ) (bodied : Bodied body lent answer.room base) where
      abbrev pub root : Tables
      root = finished_tables lent x.buffers answer.counters answer.room base body

      abbrev root_nulls : List ℕ
      root_nulls = null_table lent x.buffers answer.counters answer.room base

      -- THE RESULT'S TABLES, and its null counts
      abbrev pub tables_after : Tables
      tables_after = view_tables x first n root

      abbrev pub nulls_after : List ℕ
      nulls_after = view_nulls x first n root_nulls

      done : RootDone formats schema x first m target good due parts plan counters room room_bytes passed root root_nulls
      done = to_view_root formats schema x first m target good due parts plan counters room room_bytes passed base body bodied

      longer : length x.body ≤ length body
      longer = let e : length (take (length x.body) body) ≡ length x.body = ap length bodied.front in omega (arith, length-take (length x.body) body)

      same_part : (at size : ℕ) → at + size ≤ length x.body → part body at size ≡ part x.body at size
      same_part = source_part lent x.buffers answer.counters answer.room base body bodied

      some_node : 0 < n
      some_node = omega arith

      abbrev at : (j : ℕ) → j < 9 → place tables_after 0 j ≡ place root 0 j
      at j k = root_place x first n root some_node j k

      -- ---- byte for byte

      -- THE TABLES DESCRIBE THE LIST-VIEW
      pub to_view_shows : Shows tree tables_after (t_list_view w t) 0 (viewed w t v)
      to_view_shows =
          let s = done.shown in
          record {
            len_is = root_length x first n root some_node ∙ s.len_is;
            off_is = root_offset x first n root some_node ∙ s.off_is;
            valid_is = rw (at 0 (omega arith), at 1 (omega arith), at 2 (omega arith), add-zero v.off) s.valid_is;
            body_is = (
              rw (at 3 (omega arith), at 4 (omega arith)) s.body_is.0,
              rw (at 5 (omega arith), at 6 (omega arith)) s.body_is.1,
              below_shows tree here (lentView.both_alike formats schema x first m target good due) x first n root refl (lentView.rules formats schema x first m target good due) longer same_part t 1 (omega arith) (lentView.item_means formats schema x first m target good due),
            );
          }

      -- .. WITH ITS NULL COUNTS, taken from its bits
      pub to_view_nulls : Counts tree nulls_after (t_list_view w t) 0 (viewed w t v)
      to_view_nulls =
          record {
            count_is = rw (add-zero v.off) (root_nulls_lem x first n root some_node root_nulls ∙ done.counted.count_is);
            below = below_counters tree here (lentView.both_alike formats schema x first m target good due) x first n root refl (lentView.rules formats schema x first m target good due) longer same_part root_nulls t 1 (omega arith) (lentView.item_means formats schema x first m target good due);
          }

      -- ---- its rows

      made_obeys : Source (t_list_view w t) (viewed w t v)
      made_obeys = viewed_source w t v obeys

      -- THEY READ AS THE LIST'S
      pub to_view_rows : read_all (t_list_view w t) (column_of tree tables_after (t_list_view w t) 0) ≡ read_all (t_list w t) v
      to_view_rows = shows_all tree tables_after (t_list_view w t) 0 (viewed w t v) to_view_shows made_obeys ∙ viewed_rows w t v obeys

      -- ---- lent again

      root_placed : placed_as tree tables_after (list_view_node w) 0 ≡ true
      root_placed =
          let i = done.inside in
          rw (held_at x first n root 0 some_node, at 0 (omega arith), at 1 (omega arith), at 2 (omega arith), at 3 (omega arith), at 4 (omega arith), at 5 (omega arith), at 6 (omega arith), i.0, i.1, i.2) refl

      all_placed : (j : ℕ) → j < n → T (placed tree tables_after j)
      all_placed zero l = placed_as_lem tree tables_after 0 (lentView.view_kind_lem formats schema x first m target good due) (holds root_placed)
      all_placed (suc j) l =
          below_placed tree here (lentView.both_alike formats schema x first m target good due) x first n root refl (lentView.rules formats schema x first m target good due) longer same_part (suc j) (omega arith) l

      -- IT CAN BE LENT AGAIN: ground 12 does not stand
      pub to_view_again : T (source_rule tree tables_after)
      to_view_again =
          lent_obeys formats schema target n tables_after (lentView.is_typed formats schema x first m target good due) (lentView.low formats schema x first m target good due) all_placed
          (subst (λ u. T (test u (column_of tree tables_after u 0))) (sym (lentView.type_is_lem formats schema x first m target good due))
          (test_complete (t_list_view w t) _ (shows_obeys tree tables_after (t_list_view w t) 0 (viewed w t v) to_view_shows made_obeys)))
