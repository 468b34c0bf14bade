-- THE CALL: what a conversion that is accepted leaves, and what it is refused with. Assumes nothing.
use mathlib.Core.Path.{◌≡◌, refl, sym, ap, ◌∙◌}
use mathlib.Core.Bool.{true}
use mathlib.Core.Logic.{inl, inr}
use mathlib.Core.List.{List}
use Prim.Native.Nat.{ℕ}
use native.Mathlib.Omega.{arith}
use lib.ListN.{replicate}
use lib.Dec.{T}
use Rattle.columnar.specs.Types.{Ty}
use Rattle.columnar.specs.Reading.{Column, read_all}
use Rattle.array_data.specs.Tables.{Tables}
use Rattle.array_data.specs.Typed.{tables_from, column_of, source_rule}
use Rattle.array_data.specs.type_tree.Lent.{tree_of, type_of}
use Rattle.model.specs.Try.{Try, done, stop, then}
use Rattle.walk.specs.Log.{Out}
use Rattle.refinement.specs.log_in_room.Room.{AllBelow}
use Rattle.refinement.specs.opening.Open.{Opening}
use Rattle.refinement.specs.finishing.Finish.{null_table}
use Rattle.refinement.specs.finishing.Shows.{Shows, Counts, finished_tables, Bodied}
use Rattle.columns.specs.Grounds.{column_ground}
use Rattle.anew.specs.widths.Widths.{Widths}
use Rattle.anew.specs.widths.Converted.{column_as}
use Rattle.anew.specs.widths.Fitting.{tried, AllFit, numbers, converted}
use Rattle.anew.proofs.widths.Fits.{tried_done}
use Rattle.anew.proofs.widths.Convert.{convert_accepted, convert_rows}
use Rattle.anew.proofs.widths.Grounds.{Ground, refused_with}
use Rattle.anew.specs.Anew.{anew}
use Rattle.anew.proofs.Laws.{anew_accepted}
use Rattle.anew.proofs.Result.{Filled, anew_result}
use Rattle.width_walks.specs.target_rules.Target.{is_target}
use Rattle.width_walks.proofs.target_rules.Rules.{target_is, target_test}
use Rattle.width_walks.specs.Nodes.{tree_walk}
use Rattle.width_walks.proofs.Whole.{convert_refused, convert_done, convert_fills}
use Rattle.width_walks.proofs.Target.{keep, made, lent, no_ends_lem}
use Rattle.width_walks.proofs.Lent.{typed_here, low_here, source_here, given_here}

module _ (formats schema : List ℕ) (x : Tables) (first n first' : ℕ) (parts : List ℕ) (ok : column_ground formats schema x first n ≡ 0) (h : is_target formats schema first n first' n ≡ true) (bytes : AllBelow 256 x.body) where
  abbrev pub from : Ty
  from = type_of formats schema first n

  abbrev pub to : Ty
  to = type_of formats schema first' n

  abbrev pub widths : Widths from to
  widths = target_test formats schema first n first' n (typed_here formats schema x first n ok) (low_here formats schema x first n ok) h

  abbrev pub column : Column from
  column = column_of (tree_of formats schema first n) (tables_from x first) from 0

  abbrev pub plan_made : List ℕ
  plan_made = made formats schema x first n first' parts (typed_here formats schema x first n ok) (low_here formats schema x first n ok) h

  -- the loop over the column's nodes, by the plan of the target
  abbrev pub walk : Out
  walk = tree_walk (tree_of formats schema first n) (tree_of formats schema first' n) (tables_from x first) plan_made (replicate 96 0)

  -- THE WALK'S GROUND IS THE CONVERTER'S
  pub walk_ground : (g : ℕ) → converted from to widths column ≡ stop g → walk.ans ≡ g
  walk_ground g e =
      convert_refused (tree_of formats schema first n) (tree_of formats schema first' n) (tables_from x first) _ x.buffers from to widths (given_here formats schema x first n ok first' parts h bytes) g e

  pub some_ground : (g : ℕ) → Ground g → g ≡ 0 → ⊥
  some_ground g (inl e) z = omega arith
  some_ground g (inr (inl e)) z = omega arith
  some_ground g (inr (inr e)) z = omega arith

  -- .. and where it has none, every number fits
  pub all_fit : walk.ans ≡ 0 → AllFit (numbers from to widths column)
  all_fit z = go (tried (numbers from to widths column)) refl
    where
      go : (t : Try (Unit {0})) → tried (numbers from to widths column) ≡ t → AllFit (numbers from to widths column)
      go (done u) e = tried_done (numbers from to widths column) e
      go (stop g) e =
          let c : converted from to widths column ≡ stop g = ap (λ y. then y (λ u. done (column_as from to widths column 0 column.len))) e in
          absurd (some_ground g (refused_with from to widths column g c) (sym (walk_ground g c) ∙ z))

  pub walk_none : AllFit (numbers from to widths column) → walk.ans ≡ 0
  walk_none =
      convert_done (tree_of formats schema first n) (tree_of formats schema first' n) (tables_from x first) _ x.buffers from to widths (given_here formats schema x first n ok first' parts h bytes)

  pub filled : walk.ans ≡ 0 → Filled (lent formats schema x first n first' parts (typed_here formats schema x first n ok) (low_here formats schema x first n ok) h) x.buffers to walk (column_as from to widths column 0 column.len)
  filled z =
      convert_fills (tree_of formats schema first n) (tree_of formats schema first' n) (tables_from x first) _ x.buffers from to widths (given_here formats schema x first n ok first' parts h bytes) (all_fit z)

  -- ---- the call on lent memory

  module _ (own : ℕ) (plan counters room : List ℕ) (room_bytes : AllBelow 256 room) (accepted : (anew formats schema x first n own plan_made walk parts plan counters room).refusal ≡ 0) where
    abbrev answer : Opening
    answer = anew formats schema x first n own plan_made walk parts plan counters room

    walk_done : walk.ans ≡ 0
    walk_done = (anew_accepted formats schema x first n own plan_made walk parts plan counters room accepted).walk_done

    all_here : AllFit (numbers from to widths column)
    all_here = all_fit walk_done

    module _ (base : ℕ) (body : List ℕ) (bodied : Bodied body (lent formats schema x first n first' parts (typed_here formats schema x first n ok) (low_here formats schema x first n ok) h) answer.room base) where
      -- the tables that finishing gives
      abbrev pub after_tables : Tables
      after_tables =
          finished_tables (lent formats schema x first n first' parts (typed_here formats schema x first n ok) (low_here formats schema x first n ok) h) x.buffers answer.counters answer.room base body

      result :
          Shows (tree_of formats schema first' n) after_tables to 0 (column_as from to widths column 0 column.len)
          × Counts (tree_of formats schema first' n) (null_table (lent formats schema x first n first' parts (typed_here formats schema x first n ok) (low_here formats schema x first n ok) h) x.buffers answer.counters answer.room base) to 0 (column_as from to widths column 0 column.len)
          × (read_all to (column_of (tree_of formats schema first' n) after_tables to 0) ≡ read_all to (column_as from to widths column 0 column.len))
          × T (source_rule (tree_of formats schema first' n) after_tables)
      result =
          let target = target_is formats schema first n first' n h in
          let keeps = keep formats schema x first n first' parts (typed_here formats schema x first n ok) (low_here formats schema x first n ok) h in
          anew_result formats schema x first n own first' n keeps true 0 walk parts plan counters room target.of_type target.low
          (no_ends_lem formats schema x first n first' parts (typed_here formats schema x first n ok) (low_here formats schema x first n ok) h) (column_as from to widths column 0 column.len) (filled walk_done)
          room_bytes accepted base body bodied

      -- WHAT AN ACCEPTED CALL LEAVES, finished, is the converted column byte for byte
      pub shows : Shows (tree_of formats schema first' n) after_tables to 0 (column_as from to widths column 0 column.len)
      shows = result.0

      -- it reads as the column that it was given
      pub same_rows : read_all to (column_of (tree_of formats schema first' n) after_tables to 0) ≡ read_all from column
      same_rows =
          result.2
          ∙ convert_rows from to widths column (source_here formats schema x first n ok) (column_as from to widths column 0 column.len) (convert_accepted from to widths column all_here)

      -- and can be lent again
      pub lent_again : T (source_rule (tree_of formats schema first' n) after_tables)
      lent_again = result.3
