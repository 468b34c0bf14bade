-- A result of a type that is known by its name, finished as a join is. Assumes nothing.
use mathlib.Core.Path.{◌≡◌, subst}
use mathlib.Core.Bool.{Bool, true, false}
use mathlib.Core.List.{List}
use Prim.Native.Nat.{ℕ, suc, ◌≤◌, ◌<◌}
use lib.ListN.{length}
use lib.Dec.{T}
use Rattle.columnar.specs.Types.{Ty}
use Rattle.columnar.specs.Reading.{Column, read_all}
use Rattle.schema.specs.Tree.{ceilings, typed}
use Rattle.array_data.specs.Tables.{Tables}
use Rattle.array_data.specs.Typed.{Tree, column_of, tables_from, source_rule}
use Rattle.array_data.specs.type_tree.Lent.{tree_of, type_of}
use Rattle.walk.specs.State.{code_of}
use Rattle.walk.specs.Log.{Out}
use Rattle.columns.specs.Grounds.{ceiling, column_ground}
use Rattle.refinement.specs.log_in_room.Room.{AllBelow}
use Rattle.refinement.specs.orders.Order.{Lent}
use Rattle.refinement.specs.orders.Written.{OnlyUsed}
use Rattle.refinement.specs.finishing.Finish.{null_table}
use Rattle.refinement.specs.finishing.Shows.{Shows, Counts, finished_tables, Bodied}
use Rattle.refinement.specs.opening.Open.{Opening}
use Rattle.anew.specs.Anew.{anew}
use Rattle.anew.specs.ResultPlan.{plan_anew}
use Rattle.anew.proofs.Result.{Filled, lent_for, anew_result, anew_again, anew_writes}

-- what finished tables show: the column byte for byte with its null counts, its rows, and that they can be lent again
pub record Finished (tree : Tree) (tables : Tables) (nulls : List ℕ) (t : Ty) (column : Column t) : Type 0 where
  pub shows : Shows tree tables t 0 column
  pub counters : Counts tree nulls t 0 column
  pub reads : read_all t (column_of tree tables t 0) ≡ read_all t column
  pub again : T (source_rule tree tables)

-- a result of a type that is known by its name
module _ (formats schema : List ℕ) (x : Tables) (first n own target tn : ℕ) (keep : ℕ → Bool) (walk : Out) (parts plan counters room : List ℕ) (t : typed formats schema target tn ≡ true) (c : ceilings formats schema target tn ≡ true)
    (ends : (i : ℕ) → suc i < tn → code_of (plan_anew formats schema target tn keep true 0) i ≡ 23 → keep (suc i) ≡ false) (room_bytes : AllBelow 256 room)
    (ok : (anew formats schema x first n own (plan_anew formats schema target tn keep true 0) walk parts plan counters room).refusal ≡ 0) where
  abbrev made : List ℕ
  made = plan_anew formats schema target tn keep true 0

  abbrev lent : Lent
  lent = lent_for x made parts first n

  abbrev left : Opening
  left = anew formats schema x first n own made walk parts plan counters room

  abbrev tree : Tree
  tree = tree_of formats schema target tn

  pub finish : (u : Ty) → type_of formats schema target tn ≡ u → (column : Column u) → Filled lent x.buffers u walk column → (base : ℕ) (body : List ℕ) → Bodied body lent left.room base
      → Finished tree (finished_tables lent x.buffers left.counters left.room base body) (null_table lent x.buffers left.counters left.room base) u column
  finish u e =
      subst
      (λ u. (column : Column u) → Filled lent x.buffers u walk column → (base : ℕ) (body : List ℕ) → Bodied body lent left.room base
      → Finished tree (finished_tables lent x.buffers left.counters left.room base body) (null_table lent x.buffers left.counters left.room base) u column)
      e
      (λ column filled base body bodied.
      let a = anew_result formats schema x first n own target tn keep true 0 walk parts plan counters room t c ends column filled room_bytes ok base body bodied in
      record { shows = a.0; counters = a.1; reads = a.2; again = a.3 })

  pub writes : (u : Ty) → type_of formats schema target tn ≡ u → (column : Column u) → Filled lent x.buffers u walk column → OnlyUsed made parts room left.counters left.room
  writes u e =
      subst (λ u. (column : Column u) → Filled lent x.buffers u walk column → OnlyUsed made parts room left.counters left.room) e
      (λ column filled. anew_writes formats schema x first n own target tn keep true 0 walk parts plan counters room t c ends column filled room_bytes ok)

  -- tables that hold the finished ones from the target's node on meet none of 9, 10 and 12
  pub lends : (u : Ty) → type_of formats schema target tn ≡ u → (column : Column u) → Filled lent x.buffers u walk column → (base : ℕ) (body : List ℕ) → Bodied body lent left.room base → length body ≤ ceiling
      → (z : Tables) → tables_from z target ≡ finished_tables lent x.buffers left.counters left.room base body → column_ground formats schema z target tn ≡ 0
  lends u e =
      subst
      (λ u. (column : Column u) → Filled lent x.buffers u walk column → (base : ℕ) (body : List ℕ) → Bodied body lent left.room base → length body ≤ ceiling
      → (z : Tables) → tables_from z target ≡ finished_tables lent x.buffers left.counters left.room base body → column_ground formats schema z target tn ≡ 0)
      e
      (λ column filled base body bodied. anew_again formats schema x first n own target tn keep true 0 walk parts plan counters room t c ends column filled room_bytes ok base body bodied)
