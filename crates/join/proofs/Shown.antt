-- The finished tables describe `intoBuilder` of the model's destination, and its null counts and validity are those of the running counter: what Demand2.antt says
-- of both in one. Assumes nothing.
use mathlib.Core.Path.{◌≡◌}
use mathlib.Core.List.{List, ◌++◌}
use Prim.Native.Nat.{ℕ}
use lib.ListN.{length}
use Rattle.model.specs.Transform.{into_builder}
use Rattle.model.specs.Book.{Call}
use Rattle.model.specs.Counters.{FinishedBy}
use Rattle.model.proofs.Counters.{finished_by}
use Rattle.refinement.specs.finishing.Finish.{null_table}
use Rattle.refinement.specs.finishing.Shows.{Shows, Counts, Bodied}
use Rattle.refinement.proofs.opening.Taken.{sources_of}
use Rattle.refinement.proofs.opening.Opened.{Opened, orders_after}
use Rattle.refinement.proofs.finishing.Orders.{appended}
use Rattle.refinement.proofs.finishing.Join.{join_shows, join_nulls}
use Rattle.join.specs.Join.{Lending, Bytes, sources_in, tree_in, type_in, columns_in, opening_of, lent_of, after_calls, tables_at, tables_of, reached_by}
use Rattle.join.proofs.Opens.{runs}

-- after an accepted opening and any list of calls, refused ones included
module _ (l : Lending) (b : Bytes l) (accepted : (opening_of l).refusal ≡ 0) (os : List Call) where
  abbrev opens : Opened l.formats l.schema l.sources l.tables l.keep l.gaps l.parts (opening_of l)
  opens = runs l b accepted

  -- Over any body z in which the room stands from `base` on and the sources' body where it was:
  module _ (base : ℕ) (z : List ℕ) (laid : Bodied z (lent_of l) (after_calls l os).room base) where
    -- THE BYTES, LENGTHS AND VALIDITY: the finished tables describe `into_builder` of it, byte for byte
    pub bytes_at_lem : Shows (tree_in l) (tables_at l os base z) (type_in l) 0 (into_builder (type_in l) (sources_in l) (columns_in l) (reached_by l os))
    bytes_at_lem = join_shows l.formats l.schema l.sources l.tables l.keep l.gaps l.parts (opening_of l) opens os base z laid

    -- THE NULL COUNTS of every node are those of its finished bits
    pub nulls_at_lem : Counts (tree_in l) (null_table (lent_of l) l.tables.buffers (after_calls l os).counters (after_calls l os).room base) (type_in l) 0
        (into_builder (type_in l) (sources_in l) (columns_in l) (reached_by l os))
    nulls_at_lem = join_nulls l.formats l.schema l.sources l.tables l.keep l.gaps l.parts (opening_of l) opens os base z laid

  -- .. and so over the sources' body with the room behind it
  pub finished_bytes : Shows (tree_in l) (tables_of l os) (type_in l) 0 (into_builder (type_in l) (sources_in l) (columns_in l) (reached_by l os))
  finished_bytes = bytes_at_lem (length l.tables.body) _ (appended (lent_of l) (after_calls l os).room)

  pub finished_nulls : Counts (tree_in l) (null_table (lent_of l) l.tables.buffers (after_calls l os).counters (after_calls l os).room (length l.tables.body)) (type_in l) 0
      (into_builder (type_in l) (sources_in l) (columns_in l) (reached_by l os))
  finished_nulls = nulls_at_lem (length l.tables.body) _ (appended (lent_of l) (after_calls l os).room)

  -- .. AND THOSE OF THE RUST: of every node, validity is kept where its running null count is above 0, and that is its null count
  pub finished_counters : FinishedBy (type_in l) (sources_in l) (columns_in l) (reached_by l os) (into_builder (type_in l) (sources_in l) (columns_in l) (reached_by l os))
  finished_counters =
      finished_by (type_in l) (sources_in l) (columns_in l) (sources_of l.formats l.schema l.sources l.tables l.keep l.gaps opens.accepted).obey (reached_by l os)
      (orders_after l.formats l.schema l.sources l.tables l.keep l.gaps l.parts (opening_of l) opens os).running.state.fine
