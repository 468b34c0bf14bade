-- The finished array reads by its tables as the model's does, and obeys the rules of a source. Assumes nothing.
use mathlib.Core.Path.{◌≡◌}
use mathlib.Core.List.{List}
use Prim.Native.Nat.{ℕ}
use Rattle.columnar.specs.Types.{Ty}
use Rattle.columnar.specs.Reading.{Column, read_all, Source}
use Rattle.array_data.specs.Typed.{Tree, column_of}
use Rattle.model.specs.Transform.{Destination, into_builder}
use Rattle.model.proofs.Nodes.{kind_of}
use Rattle.model.proofs.Node.{node_obeys}
use Rattle.model.proofs.Owed.{Ready}
use Rattle.model.proofs.Types.{law}
use Rattle.refinement.specs.walk_is_model.Memory.{Memory}
use Rattle.refinement.specs.orders.Order.{Lent}
use Rattle.refinement.specs.finishing.Shows.{finished_tables, Bodied}
use Rattle.refinement.proofs.finishing.Given.{Given}
use Rattle.refinement.proofs.finishing.Reading.{shows_all, shows_obeys}
use Rattle.refinement.proofs.finishing.Finished.{finished_shows}

module _ (x : Lent) (buffers : List ℕ) (tree : Tree) (t : Ty) (m : ℕ) (ss : ℕ → Column t) (d : Destination t) (counters room : List ℕ) (μ : Memory)
    (given : Given x buffers tree t m ss d counters room μ) (ready : Ready t m (λ j. (ss j).body)) (base : ℕ) (body : List ℕ) (bodied : Bodied body x room base) where
  -- what the finished tables describe
  abbrev pub finished_column : Column t
  finished_column = column_of tree (finished_tables x buffers counters room base body) t 0

  model_obeys : Source t (into_builder t m ss d)
  model_obeys = node_obeys (kind_of t m (λ j. (ss j).body)) m ss (law t m ss given.obey ready) (λ j l. (given.obey j l).mask) d given.fine

  -- ITS ROWS are those of the model's finished array
  pub finished_reads : read_all t finished_column ≡ read_all t (into_builder t m ss d)
  finished_reads = shows_all tree (finished_tables x buffers counters room base body) t 0 (into_builder t m ss d) (finished_shows x buffers tree t m ss d counters room μ given base body bodied) model_obeys

  -- IT OBEYS THE RULES OF A SOURCE
  pub finished_obeys : Source t finished_column
  finished_obeys = shows_obeys tree (finished_tables x buffers counters room base body) t 0 (into_builder t m ss d) (finished_shows x buffers tree t m ss d counters room μ given base body bodied) model_obeys
