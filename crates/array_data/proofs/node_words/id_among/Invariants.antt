use mathlib.Core.Path.{◌≡◌}
use lib.ListN.{drop}
use Rattle.array_data.specs.node_words.Words.{id_from}
use Rattle.array_data.proofs.node_words.id_among.Given as goal

abbrev pub invariant-loop-id : goal.invariant-loop-id
invariant-loop-id l = id_from l.schema l.first l.n (drop l.id-index l.ids) l.node l.i ≡ id_from l.schema l.first l.n l.ids l.from l.i
