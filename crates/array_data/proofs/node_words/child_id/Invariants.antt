use mathlib.Core.Path.{◌≡◌}
use Rattle.array_data.specs.node_words.Words.{id_below}
use Rattle.array_data.proofs.node_words.child_id.Given as goal

abbrev pub invariant-loop-p : goal.invariant-loop-p
invariant-loop-p l = id_below l.formats l.schema l.first l.n l.p l.i ≡ id_below l.formats l.schema l.first l.n l.i l.i
