use mathlib.Core.Path.{◌≡◌}
use Rattle.schema.proofs.union_ids.Read.{Read}
use Rattle.schema.proofs.union_ids.read_ids.Given as goal

abbrev pub invariant-loop-k : goal.invariant-loop-k
invariant-loop-k l = Read l.t l.initial.ids l.trial l.p l.k × (l.ids ≡ l.initial.ids)
