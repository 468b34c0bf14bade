use mathlib.Core.Path.{◌≡◌}
use Prim.Native.Nat.{ℕ, ◌<◌}
use lib.ListN.{length, get_or}
use Rattle.walk.specs.State.{rows}
use Rattle.batch.proofs.survey.rows_of_all.Given as goal

abbrev pub invariant-loop-k : goal.invariant-loop-k
invariant-loop-k l = (length l.lands ≡ 32) × ((j : ℕ) → j < l.k → get_or l.lands j 0 ≡ rows l.counters j)
