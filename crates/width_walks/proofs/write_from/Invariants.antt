use mathlib.Core.Path.{◌≡◌}
use mathlib.Core.Bool.{cond}
use Prim.Native.Nat.{suc}
use Rattle.plan.specs.Plan.{filled}
use Rattle.width_walks.specs.target_rules.Target.{ends_at}
use Rattle.width_walks.proofs.write_from.Given as goal

abbrev pub invariant-loop-i : goal.invariant-loop-i
invariant-loop-i l = l.from ≡ filled (λ k. k) (λ s k. cond (ends_at l.formats l.schema l.first k) 0 (suc k)) l.i l.initial.from
