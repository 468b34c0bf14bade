use mathlib.Core.Path.{◌≡◌}
use Prim.Native.Nat.{◌+◌, ◌*◌, ◌-◌, ◌≤◌}
use Rattle.array_data.specs.lent_tables.Lent.{tables}
use Rattle.plan.specs.Plan.{filled, flag}
use Rattle.anew.specs.ResultPlan.{keeps_from}
use Rattle.anew.proofs.result_plan.write_nulls.Given as goal

abbrev pub invariant-loop-i : goal.invariant-loop-i
invariant-loop-i l = (l.words ≡ filled (λ k. 8 * k + 5) (λ s k. flag (keeps_from (tables l.lengths l.places l.body) l.first l.from k)) l.i l.initial.words)
