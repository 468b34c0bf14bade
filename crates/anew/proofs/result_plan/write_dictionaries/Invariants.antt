use mathlib.Core.Path.{◌≡◌}
use Prim.Native.Nat.{◌+◌, ◌*◌, ◌-◌, ◌≤◌}
use Rattle.plan.specs.Plan.{filled}
use Rattle.anew.specs.ResultPlan.{dictionary_word}
use Rattle.anew.proofs.result_plan.write_dictionaries.Given as goal

abbrev pub invariant-loop-i : goal.invariant-loop-i
invariant-loop-i l = (l.words ≡ filled (λ k. 8 * k + 7) (dictionary_word l.joined) l.i l.initial.words)
