use mathlib.Core.Path.{◌≡◌}
use Prim.Native.Nat.{◌+◌, ◌*◌}
use Rattle.array_data.specs.lent_tables.Lent.{tables}
use Rattle.plan.specs.Plan.{filled, joined_word}
use Rattle.plan.proofs.write_joined.Given as goal

abbrev pub invariant-loop-i : goal.invariant-loop-i
invariant-loop-i l = l.plan ≡ filled (λ k. 8 * k + 7) (joined_word (tables l.lengths l.places l.body) l.sources l.m) l.i l.initial.plan
