use mathlib.Core.Path.{◌≡◌}
use Prim.Native.Nat.{◌+◌, ◌*◌}
use Rattle.array_data.specs.lent_tables.Lent.{tables}
use Rattle.plan.specs.Plan.{filled, keep_word}
use Rattle.plan.proofs.write_keeps.Given as goal

abbrev pub invariant-loop-i : goal.invariant-loop-i
invariant-loop-i l = l.plan ≡ filled (λ k. 8 * k + 5) (keep_word (tables l.lengths l.places l.body) l.sources l.m l.keep) l.i l.initial.plan
