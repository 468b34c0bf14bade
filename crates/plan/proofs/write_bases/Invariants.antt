use mathlib.Core.Path.{◌≡◌}
use Prim.Native.Nat.{◌+◌, ◌/◌, ◌%◌}
use Rattle.array_data.specs.lent_tables.Lent.{tables}
use Rattle.plan.specs.Plan.{filled, base_word}
use Rattle.plan.proofs.write_bases.Given as goal

abbrev pub invariant-loop-q : goal.invariant-loop-q
invariant-loop-q l = l.plan ≡ filled (λ k. 352 + k) (λ words k. base_word (tables l.lengths l.places l.body) l.sources l.m words (k / 32) (k % 32)) l.q l.initial.plan
