-- `frames::pass_over` meets its contract. Assumes nothing.
use mathlib.Core.Path.{sym, ◌∙◌}
use mathlib.Core.Bool.{false}
use Prim.Native.Nat.{◌-◌}
use native.Mathlib.Omega.{arith}
use borrow.Author.Count.{below_more}
use Rattle.frames.specs.Frames.{counts}
use Rattle.frames.proofs.Slots.{fewer}
use Rattle.frames.proofs.pass_over.Goals as goal

pub loop-k-init : goal.loop-k-init
loop-k-init c = λ j l. absurd (omega arith)

pub overflow_add-a : goal.overflow_add-a
overflow_add-a c = omega (arith, c.requires.holds.numbers)

pub overflow_add-b : goal.overflow_add-b
overflow_add-b c = omega (arith, c.requires.holds_2.numbers)

pub counts-requires : goal.counts-requires
counts-requires c = record { holds = fewer _ c.requires.holds (omega arith); holds_2 = fewer _ c.requires.holds_2 (omega arith) }

pub returns-then-counts : goal.returns-then-counts
returns-then-counts c = record { some_left = omega arith; none_counts = c.loop-k.invariant; next_counts = λ l. sym c.counts.ensures ∙ c.if-counts.true }

pub loop-k-preserved : goal.loop-k-preserved
loop-k-preserved c = (below_more _ _ c.loop-k.invariant (sym c.counts.ensures ∙ c.if-counts.false))

pub returns : goal.returns
returns c = record { some_left = omega arith; none_counts = λ j l. c.loop-k.invariant j (omega arith); next_counts = λ l. absurd (omega arith) }
