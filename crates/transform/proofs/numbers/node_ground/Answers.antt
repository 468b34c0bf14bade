-- `transform::numbers::node_ground` meets its contract. Assumes nothing.
use native.Mathlib.Omega.{arith}
use Rattle.walk.specs.State.{code_of}
use Rattle.transform.proofs.numbers.Laws.{fixed_low, two_parts, worse_lt, worse_ge}
use Rattle.transform.proofs.numbers.node_ground.Goals as goal

pub bits_ground-bits-requires : goal.bits_ground-bits-requires
bits_ground-bits-requires c =
    let a = c.args in
    (c.requires.0, omega (arith, (fixed_low (code_of a.plan.now a.i) c.requires.1).1), c.requires.3)

pub returns-then-bits-entries : goal.returns-then-bits-entries
returns-then-bits-entries c =
    let a = c.args in
    λ counters q. two_parts a.plan.now counters a.parts.now a.m a.i c.requires.1 (c.bits_ground-bits.ensures counters q) (c.entries_ground-entries.ensures counters q) (worse_lt c.bits_ground-bits.result c.entries_ground-entries.result c.if-bits-entries.true)

pub returns : goal.returns
returns c =
    let a = c.args in
    λ counters q. two_parts a.plan.now counters a.parts.now a.m a.i c.requires.1 (c.bits_ground-bits.ensures counters q) (c.entries_ground-entries.ensures counters q) (worse_ge c.bits_ground-bits.result c.entries_ground-entries.result c.if-bits-entries.false)
