-- `plan::fine::node_fine` meets its contract. Assumes nothing.
use mathlib.Core.Path.{refl}
use native.Mathlib.Omega.{arith}
use Rattle.array_data.proofs.lent_tables.Laws.{no, yes}
use Rattle.plan.proofs.grounds.Laws.{never, part_none, no_buffer, counted, node_three, node_none}
use Rattle.plan.proofs.fine.node_fine.Goals as goal

pub returns-then-not-is_copied : goal.returns-then-not-is_copied
returns-then-not-is_copied c =
    let a = c.args in
    λ z. node_none a.plan.now a.counters.now a.parts.now a.m a.i (no c.is_copied.ensures c.if-not-is_copied.true-raw)

pub returns-then-not-bits_fine : goal.returns-then-not-bits_fine
returns-then-not-bits_fine c = λ z. never z

pub returns-then-k-eq0 : goal.returns-then-k-eq0
returns-then-k-eq0 c =
    let a = c.args in
    let k = counted a.plan.now a.i c.code_of-code.ensures c.buffer_count-k.ensures in
    λ z. node_three a.plan.now a.counters.now a.parts.now a.m a.i (c.bits_fine.ensures (yes refl c.if-not-bits_fine.false-raw)) (part_none a.plan.now a.counters.now a.parts.now a.m a.i 1 (no_buffer a.plan.now a.i 0 (omega (arith, k, c.if-k-eq0.true)))) (part_none a.plan.now a.counters.now a.parts.now a.m a.i 2 (no_buffer a.plan.now a.i 1 (omega (arith, k, c.if-k-eq0.true)))) refl refl

pub returns-then-not-first_fine : goal.returns-then-not-first_fine
returns-then-not-first_fine c = λ z. never z

pub returns-then-k-eq1 : goal.returns-then-k-eq1
returns-then-k-eq1 c =
    let a = c.args in
    let k = counted a.plan.now a.i c.code_of-code.ensures c.buffer_count-k.ensures in
    λ z. node_three a.plan.now a.counters.now a.parts.now a.m a.i (c.bits_fine.ensures (yes refl c.if-not-bits_fine.false-raw)) (c.first_fine.ensures (yes refl c.if-not-first_fine.false-raw)) (part_none a.plan.now a.counters.now a.parts.now a.m a.i 2 (no_buffer a.plan.now a.i 1 (omega (arith, k, c.if-k-eq1.true)))) refl refl

pub returns : goal.returns
returns c =
    let a = c.args in
    λ z. node_three a.plan.now a.counters.now a.parts.now a.m a.i (c.bits_fine.ensures (yes refl c.if-not-bits_fine.false-raw)) (c.first_fine.ensures (yes refl c.if-not-first_fine.false-raw)) (c.second_fine.ensures z) refl refl
