-- `explain::small_parts::part_holds` meets its contract. Assumes nothing.
use mathlib.Core.Path.{refl}
use Rattle.explain.proofs.small_parts.Laws.{no_part, part_size}
use Rattle.explain.proofs.small_parts.part_holds.Goals as goal

pub returns-then-not-has_part : goal.returns-then-not-has_part
returns-then-not-has_part c =
    let a = c.args in
    no_part a.plan.now a.counters.now a.parts.now a.i a.b c.has_part.ensures c.if-not-has_part.true-raw

pub returns : goal.returns
returns c =
    let a = c.args in
    part_size a.plan.now a.counters.now a.parts.now a.i a.b c.has_part.ensures c.if-not-has_part.false-raw c.code_of-code.ensures c.rows_of-rows.ensures c.bytes_of-len.ensures c.buffer_bytes.ensures c.size_of.ensures c.requires.2 refl
