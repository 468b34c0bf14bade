-- `parts::grounds::second_ground` meets its contract. Assumes nothing.
use mathlib.Core.Path.{◌∙◌}
use native.Mathlib.Omega.{arith}
use Rattle.plan.proofs.parts.Laws.{holds_by}
use Rattle.plan.proofs.parts.Words.{has_buffers}
use Rattle.plan.proofs.grounds.Laws.{part_none, part_some, no_buffer, counted}
use Rattle.plan.proofs.grounds.second_ground.Goals as goal

pub returns-then-buffer_count-lt2 : goal.returns-then-buffer_count-lt2
returns-then-buffer_count-lt2 c =
    let a = c.args in
    part_none a.plan.now a.counters.now a.parts.now a.m a.i 2 (no_buffer a.plan.now a.i 1 (omega (arith, counted a.plan.now a.i c.code_of-code.ensures c.buffer_count.ensures, c.if-buffer_count-lt2.true)))

pub returns : goal.returns
returns c =
    let a = c.args in
    let has = has_buffers a.plan.now a.i c.requires.1 1 (omega (arith, counted a.plan.now a.i c.code_of-code.ensures c.buffer_count.ensures, c.if-buffer_count-lt2.false)) in
    part_some a.plan.now a.counters.now a.parts.now a.m a.i 2 has c.number_of-p.ensures.value (c.second_fits.ensures ∙ holds_by a.plan.now a.counters.now a.parts.now a.i 2 c.code_of-code.ensures c.at_u64-r.ensures c.at_u64-n.ensures c.number_of-p.ensures.value c.at_u64-size.ensures) c.part_ground.ensures
