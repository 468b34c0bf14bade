-- `plan::fine::first_fine` meets its contract. Assumes nothing.
use mathlib.Core.Path.{◌∙◌}
use native.Mathlib.Omega.{arith}
use Rattle.plan.proofs.parts.Laws.{holds_by}
use Rattle.plan.proofs.parts.Words.{has_buffers}
use Rattle.plan.proofs.grounds.Laws.{part_some}
use Rattle.plan.proofs.fine.first_fine.Goals as goal

pub returns : goal.returns
returns c =
    let a = c.args in
    let has = has_buffers a.plan.now a.i c.requires.1 0 (omega (arith, c.requires.3)) in
    λ z. part_some a.plan.now a.counters.now a.parts.now a.m a.i 1 has c.number_of-p.ensures.value (c.first_fits.ensures ∙ holds_by a.plan.now a.counters.now a.parts.now a.i 1 c.requires.2 c.at_u64-r.ensures c.at_u64-n.ensures c.number_of-p.ensures.value c.at_u64-size.ensures) (c.part_fine.ensures z)
