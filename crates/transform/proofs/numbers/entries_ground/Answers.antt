-- `transform::numbers::entries_ground` meets its contract. Assumes nothing.
use mathlib.Core.Path.{refl, sym, ◌∙◌}
use native.Mathlib.Omega.{arith}
use Rattle.walk.specs.State.{code_of, bytes}
use Rattle.plan.proofs.parts.Laws.{holds_by}
use Rattle.plan.proofs.grounds.Laws.{part_some}
use Rattle.transform.proofs.numbers.Laws.{has_numbers, number_wide, entries_need}
use Rattle.transform.proofs.numbers.entries_ground.Goals as goal

pub returns : goal.returns
returns c =
    let a = c.args in
    λ counters q. part_some a.plan.now counters a.parts.now a.m a.i 1 (has_numbers a.plan.now a.i c.requires.3 c.requires.1) c.number_of-p.ensures.value (c.rows_fit.ensures ∙ entries_need (code_of a.plan.now a.i) a.r (bytes counters a.i) c.at_u64-size.result c.requires.1 c.requires.2 ∙ holds_by a.plan.now counters a.parts.now a.i 1 refl (sym q) refl c.number_of-p.ensures.value c.at_u64-size.ensures) c.part_ground.ensures
