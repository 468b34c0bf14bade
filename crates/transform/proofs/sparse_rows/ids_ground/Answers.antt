-- `transform::sparse_rows::ids_ground` meets its contract. Assumes nothing.
use mathlib.Core.Path.{refl, sym, ◌∙◌}
use Rattle.walk.specs.State.{bytes}
use Rattle.plan.proofs.parts.Laws.{holds_by}
use Rattle.plan.proofs.grounds.Laws.{part_some}
use Rattle.transform.proofs.sparse_rows.Laws.{has_ids, ids_need, ids_parts}
use Rattle.transform.proofs.sparse_rows.ids_ground.Goals as goal

pub returns : goal.returns
returns c =
    let a = c.args in
    let s = c.requires in
    λ counters q. ids_parts a.plan.now counters a.parts.now a.m s (part_some a.plan.now counters a.parts.now a.m 0 1 (has_ids a.plan.now s) c.number_of-p.ensures.value (c.rows_fit.ensures ∙ ids_need a.plan.now a.r (bytes counters 0) c.at_u64-size.result s ∙ holds_by a.plan.now counters a.parts.now 0 1 refl (sym q) refl c.number_of-p.ensures.value c.at_u64-size.ensures) c.part_ground.ensures)
