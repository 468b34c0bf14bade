-- `transform::list_rows::offsets_ground` meets its contract. Assumes nothing.
use mathlib.Core.Path.{refl, sym, ◌∙◌}
use Rattle.plan.proofs.parts.Laws.{holds_by}
use Rattle.plan.proofs.grounds.Laws.{part_some}
use Rattle.transform.proofs.null_ways.Laws.{lists_known, has_offsets_lem}
use Rattle.transform.proofs.list_rows.offsets_ground.Goals as goal

pub returns : goal.returns
returns c =
    let a = c.args in
    λ counters q. part_some a.plan.now counters a.parts.now a.m 0 1 (has_offsets_lem a.plan.now (lists_known a.plan.now c.requires)) c.number_of-p.ensures.value (c.first_fits-holds.ensures ∙ holds_by a.plan.now counters a.parts.now 0 1 c.code_of.ensures (sym q) refl c.number_of-p.ensures.value c.at_u64-size.ensures) c.part_ground.ensures
