-- `transform::list_rows::room_ground` meets its contract. Assumes nothing.
use mathlib.Core.Path.{ap, ◌∙◌}
use native.Mathlib.Omega.{arith}
use Rattle.schema.specs.formats.Code.{is_fixed}
use Rattle.plan.specs.parts.Parts.{entry_size}
use Rattle.transform.proofs.numbers.Laws.{worse_ge, worse_up}
use Rattle.transform.proofs.null_ways.Laws.{lists_known, lists_ground, items_copied}
use Rattle.transform.proofs.list_rows.room_ground.Goals as goal

pub node_ground-g-requires : goal.node_ground-g-requires
node_ground-g-requires c =
    let p = c.args.plan.now in
    let o = lists_known p c.requires in
    (omega arith, o.items.fixed, c.number_size-w.ensures ∙ ap entry_size c.code_of.ensures, items_copied p o)

pub returns-then-g-list : goal.returns-then-g-list
returns-then-g-list c =
    let a = c.args in
    λ counters q s. lists_ground a.plan.now counters a.parts.now a.m (lists_known a.plan.now c.requires) (c.list_ground-list.ensures counters q) (c.node_ground-g.ensures counters s) (worse_ge c.list_ground-list.result c.node_ground-g.result (omega (arith, c.if-g-list.true)))

pub returns : goal.returns
returns c =
    let a = c.args in
    λ counters q s. lists_ground a.plan.now counters a.parts.now a.m (lists_known a.plan.now c.requires) (c.list_ground-list.ensures counters q) (c.node_ground-g.ensures counters s) (worse_up c.list_ground-list.result c.node_ground-g.result c.if-g-list.false)
