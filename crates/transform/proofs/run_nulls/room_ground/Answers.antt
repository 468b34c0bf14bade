-- `transform::run_nulls::room_ground` meets its contract. Assumes nothing.
use mathlib.Core.Path.{ap, ◌∙◌}
use native.Mathlib.Omega.{arith}
use Rattle.schema.specs.formats.Code.{is_fixed}
use Rattle.plan.specs.parts.Parts.{entry_size}
use Rattle.transform.proofs.numbers.Laws.{worse_ge, worse_up}
use Rattle.transform.proofs.null_ways.Laws.{runs_known, runs_ground, ends_copied, values_copied}
use Rattle.transform.proofs.run_nulls.room_ground.Goals as goal

pub node_ground-runs-requires : goal.node_ground-runs-requires
node_ground-runs-requires c =
    let p = c.args.plan.now in
    let r = runs_known p c.requires.0 in
    (omega arith, r.ends.fixed, c.requires.1, ends_copied p r)

pub node_ground-g-requires : goal.node_ground-g-requires
node_ground-g-requires c =
    let p = c.args.plan.now in
    let r = runs_known p c.requires.0 in
    (omega arith, r.values.fixed, c.number_size-v.ensures ∙ ap entry_size c.code_of.ensures, values_copied p r)

pub returns-then-g-runs : goal.returns-then-g-runs
returns-then-g-runs c =
    let a = c.args in
    λ counters q s. runs_ground a.plan.now counters a.parts.now a.m (runs_known a.plan.now c.requires.0) (c.node_ground-runs.ensures counters q) (c.node_ground-g.ensures counters s) (worse_ge c.node_ground-runs.result c.node_ground-g.result (omega (arith, c.if-g-runs.true)))

pub returns : goal.returns
returns c =
    let a = c.args in
    λ counters q s. runs_ground a.plan.now counters a.parts.now a.m (runs_known a.plan.now c.requires.0) (c.node_ground-runs.ensures counters q) (c.node_ground-g.ensures counters s) (worse_up c.node_ground-runs.result c.node_ground-g.result c.if-g-runs.false)
