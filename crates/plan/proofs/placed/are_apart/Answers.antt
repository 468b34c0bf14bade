-- `parts::are_apart` meets its contract. Assumes nothing.
use mathlib.Core.Path.{ap₂, ◌∙◌}
use mathlib.Core.Bool.{◌||◌}
use Rattle.plan.proofs.parts.Laws.{apart_empty, apart_full}
use Rattle.plan.proofs.placed.are_apart.Goals as goal

pub returns-then-size-other_size : goal.returns-then-size-other_size
returns-then-size-other_size c = apart_empty c.args.parts.now c.args.p c.args.q c.at_u64-size.ensures c.at_u64-other_size.ensures c.if-size-other_size.true

pub returns : goal.returns
returns c =
    let a = c.args in
    ap₂ ◌||◌ c.fits-before.ensures c.fits-behind.ensures
    ∙ apart_full a.parts.now a.p a.q c.at_u64-size.ensures c.at_u64-other_size.ensures c.if-size-other_size.false c.at_u64-start.ensures c.at_u64-other.ensures
