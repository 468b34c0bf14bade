-- `into_builder::buffer_total` meets its contract. Assumes nothing.
use mathlib.Core.Path.{sym, ap, ◌∙◌}
use Rattle.plan.specs.parts.Parts.{nodes_of}
use Rattle.into_builder.specs.buffers.Names.{lent, count_before}
use Rattle.into_builder.proofs.buffers.Names.{before_same}
use Rattle.into_builder.proofs.buffer_total.Goals as goal

pub returns : goal.returns
returns c =
    let z = c.args in
    λ parts lengths body buffers counters room base.
    c.count_before.ensures.value
    ∙ ap (count_before z.plan.now z.sources.now z.places.now) c.node_count.ensures.value
    ∙ sym (before_same (lent z.plan.now parts z.sources.now lengths z.places.now body) buffers counters room base (nodes_of z.plan.now))
