-- `widths::make` meets its contract. Assumes nothing.
use mathlib.Core.Path.{◌∙◌}
use Rattle.source_rules.specs.kinds.Rows.{tables_of}
use Rattle.widths.specs.Made.{walk_by}
use Rattle.widths.proofs.Called.{recount, replan}
use Rattle.widths.proofs.make.Goals as goal

pub plan_by-requires : goal.plan_by-requires
plan_by-requires c = (c.requires.plan_len.2, c.requires.plan_len.0)

pub convert_walk-g-requires : goal.convert_walk-g-requires
convert_walk-g-requires c = record { by_index = c.requires.by_index; n_value = c.requires.n_value }

pub returns : goal.returns
returns c =
    let z = c.args in
    record { plan_value = c.plan_by.ensures; fact = λ buffers. recount (c.store.ensures ∙ c.copied-made.ensures) (replan (walk_by z.formats.now z.schema.now (tables_of z.lengths.now z.places.now buffers z.body.now) z.first z.n z.target) c.plan_by.ensures (c.convert_walk-g.ensures buffers)) }
