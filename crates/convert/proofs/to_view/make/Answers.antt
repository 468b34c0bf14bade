-- `convert::to_view::make` meets its contract. Assumes nothing.
use mathlib.Core.Path.{◌∙◌}
use Rattle.convert.proofs.Called.{recount}
use Rattle.convert.proofs.to_view.make.Goals as goal

pub view_walk-g-requires : goal.view_walk-g-requires
view_walk-g-requires c = record { first_bound = c.requires.first_bound; plan_value = c.requires.draft_value }

pub returns : goal.returns
returns c = (c.keep_result.ensures.plan_after, recount (c.keep_result.ensures.counters_after ∙ c.copied-made.ensures) c.view_walk-g.ensures)
