-- `convert::to_list::make` meets its contract. Assumes nothing.
use mathlib.Core.Path.{◌∙◌}
use Rattle.convert.proofs.Called.{recount}
use Rattle.convert.proofs.to_list.make.Goals as goal

pub list_walk-g-requires : goal.list_walk-g-requires
list_walk-g-requires c = record { first_bound = c.requires.first_bound; plan_value = c.requires.draft_value }

pub returns : goal.returns
returns c = (c.keep_result.ensures.plan_after, λ n. recount (c.keep_result.ensures.counters_after ∙ c.copied-made.ensures) (c.list_walk-g.ensures n))
