-- `finished_counts::part_start` meets its contract. Assumes nothing.
use mathlib.Core.Path.{ap, ◌∙◌}
use Prim.Native.Nat.{◌*◌}
use lib.ListN.{get_or}
use Rattle.into_builder.proofs.counts.part_start.Goals as goal

pub returns : goal.returns
returns c = c.at_u64.ensures ∙ ap (λ p. get_or c.args.parts.now (2 * p) 0) c.number_of.ensures.value
