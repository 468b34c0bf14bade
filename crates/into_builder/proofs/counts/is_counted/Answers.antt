-- `finished_counts::is_counted` meets its contract. Assumes nothing.
use mathlib.Core.Path.{ap₂, ◌∙◌}
use Prim.Native.Nat.{◌+◌}
use lib.Dec.{ltb}
use Rattle.walk.specs.State.{far}
use Rattle.into_builder.proofs.counts.Nulls.{grown_far}
use Rattle.into_builder.proofs.counts.is_counted.Goals as goal

pub returns : goal.returns
returns c = grown_far c.offset_of-off.result c.length_of-len.result c.grow.ensures ∙ ap₂ (λ a b. ltb (a + b) far) c.offset_of-off.ensures c.length_of-len.ensures
