-- `batch::batch_walk::copy_by_stretches` meets its contract. Assumes nothing.
use mathlib.Core.Path.{sym, ◌∙◌}
use native.Mathlib.Omega.{arith}
use Rattle.leaf_walk.specs.Join.{join}
use Rattle.batch.proofs.batch_walk.Node.{list_is, walk_is}
use Rattle.batch.proofs.batch_walk.copy_by_stretches.Goals as goal

pub returns : goal.returns
returns c =
    let a = c.args in
    λ source. rw (walk_is (join a.plan.now a.parts.now a.lengths.now a.places.now a.body.now a.first source) 0 a.a a.n a.counters.now) (c.copy_node.ensures source)
