-- `recode::limits::below` meets its contract: the first i entries are below the limit. Assumes nothing.
use Rattle.std.proofs.Common.{refl, ◌∙◌, arith}
use Rattle.recode.proofs.Laws.{below_none, below_more, below_not}
use Rattle.recode.proofs.limits.below.Goals as goal

pub loop-i-init : goal.loop-i-init
loop-i-init g c = below_none _ _ _ _

pub returns-then-limit-to_u64 : goal.returns-then-limit-to_u64
returns-then-limit-to_u64 g c =
    let z = c.args in
    below_not g.N.Unsigned.SIZE z.body.now z.from z.limit z.n c.loop-i.i _ (omega arith) (c.to_u64.ensures ∙ c.read.ensures ∙ rw c.SIZE.ensures refl) (omega arith)

pub loop-i-preserved : goal.loop-i-preserved
loop-i-preserved g c =
    let z = c.args in
    below_more g.N.Unsigned.SIZE z.body.now z.from z.limit c.loop-i.i _ (c.to_u64.ensures ∙ c.read.ensures ∙ rw c.SIZE.ensures refl) (omega arith) c.loop-i.invariant
