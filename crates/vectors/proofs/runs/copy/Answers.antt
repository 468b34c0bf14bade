-- The runs of a range are among the n.
use Rattle.std.proofs.Common.{mul-add, mul-le-mul_left, arith}
use Rattle.run_ends.specs.Lookup.{bisect}
use Rattle.run_ends.proofs.Laws.{range_within}
use Rattle.vectors.proofs.runs.copy.Goals as goal

pub clip-requires-clause-m_in_bounds : goal.clip-requires-clause-m_in_bounds
clip-requires-clause-m_in_bounds g c =
    let w = g.N.Unsigned.SIZE in
    let a = c.args in
    let inside = range_within w a.ends.now 0 a.n a.start.0 a.end.0 (λ x. bisect w a.ends.now 0 a.n x) c.runs_of_range.ensures.value c.in-Some.is in
    omega (arith, mul-le-mul_left w inside.within, mul-add w c.in-Some.runs.first.0 c.in-Some.runs.count)
