use Rattle.number.specs.Number.{entry}
use Rattle.row_rules.specs.Rules.{view_row}
use Rattle.row_rules.proofs.Gather.{Rows}
use Rattle.row_rules.proofs.far_views_at_once.Given as goal

abbrev pub invariant-loop-i : goal.invariant-loop-i
invariant-loop-i g l =
    let w = g.N.Unsigned.SIZE in
    Rows g.met.N.Unsigned.sized (λ k. view_row w l.child (entry w l.body l.at k) (entry w l.body l.too k)) l.n l.i (g.N.Unsigned.amount l.bits)
