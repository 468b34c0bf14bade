-- `transform::copy_nested` meets its contract. Assumes nothing.
use mathlib.Core.Path.{◌≡◌, sym, ap, subst, ◌∙◌}
use mathlib.Core.Bool.{true}
use lib.ListN.{length}
use Rattle.refinement.specs.orders.Sound.{walkable}
use Rattle.transform.proofs.copy_nested.Goals as goal

pub copy_rows-requires : goal.copy_rows-requires
copy_rows-requires c =
    let p = c.requires in
    let q = c.copy_stretches-g.ensures.counters_value c.if-g.false in
    (ap length q.0 ∙ p.0, p.1, p.2, subst (λ y. walkable c.args.plan.now (length y) ≡ true) (sym q.1) p.3)

pub returns : goal.returns
returns c =
    let q = c.copy_stretches-g.ensures.counters_value c.if-g.false in
    λ sources. rw (q.0, q.1) at (c.copy_rows.ensures sources)
