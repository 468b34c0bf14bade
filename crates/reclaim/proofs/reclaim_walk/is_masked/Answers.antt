-- `reclaim_walk::is_masked` meets its contract. Assumes nothing.
use mathlib.Core.Path.{sym, ap, ◌∙◌}
use mathlib.Core.Bool.{not}
use borrow.Author.Tests.{eq-eqb, ne_eqb}
use Rattle.reclaim.proofs.reclaim_walk.is_masked.Goals as goal

pub returns-then-place-eq0 : goal.returns-then-place-eq0
returns-then-place-eq0 c =
    sym (ap not (eq-eqb _ 0 (sym c.place.ensures ∙ c.if-place-eq0.true)))

pub returns : goal.returns
returns c =
    sym (ap not (ne_eqb _ 0 (λ z. c.if-place-eq0.false (c.place.ensures ∙ z))))
