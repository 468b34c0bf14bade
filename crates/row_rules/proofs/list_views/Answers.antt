-- `row_rules::list_views` meets its contract. Assumes nothing.
use Rattle.std.proofs.Common.{◌≡◌, ◌∙◌, ap, arith}
use Rattle.std.proofs.Math.Nat.{mod-eq_of_lt}
use Rattle.row_rules.specs.Rules.{list_view_rows}
use Rattle.row_rules.proofs.Sizes.{two_halves}
use Rattle.row_rules.proofs.list_views.Goals as goal

pub returns-then-child-half : goal.returns-then-child-half
returns-then-child-half g c =
    let a = c.args in
    let e : g.N.Unsigned.amount c.truncate.result ≡ a.child = c.truncate.ensures ∙ mod-eq_of_lt (omega (arith, two_halves g.met.N.Unsigned.sized)) in
    c.views_at_once.ensures ∙ ap (λ child. list_view_rows g.N.Unsigned.SIZE a.body.now a.at a.too child a.n) e
