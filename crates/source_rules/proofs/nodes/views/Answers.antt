-- `nodes::views` meets its contract. Assumes nothing.
use Prim.Native.Nat.{◌+◌, ◌*◌}
use mathlib.Core.Path.{◌≡◌}
use Rattle.row_rules.specs.Rules.{list_view_rows}
use Rattle.source_rules.specs.nodes.Rows.{views_rows}
use Rattle.source_rules.proofs.nodes.Laws.{fit}
use Rattle.source_rules.proofs.nodes.views.Goals as goal

pub returns-then-not-rows_fit : goal.returns-then-not-rows_fit
unfolding views_rows
returns-then-not-rows_fit g c = rw (fit (c.args.off + c.args.len) c.args.size c.SIZE.ensures c.rows_fit.ensures c.if-not-rows_fit.true)

pub returns-then-not-rows_fit-2 : goal.returns-then-not-rows_fit-2
unfolding views_rows
returns-then-not-rows_fit-2 g c = rw (fit (c.args.off + c.args.len) c.args.size c.SIZE.ensures c.rows_fit.ensures c.if-not-rows_fit.false, fit (c.args.off + c.args.len) c.args.room c.SIZE-2.ensures c.rows_fit-2.ensures c.if-not-rows_fit-2.true)

pub returns : goal.returns
unfolding views_rows
returns g c =
    let a = c.args in
    let w = g.N.Unsigned.SIZE in
    let v : c.list_views.result ≡ list_view_rows w a.body.now (a.start + w * a.off) (a.begin + w * a.off) a.child a.len = rw (c.SIZE-3.ensures, c.SIZE-4.ensures) at c.list_views.ensures in
    rw (fit (c.args.off + c.args.len) c.args.size c.SIZE.ensures c.rows_fit.ensures c.if-not-rows_fit.false, fit (c.args.off + c.args.len) c.args.room c.SIZE-2.ensures c.rows_fit-2.ensures c.if-not-rows_fit-2.false) v
