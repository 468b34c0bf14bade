-- `nodes::ends` meets its contract. Assumes nothing.
use Prim.Native.Nat.{ℕ, ◌+◌, ◌*◌}
use mathlib.Core.Path.{◌≡◌, ap, sym, ◌∙◌}
use mathlib.Core.Bool.{true, false}
use lib.Dec.{leb}
use Rattle.run_ends.specs.Lookup.{last_end}
use Rattle.row_rules.specs.Rules.{ends_rows}
use Rattle.source_rules.specs.nodes.Rows.{ends_reach}
use Rattle.source_rules.proofs.nodes.Laws.{fit}
use Rattle.source_rules.proofs.nodes.ends.Goals as goal

pub returns-then-not-rows_fit : goal.returns-then-not-rows_fit
unfolding ends_reach
returns-then-not-rows_fit g c = rw (fit (c.args.off + c.args.len) c.args.size c.SIZE.ensures c.rows_fit.ensures c.if-not-rows_fit.true)

pub returns-then-not-run_ends : goal.returns-then-not-run_ends
unfolding ends_reach
returns-then-not-run_ends g c =
    let a = c.args in
    let w = g.N.Unsigned.SIZE in
    let e : ends_rows w a.body.now (a.start + w * a.off) a.len ≡ false = rw c.SIZE-2.ensures at (sym c.run_ends.ensures ∙ c.if-not-run_ends.true) in
    rw (fit (c.args.off + c.args.len) c.args.size c.SIZE.ensures c.rows_fit.ensures c.if-not-rows_fit.false, e)

pub returns : goal.returns
unfolding ends_reach
returns g c =
    let a = c.args in
    let w = g.N.Unsigned.SIZE in
    let e : ends_rows w a.body.now (a.start + w * a.off) a.len ≡ true = rw c.SIZE-2.ensures at (sym c.run_ends.ensures ∙ c.if-not-run_ends.false) in
    let v : c.last_run_end-last.result.0 ≡ last_end w a.body.now (a.start + w * a.off) a.len = rw c.SIZE-2.ensures at c.last_run_end-last.ensures in
    rw (fit (c.args.off + c.args.len) c.args.size c.SIZE.ensures c.rows_fit.ensures c.if-not-rows_fit.false, e) (ap (λ (k : ℕ). leb a.reach k) v)
