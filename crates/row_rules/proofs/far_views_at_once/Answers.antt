-- `row_rules::far_views_at_once` meets its contract: what is gathered of the rows before i. Assumes nothing.
use Rattle.std.proofs.Common.{◌≡◌, ◌<◌, ◌^◌, ◌∙◌, ap₂, arith}
use Rattle.number.specs.Number.{entry}
use Rattle.row_rules.specs.Rules.{view_row}
use Rattle.row_rules.proofs.Sizes.{two_halves, half_some, entry_fits}
use Rattle.row_rules.proofs.Gather.{rows_none, rows_more, rows_all, capped_row}
use Rattle.row_rules.proofs.far_views_at_once.Goals as goal

pub loop-i-init : goal.loop-i-init
loop-i-init g c = rows_none g.met.N.Unsigned.sized _ _ c.truncate-bits.ensures

pub far_view_bits-requires : goal.far_view_bits-requires
far_view_bits-requires g c =
    let a = c.args in
    let s = g.met.N.Unsigned.sized in
    let w = g.N.Unsigned.SIZE in
    let o : g.N.Unsigned.amount c.read-o.result ≡ entry w a.body.now a.at c.loop-i.i = rw c.SIZE.ensures at c.read-o.ensures in
    let z : g.N.Unsigned.amount c.read-z.result ≡ entry w a.body.now a.too c.loop-i.i = rw c.SIZE-in-loop-i.ensures at c.read-z.ensures in
    let f : entry w a.body.now a.at c.loop-i.i < 256 ^ w = entry_fits w a.body.now a.at (λ j. (c.type_inv.body j).fits) c.loop-i.i in
    let h : entry w a.body.now a.too c.loop-i.i < 256 ^ w = entry_fits w a.body.now a.too (λ j. (c.type_inv.body j).fits) c.loop-i.i in
    let e = c.capped-most.ensures in
    (omega arith, omega arith, omega (arith, e, two_halves s, half_some s, c.requires.2), omega (arith, e, two_halves s, half_some s))

pub loop-i-preserved : goal.loop-i-preserved
loop-i-preserved g c =
    let a = c.args in
    let s = g.met.N.Unsigned.sized in
    let w = g.N.Unsigned.SIZE in
    let o = entry w a.body.now a.at c.loop-i.i in
    let z = entry w a.body.now a.too c.loop-i.i in
    rows_more s (λ k. view_row w a.child (entry w a.body.now a.at k) (entry w a.body.now a.too k)) a.n (g.N.Unsigned.amount c.far_view_bits.result) c.loop-i.invariant (omega arith) c.far_view_bits.ensures.fits
    (c.far_view_bits.ensures.gathered
    ∙ ap₂ (view_row w (g.N.Unsigned.amount c.capped-most.result)) (rw c.SIZE.ensures at c.read-o.ensures) (rw c.SIZE-in-loop-i.ensures at c.read-z.ensures)
    ∙ capped_row s a.child (g.N.Unsigned.amount c.capped-most.result) o z c.requires.2 c.capped-most.ensures)
    c.both-bits.ensures

pub returns : goal.returns
returns g c =
    let e : c.loop-i.i ≡ c.args.n = omega arith in
    rw (c.to_u64.ensures, c.half.ensures) (rows_all g.met.N.Unsigned.sized _ c.args.n (rw e at c.loop-i.invariant))
