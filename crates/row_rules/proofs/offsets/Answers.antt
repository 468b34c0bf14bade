-- `row_rules::offsets` meets its contract: what is gathered of the offsets before i. Assumes nothing.
use Rattle.std.proofs.Common.{◌≡◌, arith}
use Rattle.number.specs.Number.{entry}
use Rattle.row_rules.proofs.Sizes.{entry_fits}
use Rattle.row_rules.proofs.Gather.{offsets_none, offsets_more, offsets_all}
use Rattle.row_rules.proofs.offsets.Goals as goal

pub loop-i-init : goal.loop-i-init
loop-i-init g c =
    let a = c.args in
    let w = g.N.Unsigned.SIZE in
    offsets_none g.met.N.Unsigned.sized (entry w a.body.now a.at) a.n (entry_fits w a.body.now a.at (λ j. (c.type_inv.body j).fits) a.n) (rw c.SIZE.ensures at c.read-all.ensures)

pub loop-i-preserved : goal.loop-i-preserved
loop-i-preserved g c =
    let a = c.args in
    let w = g.N.Unsigned.SIZE in
    offsets_more g.met.N.Unsigned.sized (entry w a.body.now a.at) a.n c.loop-i.invariant (omega arith) (entry_fits w a.body.now a.at (λ j. (c.type_inv.body j).fits)) (rw c.SIZE-in-loop-i.ensures at c.read-here.ensures) (rw c.SIZE-in-loop-i-2.ensures at c.read-next.ensures) c.wrapping_sub.ensures c.both.ensures c.both-all.ensures

pub returns : goal.returns
returns g c =
    let a = c.args in
    let e : c.loop-i.i ≡ a.n = omega arith in
    rw (c.to_u64.ensures, c.half.ensures) (offsets_all g.met.N.Unsigned.sized (entry g.N.Unsigned.SIZE a.body.now a.at) a.n (rw e at c.loop-i.invariant))
