-- `utils::over` meets its contract: every row before has a new offset that fits. Assumes nothing.
use Rattle.std.proofs.Common.{◌≡◌, ◌+◌, ◌-◌, ◌<◌, ◌≤◌, min, arith, below_more}
use Rattle.utils.specs.Offsets.{largest, moved}
use Rattle.utils.proofs.Laws.{below_cut, some_row, over_found}
use Rattle.utils.proofs.over.Goals as goal

pub returns-then-largest_offset-needed : goal.returns-then-largest_offset-needed
returns-then-largest_offset-needed g c =
    let a = c.args in
    let w = g.N.Unsigned.SIZE in
    let e : c.moved_to-needed.result ≡ min (moved w a.body.now a.from a.last (c.loop-row.row + 1)) 18446744073709551615 = cc in
    over_found w a.body.now a.from a.n a.last c.loop-row.row c.moved_to-needed.result (omega arith) c.loop-row.invariant e (omega arith)

pub loop-row-preserved : goal.loop-row-preserved
loop-row-preserved g c =
    let a = c.args in
    let w = g.N.Unsigned.SIZE in
    let e : c.moved_to-needed.result ≡ min (moved w a.body.now a.from a.last (c.loop-row.row + 1)) 18446744073709551615 = cc in
    let h : moved w a.body.now a.from a.last (c.loop-row.row + 1) ≤ largest w = omega (arith, below_cut w g.met.N.Unsigned.sized) in
    below_more _ _ c.loop-row.invariant h

pub returns : goal.returns
returns g c =
    let a = c.args in
    let w = g.N.Unsigned.SIZE in
    let some = some_row w a.body.now a.from a.n a.last c.requires.last_bound.0 c.requires.last_bound.1 in
    let k : a.n - 1 + 1 ≡ a.n = omega arith in
    let e : c.moved_to.result ≡ min (moved w a.body.now a.from a.last a.n) 18446744073709551615 = cc in
    let h : largest w < c.moved_to.result = omega (arith, below_cut w g.met.N.Unsigned.sized, c.requires.last_bound.1) in
    over_found w a.body.now a.from a.n a.last (a.n - 1) c.moved_to.result (omega arith) (λ j l. c.loop-row.invariant j (omega arith)) (rw k e) h
