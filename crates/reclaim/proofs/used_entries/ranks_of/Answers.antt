-- `used_entries::ranks_of` meets its contract. The invariant: the first j + 1 places are ranks. Assumes nothing.
use mathlib.Core.Path.{refl}
use Prim.Native.Nat.{◌+◌, ◌-◌}
use native.Mathlib.Omega.{arith}
use lib.ListN.{replicate, length-set}
use Rattle.reclaim.specs.used_entries.Keys.{keys, used}
use Rattle.reclaim.proofs.used_entries.Laws.{rank_le, one_most, ranks_begin, ranks_step}
use Rattle.reclaim.proofs.used_entries.ranks_of.Goals as goal

pub marks_of-marks-requires : goal.marks_of-marks-requires
marks_of-marks-requires c = (c.requires.0, omega arith)

pub loop-j-init : goal.loop-j-init
loop-j-init c =
    let a = c.args in
    let x = keys a.body.now a.w a.at a.masked a.mask a.off a.n in
    (refl, ranks_begin x a.base a.start (replicate 513 0) (omega arith) c.requires.3)

pub overflow_add-ranks : goal.overflow_add-ranks
overflow_add-ranks c =
    let a = c.args in
    let x = keys a.body.now a.w a.at a.masked a.mask a.off a.n in
    let l = c.loop-j in
    omega (arith, l.invariant.1 l.j (omega arith), rank_le x (a.base + l.j), c.marks_of-marks.ensures l.j (omega arith), one_most (used x (a.base + l.j)))

pub loop-j-preserved : goal.loop-j-preserved
loop-j-preserved c =
    let a = c.args in
    let x = keys a.body.now a.w a.at a.masked a.mask a.off a.n in
    let l = c.loop-j in
    (rw length-set l.invariant.0, ranks_step x a.base l.j _ _ l.ranks (omega arith) (c.marks_of-marks.ensures l.j (omega arith)) refl l.invariant.1)

pub returns : goal.returns
returns c = λ j h. c.loop-j.invariant.1 j (omega arith)
