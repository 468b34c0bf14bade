-- `used_entries::marks_of` meets its contract. The invariant: each place says whether one of the first r rows names its entry. Assumes nothing.
use mathlib.Core.Path.{◌≡◌, refl, ap, ◌∙◌}
use mathlib.Core.Bool.{cond}
use Prim.Native.Nat.{ℕ, ◌+◌, ◌-◌}
use native.Mathlib.Numerals.{add-one}
use native.Mathlib.Omega.{arith}
use lib.ListN.{length-set}
use Rattle.anew.specs.entries.Used.{some_below}
use Rattle.model.proofs.Bits.{get_d_replicate}
use Rattle.reclaim.specs.used_entries.Keys.{keys, names}
use Rattle.reclaim.proofs.used_entries.Laws.{mark_step, marks_used}
use Rattle.reclaim.proofs.used_entries.marks_of.Goals as goal

pub loop-r-init : goal.loop-r-init
loop-r-init c = (refl, λ j l. get_d_replicate 513 j 0 0 (omega arith))

pub block_slot-s-requires : goal.block_slot-s-requires
block_slot-s-requires c = (c.requires.0, omega arith, omega arith)

pub loop-r-preserved : goal.loop-r-preserved
loop-r-preserved c =
    let a = c.args in
    let x = keys a.body.now a.w a.at a.masked a.mask a.off a.n in
    let l = c.loop-r in
    let s = c.block_slot-s in
    (rw length-set l.invariant.0, λ j h. rw add-one (mark_step x a.base a.count l.r j s.result l.marks (omega arith) l.invariant.0 h s.ensures.0 s.ensures.1 (l.invariant.1 j h)))

pub returns : goal.returns
returns c =
    let a = c.args in
    let x = keys a.body.now a.w a.at a.masked a.mask a.off a.n in
    let l = c.loop-r in
    let e : l.r ≡ a.n = omega arith in
    λ j h. l.invariant.1 j h ∙ ap (λ (z : ℕ). cond (some_below (names x (a.base + j)) z) 1 0) e ∙ marks_used x (a.base + j)
