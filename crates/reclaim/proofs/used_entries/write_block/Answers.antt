-- `used_entries::write_block` meets its contract. The invariant: the first r rows have the keys of this block too. Assumes nothing.
use mathlib.Core.Path.{◌≡◌, refl, ap, ◌∙◌}
use Prim.Native.Nat.{◌+◌, ◌-◌}
use native.Mathlib.Nat.{mul-le-mul_left}
use native.Mathlib.Numerals.{add-one}
use native.Mathlib.Omega.{arith}
use lib.ListN.{get_or}
use Rattle.number.specs.Number.{splice}
use Rattle.columnar.specs.Row.{seg}
use Rattle.columnar.specs.Entries.{encodes}
use Rattle.reclaim.specs.used_entries.Keys.{keys}
use Rattle.reclaim.proofs.used_entries.Rewrites.{mixed_key, mixed_none, mixed_all, block_step}
use Rattle.reclaim.proofs.used_entries.write_block.Goals as goal

pub loop-r-init : goal.loop-r-init
loop-r-init c =
    let a = c.args in
    let x = keys a.body.now a.w a.at a.masked a.mask a.off a.n in
    λ old l e. e ∙ ap (λ z. splice a.to (encodes a.w z) old) (mixed_none x a.base a.count (omega arith) a.n)

pub block_slot-s-requires : goal.block_slot-s-requires
block_slot-s-requires c = (c.requires.within.0, omega arith, omega arith)

pub put_rank-requires : goal.put_rank-requires
put_rank-requires c =
    let p = c.requires.within in
    let a = c.args in
    let l = c.loop-r in
    record { r_in_bounds = (omega (arith, mul-le-mul_left {m = l.r + 1} {n = a.n} a.w (omega arith)), omega arith); key_width = p.0.width }

pub loop-r-preserved : goal.loop-r-preserved
loop-r-preserved c =
    let a = c.args in
    let p = c.requires in
    let x = keys a.body.now a.w a.at a.masked a.mask a.off a.n in
    let l = c.loop-r in
    let s = c.block_slot-s in
    λ old k e.
    rw add-one (block_step x a.base a.count (omega arith) a.n l.r s.result a.to (get_or a.ranks.now s.result 0) l.room _ old (omega arith) (omega arith) s.ensures.0 (λ q. p.by_index s.result q) (l.invariant old k e) c.put_rank.ensures)

pub returns : goal.returns
returns c =
    let a = c.args in
    let x = keys a.body.now a.w a.at a.masked a.mask a.off a.n in
    let l = c.loop-r in
    let z : l.r ≡ a.n = omega arith in
    λ old k e. l.invariant old k e ∙ ap (λ r. splice a.to (encodes a.w (seg (mixed_key x a.base a.count r) 0 a.n)) old) z ∙ ap (λ v. splice a.to (encodes a.w v) old) (mixed_all x a.base a.count (omega arith) a.n)
