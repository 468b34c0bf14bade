-- `convert::views::put_row_by_row` meets its contract. The invariant: where the rest is done, the whole is. Assumes nothing.
use mathlib.Core.Path.{refl}
use mathlib.Core.List.{[]}
use Prim.Native.Nat.{◌+◌, ◌-◌}
use native.Mathlib.Nat.{sub-zero}
use native.Mathlib.Omega.{arith}
use Rattle.walk.proofs.Laws.{each_none, each_more}
use Rattle.leaf_walk.specs.Join.{join}
use Rattle.convert.proofs.Viewed.{row_in, row_size}
use Rattle.convert.proofs.views.put_row_by_row.Goals as goal

pub loop-r-init : goal.loop-r-init
loop-r-init c = λ g c2 room2. simp sub-zero (λ d. d)

pub view_row-requires : goal.view_row-requires
view_row-requires c =
    let z = c.args in
    let p = c.requires in
    let l = c.loop-r in
    let x = join [] [] z.lengths.now z.places.now z.body.now z.first 0 in
    let s = row_size x z.w z.slot z.n l.r p.fact.2 (omega arith) in
    record { w_value = p.w_value; fact = (p.fact.0, omega (arith, p.fact.1), omega (arith, s), row_in x z.w z.slot z.n l.r p.fact.2 (omega arith)) }

pub loop-r-preserved : goal.loop-r-preserved
loop-r-preserved c =
    let z = c.args in
    let l = c.loop-r in
    λ g c2 room2 d. l.invariant _ _ _ (each_more _ _ (z.n - l.r) (z.n - (l.r + 1)) l.r (l.r + 1) _ _ (omega arith) refl c.view_row.ensures refl d)

pub returns : goal.returns
returns c =
    let z = c.args in
    let l = c.loop-r in
    l.invariant _ _ _ (each_none _ _ (z.n - l.r) _ _ _ (omega arith))
