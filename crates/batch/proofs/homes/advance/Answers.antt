-- `batch::homes::advance` meets its contract. Assumes nothing.
use mathlib.Core.Path.{◌≡◌, refl, sym, ◌∙◌}
use Prim.Native.Nat.{ℕ, suc, ◌+◌, ◌-◌, ◌≤◌}
use native.Mathlib.Omega.{arith}
use lib.ListN.{length}
use lib.Dec.{eqb}
use Rattle.number.specs.Number.{entry}
use Rattle.batch.specs.batch_walk.Side.{next_size}
use Rattle.batch.specs.batch_walk.Fall.{home_by, takes_of, takes_from}
use Rattle.batch.proofs.batch_walk.Sides.{next_size_most}
use Rattle.batch.proofs.batch_walk.Sums.{entry_in_lem}
use Rattle.batch.proofs.batch_walk.Loops.{advance_step}
use Rattle.batch.proofs.batch_walk.Falls.{size_most}
use Rattle.batch.proofs.homes.advance.Goals as goal

pub loop-r-preserved : goal.loop-r-preserved
loop-r-preserved c =
    let a = c.args in
    let l = c.loop-r in
    let h : ℕ → ℕ = λ q. home_by a.homes.now a.body.now (a.ids + (a.slot + q)) in
    let p : ℕ → ℕ = λ q. entry 4 a.body.now a.positions (a.slot + q) in
    let s : c.size_at-size.result ≤ 1 = size_most (eqb (home_by c.args.homes.now c.args.body.now (c.args.ids + (c.args.slot + c.loop-r.r))) c.args.k) c.size_at-size.ensures in
    let y : a.n - l.r ≡ suc (a.n - (l.r + 1)) = omega arith in
    let t : next_size c.side_of-side.result l.p c.size_at-size.result ≤ l.p + c.size_at-size.result = next_size_most c.side_of-side.result l.p c.size_at-size.result in (
      omega (arith, t, c.next_size-p.ensures),
      λ walk c2. l.invariant.1 walk c2 ∙ advance_step walk (takes_from h p a.k) (takes_of h a.k) c2 (a.n - (l.r + 1)) l.r l.b l.p y c.start_at-start.ensures c.size_at-size.ensures c.side_of-side.ensures c.if-side-eq3.false c.next_start-b.ensures c.next_size-p.ensures refl,
    )

pub returns : goal.returns
returns c = let e : c.loop-r.r ≡ c.args.n = omega arith in record { by_index = rw e at c.loop-r.invariant.1; next_le_n = (omega arith, omega arith); next_value = λ z. absurd (z (omega arith)) }
