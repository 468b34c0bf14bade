-- `batch::side::advance` meets its contract. Assumes nothing.
use mathlib.Core.Path.{◌≡◌, refl, sym, ◌∙◌}
use Prim.Native.Nat.{ℕ, suc, ◌+◌, ◌-◌, ◌≤◌}
use native.Mathlib.Omega.{arith}
use lib.ListN.{length}
use Rattle.number.specs.Number.{entry}
use Rattle.batch.specs.Stretch.{sum_of}
use Rattle.batch.specs.batch_walk.Side.{next_size}
use Rattle.batch.proofs.batch_walk.Sides.{next_size_most}
use Rattle.batch.proofs.batch_walk.Sums.{entry_in_lem, sum_more, sum_below}
use Rattle.batch.proofs.batch_walk.Loops.{advance_step}
use Rattle.batch.proofs.side.advance.Goals as goal

pub loop-r-preserved : goal.loop-r-preserved
loop-r-preserved c =
    let a = c.args in
    let l = c.loop-r in
    let s : ℕ → ℕ = λ q. entry a.w a.body.now a.offsets (a.slot + q) in
    let f : ℕ → ℕ = λ q. entry a.w a.body.now a.sizes (a.slot + q) in
    let g : sum_of f (l.r + 1) ≡ sum_of f l.r + f l.r = sum_more f l.r in
    let y : a.n - l.r ≡ suc (a.n - (l.r + 1)) = omega arith in
    let t : next_size c.side_of-side.result l.k c.entry_at-size.result ≤ l.k + c.entry_at-size.result = next_size_most c.side_of-side.result l.k c.entry_at-size.result in (
      omega (arith, g, t, c.next_size-k.ensures, c.entry_at-size.ensures, l.invariant.0),
      λ walk e. l.invariant.1 walk e ∙ advance_step walk s f e (a.n - (l.r + 1)) l.r l.b l.k y c.entry_at-start.ensures c.entry_at-size.ensures c.side_of-side.ensures c.if-side-eq3.false c.next_start-b.ensures c.next_size-k.ensures refl,
    )

pub next_size-k-requires : goal.next_size-k-requires
next_size-k-requires c =
    let a = c.args in
    let l = c.loop-r in
    let f : ℕ → ℕ = λ q. entry a.w a.body.now a.sizes (a.slot + q) in
    let g : sum_of f (l.r + 1) ≡ sum_of f l.r + f l.r = sum_more f l.r in
    omega (arith, g, sum_below f (l.r + 1) a.n (omega arith), c.entry_at-size.ensures, l.invariant.0, c.requires.m_bound.1)

pub returns : goal.returns
returns c = let e : c.loop-r.r ≡ c.args.n = omega arith in record { by_index = rw e at c.loop-r.invariant.1; next_le_n = (omega arith, omega arith); next_value = λ h. absurd (h (omega arith)) }
