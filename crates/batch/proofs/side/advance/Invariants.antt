use mathlib.Core.Path.{◌≡◌}
use mathlib.Core.List.{List}
use Prim.Native.Nat.{ℕ, ◌+◌, ◌-◌, ◌≤◌}
use Rattle.number.specs.Number.{entry}
use Rattle.walk.specs.Log.{Out}
use Rattle.batch.specs.Stretch.{sum_of, stretch}
use Rattle.batch.proofs.side.advance.Given as goal

abbrev pub invariant-loop-r : goal.invariant-loop-r
invariant-loop-r l = (l.k ≤ sum_of (λ q. entry l.w l.body l.sizes (l.slot + q)) l.r) × ((walk : ℕ → ℕ → List ℕ → Out) (c : List ℕ) → stretch walk (λ q. entry l.w l.body l.offsets (l.slot + q)) (λ q. entry l.w l.body l.sizes (l.slot + q)) (l.n - l.from) l.from l.a l.m c ≡ stretch walk (λ q. entry l.w l.body l.offsets (l.slot + q)) (λ q. entry l.w l.body l.sizes (l.slot + q)) (l.n - l.r) l.r l.b l.k c)
