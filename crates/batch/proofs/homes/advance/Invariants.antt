use mathlib.Core.Path.{◌≡◌}
use mathlib.Core.List.{List}
use Prim.Native.Nat.{ℕ, ◌+◌, ◌-◌, ◌≤◌}
use Rattle.number.specs.Number.{entry}
use Rattle.walk.specs.Log.{Out}
use Rattle.batch.specs.Stretch.{stretch}
use Rattle.batch.specs.batch_walk.Fall.{home_by, takes_of, takes_from}
use Rattle.batch.proofs.homes.advance.Given as goal

abbrev pub invariant-loop-r : goal.invariant-loop-r
invariant-loop-r l = (l.p ≤ l.r) × ((walk : ℕ → ℕ → List ℕ → Out) (c : List ℕ) → stretch walk (takes_from (λ q. home_by l.homes l.body (l.ids + (l.slot + q))) (λ q. entry 4 l.body l.positions (l.slot + q)) l.k) (takes_of (λ q. home_by l.homes l.body (l.ids + (l.slot + q))) l.k) (l.n - l.from) l.from l.a l.m c ≡ stretch walk (takes_from (λ q. home_by l.homes l.body (l.ids + (l.slot + q))) (λ q. entry 4 l.body l.positions (l.slot + q)) l.k) (takes_of (λ q. home_by l.homes l.body (l.ids + (l.slot + q))) l.k) (l.n - l.r) l.r l.b l.p c)
