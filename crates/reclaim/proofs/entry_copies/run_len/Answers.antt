-- `reclaim_walk::entries::run_len` meets its contract. The invariant: what is counted, and the run from there on, is the run. Assumes nothing.
use mathlib.Core.Path.{◌≡◌, refl, ap, ◌∙◌}
use Prim.Native.Nat.{◌+◌, ◌-◌}
use native.Mathlib.Nat.{add-zero}
use native.Mathlib.Omega.{arith}
use Rattle.reclaim.specs.used_entries.Keys.{rank}
use Rattle.reclaim.specs.reclaim_walk.Walk.{keys_of}
use Rattle.reclaim.proofs.reclaim_walk.Runs.{run_none, run_ends_lem, run_goes, run_starts}
use Rattle.reclaim.proofs.entry_copies.run_len.Goals as goal

pub loop-k-init : goal.loop-k-init
loop-k-init c =
    let a = c.args in
    λ x b h. run_starts x (b + a.j) (a.count - a.j) _ _ 0 refl (add-zero (b + a.j)) (ap (λ z. a.count - z) (add-zero a.j))

pub returns-then-ranks-j : goal.returns-then-ranks-j
returns-then-ranks-j c =
    let a = c.args in
    let l = c.loop-k in (
      omega arith,
      λ x b h.
          let p : b + (a.j + l.k) ≡ b + a.j + l.k = omega arith in
          let q : b + (a.j + l.k + 1) ≡ b + a.j + l.k + 1 = omega arith in
          let e = run_ends_lem x (b + a.j + l.k) (a.count - (a.j + l.k)) _ _ (omega arith) (h (a.j + l.k) (omega arith) ∙ ap (rank (keys_of x)) p) (h (a.j + l.k + 1) (omega arith) ∙ ap (rank (keys_of x)) q) c.if-ranks-j.true in
          omega (arith, l.invariant x b h, e),
    )

pub loop-k-preserved : goal.loop-k-preserved
loop-k-preserved c =
    let a = c.args in
    let l = c.loop-k in
    λ x b h.
    let p : b + (a.j + l.k) ≡ b + a.j + l.k = omega arith in
    let q : b + (a.j + l.k + 1) ≡ b + a.j + l.k + 1 = omega arith in
    run_goes x (b + a.j + l.k) (a.count - (a.j + l.k)) _ _ l.k (l.k + 1) _ _ (omega arith) (omega arith) (omega arith) refl (h (a.j + l.k) (omega arith) ∙ ap (rank (keys_of x)) p) (h (a.j + l.k + 1) (omega arith) ∙ ap (rank (keys_of x)) q) c.if-ranks-j.false
    ∙ l.invariant x b h

pub returns : goal.returns
returns c =
    let a = c.args in
    let l = c.loop-k in
    (omega arith, λ x b h. omega (arith, l.invariant x b h, run_none x (b + a.j + l.k) (a.count - (a.j + l.k)) (omega arith)))
