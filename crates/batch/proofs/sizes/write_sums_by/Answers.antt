-- `batch_walk::sizes::write_sums_by` meets its contract. Assumes nothing.
use mathlib.Core.Path.{◌≡◌, sym, ap, ◌∙◌}
use mathlib.Core.List.{List}
use Prim.Native.Nat.{ℕ, ◌+◌, ◌*◌}
use native.Mathlib.Omega.{arith}
use lib.ListN.{length}
use Rattle.number.specs.Number.{entry, encode, splice}
use Rattle.utils.proofs.Pieces.{pieces_none, numbers_step}
use Rattle.batch.specs.Stretch.{sum_of}
use Rattle.batch.proofs.batch_walk.Sums.{entry_in_lem, step_in, sum_none, sum_more, sum_below}
use Rattle.batch.proofs.sizes.write_sums_by.Goals as goal

pub loop-r-preserved : goal.loop-r-preserved
loop-r-preserved c =
    let a = c.args in
    let l = c.loop-r in
    let f : ℕ → ℕ = λ q. entry a.w a.body.now a.at (a.slot + q) in
    let g : sum_of f (l.r + 1) ≡ sum_of f l.r + f l.r = sum_more f l.r in (
      omega (arith, g, c.entry_at-sum.ensures, l.invariant.0),
      c.write_entry.ensures
          ∙ ap (λ (v : ℕ). splice (a.to + a.w * l.r) (encode a.w v) l.room) l.invariant.0
          ∙ ap (λ (z : List ℕ). splice (a.to + a.w * l.r) (encode a.w (a.rows + sum_of f l.r)) z) l.invariant.1
          ∙ numbers_step a.w (λ p. a.rows + sum_of f p) a.room.now a.to l.r (step_in a.to a.w a.n l.r (length a.room.now) c.requires.n_in_bounds.0 (omega arith)),
    )

pub overflow_add-sum : goal.overflow_add-sum
overflow_add-sum c =
    let a = c.args in
    let f : ℕ → ℕ = λ q. entry a.w a.body.now a.at (a.slot + q) in
    let g : sum_of f (c.loop-r.r + 1) ≡ sum_of f c.loop-r.r + f c.loop-r.r = sum_more f c.loop-r.r in
    omega (arith, g, sum_below f (c.loop-r.r + 1) a.n (omega arith), c.entry_at-sum.ensures, c.loop-r.invariant.0, c.requires.n_in_bounds.3)

pub loop-r-init : goal.loop-r-init
loop-r-init c = (sum_none _ _, sym (pieces_none _ _ _))
