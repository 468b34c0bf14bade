-- `gather::copy_taken` meets its contract. Assumes nothing.
use mathlib.Core.Path.{◌≡◌, sym, ap, ◌∙◌}
use mathlib.Core.List.{List}
use Prim.Native.Nat.{ℕ, ◌+◌, ◌*◌}
use native.Mathlib.Nat.{mul-zero}
use native.Mathlib.Omega.{arith}
use lib.ListN.{length, take, drop}
use Rattle.number.specs.Number.{entry, splice}
use Rattle.utils.proofs.Pieces.{pieces_none}
use Rattle.batch.specs.Stretch.{sum_of}
use Rattle.batch.specs.batch_walk.Fall.{home_by, takes_of, takes_from}
use Rattle.batch.proofs.batch_walk.Gathered.{taken_room, taken_sum, taken_step}
use Rattle.batch.proofs.gather.copy_taken.Goals as goal

pub copy_row-to-requires : goal.copy_row-to-requires
copy_row-to-requires c =
    let a = c.args in
    let l = c.loop-r in
    let h : ℕ → ℕ = λ q. home_by a.homes.now a.body.now (a.ids + (a.slot + q)) in
    let p : ℕ → ℕ = λ q. entry 4 a.body.now a.positions (a.slot + q) in
    record { q_in_bounds = (omega arith, omega arith, omega arith); fact = (rw (l.invariant.0, l.auto.room) (taken_room a.w (takes_from h p a.k) (takes_of h a.k) a.body.now a.at a.n c.requires.n_in_bounds_2.1 l.r a.to (length a.room.now) (omega arith) c.requires.n_in_bounds_2.0), c.requires.n_in_bounds_2.1 l.r (omega arith)) }

pub loop-r-preserved : goal.loop-r-preserved
loop-r-preserved c =
    let a = c.args in
    let l = c.loop-r in
    let h : ℕ → ℕ = λ q. home_by a.homes.now a.body.now (a.ids + (a.slot + q)) in
    let p : ℕ → ℕ = λ q. entry 4 a.body.now a.positions (a.slot + q) in (
      omega (arith, l.invariant.0, c.copy_row-to.ensures.value, taken_sum a.w (takes_from h p a.k) (takes_of h a.k) a.body.now a.at a.n c.requires.n_in_bounds_2.1 l.r a.to),
      c.copy_row-to.ensures.room_value
          ∙ ap (λ (v : ℕ). splice v (take (a.w * takes_of h a.k l.r) (drop (a.at + a.w * takes_from h p a.k l.r) a.body.now)) l.room) l.invariant.0
          ∙ ap (λ (z : List ℕ). splice (a.to + a.w * sum_of (takes_of h a.k) l.r) (take (a.w * takes_of h a.k l.r) (drop (a.at + a.w * takes_from h p a.k l.r) a.body.now)) z) l.invariant.1
          ∙ taken_step a.w (takes_from h p a.k) (takes_of h a.k) a.body.now a.at a.n c.requires.n_in_bounds_2.1 l.r a.to a.room.now (omega arith) c.requires.n_in_bounds_2.0,
    )

pub overflow_add-to : goal.overflow_add-to
overflow_add-to c =
    let a = c.args in
    let l = c.loop-r in
    let h : ℕ → ℕ = λ q. home_by a.homes.now a.body.now (a.ids + (a.slot + q)) in
    let p : ℕ → ℕ = λ q. entry 4 a.body.now a.positions (a.slot + q) in
    omega (arith, l.invariant.0, c.copy_row-to.ensures.value, taken_room a.w (takes_from h p a.k) (takes_of h a.k) a.body.now a.at a.n c.requires.n_in_bounds_2.1 l.r a.to (length a.room.now) (omega arith) c.requires.n_in_bounds_2.0)

pub loop-r-init : goal.loop-r-init
unfolding sum_of
loop-r-init c = (omega (arith, mul-zero c.args.w), sym (pieces_none _ _ _))
