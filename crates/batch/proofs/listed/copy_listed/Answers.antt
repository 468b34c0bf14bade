-- `listed::copy_listed` meets its contract. Assumes nothing.
use mathlib.Core.Path.{◌≡◌, sym, ap, ◌∙◌}
use mathlib.Core.List.{List}
use Prim.Native.Nat.{ℕ, ◌+◌, ◌*◌}
use native.Mathlib.Nat.{mul-zero, mul-add}
use native.Mathlib.Omega.{arith}
use lib.ListN.{length, take, drop}
use Rattle.number.specs.Number.{entry, splice}
use Rattle.utils.proofs.Pieces.{pieces_none}
use Rattle.batch.specs.Stretch.{sum_of}
use Rattle.batch.proofs.batch_walk.Sums.{entry_in_lem}
use Rattle.batch.proofs.batch_walk.Gathered.{taken_room, taken_sum, taken_step}
use Rattle.batch.proofs.listed.copy_listed.Goals as goal

pub overflow_mul-size : goal.overflow_mul-size
overflow_mul-size c =
    let a = c.args in
    let l = c.loop-r in
    let s : ℕ → ℕ = λ q. entry a.w a.body.now a.offsets (a.slot + q) in
    let z : ℕ → ℕ = λ q. entry a.w a.body.now a.sizes (a.slot + q) in
    omega (arith, c.well_formed, c.ranges, l.invariant.0, taken_room a.v s z a.body.now a.at a.n c.requires.n_in_bounds_2.1 l.r a.to (length a.room.now) (omega arith) c.requires.n_in_bounds_2.0, c.requires.n_in_bounds_2.1 l.r (omega arith), mul-add a.v (s l.r) (z l.r), ap (λ (q : ℕ). a.v * q) c.entry_at-start.ensures, ap (λ (q : ℕ). a.v * q) c.entry_at.ensures)

pub overflow_mul-from : goal.overflow_mul-from
overflow_mul-from c =
    let a = c.args in
    let l = c.loop-r in
    let s : ℕ → ℕ = λ q. entry a.w a.body.now a.offsets (a.slot + q) in
    let z : ℕ → ℕ = λ q. entry a.w a.body.now a.sizes (a.slot + q) in
    omega (arith, c.well_formed, c.ranges, l.invariant.0, taken_room a.v s z a.body.now a.at a.n c.requires.n_in_bounds_2.1 l.r a.to (length a.room.now) (omega arith) c.requires.n_in_bounds_2.0, c.requires.n_in_bounds_2.1 l.r (omega arith), mul-add a.v (s l.r) (z l.r), ap (λ (q : ℕ). a.v * q) c.entry_at-start.ensures, ap (λ (q : ℕ). a.v * q) c.entry_at.ensures)

pub overflow_add-from : goal.overflow_add-from
overflow_add-from c =
    let a = c.args in
    let l = c.loop-r in
    let s : ℕ → ℕ = λ q. entry a.w a.body.now a.offsets (a.slot + q) in
    let z : ℕ → ℕ = λ q. entry a.w a.body.now a.sizes (a.slot + q) in
    omega (arith, c.well_formed, c.ranges, l.invariant.0, taken_room a.v s z a.body.now a.at a.n c.requires.n_in_bounds_2.1 l.r a.to (length a.room.now) (omega arith) c.requires.n_in_bounds_2.0, c.requires.n_in_bounds_2.1 l.r (omega arith), mul-add a.v (s l.r) (z l.r), ap (λ (q : ℕ). a.v * q) c.entry_at-start.ensures, ap (λ (q : ℕ). a.v * q) c.entry_at.ensures)

pub copy_few-requires : goal.copy_few-requires
copy_few-requires c =
    let a = c.args in
    let l = c.loop-r in
    let s : ℕ → ℕ = λ q. entry a.w a.body.now a.offsets (a.slot + q) in
    let z : ℕ → ℕ = λ q. entry a.w a.body.now a.sizes (a.slot + q) in
    (omega (arith, l.auto.room, c.well_formed, c.ranges, l.invariant.0, taken_room a.v s z a.body.now a.at a.n c.requires.n_in_bounds_2.1 l.r a.to (length a.room.now) (omega arith) c.requires.n_in_bounds_2.0, c.requires.n_in_bounds_2.1 l.r (omega arith), mul-add a.v (s l.r) (z l.r), ap (λ (q : ℕ). a.v * q) c.entry_at-start.ensures, ap (λ (q : ℕ). a.v * q) c.entry_at.ensures), omega (arith, c.well_formed, c.ranges, l.invariant.0, taken_room a.v s z a.body.now a.at a.n c.requires.n_in_bounds_2.1 l.r a.to (length a.room.now) (omega arith) c.requires.n_in_bounds_2.0, c.requires.n_in_bounds_2.1 l.r (omega arith), mul-add a.v (s l.r) (z l.r), ap (λ (q : ℕ). a.v * q) c.entry_at-start.ensures, ap (λ (q : ℕ). a.v * q) c.entry_at.ensures))

pub overflow_add-to : goal.overflow_add-to
overflow_add-to c =
    let a = c.args in
    let l = c.loop-r in
    let s : ℕ → ℕ = λ q. entry a.w a.body.now a.offsets (a.slot + q) in
    let z : ℕ → ℕ = λ q. entry a.w a.body.now a.sizes (a.slot + q) in
    omega (arith, c.well_formed, c.ranges, l.invariant.0, taken_room a.v s z a.body.now a.at a.n c.requires.n_in_bounds_2.1 l.r a.to (length a.room.now) (omega arith) c.requires.n_in_bounds_2.0, c.requires.n_in_bounds_2.1 l.r (omega arith), mul-add a.v (s l.r) (z l.r), ap (λ (q : ℕ). a.v * q) c.entry_at-start.ensures, ap (λ (q : ℕ). a.v * q) c.entry_at.ensures)

pub loop-r-preserved : goal.loop-r-preserved
loop-r-preserved c =
    let a = c.args in
    let l = c.loop-r in
    let s : ℕ → ℕ = λ q. entry a.w a.body.now a.offsets (a.slot + q) in
    let z : ℕ → ℕ = λ q. entry a.w a.body.now a.sizes (a.slot + q) in (
      omega (arith, l.invariant.0, ap (λ (q : ℕ). a.v * q) c.entry_at.ensures, taken_sum a.v s z a.body.now a.at a.n c.requires.n_in_bounds_2.1 l.r a.to),
      c.copy_few.ensures
          ∙ ap (λ (q : ℕ). splice l.to (take (a.v * q) (drop (a.at + a.v * c.entry_at-start.result) a.body.now)) l.room) c.entry_at.ensures
          ∙ ap (λ (q : ℕ). splice l.to (take (a.v * z l.r) (drop (a.at + a.v * q) a.body.now)) l.room) c.entry_at-start.ensures
          ∙ ap (λ (q : ℕ). splice q (take (a.v * z l.r) (drop (a.at + a.v * s l.r) a.body.now)) l.room) l.invariant.0
          ∙ ap (λ (q : List ℕ). splice (a.to + a.v * sum_of z l.r) (take (a.v * z l.r) (drop (a.at + a.v * s l.r) a.body.now)) q) l.invariant.1
          ∙ taken_step a.v s z a.body.now a.at a.n c.requires.n_in_bounds_2.1 l.r a.to a.room.now (omega arith) c.requires.n_in_bounds_2.0,
    )

pub loop-r-init : goal.loop-r-init
unfolding sum_of
loop-r-init c = (omega (arith, mul-zero c.args.v), sym (pieces_none _ _ _))
