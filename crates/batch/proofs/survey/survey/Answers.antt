-- `survey::survey` meets its contract. Assumes nothing.
use mathlib.Core.Path.{◌≡◌, refl, sym, subst}
use mathlib.Core.Bool.{false≢true}
use Prim.Native.Nat.{ℕ, ◌+◌, ◌<◌}
use native.Mathlib.Omega.{arith}
use lib.ListN.{get_or}
use Rattle.number.specs.Number.{entry}
use Rattle.batch.specs.batch_walk.Fall.{home_by}
use Rattle.batch.proofs.batch_walk.Falls.{land_more, land_homeless, land_over, land_fits, fall_none, fall_more, begin_most, grown_most}
use Rattle.batch.proofs.survey.survey.Goals as goal

pub loop-r-preserved : goal.loop-r-preserved
loop-r-preserved c =
    let a = c.args in
    let l = c.loop-r in
    let h : ℕ → ℕ = λ q. home_by a.homes.now a.body.now (a.ids + (a.slot + q)) in
    let p : ℕ → ℕ = λ q. entry 4 a.body.now a.positions (a.slot + q) in
    let few = c.if-k-ge32.false in
    let t = l.invariant.1.counted c.home_at-k.result (omega arith) in (
      land_more h a.counters.now l.r l.invariant.0 (subst (λ v. v < 32) c.home_at-k.ensures (omega arith)) (land_fits h a.counters.now l.r c.home_at-k.ensures t c.rows_of.ensures c.grow.ensures c.if-grow-ge2147483648.false),
      fall_more h p a.n l.r l.whole l.begins l.taken l.ends l.invariant.1 (omega arith) c.home_at-k.ensures (omega arith) c.position_at-start.ensures (omega arith) refl c.begin_of-b.ensures c.still-whole.ensures c.max.ensures refl,
    )

pub loop-r-init : goal.loop-r-init
loop-r-init c =
    let a = c.args in
    (refl, rw (c.requires.begins_value.0, c.requires.begins_value.1, c.requires.begins_value.2) (fall_none (λ q. home_by a.homes.now a.body.now (a.ids + (a.slot + q))) (λ q. entry 4 a.body.now a.positions (a.slot + q)) a.n))

pub returns-then-k-ge32 : goal.returns-then-k-ge32
returns-then-k-ge32 c =
    let a = c.args in
    record { sound_value = land_homeless (λ q. home_by a.homes.now a.body.now (a.ids + (a.slot + q))) a.counters.now a.n c.loop-r.r (omega arith) c.home_at-k.ensures c.if-k-ge32.true; fallen = λ z. absurd (false≢true z) }

pub returns-then-grow-ge2147483648 : goal.returns-then-grow-ge2147483648
returns-then-grow-ge2147483648 c =
    let a = c.args in
    let l = c.loop-r in
    record { sound_value = land_over (λ q. home_by a.homes.now a.body.now (a.ids + (a.slot + q))) a.counters.now a.n l.r (omega arith) c.home_at-k.ensures (l.invariant.1.counted c.home_at-k.result (omega arith)) c.rows_of.ensures c.grow.ensures c.if-grow-ge2147483648.true; fallen = λ z. absurd (false≢true z) }

pub overflow_add-b : goal.overflow_add-b
overflow_add-b c =
    let k = c.home_at-k.result in
    let y = begin_most (get_or c.loop-r.taken k 0) 4294967296 c.begin_of-b.ensures (omega arith) (c.loop-r.invariant.1.begun k (omega arith)).0 in
    let z = grown_most c.rows_of.result c.grow.ensures c.if-grow-ge2147483648.false in
    omega arith

pub overflow_add-taken : goal.overflow_add-taken
overflow_add-taken c =
    let z = grown_most c.rows_of.result c.grow.ensures c.if-grow-ge2147483648.false in
    omega arith

pub returns : goal.returns
returns c =
    let l = c.loop-r in
    let e : l.r ≡ c.args.n = omega arith in
    record { sound_value = sym (rw e at l.invariant.0); fallen = λ z. rw e at l.invariant.1 }
