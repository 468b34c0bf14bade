-- `survey::write_lands` meets its contract. Assumes nothing.
use mathlib.Core.Path.{◌≡◌, refl, sym, ap, ◌∙◌}
use mathlib.Core.List.{List}
use Prim.Native.Nat.{ℕ, ◌+◌, ◌*◌}
use native.Mathlib.Omega.{arith}
use lib.ListN.{get_or}
use Rattle.number.specs.Number.{encode, splice}
use Rattle.number.proofs.Laws.{encode_mod}
use Rattle.utils.proofs.Pieces.{pieces_none, numbers_step}
use Rattle.batch.specs.batch_walk.Fall.{home_by, lands_by}
use Rattle.batch.proofs.batch_walk.Falls.{landing_none, landing_at, landing_more, land_at}
use Rattle.batch.proofs.survey.write_lands.Goals as goal

pub loop-r-preserved : goal.loop-r-preserved
loop-r-preserved c =
    let a = c.args in
    let l = c.loop-r in
    let h : ℕ → ℕ = λ q. home_by a.homes.now a.body.now (a.ids + (a.slot + q)) in
    let m = land_at h a.counters.now a.n l.r c.requires.3 (omega arith) in
    let v : get_or l.lands c.home_at-k.result 0 ≡ lands_by h a.counters.now l.r = landing_at h a.counters.now l.r l.lands l.invariant.0 m.0 c.home_at-k.ensures in (
      landing_more h a.counters.now l.r l.lands l.invariant.0 m.0 c.home_at-k.ensures refl refl,
      c.write.ensures
          ∙ ap (λ (z : List ℕ). splice (a.to + 4 * l.r) z l.room) (ap (λ (z : ℕ). encode 4 z) c.truncate.ensures ∙ encode_mod 4 (get_or l.lands c.home_at-k.result 0))
          ∙ ap (λ (z : ℕ). splice (a.to + 4 * l.r) (encode 4 z) l.room) v
          ∙ ap (λ (z : List ℕ). splice (a.to + 4 * l.r) (encode 4 (lands_by h a.counters.now l.r)) z) l.invariant.1
          ∙ numbers_step 4 (lands_by h a.counters.now) a.room.now a.to l.r (omega arith),
    )

pub loop-r-init : goal.loop-r-init
loop-r-init c =
    let a = c.args in
    (landing_none (λ q. home_by a.homes.now a.body.now (a.ids + (a.slot + q))) a.counters.now c.rows_of_all-lands.result c.rows_of_all-lands.ensures, sym (pieces_none _ _ _))

pub bounds-lands-k : goal.bounds-lands-k
bounds-lands-k c =
    let a = c.args in
    let l = c.loop-r in
    let h : ℕ → ℕ = λ q. home_by a.homes.now a.body.now (a.ids + (a.slot + q)) in
    let m = land_at h a.counters.now a.n l.r c.requires.3 (omega arith) in
    omega (arith, m.0, c.home_at-k.ensures, l.invariant.0.0)

pub overflow_add-lands : goal.overflow_add-lands
overflow_add-lands c =
    let a = c.args in
    let l = c.loop-r in
    let h : ℕ → ℕ = λ q. home_by a.homes.now a.body.now (a.ids + (a.slot + q)) in
    let m = land_at h a.counters.now a.n l.r c.requires.3 (omega arith) in
    let v : get_or l.lands c.home_at-k.result 0 ≡ lands_by h a.counters.now l.r = landing_at h a.counters.now l.r l.lands l.invariant.0 m.0 c.home_at-k.ensures in
    omega (arith, m.1, v)

pub bounds-lands-k-in-loop-r : goal.bounds-lands-k-in-loop-r
bounds-lands-k-in-loop-r c =
    let a = c.args in
    let l = c.loop-r in
    let h : ℕ → ℕ = λ q. home_by a.homes.now a.body.now (a.ids + (a.slot + q)) in
    let m = land_at h a.counters.now a.n l.r c.requires.3 (omega arith) in
    omega (arith, m.0, c.home_at-k.ensures, l.invariant.0.0)
