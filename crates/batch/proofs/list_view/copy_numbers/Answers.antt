-- `batch_walk::list_view::copy_numbers` meets its contract. Assumes nothing.
use mathlib.Core.Path.{◌≡◌}
use mathlib.Core.Bool.{true}
use Prim.Native.Nat.{suc, ◌+◌}
use native.Mathlib.Numerals.{add-one}
use native.Mathlib.Omega.{arith}
use Rattle.number.specs.Number.{entry}
use Rattle.walk.specs.State.{place}
use Rattle.leaf_walk.specs.Join.{join}
use Rattle.batch.specs.batch_walk.Plain.{is_plain}
use Rattle.batch.proofs.batch_walk.PlainLeaf.{plain_wide}
use Rattle.batch.proofs.batch_walk.Tried.{tried}
use Rattle.batch.proofs.list_view.copy_numbers.Goals as goal

pub returns-then-none_refused : goal.returns-then-none_refused
returns-then-none_refused c =
    let a = c.args in
    λ source. tried (join a.plan.now a.parts.now a.lengths.now a.places.now a.body.now a.first source) (suc a.i) c.requires.first_bound.3 (omega arith) (λ r. entry a.w a.body.now (place (join a.plan.now a.parts.now a.lengths.now a.places.now a.body.now a.first source) a.i 3) (a.slot + r)) (λ r. entry a.w a.body.now (place (join a.plan.now a.parts.now a.lengths.now a.places.now a.body.now a.first source) a.i 5) (a.slot + r)) a.n a.counters.now a.room.now a.write (rw (add-one a.i) at c.width_at-v.ensures) (c.none_refused.ensures a.plan.now a.parts.now source) c.if-none_refused.true c.requires.fact.1 (rw (add-one a.i) at c.add_rows.ensures)

pub returns-then-put_listed : goal.returns-then-put_listed
returns-then-put_listed c =
    let a = c.args in
    λ source. rw (c.add_rows-then-put_listed.ensures, add-one a.i) (rw (c.place-offsets.ensures, c.place-sizes.ensures, add-one a.i) at (c.put_listed.ensures.did c.if-put_listed.true source))
