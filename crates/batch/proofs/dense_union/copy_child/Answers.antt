-- `dense_union::copy_child` meets its contract. Assumes nothing.
use mathlib.Core.Path.{sym, ap, ◌∙◌}
use mathlib.Core.Bool.{not, ◌&&◌}
use Prim.Native.Nat.{ℕ, ◌+◌}
use Rattle.number.specs.Number.{entry}
use Rattle.leaf_walk.specs.Join.{join}
use Rattle.batch.specs.Batch.{batch_leaf}
use Rattle.batch.specs.batch_walk.Plain.{reached}
use Rattle.batch.specs.batch_walk.Fall.{home_by, takes_of, takes_from}
use Rattle.batch.proofs.batch_walk.PlainLeaf.{plain_wide}
use Rattle.batch.proofs.batch_walk.TextLeaf.{flat_rest}
use Rattle.batch.proofs.batch_walk.Tried.{tried}
use Rattle.batch.proofs.dense_union.copy_child.Goals as goal

pub returns-then-all_reached : goal.returns-then-all_reached
returns-then-all_reached c =
    let a = c.args in
    let h : ℕ → ℕ = λ q. home_by a.homes.now a.body.now (a.ids + (a.slot + q)) in
    let p : ℕ → ℕ = λ q. entry 4 a.body.now a.positions (a.slot + q) in
    λ source. tried (join a.plan.now a.parts.now a.lengths.now a.places.now a.body.now a.first source) a.k (flat_rest c.args.plan.now c.args.k c.requires.first_bound.2 c.is_text.ensures c.if-is_text.false) c.requires.first_bound.1 (takes_from h p a.k) (takes_of h a.k) a.n a.counters.now a.room.now a.write c.width_at-w.ensures (c.all_reached.ensures a.plan.now a.parts.now source ∙ ap (λ v. not a.write && reached (join a.plan.now a.parts.now a.lengths.now a.places.now a.body.now a.first source) a.k c.width_at-w.result v) c.requires.total_value.1) c.if-all_reached.true c.requires.total_value.0 c.add_rows.ensures
