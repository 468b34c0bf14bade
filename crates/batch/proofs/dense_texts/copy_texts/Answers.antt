-- `batch::dense_texts::copy_texts` meets its contract. Assumes nothing.
use mathlib.Core.Path.{sym, subst}
use Prim.Native.Nat.{◌+◌, ◌≤◌}
use Rattle.number.specs.Number.{entry}
use Rattle.leaf_walk.specs.Join.{join}
use Rattle.batch.specs.batch_walk.Fall.{home_by, takes_of, takes_from}
use Rattle.batch.proofs.batch_walk.Falls.{takes_most}
use Rattle.batch.proofs.batch_walk.ListTried.{taken_did}
use Rattle.batch.proofs.dense_texts.copy_texts.Goals as goal

pub returns-then-t : goal.returns-then-t
returns-then-t c = let a = c.args in λ source. taken_did (join a.plan.now a.parts.now a.lengths.now a.places.now a.body.now a.first source) a.k (takes_from (λ q. home_by a.homes.now a.body.now (a.ids + (a.slot + q))) (λ q. entry 4 a.body.now a.positions (a.slot + q)) a.k) (takes_of (λ q. home_by a.homes.now a.body.now (a.ids + (a.slot + q))) a.k) a.n a.counters.now a.room.now a.write c.taken_tried-t.result c.if-not-write.true-raw c.requires.total_value.0 (c.taken_tried-t.ensures c.if-t.true a.parts.now source a.room.now) c.set_bytes.ensures c.add_rows.ensures

pub copy_each-requires : goal.copy_each-requires
copy_each-requires c = let a = c.args in let t : a.total ≤ a.n = subst (λ v. v ≤ a.n) (sym c.requires.total_value.0) (takes_most (λ q. home_by a.homes.now a.body.now (a.ids + (a.slot + q))) a.k a.n) in record { first_bound = c.requires.first_bound; n_in_bounds = c.requires.n_in_bounds; total_le_n = t; c_value = c.requires.c_value }
