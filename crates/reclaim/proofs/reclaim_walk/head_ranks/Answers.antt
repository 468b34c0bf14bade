-- `reclaim_walk::head_ranks` meets its contract. Assumes nothing.
use mathlib.Core.Path.{sym, ap, subst, ◌∙◌}
use mathlib.Core.List.{[]}
use native.Mathlib.Omega.{arith}
use Rattle.leaf_walk.specs.Join.{join}
use Rattle.reclaim.specs.used_entries.Keys.{Within, rank}
use Rattle.reclaim.proofs.reclaim_walk.Laws.{keys_same, keys_within, told, told_not}
use Rattle.reclaim.proofs.reclaim_walk.head_ranks.Goals as goal

pub returns-then-not-keys_in : goal.returns-then-not-keys_in
returns-then-not-keys_in c = λ h. absurd (told_not c.keys_in.ensures c.if-not-keys_in.true-raw h)

pub head_ranks-requires : goal.head_ranks-requires
head_ranks-requires c =
    let a = c.args in
    let x = join a.plan.now [] a.lengths.now a.places.now a.body.now a.first 0 in
    let k = keys_same x c.width_at-w.ensures c.place-at.ensures c.is_masked-masked.ensures c.place-mask.ensures c.offset_of-off.ensures c.length_of-n.ensures in
    subst Within (sym k) (keys_within x (told c.keys_in.ensures c.if-not-keys_in.false-raw))

pub returns : goal.returns
returns c =
    let a = c.args in
    let x = join a.plan.now [] a.lengths.now a.places.now a.body.now a.first 0 in
    let k = keys_same x c.width_at-w.ensures c.place-at.ensures c.is_masked-masked.ensures c.place-mask.ensures c.offset_of-off.ensures c.length_of-n.ensures in
    λ h j l m. c.head_ranks.ensures j (omega (arith, l, c.length_of-entries.ensures)) m ∙ ap (λ z. rank z j) k
