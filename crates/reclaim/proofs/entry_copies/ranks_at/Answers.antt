-- `reclaim_walk::entries::ranks_at` meets its contract. Assumes nothing.
use mathlib.Core.Path.{sym, ap, subst, ◌∙◌}
use mathlib.Core.List.{[]}
use Prim.Native.Nat.{◌+◌}
use native.Mathlib.Omega.{arith}
use Rattle.leaf_walk.specs.Join.{join}
use Rattle.reclaim.specs.used_entries.Keys.{Within, rank}
use Rattle.reclaim.proofs.reclaim_walk.Laws.{keys_same, keys_within}
use Rattle.reclaim.proofs.entry_copies.ranks_at.Goals as goal

pub block_ranks-requires : goal.block_ranks-requires
block_ranks-requires c =
    let a = c.args in
    let x = join a.plan.now [] a.lengths.now a.places.now a.body.now a.first 0 in
    let k = keys_same x c.width_at-w.ensures c.place-at.ensures c.is_masked-masked.ensures c.place-mask.ensures c.offset_of-off.ensures c.length_of-n.ensures in
    let p = c.requires in
    record { within = (subst Within (sym k) (keys_within x p.fact.1), omega (arith, p.fact.2), omega (arith, p.fact.3), p.fact.4 ∙ ap (λ z. rank z a.base) (sym k)); head = λ j l m. p.head j l m ∙ ap (λ z. rank z j) (sym k) }

pub returns : goal.returns
returns c =
    let a = c.args in
    let x = join a.plan.now [] a.lengths.now a.places.now a.body.now a.first 0 in
    let k = keys_same x c.width_at-w.ensures c.place-at.ensures c.is_masked-masked.ensures c.place-mask.ensures c.offset_of-off.ensures c.length_of-n.ensures in
    λ j h. c.block_ranks.ensures j h ∙ ap (λ z. rank z (a.base + j)) k
