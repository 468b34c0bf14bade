-- `reclaim_walk::entries::copy_entries` meets its contract. The invariant: where the rest is done, the whole is. Assumes nothing.
use mathlib.Core.Path.{refl, sym, ap, ◌∙◌}
use mathlib.Core.List.{[]}
use Prim.Native.Nat.{◌+◌, ◌-◌}
use native.Mathlib.Nat.{sub-zero, zero-add}
use native.Mathlib.Omega.{arith}
use Rattle.leaf_walk.specs.Join.{join}
use Rattle.reclaim.specs.used_entries.Keys.{rank}
use Rattle.reclaim.proofs.used_entries.Laws.{rank_none}
use Rattle.reclaim.specs.reclaim_walk.Walk.{keys_of}
use Rattle.reclaim.proofs.reclaim_walk.Laws.{entries_far}
use Rattle.reclaim.proofs.reclaim_walk.Runs.{one_block, blocks_are, blocks_none, blocks_stop, blocks_more}
use borrow.Author.Rules.{rules}
use Rattle.reclaim.proofs.entry_copies.copy_entries.Goals as goal

pub copy_block-requires : goal.copy_block-requires
copy_block-requires c =
    let far = entries_far (join c.args.plan.now [] c.args.lengths.now c.args.places.now c.args.body.now c.args.first 0) c.requires.first_bound.1 in
    record { first_bound = (omega (arith, c.requires.first_bound.0), omega arith, omega (arith, far, c.length_of-entries.ensures)); by_index = λ j h. c.requires.head j (omega (arith, h, c.length_of-entries.ensures)) (omega arith) ∙ ap (rank (keys_of (join c.args.plan.now [] c.args.lengths.now c.args.places.now c.args.body.now c.args.first 0))) (sym (zero-add j)) }

pub returns-then-entries-le-BLOCK : goal.returns-then-entries-le-BLOCK
returns-then-entries-le-BLOCK c = blocks_are (join c.args.plan.now c.args.parts.now c.args.lengths.now c.args.places.now c.args.body.now c.args.first 0) _ 0 _ _ c.length_of-entries.ensures (one_block (join c.args.plan.now c.args.parts.now c.args.lengths.now c.args.places.now c.args.body.now c.args.first 0) _ c.length_of-entries.result _ _ c.if-entries-le-BLOCK.true c.copy_block.ensures)

pub loop-base-init : goal.loop-base-init
loop-base-init c = (omega arith, refl, sym (rank_none (keys_of (join c.args.plan.now [] c.args.lengths.now c.args.places.now c.args.body.now c.args.first 0))), λ g c2 room2 d. rw sub-zero at d)

pub ranks_at-ranks-requires : goal.ranks_at-ranks-requires
ranks_at-ranks-requires c =
    let far = entries_far (join c.args.plan.now [] c.args.lengths.now c.args.places.now c.args.body.now c.args.first 0) c.requires.first_bound.1 in
    record { fact = (omega (arith, c.requires.first_bound.0), c.requires.first_bound.1, omega arith, omega (arith, far, c.length_of-entries.ensures), c.loop-base.invariant.2); head = λ j l m. c.requires.head j (omega (arith, l, c.length_of-entries.ensures)) m }

pub copy_block-g-requires : goal.copy_block-g-requires
copy_block-g-requires c =
    let far = entries_far (join c.args.plan.now [] c.args.lengths.now c.args.places.now c.args.body.now c.args.first 0) c.requires.first_bound.1 in
    record { first_bound = (omega (arith, c.requires.first_bound.0), omega arith, omega (arith, far, c.length_of-entries.ensures)); by_index = c.ranks_at-ranks.ensures }

pub returns-then-g-ne0 : goal.returns-then-g-ne0
returns-then-g-ne0 c =
    let l = c.loop-base in
    let k = c.block_len-count in
    let n = c.length_of-entries in
    blocks_are (join c.args.plan.now c.args.parts.now c.args.lengths.now c.args.places.now c.args.body.now c.args.first 0) _ 0 _ _ n.ensures (l.invariant.3 _ _ _ (blocks_stop (join c.args.plan.now c.args.parts.now c.args.lengths.now c.args.places.now c.args.body.now c.args.first 0) _ (n.result - l.base) l.base k.result _ _ (omega arith) k.ensures.3 c.copy_block-g.ensures c.if-g-ne0.true))

pub loop-base-preserved : goal.loop-base-preserved
loop-base-preserved c =
    let l = c.loop-base in
    let k = c.block_len-count in
    let n = c.length_of-entries in (
      omega arith,
      search rules,
      c.ranks_at-ranks.ensures k.result (omega arith),
      λ g c2 room2 d.
          l.invariant.3 _ _ _ (blocks_more (join c.args.plan.now c.args.parts.now c.args.lengths.now c.args.places.now c.args.body.now c.args.first 0) _ (n.result - l.base) (n.result - (l.base + k.result)) l.base (l.base + k.result) k.result _ _ (omega arith) k.ensures.3 (omega arith) refl c.copy_block-g.ensures c.if-g-ne0.false d),
    )

pub returns : goal.returns
returns c = blocks_are (join c.args.plan.now c.args.parts.now c.args.lengths.now c.args.places.now c.args.body.now c.args.first 0) _ 0 _ _ c.length_of-entries.ensures (c.loop-base.invariant.3 _ _ _ (blocks_none (join c.args.plan.now c.args.parts.now c.args.lengths.now c.args.places.now c.args.body.now c.args.first 0) _ (c.length_of-entries.result - c.loop-base.base) _ _ _ (omega arith)))
