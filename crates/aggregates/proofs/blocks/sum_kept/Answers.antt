-- `cell_blocks::sum_kept` meets its contract. Assumes nothing.
use Rattle.std.proofs.Common.{◌+◌, ◌*◌, ◌≤◌, length, arith}
use Rattle.aggregates.proofs.blocks.Sums.{ends_in_lem, tallied, kept_block}
use Rattle.aggregates.proofs.blocks.sum_kept.Goals as goal

pub overflow_cast-at : goal.overflow_cast-at
overflow_cast-at c = omega arith

pub overflow_mul-at : goal.overflow_mul-at
overflow_mul-at c = omega (arith, (let fact : c.args.c.start + c.args.slot * c.args.c.width + 64 * c.args.c.width ≤ length c.args.body.now = ends_in_lem c.args.c.start c.args.slot c.args.c.width 64 _ (omega arith) c.requires.holds in fact))

pub overflow_add-at : goal.overflow_add-at
overflow_add-at c = omega (arith, (let fact : c.args.c.start + c.args.slot * c.args.c.width + 64 * c.args.c.width ≤ length c.args.body.now = ends_in_lem c.args.c.start c.args.slot c.args.c.width 64 _ (omega arith) c.requires.holds in fact))

pub sum_some-p-requires : goal.sum_some-p-requires
sum_some-p-requires c =
    let h = c.requires in
    (h.sized, (let fact : c.args.c.start + c.args.slot * c.args.c.width + 64 * c.args.c.width ≤ length c.args.body.now = ends_in_lem c.args.c.start c.args.slot c.args.c.width 64 _ (omega arith) c.requires.holds in fact))

pub tally_of-requires : goal.tally_of-requires
tally_of-requires c =
    let h = c.requires in
    (h.sized, h.topped)

pub returns : goal.returns
returns c =
    let h = c.requires in
    tallied _ _ _ _ _ _ c.args.c.top _ _ (kept_block c.args.body.now (λ j. (c.shared_slice_known-1.given j).fits) c.args.c c.args.slot h.sized h.topped c.args.m) c.sum_some-p.ensures c.tally_of.ensures
