-- `cell_blocks::word_at` meets its contract. Assumes nothing.
use Rattle.std.proofs.Common.{◌≡◌, ◌+◌, ◌-◌, ◌*◌, ap, ◌∙◌, arith, pow_pos}
use Rattle.bits.specs.Bits.{digits, bits_at}
use Rattle.bits.proofs.Steps.{one_shl_word, word_lt, word_is, shift_is}
use Rattle.aggregates.proofs.blocks.word_at.Goals as goal

pub read-requires : goal.read-requires
read-requires c = omega arith

pub returns-then-j-eq0 : goal.returns-then-j-eq0
returns-then-j-eq0 c =
    let e : 8 * c.args.q ≡ 8 * c.args.q + c.args.j = omega arith in
    ap (digits 64) c.read.ensures
    ∙ word_is 8 c.args.q c.args.body.now (λ k. (c.shared_slice_known-1.given k).fits) (omega arith)
    ∙ ap (λ p. bits_at p 64 c.args.body.now) e

pub overflow_sub-k : goal.overflow_sub-k
overflow_sub-k c = omega arith

pub overflow_shl-p : goal.overflow_shl-p
overflow_shl-p c = omega arith

pub read-requires-2 : goal.read-requires-2
read-requires-2 c = omega arith

pub overflow_shr-lo : goal.overflow_shr-lo
overflow_shr-lo c = omega arith

pub nonzero_rem-lo : goal.nonzero_rem-lo
nonzero_rem-lo c =
    omega (arith, one_shl_word (8 - c.args.j) (omega arith), pow_pos (8 - c.args.j))

pub overflow_add-q : goal.overflow_add-q
overflow_add-q c = omega arith

pub read-requires-3 : goal.read-requires-3
read-requires-3 c = omega arith

pub overflow_shl-result : goal.overflow_shl-result
overflow_shl-result c = omega arith

pub overflow_add-result : goal.overflow_add-result
overflow_add-result c =
    omega (arith, word_lt c.args.j c.read-2.result c.read-3.result (omega arith))

pub returns : goal.returns
returns c =
    rw (one_shl_word (8 - c.args.j) (omega arith), c.read-2.ensures, c.read-3.ensures)
    (shift_is 8 c.args.q c.args.j c.args.body.now (λ k. (c.shared_slice_known-1.given k).fits) (omega arith) (omega arith) (omega arith))
