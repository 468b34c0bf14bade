-- `recode::keys::mask_eight` meets its contract: the first k entries are masked. Assumes nothing.
use Rattle.std.proofs.Common.{◌/◌, ◌%◌, ◌^◌, sym, ◌∙◌, refl, arith}
use Rattle.recode.proofs.Masks.{masked_none, row_turn}
use Rattle.recode.proofs.keys.mask_eight.Goals as goal

pub loop-k-init : goal.loop-k-init
loop-k-init g c = sym (masked_none _ _ _ _)

pub loop-k-preserved : goal.loop-k-preserved
loop-k-preserved g c =
    let z = c.args in
    row_turn g.N.Unsigned.SIZE z.room.now z.at (λ k. z.x / 2 ^ k % 2) c.loop-k.k 8 c.digit.result c.loop-k.room _ c.requires (omega arith) c.digit.ensures.0 c.loop-k.invariant (c.mask_one.ensures ∙ rw c.SIZE.ensures refl)
