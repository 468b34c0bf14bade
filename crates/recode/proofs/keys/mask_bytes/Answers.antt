-- `recode::keys::mask_bytes` meets its contract: the entries of the first i bytes are masked. Assumes nothing.
use Rattle.std.proofs.Common.{◌≡◌, ℕ, ◌+◌, ◌*◌, ◌/◌, ◌%◌, ◌^◌, ◌<◌, length, get_or, sym, refl, ap, ◌∙◌, arith}
use Rattle.bits.specs.Bits.{bits}
use Rattle.recode.proofs.Masks.{fits_part, masked_none, masked_turn, byte_bits}
use Rattle.recode.proofs.keys.mask_bytes.Goals as goal

pub loop-i-init : goal.loop-i-init
loop-i-init g c = sym (masked_none _ _ _ _)

pub loop-i-preserved : goal.loop-i-preserved
loop-i-preserved g c =
    let z = c.args in
    let l = c.loop-i in
    let s = z.body.now in
    let f : ℕ → ℕ = λ k. get_or (bits s) (8 * z.q + k) 0 in
    let e : (k : ℕ) → k < 8 → get_or s (z.q + l.i) 0 / 2 ^ k % 2 ≡ f (8 * l.i + k)
    = λ k o. byte_bits s (z.q + l.i) k o ∙ ap (λ (p : ℕ). get_or (bits s) p 0) (omega arith) in
    masked_turn g.N.Unsigned.SIZE z.room.now z.at f (λ k. get_or s (z.q + l.i) 0 / 2 ^ k % 2) (8 * l.i) 8 (8 * (l.i + 1)) l.room _ (fits_part g.N.Unsigned.SIZE z.at (8 * (l.i + 1)) (8 * z.m) (length z.room.now) (omega arith) c.requires.0) (omega arith) e l.invariant (c.mask_eight.ensures ∙ rw c.SIZE.ensures refl)
