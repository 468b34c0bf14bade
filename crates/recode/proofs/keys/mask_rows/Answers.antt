-- `recode::keys::mask_rows` meets its contract: the first i entries are masked. Assumes nothing.
use Rattle.std.proofs.Common.{◌≡◌, ℕ, ◌+◌, ◌*◌, length, get_or, sym, refl, ap, ◌∙◌, arith}
use Rattle.bits.specs.Bits.{bits}
use Rattle.bits.proofs.Laws.{below_at_lem, below_bits}
use Rattle.recode.proofs.Masks.{fits_entry, masked_none, row_turn}
use Rattle.recode.proofs.keys.mask_rows.Goals as goal

pub loop-i-init : goal.loop-i-init
loop-i-init g c = sym (masked_none _ _ _ _)

pub mask_one-requires : goal.mask_one-requires
mask_one-requires g c =
    let z = c.args in
    let f = fits_entry g.N.Unsigned.SIZE z.at c.loop-i.i z.n (length z.room.now) (omega arith) c.requires.0 in
    let b = below_at_lem 2 (bits z.body.now) (omega arith) (below_bits z.body.now) (8 * z.from + (z.a + c.loop-i.i)) in
    (rw c.SIZE.ensures (omega arith), omega arith)

pub loop-i-preserved : goal.loop-i-preserved
loop-i-preserved g c =
    let z = c.args in
    let l = c.loop-i in
    let f : ℕ → ℕ = λ k. get_or (bits z.body.now) (8 * z.from + z.a + k) 0 in
    let b : c.get_bit.result ≡ f l.i = c.get_bit.ensures ∙ ap (λ (p : ℕ). get_or (bits z.body.now) p 0) (omega arith) in
    row_turn g.N.Unsigned.SIZE z.room.now z.at f l.i z.n c.get_bit.result l.room _ c.requires.0 (omega arith) b l.invariant (c.mask_one.ensures ∙ rw c.SIZE.ensures refl)
