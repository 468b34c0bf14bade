-- `recode::keys::mask` meets its contract. Assumes nothing.
use Rattle.std.proofs.Common.{◌≡◌, ℕ, ◌+◌, ◌-◌, ◌*◌, ◌/◌, ◌<◌, length, get_or, refl, ap, ◌∙◌, arith}
use Rattle.bits.specs.Bits.{bits}
use Rattle.recode.proofs.Masks.{fits_part, fits_two, masked_turn}
use Rattle.recode.proofs.keys.mask.Goals as goal

pub mask_bytes-requires : goal.mask_bytes-requires
mask_bytes-requires g c =
    let z = c.args in
    let h = c.rows_to_byte-h.result in
    let m = (z.n - h) / 8 in
    let f = fits_two g.N.Unsigned.SIZE z.at h (8 * m) z.n (length z.room.now) (omega arith) c.requires.0 in
    (rw c.SIZE.ensures (omega arith), omega arith, omega arith)

pub mask_rows-requires-2 : goal.mask_rows-requires-2
mask_rows-requires-2 g c =
    let z = c.args in
    let h = c.rows_to_byte-h.result in
    let m = (z.n - h) / 8 in
    let f = fits_two g.N.Unsigned.SIZE z.at (h + 8 * m) (z.n - (h + 8 * m)) z.n (length z.room.now) (omega arith) c.requires.0 in
    (rw c.SIZE-2.ensures (omega arith), omega arith, omega arith)

pub returns : goal.returns
returns g c =
    let z = c.args in
    let w = g.N.Unsigned.SIZE in
    let h = c.rows_to_byte-h.result in
    let m = (z.n - h) / 8 in
    let s = z.body.now in
    let f : ℕ → ℕ = λ k. get_or (bits s) (8 * z.from + z.a + k) 0 in
    let q : (k : ℕ) → k < 8 * m → get_or (bits s) (8 * (z.from + (z.a + h) / 8) + k) 0 ≡ f (h + k)
    = λ k o. ap (λ (p : ℕ). get_or (bits s) p 0) (omega arith) in
    let t : (k : ℕ) → k < z.n - (h + 8 * m) → get_or (bits s) (8 * z.from + (z.a + (h + 8 * m)) + k) 0 ≡ f (h + 8 * m + k)
    = λ k o. ap (λ (p : ℕ). get_or (bits s) p 0) (omega arith) in
    let d = masked_turn w z.room.now z.at f (λ k. get_or (bits s) (8 * (z.from + (z.a + h) / 8) + k) 0) h (8 * m) (h + 8 * m) _ _ (fits_part w z.at (h + 8 * m) z.n (length z.room.now) (omega arith) c.requires.0) refl q c.mask_rows.ensures (c.mask_bytes.ensures ∙ rw c.SIZE.ensures refl) in
    masked_turn w z.room.now z.at f (λ k. get_or (bits s) (8 * z.from + (z.a + (h + 8 * m)) + k) 0) (h + 8 * m) (z.n - (h + 8 * m)) z.n _ _ c.requires.0 (omega arith) t d (c.mask_rows-2.ensures ∙ rw c.SIZE-2.ensures refl)
