-- `coding::slots_of` meets its contract. Assumes nothing.
use mathlib.Core.Path.{◌≡◌, ap, ap₂}
use Prim.Native.Nat.{ℕ, ◌+◌, ◌*◌}
use native.Mathlib.Omega.{arith}
use Rattle.coding.proofs.slots_of.Goals as goal

bit_same : (o s : ℕ) {p : ℕ} → p ≡ o → p + s ≡ o + s
bit_same o s e = ap (λ z. z + s) e

at_same : (q o s w : ℕ) {a p : ℕ} → a ≡ q → p ≡ o → a + (p + s) * w ≡ q + (o + s) * w
at_same q o s w e f = ap₂ (λ y z. y + (z + s) * w) e f

pub overflow_add-bit : goal.overflow_add-bit
overflow_add-bit c = omega (arith, c.offset_at.ensures, c.requires.1)

pub overflow_mul-result : goal.overflow_mul-result
overflow_mul-result c = let e = at_same _ _ c.args.start c.args.w c.place_at-at.ensures c.offset_at.ensures in omega (arith, e, c.requires.2)

pub overflow_add-result : goal.overflow_add-result
overflow_add-result c = let e = at_same _ _ c.args.start c.args.w c.place_at-at.ensures c.offset_at.ensures in omega (arith, e, c.requires.2)

pub returns : goal.returns
returns c = (at_same _ _ c.args.start c.args.w c.place_at-at.ensures c.offset_at.ensures, c.place_at-mask.ensures, bit_same _ c.args.start c.offset_at.ensures)
