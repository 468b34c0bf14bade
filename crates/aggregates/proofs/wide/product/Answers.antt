-- `wide::product` meets its contract. Assumes nothing.
use Rattle.std.proofs.Common.{◌≡◌, ℕ, ◌+◌, ◌*◌, ◌/◌, ◌%◌, sym, ◌∙◌, ap₂, arith}
use Rattle.aggregates.proofs.wide.Products.{halves, carried}
use Rattle.aggregates.proofs.wide.product.Goals as goal

both : (a b x y z t : ℕ) → t ≡ a % 4294967296 * (b % 4294967296) → y ≡ a / 4294967296 * (b % 4294967296) → z ≡ a % 4294967296 * (b / 4294967296) → x ≡ a / 4294967296 * (b / 4294967296)
    → (x + (y + t / 4294967296) / 4294967296 + (z + (y + t / 4294967296) % 4294967296) / 4294967296) * 18446744073709551616
    + ((z + (y + t / 4294967296) % 4294967296) % 4294967296 * 4294967296 + t % 4294967296)
    ≡ a * b
both a b x y z t p q r s =
    let e : a / 4294967296 * 4294967296 + a % 4294967296 ≡ a = omega arith in
    let f : b / 4294967296 * 4294967296 + b % 4294967296 ≡ b = omega arith in
    carried x y z t
    ∙ rw (p, q, r, s) (sym (halves 4294967296 (a / 4294967296) (a % 4294967296) (b / 4294967296) (b % 4294967296)))
    ∙ ap₂ ◌*◌ e f

pub returns : goal.returns
returns c =
    both _ _ _ _ _ _ c.times-low.ensures.0 c.times.ensures.0 c.times-2.ensures.0 c.times-3.ensures.0
