-- The product of two numbers by halves. Assumes nothing.
use Rattle.std.proofs.Common.{◌≡◌, ℕ, ◌+◌, ◌*◌, ◌/◌, ◌%◌, ◌<◌, ◌≤◌, sym, refl, ap, ◌∙◌, ap₂, add_assoc, mul_assoc, mul_comm, add-mul, mul-le-mul, mul-add, mul_right_comm, mul_left_comm, arith}

-- (a1 * B + a0) * (b1 * B + b0)
pub halves : (B a1 a0 b1 b0 : ℕ) → (a1 * B + a0) * (b1 * B + b0) ≡ a1 * b1 * (B * B) + (a1 * b0 * B + (a0 * b1 * B + a0 * b0))
halves B a1 a0 b1 b0 =
    add-mul (a1 * B) a0 (b1 * B + b0)
    ∙ ap₂ ◌+◌ (mul-add (a1 * B) (b1 * B) b0 ∙ ap₂ ◌+◌ first second) (mul-add a0 (b1 * B) b0 ∙ ap (λ z. z + a0 * b0) (sym (mul_assoc a0 b1 B)))
    ∙ add_assoc (a1 * b1 * (B * B)) (a1 * b0 * B) (a0 * b1 * B + a0 * b0)
  where
    first : a1 * B * (b1 * B) ≡ a1 * b1 * (B * B)
    first = simp (mul_assoc, mul_comm, mul_left_comm)

    second : a1 * B * b0 ≡ a1 * b0 * B
    second = mul_right_comm a1 B b0

step_low : (x y t : ℕ) → y * 4294967296 + t ≡ (y + t / 4294967296) * 4294967296 + t % 4294967296
step_low x y t = omega arith

step_up : (v c : ℕ) → v * 4294967296 + c ≡ v / 4294967296 * 18446744073709551616 + (v % 4294967296 * 4294967296 + c)
step_up v c = omega arith

-- the sum of the four products
pub carried : (x y z t : ℕ)
    → (x + (y + t / 4294967296) / 4294967296 + (z + (y + t / 4294967296) % 4294967296) / 4294967296) * 18446744073709551616
    + ((z + (y + t / 4294967296) % 4294967296) % 4294967296 * 4294967296 + t % 4294967296)
    ≡ x * 18446744073709551616 + (y * 4294967296 + (z * 4294967296 + t))
carried x y z t =
    let m = y + t / 4294967296 in
    let h = z + m % 4294967296 in
    go m h (t / 4294967296) (t % 4294967296) (omega arith) refl refl
  where
    go : (m h l1 l0 : ℕ) → t ≡ l1 * 4294967296 + l0 → m ≡ y + l1 → h ≡ z + m % 4294967296
        → (x + m / 4294967296 + h / 4294967296) * 18446744073709551616 + (h % 4294967296 * 4294967296 + l0)
        ≡ x * 18446744073709551616 + (y * 4294967296 + (z * 4294967296 + t))
    go m h l1 l0 p q r =
        let a = step_up h l0 in
        let b = step_up m 0 in
        fin (m / 4294967296) (m % 4294967296) (h / 4294967296) (h % 4294967296) (omega arith) (omega arith)
      where
        fin : (m1 m0 h1 h0 : ℕ) → y + l1 ≡ m1 * 4294967296 + m0 → z + m0 ≡ h1 * 4294967296 + h0
            → (x + m1 + h1) * 18446744073709551616 + (h0 * 4294967296 + l0) ≡ x * 18446744073709551616 + (y * 4294967296 + (z * 4294967296 + t))
        fin m1 m0 h1 h0 e f = omega (arith, p)

small_le : (a : ℕ) → a < 4294967296 → a ≤ 4294967295
small_le a h = omega arith

pub small : (a b : ℕ) → a < 4294967296 → b < 4294967296 → a * b ≤ 18446744065119617025
small a b h k = mul-le-mul (small_le a h) (small_le b k)
