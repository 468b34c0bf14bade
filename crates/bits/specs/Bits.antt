-- Bytes as a list of bits, numbered from the least significant of each byte as in the Columnar Format's validity bitmaps. Assumes nothing.
use Rattle.std.specs.Prelude.{ℕ, zero, suc, ◌+◌, ◌*◌, ◌-◌, ◌/◌, ◌%◌, List, [], ◌∷◌, ◌++◌, length, take, drop, replicate}
use Rattle.number.specs.Number.{splice}

-- the lowest n binary digits of x, the lowest first
unfoldable pub digits : ℕ → ℕ → List ℕ
digits zero x = []
digits (suc n) x = x % 2 ∷ digits n (x / 2)

-- the bits of bytes, the lowest of each byte first
unfoldable pub bits : List ℕ → List ℕ
bits [] = []
bits (b ∷ s) = digits 8 b ++ bits s

-- the number whose binary digits are l, the lowest first
unfoldable pub value : List ℕ → ℕ
value [] = 0
value (x ∷ l) = x + 2 * value l

-- the first n bytes of the bits l, eight bits to a byte, the lowest first
unfoldable pub pack : ℕ → List ℕ → List ℕ
pack zero l = []
pack (suc n) l = value (take 8 l) ∷ pack n (drop 8 l)

-- the bytes whose bits are l
unfoldable pub packed : List ℕ → List ℕ
packed l = pack (length l / 8) l

-- how many bits of a list are 0
unfoldable pub zeros : List ℕ → ℕ
zeros [] = 0
zeros (x ∷ l) = (1 - x) + zeros l

-- how many bits are left in the last byte that n bits at p reach; none where n is 0
unfoldable pub pad : ℕ → ℕ → ℕ
pad p zero = 0
pad p (suc n) = (8 - (p + suc n) % 8) % 8

-- the n bits of the bytes s from bit p on
unfoldable pub bits_at : ℕ → ℕ → List ℕ → List ℕ
bits_at p n s = take n (drop p (bits s))

-- the bytes s with the bits vs from bit p on, and zeros after them to the end of the last byte reached
unfoldable pub put_bits : ℕ → List ℕ → List ℕ → List ℕ
put_bits p vs s = packed (splice p (vs ++ replicate (pad p (length vs)) 0) (bits s))
