-- Little-endian numbers of w bytes, over every width w: the Columnar Format stores every number of a buffer so. Assumes nothing.
use Rattle.std.specs.Prelude.{ℕ, zero, suc, ◌+◌, ◌*◌, ◌-◌, ◌/◌, ◌%◌, ◌^◌, List, [], ◌∷◌, ◌++◌, length, take, drop, ltb, ℤ, pos, negsuc}
use mir.Val.{sel}

-- the number of the first w bytes of s, the lowest first
unfoldable pub number : ℕ → List ℕ → ℕ
number zero s = 0
number (suc w) [] = 0
number (suc w) (b ∷ s) = b + 256 * number w s

-- the w bytes of n's lowest w bytes, the lowest first
unfoldable pub encode : ℕ → ℕ → List ℕ
encode zero n = []
encode (suc w) n = n % 256 ∷ encode w (n / 256)

-- entry k of those of w bytes that stand in s from the byte `from` on
abbrev pub entry : ℕ → List ℕ → ℕ → ℕ → ℕ
entry w s from k = number w (drop (from + w * k) s)

-- a pattern of w bytes as two's complement: from half of 256 ^ w on it stands for the number below 0 that is 256 ^ w less
abbrev pub signed : ℕ → ℕ → ℤ
signed w p = sel (ltb p (256 ^ w / 2)) (pos p) (negsuc (256 ^ w - suc p))

-- the pattern of w bytes of a whole number that two's complement holds in them
abbrev pub pattern : ℕ → ℤ → ℕ
pattern w (pos n) = n
pattern w (negsuc n) = 256 ^ w - suc n

-- s with the bytes bs at position at
unfoldable pub splice : ℕ → List ℕ → List ℕ → List ℕ
splice at bs s = take at s ++ bs ++ drop (at + length bs) s
