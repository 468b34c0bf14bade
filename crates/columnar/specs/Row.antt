-- What a row reads as (01, "How a row is read"), and stretches of rows. Assumes nothing.
use Rattle.std.specs.Prelude.{List, [], ◌∷◌, ℕ, zero, suc, ◌+◌, ℤ}

-- "A leaf row is null, a whole number, an f32 or an f64; floats are equal when their bits are. A string or view row is null
-- or bytes. A list row is null or a list of rows, a union row an id with a row." A dictionary row is null or bytes.
mutual
  pub data Row : Type 0 where
    null : Row
    whole : ℤ → Row
    single : ℕ → Row  -- an f32, by its bits
    double : ℕ → Row  -- an f64, by its bits
    bytes : List ℕ → Row
    list : Rows → Row
    union : ℕ → Row → Row

  pub data Rows : Type 0 where
    end : Rows
    more : Row → Rows → Rows

abbrev pub rows : List Row → Rows
rows [] = end
rows (r ∷ rs) = more r (rows rs)

-- f a, f (a + 1), .., n of them
abbrev pub seg : {A : Type 0} → (ℕ → A) → ℕ → ℕ → List A
seg f a zero = []
seg f a (suc n) = f a ∷ seg f (suc a) n

-- f 0 + .. + f (n - 1)
abbrev pub sum : (ℕ → ℕ) → ℕ → ℕ
sum f zero = 0
sum f (suc n) = sum f n + f n
