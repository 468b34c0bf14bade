-- How worked examples are written: arrays, slices, numbers and strings as bytes. Assumes nothing.
use Rattle.std.proofs.Math.Option.{Option}
use Rattle.std.specs.Prelude.{List, [], ◌∷◌, ◌++◌, ℕ, ◌+◌, pos}
use Rattle.number.specs.Number.{encode}
use Rattle.columnar.specs.Row.{Row, whole}
use Rattle.columnar.specs.Types.{Ty}
use Rattle.columnar.specs.Array.{Array}
use Rattle.columnar.specs.Reading.{Column}

-- a column, and the rows that it must read as
pub record Example : Type 0 where
  pub type : Ty
  pub column : Column type
  pub reads : List Row

abbrev pub array : {B : Type 0} → ℕ → ℕ → Option (List ℕ) → B → Array B
array len off valid body = record { len = len; off = off; valid = valid; body = body }

-- the rows a .. a + n - 1 of an array, over the same buffers and children
abbrev pub slice : {B : Type 0} → ℕ → ℕ → Array B → Array B
slice a n x = array n (x.off + a) x.valid x.body

-- numbers as bytes, w for each
abbrev pub pack : ℕ → List ℕ → List ℕ
pack w [] = []
pack w (n ∷ ns) = encode w n ++ pack w ns

abbrev pub num : ℕ → Row
num n = whole (pos n)

-- strings as bytes, and 1.0, 1.2, 2.0 and 3.4 as the bits of an f32
abbrev pub joe : List ℕ
joe = 106 ∷ 111 ∷ 101 ∷ []

abbrev pub mark : List ℕ
mark = 109 ∷ 97 ∷ 114 ∷ 107 ∷ []

abbrev pub foo : List ℕ
foo = 102 ∷ 111 ∷ 111 ∷ []

abbrev pub bar : List ℕ
bar = 98 ∷ 97 ∷ 114 ∷ []

abbrev pub baz : List ℕ
baz = 98 ∷ 97 ∷ 122 ∷ []

-- 12 and 13 bytes
abbrev pub hello_world : List ℕ
hello_world = 104 ∷ 101 ∷ 108 ∷ 108 ∷ 111 ∷ 32 ∷ 119 ∷ 111 ∷ 114 ∷ 108 ∷ 100 ∷ 33 ∷ []

abbrev pub long_string : List ℕ
long_string = 97 ∷ 32 ∷ 108 ∷ 111 ∷ 110 ∷ 103 ∷ 32 ∷ 115 ∷ 116 ∷ 114 ∷ 105 ∷ 110 ∷ 103 ∷ []

abbrev pub f1·0 : ℕ
f1·0 = 0x3f800000

abbrev pub f1·2 : ℕ
f1·2 = 0x3f99999a

abbrev pub f2·0 : ℕ
f2·0 = 0x40000000

abbrev pub f3·4 : ℕ
f3·4 = 0x4059999a
