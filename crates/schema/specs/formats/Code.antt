-- The formats of the Arrow C Data Interface that 01 admits ("Column types and ceilings"), each with a code, and what a code means.
-- A text is a list of bytes. Assumes nothing.
use Rattle.std.specs.Prelude.{Bool, cond, ◌&&◌, List, [], ◌∷◌, ℕ, ◌+◌, length, take, drop, get_or, leb, eqb}
use Rattle.columnar.specs.Test.{same}

-- a rule of the table: the format is this text, or it begins with this text; and the format's code
pub data Rule : Type 0 where
  is : List ℕ → ℕ → Rule
  begins : List ℕ → ℕ → Rule

-- the formats of 01, with their letters
abbrev pub table : List Rule
table =
    is (99 ∷ []) 1 ∷ is (67 ∷ []) 2 ∷ is (115 ∷ []) 3 ∷ is (83 ∷ []) 4 ∷ is (105 ∷ []) 5 ∷ is (73 ∷ []) 6 ∷ is (108 ∷ []) 7 ∷ is (76 ∷ []) 8  -- c C s S i I l L
    ∷ is (102 ∷ []) 9 ∷ is (103 ∷ []) 10  -- f g
    ∷ is (122 ∷ []) 11 ∷ is (117 ∷ []) 12 ∷ is (90 ∷ []) 13 ∷ is (85 ∷ []) 14  -- z u Z U
    ∷ is (118 ∷ 122 ∷ []) 15 ∷ is (118 ∷ 117 ∷ []) 16  -- vz vu
    ∷ is (43 ∷ 118 ∷ 108 ∷ []) 17 ∷ is (43 ∷ 118 ∷ 76 ∷ []) 18 ∷ is (43 ∷ 108 ∷ []) 19 ∷ is (43 ∷ 76 ∷ []) 20  -- +vl +vL +l +L
    ∷ begins (43 ∷ 117 ∷ 115 ∷ 58 ∷ []) 21 ∷ begins (43 ∷ 117 ∷ 100 ∷ 58 ∷ []) 22 ∷ is (43 ∷ 114 ∷ []) 23 ∷ []  -- +us: +ud: +r

-- the code of the first rule that the text t meets; 0 where there is none
abbrev pub look : List Rule → List ℕ → ℕ
look [] t = 0
look (is s c ∷ rules) t = cond (same t s) c (look rules t)
look (begins s c ∷ rules) t = cond (same (take (length s) t) s) c (look rules t)

-- the code of a format; 0 where 01 does not admit it
unfoldable pub code_of : List ℕ → ℕ
code_of t = look table t

-- the code of the format that stands in s at `at`, len bytes long; 0 where it does not lie inside
abbrev pub code_at : List ℕ → ℕ → ℕ → ℕ
code_at s at len = cond (leb (at + len) (length s)) (code_of (take len (drop at s))) 0

-- ---- what a code means

-- codes are 1 to 23
abbrev pub last_code : ℕ
last_code = 23

-- x is one of the numbers from low to high
abbrev pub between : ℕ → ℕ → ℕ → Bool
between low high x = leb low x && leb x high

-- c C s S i I l L
abbrev pub is_integer : ℕ → Bool
is_integer code = between 1 8 code

-- c C s S i I l L f g
abbrev pub is_fixed : ℕ → Bool
is_fixed code = between 1 10 code

-- z u Z U
abbrev pub is_string : ℕ → Bool
is_string code = between 11 14 code

-- vz vu
abbrev pub is_view : ℕ → Bool
is_view code = between 15 16 code

-- +vl +vL
abbrev pub is_list_view : ℕ → Bool
is_list_view code = between 17 18 code

-- +l +L
abbrev pub is_list : ℕ → Bool
is_list code = between 19 20 code

-- +us: +ud:
abbrev pub is_union : ℕ → Bool
is_union code = between 21 22 code

-- +us:
abbrev pub is_sparse : ℕ → Bool
is_sparse code = eqb code 21

-- +ud:
abbrev pub is_dense : ℕ → Bool
is_dense code = eqb code 22

-- +r
abbrev pub is_run_end : ℕ → Bool
is_run_end code = between 23 23 code

-- bytes of one number (c C s S i I l L f g), or of one offset (z u Z U, +vl +vL, +l +L), by code from 0 on
abbrev pub widths : List ℕ
widths =
    0 ∷ 1 ∷ 1 ∷ 2 ∷ 2 ∷ 4 ∷ 4 ∷ 8 ∷ 8 ∷ 4 ∷ 8  -- no format; c C s S i I l L f g
    ∷ 4 ∷ 4 ∷ 8 ∷ 8 ∷ 0 ∷ 0  -- z u Z U; vz vu
    ∷ 4 ∷ 8 ∷ 4 ∷ 8 ∷ 0 ∷ 0 ∷ 0 ∷ []  -- +vl +vL +l +L; +us: +ud: +r

-- the bytes of one number or offset of a code; 0 where it has neither
abbrev pub width_of : ℕ → ℕ
width_of code = get_or widths code 0
