-- The count and the exact sum of rows: W8, "the count of rows that aren't null, their exact sum". Assumes nothing.
use Rattle.std.specs.Prelude.{ℕ, ◌+◌, ◌^◌, Bool, cond, List, [], ◌∷◌, ℤ, pos, negsuc, ◌+ℤ◌, nat_lt, Option, Some, None}
use Rattle.columnar.specs.Row.{Row, null, whole, single, double, bytes, list, union}

-- a row that is not null counts
abbrev pub count_in : Row → ℕ
count_in null = 0
count_in (whole z) = 1
count_in (single b) = 1
count_in (double b) = 1
count_in (bytes s) = 1
count_in (list rs) = 1
count_in (union i r) = 1

-- a whole number adds itself
abbrev pub number_in : Row → ℤ
number_in null = pos 0
number_in (whole z) = z
number_in (single b) = pos 0
number_in (double b) = pos 0
number_in (bytes s) = pos 0
number_in (list rs) = pos 0
number_in (union i r) = pos 0

-- THE COUNT
abbrev pub count_of : List Row → ℕ
count_of [] = 0
count_of (r ∷ rs) = count_in r + count_of rs

-- THE EXACT SUM, over the integers
abbrev pub sum_of : List Row → ℤ
sum_of [] = pos 0
sum_of (r ∷ rs) = number_in r +ℤ sum_of rs

-- −2^63 to 2^63−1
abbrev pub fits : ℤ → Bool
fits (pos n) = nat_lt n (2 ^ 63)
fits (negsuc n) = nat_lt n (2 ^ 63)

unfoldable pub total_of : ℤ → Option ℤ
total_of z = cond (fits z) (Some z) None
