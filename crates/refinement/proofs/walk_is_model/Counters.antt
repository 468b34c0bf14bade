-- What a counter that is set leaves of the others. Assumes nothing.
use mathlib.Core.Path.{◌≡◌, refl, sym, ap, ◌∙◌}
use mathlib.Core.List.{List}
use Prim.Native.Nat.{ℕ, suc, ◌+◌, ◌*◌, ◌≤◌, ◌<◌, min}
use native.Mathlib.Omega.{arith}
use lib.ListN.{length, get_or, set, length-set}
use lib.Seq.{get_or-set_same, get_or-set_other}
use Rattle.walk.specs.State.{rows, nulls, bytes, top, grown, add_rows, add_nulls, set_bytes}

-- a counter that stays below the largest number is the sum
pub grown_is : (v n : ℕ) → v + n ≤ top → grown v n ≡ v + n
unfolding grown
grown_is v n h = omega arith

module _ (c : List ℕ) (long : length c ≡ 96) (i : ℕ) (small : i < 32) (n : ℕ) where
  pub rows_added : rows (add_rows i n c) i ≡ grown (rows c i) n
  rows_added = get_or-set_same c (3 * i) (grown (rows c i) n) 0 (omega arith)

  pub nulls_added : nulls (add_nulls i n c) i ≡ grown (nulls c i) n
  nulls_added = get_or-set_same c (3 * i + 1) (grown (nulls c i) n) 0 (omega arith)

  pub bytes_set : bytes (set_bytes i n c) i ≡ n
  bytes_set = get_or-set_same c (3 * i + 2) n 0 (omega arith)

module _ (c : List ℕ) (i n j : ℕ) where
  pub rows_other : (j ≡ i → ⊥) → rows (add_rows i n c) j ≡ rows c j
  rows_other h = get_or-set_other c (3 * i) (3 * j) (grown (rows c i) n) 0 (λ (e : 3 * j ≡ 3 * i). h (omega arith))

  pub nulls_of_rows : nulls (add_rows i n c) j ≡ nulls c j
  nulls_of_rows = get_or-set_other c (3 * i) (3 * j + 1) (grown (rows c i) n) 0 (λ (e : 3 * j + 1 ≡ 3 * i). omega arith)

  pub bytes_of_rows : bytes (add_rows i n c) j ≡ bytes c j
  bytes_of_rows = get_or-set_other c (3 * i) (3 * j + 2) (grown (rows c i) n) 0 (λ (e : 3 * j + 2 ≡ 3 * i). omega arith)

  pub nulls_other : (j ≡ i → ⊥) → nulls (add_nulls i n c) j ≡ nulls c j
  nulls_other h = get_or-set_other c (3 * i + 1) (3 * j + 1) (grown (nulls c i) n) 0 (λ (e : 3 * j + 1 ≡ 3 * i + 1). h (omega arith))

  pub rows_of_nulls : rows (add_nulls i n c) j ≡ rows c j
  rows_of_nulls = get_or-set_other c (3 * i + 1) (3 * j) (grown (nulls c i) n) 0 (λ (e : 3 * j ≡ 3 * i + 1). omega arith)

  pub bytes_of_nulls : bytes (add_nulls i n c) j ≡ bytes c j
  bytes_of_nulls = get_or-set_other c (3 * i + 1) (3 * j + 2) (grown (nulls c i) n) 0 (λ (e : 3 * j + 2 ≡ 3 * i + 1). omega arith)

  pub bytes_other : (j ≡ i → ⊥) → bytes (set_bytes i n c) j ≡ bytes c j
  bytes_other h = get_or-set_other c (3 * i + 2) (3 * j + 2) n 0 (λ (e : 3 * j + 2 ≡ 3 * i + 2). h (omega arith))

  pub rows_of_bytes : rows (set_bytes i n c) j ≡ rows c j
  rows_of_bytes = get_or-set_other c (3 * i + 2) (3 * j) n 0 (λ (e : 3 * j ≡ 3 * i + 2). omega arith)

  pub nulls_of_bytes : nulls (set_bytes i n c) j ≡ nulls c j
  nulls_of_bytes = get_or-set_other c (3 * i + 2) (3 * j + 1) n 0 (λ (e : 3 * j + 1 ≡ 3 * i + 2). omega arith)

pub long_rows : (i n : ℕ) (c : List ℕ) → length (add_rows i n c) ≡ length c
long_rows i n c = length-set c (3 * i) (grown (rows c i) n)

pub long_nulls : (i n : ℕ) (c : List ℕ) → length (add_nulls i n c) ≡ length c
long_nulls i n c = length-set c (3 * i + 1) (grown (nulls c i) n)

pub long_bytes : (i n : ℕ) (c : List ℕ) → length (set_bytes i n c) ≡ length c
long_bytes i n c = length-set c (3 * i + 2) n
