-- What is written for runs and for rows (02, W1): run ends of e bytes, values of w bytes, and a bit for each value where they are masked.
-- Assumes nothing.
use Rattle.std.specs.Prelude.{◌≡◌, Bool, true, cond, List, [], ◌∷◌, ℕ, zero, suc, ◌+◌, ◌*◌, ◌-◌, ◌^◌, ◌≤◌, ◌<◌, min, length, drop, replicate, ltb}
use Rattle.number.specs.Number.{number, splice, encode}
use Rattle.bits.specs.Bits.{put_bits}
use Rattle.utils.specs.Offsets.{repeated}
use Rattle.aggregates.specs.patterns.Parts.{Sized}
use Rattle.coding.specs.run_coding.Rows.{as_bit, cell_of, number_in, valid_in}

-- n equal bits, where there are any
unfoldable pub bits_written : Bool → ℕ → ℕ → Bool → List ℕ → List ℕ
bits_written masked p n valid room = cond masked (put_bits p (replicate n (as_bit valid)) room) room

-- ---- runs

-- n runs fit into a room of `size` bytes
pub record Fits (w : ℕ) (masked : Bool) (e ends values mask size n : ℕ) : Type 0 where
  pub of_ends : ends + n * e ≤ size
  pub of_values : values + n * w ≤ size
  pub of_bits : masked ≡ true → 8 * mask + n ≤ 8 * size

-- run k ends behind row r, and has this value
unfoldable pub run_written : ℕ → Bool → ℕ → ℕ → ℕ → ℕ → ℕ → ℕ → Bool → ℕ → List ℕ → List ℕ
run_written w masked e ends values mask k r valid x room =
    bits_written masked (8 * mask + k) 1 valid (splice (values + k * w) (encode w (cell_of valid x)) (splice (ends + k * e) (encode e (suc r)) room))

module _ (body : List ℕ) (w : ℕ) (masked : Bool) (start at bit e ends values mask : ℕ) where
  -- the runs k, k + 1, .. that end behind these rows
  unfoldable pub runs_written : ℕ → List ℕ → List ℕ → List ℕ
  runs_written k [] room = room
  runs_written k (r ∷ rs) room = runs_written (suc k) rs (run_written w masked e ends values mask k r (valid_in body masked at bit r) (number_in body w start r) room)

-- ---- rows

-- n rows fit
pub record Holds (w : ℕ) (masked : Bool) (values mask size n : ℕ) : Type 0 where
  pub of_values : values + n * w ≤ size
  pub of_bits : masked ≡ true → 8 * mask + n ≤ 8 * size

-- n rows of this value from row r on
unfoldable pub rows_written : ℕ → Bool → ℕ → ℕ → ℕ → ℕ → Bool → ℕ → List ℕ → List ℕ
rows_written w masked values mask r n valid x room = bits_written masked (8 * mask + r) n valid (splice (values + r * w) (repeated w (cell_of valid x) n) room)

-- where run q ends
abbrev pub end_in : List ℕ → ℕ → ℕ → ℕ → ℕ
end_in body e ends q = number e (drop (ends + q * e) body)

-- the ends of `count` runs are held and rise; run `run` is the first that ends above x, and the last ends at x + m or above
pub record Ends (body : List ℕ) (e ends run x m count : ℕ) : Type 0 where
  pub sized : Sized e
  pub holds : ends + count * e ≤ length body
  pub low : x + m < 2 ^ 64
  pub some_run : 0 < m → run < count
  pub above : 0 < m → x < end_in body e ends run
  pub rises : (q : ℕ) → suc q < count → end_in body e ends q < end_in body e ends (suc q)
  pub covers : (q : ℕ) → suc q ≡ count → x + m ≤ end_in body e ends q

module _ (body : List ℕ) (w : ℕ) (masked : Bool) (start at bit e ends x m values mask : ℕ) where
  -- how many rows, from row r on, run q has
  abbrev pub left : ℕ → ℕ → ℕ
  left r q = min (end_in body e ends q - (x + r)) (m - r)

  -- from row r and run q on, in at most so many runs
  unfoldable pub rows_from : ℕ → ℕ → ℕ → List ℕ → List ℕ
  rows_from zero r q room = room
  rows_from (suc f) r q room =
      cond (ltb r m) (rows_from f (r + left r q) (suc q) (rows_written w masked values mask r (left r q) (valid_in body masked at bit q) (number_in body w start q) room)) room
