-- Steps of the walk by their buffers. Assumes nothing.
use Rattle.std.specs.Prelude.{cond, List, ℕ, suc, ◌+◌, ◌*◌, ◌<◌, ◌≤◌, length}
use Rattle.columnar.specs.Row.{seg}
use Rattle.columnar.specs.Types.{half}
use Rattle.columnar.specs.Array.{item, ok}
use Rattle.columnar.specs.Entries.{encodes}
use Rattle.columnar.specs.RunEnd.{RunEnd, end_of, start_of}
use Rattle.array_data.specs.Tables.{Tables, part, valid_of, place, length_of, offset_of, first_buffer, array_with}
use Rattle.walk.specs.State.{add_rows}
use Rattle.walk.specs.Log.{Out, put, done, wrote, need, next}
use Rattle.anew.specs.widths.Converted.{first_of, many_of, ends_of}
use Rattle.width_walks.specs.Convert.{all_under}
use Rattle.width_walks.specs.Nodes.{range}

-- what a list-view node writes of its offsets and sizes: slots s .. s + n - 1
abbrev pub pairs_walk : (offsets sizes : List ℕ) → (w w' i s n : ℕ) → List ℕ → Out
pairs_walk offsets sizes w w' i s n c =
    need (all_under (half w') (seg (item w offsets) s n)) 6 c
    (need (all_under (half w') (seg (item w sizes) s n)) 6 c
    (next (wrote (put i 1 0 (encodes w' (seg (item w offsets) s n))) c) (λ c1. wrote (put i 2 0 (encodes w' (seg (item w sizes) s n))) c1)))

-- .. where both lie in a body behind `at` and `too` and hold those slots, whatever their sizes are
abbrev pub AnyPairs : List ℕ → (at too w s n : ℕ) → (List ℕ → List ℕ → List ℕ → Type 0) → Type 0
AnyPairs body at too w s n P =
    (size room : ℕ) (c : List ℕ) → at + size ≤ length body → too + room ≤ length body → (s + n) * w ≤ size → (s + n) * w ≤ room → P (part body at size) (part body too room) c

-- entries of w bytes, slots s .. s + n - 1, are at most m
abbrev pub AtMost : ℕ → List ℕ → (s n m : ℕ) → Type 0
AtMost w p s n m = (j : ℕ) → j < n → item w p (s + j) ≤ m

-- the keys of w bytes of node i, 0 under nulls
abbrev pub keys_in : Tables → (w i s n : ℕ) → List ℕ
keys_in x w i s n = seg (λ j. cond (ok (valid_of x i) j) (item w (first_buffer x i) j) 0) s n

-- the buffer of node i whose place is number j lies in the body
abbrev pub Inside : Tables → ℕ → ℕ → Type 0
Inside x i j = place x i j + place x i (suc j) ≤ length x.body

-- the run ends of the run-end node i have w bytes, lie in the body, rise and reach over the slots s .. s + n - 1
pub record RunsHere (x : Tables) (i w s n : ℕ) : Type 0 where
  pub inside : Inside x (suc i) 3
  pub hold : (offset_of x (suc i) + length_of x (suc i)) * w ≤ place x (suc i) 4
  pub rises : (k : ℕ) → k < length_of x (suc i) → start_of (end_of w (array_with x (first_buffer x (suc i)) (suc i))) k < end_of w (array_with x (first_buffer x (suc i)) (suc i)) k
  pub covers : s + n ≤ start_of (end_of w (array_with x (first_buffer x (suc i)) (suc i))) (length_of x (suc i))

-- the run ends of the run-end node i
abbrev pub runs_in : Tables → ℕ → RunEnd (Unit {0})
runs_in x i = record { ends = array_with x (first_buffer x (suc i)) (suc i); values = array_with x tt (suc (suc i)) }

-- what it writes of them behind ground 7
abbrev pub runs_walk : Tables → (w w' i s n : ℕ) → List ℕ → Out
runs_walk x w w' i s n c = next (wrote (put (suc i) 1 0 (encodes w' (ends_of w (runs_in x i) s n))) c) (λ c1. done (add_rows (suc i) (many_of w (runs_in x i) s n) c1))

-- the rows of its values
abbrev pub runs_range : Tables → (w i s n : ℕ) → List ℕ → List ℕ
runs_range x w i s n rs = range (suc (suc i)) (first_of w (runs_in x i) s n) (many_of w (runs_in x i) s n) rs
