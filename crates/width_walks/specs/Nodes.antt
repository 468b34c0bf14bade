-- The same walk as one loop over the nodes of lent tables: each node is written in its turn and settles which rows of the nodes below it are
-- written (02, W13). Assumes nothing.
use Rattle.std.specs.Prelude.{Bool, true, false, cond, List, ℕ, zero, suc, ◌+◌, ◌-◌, ◌*◌, length, take, drop, get_or, set, replicate, ltb}
use Rattle.columnar.specs.Row.{seg}
use Rattle.columnar.specs.Types.{Number, int, w1, width, half, limit}
use Rattle.columnar.specs.Array.{item, ok}
use Rattle.columnar.specs.Entries.{encodes}
use Rattle.columnar.specs.RunEnd.{RunEnd}
use Rattle.array_data.specs.Tables.{Tables, length_of, offset_of, valid_of, first_buffer, second_buffer, array_with}
use Rattle.array_data.specs.NodeKinds.{NodeKind, fixed_node, string_node, view_node, list_view_node, list_node, sparse_node, dense_node, run_end_node, dictionary_node}
use Rattle.array_data.specs.Typed.{Tree, child_node, kind_in}
use Rattle.walk.specs.State.{add_rows, set_bytes}
use Rattle.walk.specs.Log.{Out, put, done, wrote, need, next}
use Rattle.anew.specs.widths.Converted.{span_of, offsets_of, first_of, many_of, ends_of}
use Rattle.width_walks.specs.Convert.{all_under, end_fits, bits_walk}

-- ---- ranges: two numbers a node, its first row that is written and how many

abbrev pub from_in : List ℕ → ℕ → ℕ
from_in rs k = get_or rs (2 * k) 0

abbrev pub many_in : List ℕ → ℕ → ℕ
many_in rs k = get_or rs (2 * k + 1) 0

abbrev pub range : ℕ → ℕ → ℕ → List ℕ → List ℕ
range k a n rs = set (set rs (2 * k) a) (2 * k + 1) n

-- a width that a kind has
abbrev pub width_in : NodeKind → ℕ
width_in (fixed_node m) = 0
width_in (string_node w) = w
width_in view_node = 0
width_in (list_view_node w) = w
width_in (list_node w) = w
width_in (sparse_node ids) = 0
width_in (dense_node ids) = 0
width_in (run_end_node w) = w
width_in (dictionary_node m) = 0

abbrev pub key_in : NodeKind → Number
key_in (fixed_node m) = (int w1)
key_in (string_node w) = (int w1)
key_in view_node = (int w1)
key_in (list_view_node w) = (int w1)
key_in (list_node w) = (int w1)
key_in (sparse_node ids) = (int w1)
key_in (dense_node ids) = (int w1)
key_in (run_end_node w) = (int w1)
key_in (dictionary_node m) = m

abbrev pub is_run : NodeKind → Bool
is_run (fixed_node m) = false
is_run (string_node w) = false
is_run view_node = false
is_run (list_view_node w) = false
is_run (list_node w) = false
is_run (sparse_node ids) = false
is_run (dense_node ids) = false
is_run (run_end_node w) = true
is_run (dictionary_node m) = false

-- node i of a tree is run ends
abbrev pub ends_in : Tree → ℕ → Bool
ends_in t zero = false
ends_in t (suc i) = is_run (kind_in t i)

-- for each node of a result one more than the number of the column's node that it comes from; 0 for run ends, which keep no nulls
unfoldable pub comes_from : Tree → List ℕ
comes_from t = seg (λ i. cond (ends_in t i) 0 (suc i)) 0 t.count

-- the tree and tables of the column, the target's tree, and the plan of the result
module _ (t t' : Tree) (x : Tables) (plan : List ℕ) where
  -- node i is run ends: its run-end node writes it
  abbrev pub after_run : ℕ → Bool
  after_run i = ends_in t i

  -- the run ends of the run-end node i
  abbrev pub runs_at : ℕ → RunEnd (Unit {0})
  runs_at i = record { ends = array_with x (first_buffer x (suc i)) (suc i); values = array_with x tt (suc (suc i)) }

  -- ---- what node i settles

  -- the first k children of node i, where `a` and `n` give the rows of each
  abbrev pub child_ranges : (ℕ → ℕ) → (ℕ → ℕ) → ℕ → ℕ → List ℕ → List ℕ
  child_ranges a n i zero rs = rs
  child_ranges a n i (suc k) rs = range (child_node t i k) (a (child_node t i k)) (n (child_node t i k)) (child_ranges a n i k rs)

  abbrev pub settle_as : NodeKind → ℕ → ℕ → ℕ → List ℕ → List ℕ
  settle_as (fixed_node m) i s n rs = rs
  settle_as (string_node w) i s n rs = rs
  settle_as view_node i s n rs = rs
  settle_as (list_view_node w) i s n rs = range (suc i) 0 (length_of x (suc i)) rs
  settle_as (list_node w) i s n rs = range (suc i) (item w (first_buffer x i) s) (span_of w (first_buffer x i) s n) rs
  settle_as (sparse_node ids) i s n rs = child_ranges (λ k. s) (λ k. n) i (length ids) rs
  settle_as (dense_node ids) i s n rs = child_ranges (λ k. 0) (length_of x) i (length ids) rs
  settle_as (run_end_node w) i s n rs = range (suc (suc i)) (first_of w (runs_at i) s n) (many_of w (runs_at i) s n) rs
  settle_as (dictionary_node m) i s n rs = range (suc i) 0 (length_of x (suc i)) rs

  unfoldable pub settle : ℕ → List ℕ → List ℕ
  settle i rs = settle_as (kind_in t i) i (offset_of x i + from_in rs i) (many_in rs i) rs

  -- ---- what node i writes

  abbrev pub own_as : NodeKind → NodeKind → ℕ → (ℕ → Bool) → ℕ → ℕ → List ℕ → Out
  own_as (fixed_node m) k' i okay s n c = wrote (put i 1 0 (take (n * width m) (drop (s * width m) (first_buffer x i)))) c
  own_as (string_node w) k' i okay s n c =
      need (ltb (span_of w (first_buffer x i) s n) (half (width_in k'))) 6 c
      (next (wrote (put i 1 0 (encodes (width_in k') (offsets_of w (first_buffer x i) s n))) c)
      (λ c1. next (wrote (put i 2 0 (take (span_of w (first_buffer x i) s n) (drop (item w (first_buffer x i) s) (second_buffer x i)))) c1)
      (λ c2. done (set_bytes i (span_of w (first_buffer x i) s n) c2))))
  own_as view_node k' i okay s n c = wrote (put i 1 0 (take (n * 16) (drop (s * 16) (first_buffer x i)))) c
  own_as (list_view_node w) k' i okay s n c =
      need (all_under (half (width_in k')) (seg (item w (first_buffer x i)) s n)) 6 c
      (need (all_under (half (width_in k')) (seg (item w (second_buffer x i)) s n)) 6 c
      (next (wrote (put i 1 0 (encodes (width_in k') (seg (item w (first_buffer x i)) s n))) c)
      (λ c1. wrote (put i 2 0 (encodes (width_in k') (seg (item w (second_buffer x i)) s n))) c1)))
  own_as (list_node w) k' i okay s n c =
      need (ltb (span_of w (first_buffer x i) s n) (half (width_in k'))) 6 c (wrote (put i 1 0 (encodes (width_in k') (offsets_of w (first_buffer x i) s n))) c)
  own_as (sparse_node ids) k' i okay s n c = wrote (put i 1 0 (take n (drop s (first_buffer x i)))) c
  own_as (dense_node ids) k' i okay s n c =
      next (wrote (put i 1 0 (take n (drop s (first_buffer x i)))) c) (λ c1. wrote (put i 2 0 (take (n * 4) (drop (s * 4) (second_buffer x i)))) c1)
  own_as (run_end_node w) k' i okay s n c =
      need (end_fits (half (width_in k')) n) 7 c
      (next (wrote (put (suc i) 1 0 (encodes (width_in k') (ends_of w (runs_at i) s n))) c) (λ c1. done (add_rows (suc i) (many_of w (runs_at i) s n) c1)))
  own_as (dictionary_node m) k' i okay s n c =
      need (ltb (length_of x (suc i) - 1) (limit (key_in k'))) 8 c
      (wrote (put i 1 0 (encodes (width (key_in k')) (seg (λ j. cond (okay j) (item (width m) (first_buffer x i) j) 0) s n))) c)

  -- its bits and rows first
  unfoldable pub own_walk : ℕ → ℕ → ℕ → List ℕ → Out
  own_walk i a n c =
      next (bits_walk plan i (ok (valid_of x i)) (offset_of x i + a) n c)
      (λ c1. own_as (kind_in t i) (kind_in t' i) i (ok (valid_of x i)) (offset_of x i + a) n (add_rows i n c1))

  unfoldable pub turn : ℕ → List ℕ → List ℕ → Out
  turn i rs c = cond (after_run i) (done c) (own_walk i (from_in rs i) (many_in rs i) c)

  -- m nodes from node i on, with these ranges
  unfoldable pub nodes_walk : ℕ → ℕ → List ℕ → List ℕ → Out
  nodes_walk zero i rs c = done c
  nodes_walk (suc m) i rs c = next (turn i rs c) (λ c2. nodes_walk m (suc i) (settle i rs) c2)

  -- the ranges behind them
  unfoldable pub ranges_behind : ℕ → ℕ → List ℕ → List ℕ
  ranges_behind zero i rs = rs
  ranges_behind (suc m) i rs = ranges_behind m (suc i) (settle i rs)

  -- ALL NODES: the root's rows are all of its rows
  unfoldable pub tree_walk : List ℕ → Out
  tree_walk c = nodes_walk t.count 0 (range 0 0 (length_of x 0) (replicate 64 0)) c
