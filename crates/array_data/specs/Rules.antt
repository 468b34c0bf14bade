-- Ground 12, node by node: where a node's buffers lie, and the rule of its kind over its rows and its children's lengths
-- (columnar's test of the kind, its children taken as they are: they are nodes of their own). Assumes nothing.
use Rattle.std.specs.Prelude.{Bool, true, false, ◌&&◌, List, [], ℕ, suc, ◌+◌, ◌*◌, length, get_or, leb}
use Rattle.std.proofs.Math.Option.{none}
use Rattle.columnar.specs.Types.{Number, fixed, string}
use Rattle.columnar.specs.Array.{Array}
use Rattle.columnar.specs.Test.{every, array_test, plain_test, view_test, list_view_test, list_test, sparse_test, dense_test, run_end_test, dictionary_test}
use Rattle.array_data.specs.Tables.{Tables, length_of, place, first_buffer, second_buffer, data_buffers, array_with, held, in_body, valid_in}

-- a child of which only the length is looked at
abbrev pub child_of : Tables → ℕ → Array (Unit {0})
child_of x k = record { len = length_of x k; off = 0; valid = none; body = tt }

module _ (x : Tables) (k : ℕ) where
  abbrev pub one_in : Bool
  one_in = held x k && valid_in x k && in_body x (place x k 3) (place x k 4)

  abbrev pub two_in : Bool
  two_in = one_in && in_body x (place x k 5) (place x k 6)

  -- ---- one rule a kind

  abbrev pub fixed_rule : Number → Bool
  fixed_rule n = one_in && array_test true (plain_test (fixed n)) (array_with x (first_buffer x k) k)

  abbrev pub string_rule : ℕ → Bool
  string_rule w = two_in && array_test true (plain_test (string w)) (array_with x (record { offsets = first_buffer x k; chars = second_buffer x k }) k)

  -- the data buffers stand in the table, and each in the body
  abbrev pub buffers_in : Bool
  buffers_in = leb (2 * (place x k 7 + place x k 8)) (length x.buffers) && every (λ i. in_body x (get_or x.buffers (2 * (place x k 7 + i)) 0) (get_or x.buffers (2 * (place x k 7 + i) + 1) 0)) (place x k 8)

  abbrev pub view_rule : Bool
  view_rule = one_in && buffers_in && array_test true view_test (array_with x (record { views = first_buffer x k; buffers = data_buffers x k }) k)

  abbrev pub list_view_rule : ℕ → Bool
  list_view_rule w =
      two_in && array_test true (list_view_test w (λ c. true)) (array_with x (record { offsets = first_buffer x k; sizes = second_buffer x k; child = child_of x (suc k) }) k)

  abbrev pub list_rule : ℕ → Bool
  list_rule w = one_in && array_test true (list_test w (λ c. true)) (array_with x (record { offsets = first_buffer x k; child = child_of x (suc k) }) k)

  -- a union's ids, and the node of each child
  abbrev pub sparse_rule : List ℕ → (ℕ → ℕ) → Bool
  sparse_rule ids node =
      one_in && array_test false (sparse_test ids (λ c a. true)) (array_with x (record { ids = first_buffer x k; children = λ c. child_of x (node c) }) k)

  abbrev pub dense_rule : List ℕ → (ℕ → ℕ) → Bool
  dense_rule ids node =
      two_in
      && array_test false (dense_test ids (λ c a. true)) (array_with x (record { ids = first_buffer x k; positions = second_buffer x k; children = λ c. child_of x (node c) }) k)

  -- the run ends are the next node, whose own rule says where they lie
  abbrev pub run_end_rule : ℕ → Bool
  run_end_rule w =
      held x k && valid_in x k
      && array_test false (run_end_test w (λ a. true)) (array_with x (record { ends = array_with x (first_buffer x (suc k)) (suc k); values = child_of x (suc (suc k)) }) k)

  abbrev pub dictionary_rule : Number → Bool
  dictionary_rule n =
      one_in
      && array_test true (dictionary_test n (λ a. true)) (array_with x (record { keys = first_buffer x k; values = child_of x (suc k); starts = [] }) k)
