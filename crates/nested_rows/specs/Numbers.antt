-- The walk's steps at a node with children that go before, or behind, the children's own. Assumes nothing.
use Rattle.std.specs.Prelude.{◌&&◌, List, [], ◌∷◌, ℕ, suc, ◌+◌, ◌-◌, ◌*◌, replicate, leb, ltb}
use Rattle.number.specs.Number.{encode}
use Rattle.columnar.specs.Types.{half}
use Rattle.utils.specs.Offsets.{counted_up}
use Rattle.run_ends.specs.Clip.{clipped}
use Rattle.walk.specs.State.{Join, bytes_of, id_of, rows, add_rows, end_gap, begin_gap, place, length_of, offset_of, rows_in}
use Rattle.walk.specs.Log.{Out, put, amend, done, wrote, need, next}
use Rattle.walk.specs.Copy.{is_width}

-- the offset and the size of row r of a list-view of node i: "Ground 6 if the sum after a row does not fit"
unfoldable pub list_numbers : ℕ → ℕ → ℕ → ℕ → List ℕ → Out
list_numbers w i r size c =
    need (ltb (rows c (suc i) + size) (half w)) 6 c
    (next (wrote (put i 1 ((rows c i + r) * w) (encode w (rows c (suc i)))) c)
    (λ c2. wrote (put i 2 ((rows c2 i + r) * w) (encode w size)) c2))

-- the id and the position of row r of a dense union of node i, whose child is node k
unfoldable pub dense_numbers : ℕ → ℕ → ℕ → ℕ → List ℕ → Out
dense_numbers i r k id c =
    need (ltb (rows c k) (half 4)) 6 c
    (next (wrote (put i 1 (rows c i + r) (id ∷ [])) c)
    (λ c2. wrote (put i 2 ((rows c2 i + r) * 4) (encode 4 (rows c2 k))) c2))

-- what is asked of a run-end node before its values are copied
unfoldable pub runs_ready : Join → ℕ → ℕ → List ℕ → Out
runs_ready x i n c =
    need (ltb (suc (suc i)) 32 && is_width (bytes_of x.plan (suc i))) 12 c
    (need (ltb (rows c i + n) (half (bytes_of x.plan (suc i)))) 7 c
    (need (rows_in x (place x (suc i) 3) (bytes_of x.plan (suc i)) (offset_of x (suc i)) (length_of x (suc i))) 12 c
    (done c)))

-- the ends of `count` runs from `run` on, clipped to the rows and counted
unfoldable pub run_numbers : Join → ℕ → ℕ → ℕ → ℕ → ℕ → ℕ → ℕ → List ℕ → Out
run_numbers x w i slot n last run count c =
    next (wrote (put (suc i) 1 (rows c (suc i) * w) (clipped w x.body (place x (suc i) 3 + w * offset_of x (suc i) + w * run) count slot (slot + n) last)) c)
    (λ c2. done (end_gap i (add_rows (suc i) count c2)))

-- n ids of the node h
abbrev pub null_ids : List ℕ → ℕ → ℕ → ℕ → List ℕ → Out
null_ids plan i h n c = wrote (put i 1 (rows c i) (replicate n (id_of plan h))) c

-- .. with their positions in that node: "dense 6"
unfoldable pub null_positions : List ℕ → ℕ → ℕ → ℕ → List ℕ → Out
null_positions plan i h n c =
    need (leb (rows c h + n) (half 4)) 6 c
    (next (null_ids plan i h n c) (λ c2. wrote (put i 2 (rows c2 i * 4) (counted_up 4 (rows c2 h) n)) c2))

-- the end of a run of n nulls: "A nonempty null order adds one run"
unfoldable pub null_end : List ℕ → ℕ → ℕ → List ℕ → Out
null_end plan i n c =
    need (ltb (rows c i + n) (half (bytes_of plan (suc i)))) 7 c
    (next (wrote (put (suc i) 1 (rows c (suc i) * bytes_of plan (suc i)) (encode (bytes_of plan (suc i)) (rows c i + n))) c)
    (λ c2. done (begin_gap i (add_rows (suc i) 1 c2))))

-- the end of the last run, n nulls later: it "lengthens the last run"
unfoldable pub longer_end : List ℕ → ℕ → ℕ → List ℕ → Out
longer_end plan i n c =
    need (leb 1 (rows c (suc i))) 12 c
    (need (ltb (rows c i + n) (half (bytes_of plan (suc i)))) 7 c
    (wrote (amend (suc i) 1 ((rows c (suc i) - 1) * bytes_of plan (suc i)) (encode (bytes_of plan (suc i)) (rows c i + n))) c))
