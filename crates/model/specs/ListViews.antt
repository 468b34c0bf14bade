-- List-views. Follows arrow-data 60.1.0 src/transform/list_view.rs, Apache-2.0; see NOTICE. Assumes nothing.
use Rattle.std.specs.Prelude.{List, [], ◌++◌, ℕ, ◌+◌, ◌*◌, replicate, ltb}
use Rattle.number.specs.Number.{encode}
use Rattle.columnar.specs.Types.{half}
use Rattle.columnar.specs.Array.{Array, item}
use Rattle.columnar.specs.ListView.{ListView}
use Rattle.model.specs.Try.{Try, done, then, guard, steps_t}
use Rattle.model.specs.Mutable.{Mutable}

pub record Lists (D : Type 0) : Type 0 where
  pub buffer1 : List ℕ
  pub buffer2 : List ℕ
  pub child : Mutable D

-- a row: its offset is the child's length before its copy; then the child's rows
abbrev pub list_row : {P D : Type 0} → ℕ → (ℕ → ℕ → Mutable D → Try (Mutable D)) → ListView P → ℕ → Lists D → Try (Lists D)
list_row w extend s i d =
    guard (ltb (d.child.len + item w s.sizes i) (half w)) 6
    (then (extend (item w s.offsets i) (item w s.sizes i) d.child)
    (λ c. done (record { buffer1 = d.buffer1 ++ encode w d.child.len; buffer2 = d.buffer2 ++ encode w (item w s.sizes i); child = c })))

-- "A null is offset 0, size 0"
abbrev pub list_nulls : {D : Type 0} → ℕ → ℕ → Lists D → Try (Lists D)
list_nulls w n d = done (record { buffer1 = d.buffer1 ++ replicate (n * w) 0; buffer2 = d.buffer2 ++ replicate (n * w) 0; child = d.child })

abbrev pub list_freeze : {P D : Type 0} → (Mutable D → Array P) → Lists D → ListView P
list_freeze f d = record { offsets = d.buffer1; sizes = d.buffer2; child = f d.child }
