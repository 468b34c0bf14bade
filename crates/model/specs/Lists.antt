-- Lists. Follows arrow-data 60.1.0 src/transform/list.rs, Apache-2.0; see NOTICE. Assumes nothing.
use Rattle.std.specs.Prelude.{List, ◌++◌, ℕ, zero, suc, ◌+◌, ◌-◌, replicate}
use Rattle.columnar.specs.Array.{Array, item}
use Rattle.columnar.specs.List.{Listed}
use Rattle.columnar.specs.Entries.{encodes}
use Rattle.model.specs.Try.{Try, done, then}
use Rattle.model.specs.Mutable.{Mutable}
use Rattle.model.specs.Primitive.{new_offsets}

pub record Listings (D : Type 0) : Type 0 where
  pub buffer1 : List ℕ
  pub child : Mutable D

-- "one child stretch to a copy, all its offsets (6) before that stretch"; extend: the child's copy from the same source, l: the rows before.
-- (The Rust hands a copy of no rows on to the child, which adds nothing: `copy-none`. An empty offsets buffer has nothing to hand on.)
abbrev pub lists_extend : {P D : Type 0} → ℕ → (ℕ → ℕ → Mutable D → Try (Mutable D)) → Listed P → ℕ → ℕ → ℕ → Listings D → Try (Listings D)
lists_extend w extend s a zero l d = done d
lists_extend w extend s a (suc n) l d =
    then (new_offsets w s.offsets a (suc n) (item w d.buffer1 l))
    (λ os.
    then (extend (item w s.offsets a) (item w s.offsets (a + suc n) - item w s.offsets a) d.child)
    (λ c. done (record { buffer1 = d.buffer1 ++ os; child = c })))

-- "a null repeats the last offset"
abbrev pub lists_nulls : {D : Type 0} → ℕ → ℕ → ℕ → Listings D → Try (Listings D)
lists_nulls w n l d = done (record { buffer1 = d.buffer1 ++ encodes w (replicate n (item w d.buffer1 l)); child = d.child })

abbrev pub lists_freeze : {P D : Type 0} → (Mutable D → Array P) → Listings D → Listed P
lists_freeze f d = record { offsets = d.buffer1; child = f d.child }
