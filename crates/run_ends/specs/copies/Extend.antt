-- The Rust's `build_extend_arrays`, branch by branch: the run ends and the range of values that a copy adds.
-- Follows arrow-data 60.1.0 src/transform/run.rs, Apache-2.0; see NOTICE. Assumes nothing.
-- Its `typed_slice` has `length` run ends, so that the test `i < typed_slice.len()` holds at each turn. Where the ends rise, none is
-- negative, so that `to_usize` answers; and what `usize_as` casts is at most a run end, so that the cast keeps it.
use Rattle.std.specs.Prelude.{ℕ, zero, suc, ◌+◌, ◌*◌, ◌-◌, ◌/◌, ◌^◌, cond, ◌&&◌, List, [], ◌++◌, ltb, leb, Option, Some, None}
use Rattle.number.specs.Number.{entry, encode}
use Rattle.run_ends.specs.Clip.{clipped}
use Rattle.run_ends.specs.declared.RunRange.{RunRange}

-- values_range
pub data ValuesRange : Type 0 where
  none : ValuesRange
  some : ℕ → ℕ → ValuesRange

-- run_ends_bytes with values_range, the overflow error, or the panic of an `expect`
pub data Extended : Type 0 where
  ok : List ℕ → ValuesRange → Extended
  overflow : Extended
  panic : Extended

-- current_run_end.checked_add(d) in a signed type of w bytes
abbrev pub checked_add : ℕ → ℕ → ℕ → (ℕ → Extended) → Extended
checked_add w current d next = cond (ltb (current + d) (256 ^ w / 2)) (next (current + d)) overflow

-- values_range.expect(..).0
abbrev pub expect : ValuesRange → (ℕ → Extended) → Extended
expect none next = panic
expect (some a b) next = next a

-- the three branches at run i, which ends at runEnd; `next` is what follows them in the loop's body
unfoldable pub branches : ℕ → ℕ → ℕ → ℕ → ℕ → ℕ → ℕ → List ℕ → ValuesRange → (ℕ → List ℕ → ValuesRange → Extended) → Extended
branches w start end i runEnd prevEnd current bytes values next =
    cond (leb prevEnd start && ltb start runEnd)
    (checked_add w current (cond (leb end runEnd) (end - prevEnd) (runEnd - prevEnd) - (start - prevEnd))
    (λ c. next c (bytes ++ encode w c) (some i (suc i))))
    (cond (leb start prevEnd && leb runEnd end)
    (checked_add w current (runEnd - prevEnd) (λ c. expect values (λ a. next c (bytes ++ encode w c) (some a (suc i)))))
    (cond (ltb prevEnd end && leb end runEnd)
    (checked_add w current (end - prevEnd) (λ c. expect values (λ a. ok (bytes ++ encode w c) (some a (suc i)))))
    (next current bytes values)))

-- the loop from run i on, with `left` runs to go; typedSlice k is the end of run k
unfoldable pub extend_loop : ℕ → (ℕ → ℕ) → ℕ → ℕ → ℕ → ℕ → ℕ → ℕ → List ℕ → ValuesRange → Extended
extend_loop w typedSlice start end zero i prevEnd current bytes values = ok bytes values
extend_loop w typedSlice start end (suc left) i prevEnd current bytes values =
    branches w start end i (typedSlice i) prevEnd current bytes values
    (λ c b v. cond (leb end (typedSlice i)) (ok b v) (extend_loop w typedSlice start end left (suc i) (typedSlice i) c b v))

-- build_extend_arrays on n run ends that stand in s from the byte `from` on
abbrev pub extend_arrays : ℕ → List ℕ → ℕ → ℕ → ℕ → ℕ → ℕ → Extended
extend_arrays w s from n start len last = extend_loop w (entry w s from) start (start + len) n 0 0 last [] none

-- what a copy of the rows start .. end - 1 adds by the functions of this crate, from the runs of the range on
abbrev pub added : ℕ → List ℕ → ℕ → ℕ → ℕ → ℕ → Option RunRange → Extended
added w s from start end last (Some r) =
    cond (ltb (last + (end - start)) (256 ^ w / 2))
    (ok (clipped w s (from + w * r.first.0) r.count start end last) (some r.first.0 (r.first.0 + r.count)))
    overflow
added w s from start end last None = ok [] none
