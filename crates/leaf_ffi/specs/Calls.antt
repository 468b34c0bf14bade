-- When a call of a leaf is done: where its ranges lie inside the slices that it is lent. Assumes nothing.
use Rattle.std.specs.Prelude.{ℕ, zero, suc, ◌+◌, ◌-◌, ◌*◌, ◌%◌, ◌^◌, Bool, ◌&&◌, List, nat_le, slice_index, Option, Some, None}
use Rattle.run_ends.specs.Lookup.{found_run}
use Rattle.run_ends.specs.declared.RunRow.{RunRow}

-- n entries of w bytes from the byte `at` on lie inside len bytes
abbrev pub inside : ℕ → ℕ → ℕ → ℕ → Bool
inside len at w n = nat_le (at + w * n) len

-- n entries of w bytes lie inside the room, and as many inside the body
abbrev pub inside_both : ℕ → ℕ → ℕ → ℕ → ℕ → ℕ → Bool
inside_both room at body from w n = inside room at w n && inside body from w n

-- n offsets of w bytes lie inside the room, and one more inside the body
abbrev pub inside_offsets : ℕ → ℕ → ℕ → ℕ → ℕ → ℕ → Bool
inside_offsets room at body from w n = inside room at w n && inside body from w (n + 1)

-- n bits from the bit b of the byte `at` on lie inside len bytes
abbrev pub inside_bits : ℕ → ℕ → ℕ → ℕ → Bool
inside_bits len at b n = nat_le (8 * at + b + n) (8 * len)

-- n bits lie inside the room, and as many inside the body
abbrev pub inside_bits_both : ℕ → ℕ → ℕ → ℕ → ℕ → ℕ → ℕ → Bool
inside_bits_both room at b body from a n = inside_bits room at b n && inside_bits body from a n

-- the run of a row, and n where the row is past the last of n runs
abbrev pub run_of : ℕ → Option RunRow → ℕ
run_of n (Some row) = row.run.0
run_of n None = n

-- the runs of the first k of the rows, added modulo 2 ^ 64: each is looked up among the n run ends of w bytes that stand in s from `from` on
unfoldable pub run_sum : ℕ → List ℕ → ℕ → ℕ → List ℕ → ℕ → ℕ
run_sum w s from n rows zero = 0
run_sum w s from n rows (suc k) =
    (run_sum w s from n rows k + run_of n (found_run w s from n (2 ^ 64 - 1) (slice_index rows k))) % 2 ^ 64
