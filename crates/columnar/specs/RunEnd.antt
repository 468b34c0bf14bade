-- Run-end encoding: run ends, and a value for each run; both children have their own offset. Assumes nothing.
use Rattle.std.specs.Prelude.{◌≡◌, Bool, true, false, List, ℕ, zero, suc, ◌+◌, ◌*◌, ◌≤◌, ◌<◌, length, T, ltb}
use Rattle.columnar.specs.Row.{Row}
use Rattle.columnar.specs.Types.{half}
use Rattle.columnar.specs.Array.{Array, item, ok, read_with, Mask}

pub record RunEnd (P : Type 0) : Type 0 where
  pub ends : Array (List ℕ)
  pub values : Array P

-- where run k ends
abbrev pub end_of : ℕ → Array (List ℕ) → ℕ → ℕ
end_of w x k = item w x.body (x.off + k)

-- the first of the n runs from k on whose end is above i; k + n where there is none
abbrev pub first_above : (ℕ → ℕ) → ℕ → ℕ → ℕ → ℕ
first_above e i k zero = k
first_above e i k (suc n) = elim (ltb i (e k)) [ true ↦ k | false ↦ first_above e i (suc k) n ]

-- "a run-end row [is] the value of the first run whose end is above offset + row"
abbrev pub run_end_at : {P : Type 0} → ℕ → (P → ℕ → Row) → RunEnd P → ℕ → Row
run_end_at w at b i = read_with at b.values (first_above (end_of w b.ends) i 0 b.ends.len)

-- where run k starts
abbrev pub start_of : (ℕ → ℕ) → ℕ → ℕ
start_of e zero = 0
start_of e (suc k) = e k

-- "run ends without nulls, rising strictly from at least 1, the last at least offset + length (no run needed if that sum is 0);
-- as many values as run ends". Run ends are signed.
pub record RunEndRule (w : ℕ) {P : Type 0} (kid : Array P → Type 0) (okay : ℕ → Bool) (b : RunEnd P) (off len : ℕ) : Type 0 where
  pub ends_mask : Mask true b.ends.valid (b.ends.off + b.ends.len)
  pub hold : (b.ends.off + b.ends.len) * w ≤ length b.ends.body
  pub no_nulls : (k : ℕ) → k < b.ends.len → T (ok b.ends.valid (b.ends.off + k))
  pub positive : (k : ℕ) → k < b.ends.len → end_of w b.ends k < half w
  pub rises : (k : ℕ) → k < b.ends.len → start_of (end_of w b.ends) k < end_of w b.ends k
  pub covers : off + len ≤ start_of (end_of w b.ends) b.ends.len
  pub as_many : b.values.len ≡ b.ends.len
  pub child_rule : kid b.values
