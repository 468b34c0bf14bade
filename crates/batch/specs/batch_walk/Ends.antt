-- Where parts end that rise, as a number of 64 bits. Assumes nothing.
use Rattle.std.specs.Prelude.{cond, List, ℕ, zero, suc, ◌+◌, min, leb}
use Rattle.walk.specs.State.{top}
use Rattle.walk.specs.Log.{start_of}
use Rattle.plan.specs.parts.Parts.{has_part, size_of}

module _ (plan parts : List ℕ) where
  -- where the part of buffer b of node i ends, if it has one; the largest number if it starts before the byte `end`
  unfoldable pub end_behind : ℕ → ℕ → ℕ → ℕ
  end_behind i b end = cond (has_part plan i b) (cond (leb end (start_of plan parts i b)) (min (start_of plan parts i b + size_of plan parts i b) top) top) end

  -- the last of n nodes from node i on
  unfoldable pub end_from : ℕ → ℕ → ℕ → ℕ
  end_from zero i end = end
  end_from (suc n) i end = end_from n (suc i) (end_behind i 2 (end_behind i 1 (end_behind i 0 end)))
