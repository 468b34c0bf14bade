-- Parts that stand in the room in the order of the nodes and their buffers: no two of them share a byte, whatever the plan is. Assumes nothing.
use Rattle.std.specs.Prelude.{Bool, true, cond, ◌&&◌, List, ℕ, zero, suc, ◌+◌, leb, ltb}
use Rattle.columnar.specs.Test.{only_if}
use Rattle.walk.specs.Log.{start_of}
use Rattle.plan.specs.parts.Parts.{nodes_of, copied, has_part, size_of}

-- the plan counts node i, and its buffers have parts
abbrev pub owned : List ℕ → ℕ → Bool
owned plan i = ltb i (nodes_of plan) && copied plan i

module _ (plan parts : List ℕ) where
  -- the part of buffer b of node i, if it has one, starts at or behind the byte `end`
  abbrev pub behind : ℕ → ℕ → ℕ → Bool
  behind i b end = only_if (has_part plan i b) (leb end (start_of plan parts i b))

  -- where it ends, and `end` if there is none
  abbrev pub stop : ℕ → ℕ → ℕ → ℕ
  stop i b end = cond (has_part plan i b) (start_of plan parts i b + size_of plan parts i b) end

  -- those of n nodes from node i on, one behind the other from the byte `end` on
  unfoldable pub rise_from : ℕ → ℕ → ℕ → Bool
  rise_from zero i end = true
  rise_from (suc n) i end =
      behind i 0 end && (behind i 1 (stop i 0 end) && (behind i 2 (stop i 1 (stop i 0 end)) && rise_from n (suc i) (stop i 2 (stop i 1 (stop i 0 end)))))

  -- "each starts at or behind the end of the one before"
  abbrev pub parts_rise : Bool
  parts_rise = rise_from (nodes_of plan) 0 0
