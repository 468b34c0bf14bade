-- 13: "the bytes due in the first small part", in the parts' order, with the node of that part. Assumes nothing.
use Rattle.std.specs.Prelude.{cond, List, ℕ, zero, suc, max, eqb}
use Rattle.walk.specs.State.{code_of, rows, bytes}
use Rattle.plan.specs.parts.Parts.{nodes_of, needed_by, size_of, part_holds}
use Rattle.explain.specs.declared.stops.Why.{Why}
use Rattle.explain.specs.stops.Why.{nothing, clash, unless}

-- `all`: the rows that the destination comes to; node 0's counter stays at the largest number where they are more
module _ (plan counters parts : List ℕ) (all : ℕ) where
  abbrev pub rows_due : ℕ → ℕ
  rows_due i = cond (eqb i 0) (max all (rows counters 0)) (rows counters i)

  -- the bytes of buffer b of node i
  abbrev pub bytes_due : ℕ → ℕ → ℕ
  bytes_due i b = needed_by (code_of plan i) (rows_due i) (bytes counters i) b

  unfoldable pub why_part : ℕ → ℕ → Why → Why
  why_part i b rest = unless (part_holds plan counters parts i b) (clash 13 i 0 (bytes_due i b) (size_of plan parts i b)) rest

  -- n nodes from node i on: a node's validity, then its buffers
  unfoldable pub why_parts_from : ℕ → ℕ → Why
  why_parts_from zero i = nothing
  why_parts_from (suc n) i = why_part i 0 (why_part i 1 (why_part i 2 (why_parts_from n (suc i))))

  abbrev pub why_parts : Why
  why_parts = why_parts_from (nodes_of plan) 0
