-- A PLAN THAT A WALK STAYS IN, tested at every order: its nodes are trees one in the other, and the nodes that a walk comes to have parts
-- (01: "An order given a state .. other than the last call left them gets 12 or 14 where it can't be carried out inside the lent memory").
-- An opening writes no other plan. Assumes nothing.
use Rattle.std.specs.Prelude.{Bool, true, cond, ◌&&◌, List, ℕ, suc, ◌+◌, ◌-◌, leb, ltb, eqb}
use Rattle.columnar.specs.Test.{every, only_if}
use Rattle.schema.specs.formats.Code.{is_fixed, is_run_end}
use Rattle.walk.specs.State.{code_of, dictionary_of, end_of}
use Rattle.refinement.specs.log_in_room.Reach.{has_item}
use Rattle.plan.specs.parts.Parts.{nodes_of, copied}
use Rattle.columns.specs.Grounds.{ceiling}

module _ (plan : List ℕ) where
  -- the nodes below node i end where it ends, or before
  unfoldable pub nested_in : ℕ → Bool
  nested_in i = every (λ k. leb (end_of plan (suc i + k)) (end_of plan i)) (end_of plan i - suc i)

  -- run ends are numbers without a dictionary, and values stand behind them
  unfoldable pub ends_sound : ℕ → Bool
  ends_sound i = ltb (suc (suc i)) (end_of plan i) && eqb (dictionary_of plan (suc i)) 0 && is_fixed (code_of plan (suc i))

  -- only numbers have a dictionary (codes up to 10); a list-view or list has its child, a run-end node run ends and values
  unfoldable pub kind_sound : ℕ → Bool
  kind_sound i =
      cond (leb (code_of plan i) 10) true
      (eqb (dictionary_of plan i) 0
      && cond (has_item (code_of plan i)) (ltb (suc i) (end_of plan i)) (cond (is_run_end (code_of plan i)) (ends_sound i) true))

  -- node i of n: it ends behind itself, and what then stands there is no kept dictionary's values
  unfoldable pub node_sound : ℕ → ℕ → Bool
  node_sound n i = ltb i (end_of plan i) && leb (end_of plan i) n && nested_in i && kind_sound i && only_if (ltb (end_of plan i) n) (copied plan (end_of plan i))

  -- every node, and there is one
  unfoldable pub plan_sound : Bool
  plan_sound = ltb 0 (nodes_of plan) && every (node_sound (nodes_of plan)) (nodes_of plan)

  -- an order can be walked: the plan is sound, and a room of m bytes is a body
  unfoldable pub walkable : ℕ → Bool
  walkable m = leb m ceiling && plan_sound
