-- What the words of a plan say of who keeps nulls and which dictionaries are joined, node by node, where the children of a union are
-- those that the walk finds (plan/specs/Opened.antt has it by a tree too). Assumes nothing.
use Rattle.std.specs.Prelude.{Bool, List, ℕ}
use Rattle.columnar.specs.Types.{Ty}
use Rattle.columnar.specs.Reading.{Body}
use Rattle.plan.specs.Opened.{OpenedBelow}
use Rattle.refinement.specs.walk_is_model.Holds.{in_plan}

abbrev pub Kept : List ℕ → ℕ → (t : Ty) → ℕ → Bool → (ℕ → Body t) → Type 0
Kept plan = OpenedBelow plan (in_plan plan)
