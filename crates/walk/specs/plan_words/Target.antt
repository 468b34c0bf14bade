-- Where a write goes. Assumes nothing.
use Rattle.std.specs.Prelude.{Bool, cond, ◌&&◌, List, Option, Some, None, ℕ, ◌+◌, ◌*◌}
use Rattle.walk.specs.Log.{start_of, in_room}

-- n bytes from byte o of buffer b of node i on, in a room of m bytes; a walk that only tries writes nothing
unfoldable pub target_of : List ℕ → List ℕ → ℕ → Bool → ℕ → ℕ → ℕ → ℕ → Option ℕ
target_of plan parts m write i b o n =
    cond (write && in_room (start_of plan parts i b) o n m) (Some (start_of plan parts i b + o)) None

-- n bits from bit p of node i's validity on: where the validity starts
unfoldable pub mask_target_of : List ℕ → List ℕ → ℕ → Bool → ℕ → ℕ → ℕ → Option ℕ
mask_target_of plan parts m write i p n =
    cond (write && in_room (8 * start_of plan parts i 0) p n (8 * m)) (Some (start_of plan parts i 0)) None
