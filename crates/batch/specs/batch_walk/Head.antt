-- What stands before the rows of a list-view's child: its offsets and sizes. Assumes nothing.
use Rattle.std.specs.Prelude.{◌≡◌, Bool, List, ℕ, suc, ◌+◌, ◌*◌, ◌<◌, ◌≤◌, ◌^◌, length}
use Rattle.number.specs.Number.{entry}
use Rattle.walk.specs.State.{Join, place}
use Rattle.walk.specs.Log.{Out, Did}
use Rattle.walk.specs.Copy.{Walk}
use Rattle.batch.specs.Stretch.{sum_of, stretches}

-- the n offsets and sizes of w bytes stand in the body, and the sizes name `total` rows
abbrev pub Named : List ℕ → (offsets sizes w slot n total : ℕ) → Type 0
Named body offsets sizes w slot n total =
    (offsets + w * (slot + n) ≤ length body) × (sizes + w * (slot + n) ≤ length body) × (sum_of (λ q. entry w body sizes (slot + q)) n < 2 ^ 63) × (total ≡ sum_of (λ q. entry w body sizes (slot + q)) n)

-- what `rest` does from `room` on, `whole` does from `room0` on
abbrev pub Rests : (plan parts : List ℕ) → Bool → (whole : Out) (room0 : List ℕ) (rest : Out) (room : List ℕ) → Type 0
Rests plan parts write whole room0 rest room = (g : ℕ) (c2 room2 : List ℕ) → Did plan parts write rest room g c2 room2 → Did plan parts write whole room0 g c2 room2

-- the rows of the child of node i that its offsets and sizes name
abbrev pub rows_of : Join → Walk → (w i slot n : ℕ) → List ℕ → Out
rows_of x child w i slot n c = stretches (λ a m d. child (suc i) a m d) (λ r. entry w x.body (place x i 3) (slot + r)) (λ r. entry w x.body (place x i 5) (slot + r)) n c
