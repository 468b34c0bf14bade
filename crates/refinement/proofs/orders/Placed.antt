-- The parts that an opening takes lie as an order wants them. Assumes nothing.
use mathlib.Core.Path.{◌≡◌}
use mathlib.Core.Bool.{true}
use mathlib.Core.List.{List}
use Prim.Native.Nat.{ℕ, ◌<◌, ◌^◌}
use Rattle.refinement.specs.log_in_room.Room.{Placed}
use Rattle.plan.specs.parts.Parts.{Apart, before, behind, first_empty, second_empty, part_total, parts_placed, Used, Numbered}
use Rattle.plan.proofs.parts.Placed.{used_in, used_apart}

as_apart : {a m b n : ℕ} → Apart a m b n → Rattle.refinement.specs.log_in_room.Room.Apart a m b n
as_apart (before h) = Rattle.refinement.specs.log_in_room.Room.Apart.before h
as_apart (behind h) = Rattle.refinement.specs.log_in_room.Room.Apart.behind h
as_apart (first_empty h) = Rattle.refinement.specs.log_in_room.Room.Apart.first_empty h
as_apart (second_empty h) = Rattle.refinement.specs.log_in_room.Room.Apart.second_empty h

-- `placed-within` of crate `parts` has the test of each order
pub placed_by : (plan parts : List ℕ) (m : ℕ) → Numbered plan → parts_placed parts (part_total plan) m ≡ true → m < 2 ^ 63 → Placed plan parts (Used plan) m
placed_by plan parts m n h s =
    record { small = s; inside = used_in plan parts m n h; apart = λ i b j e u v d. as_apart (used_apart plan parts m n h i b j e u v d) }
