-- The sizes of numbers. Assumes nothing.
use Rattle.std.specs.Prelude.{ℕ, ◌≤◌}
use Rattle.std.proofs.Common.{arith}

-- from 1 to 8 bytes
pub record Sized (w : ℕ) : Type 0 where
  pub some : 1 ≤ w
  pub eight : w ≤ 8

pub sized_1 : Sized 1
sized_1 = record { some = omega arith; eight = omega arith }

pub sized_2 : Sized 2
sized_2 = record { some = omega arith; eight = omega arith }

pub sized_4 : Sized 4
sized_4 = record { some = omega arith; eight = omega arith }

pub sized_8 : Sized 8
sized_8 = record { some = omega arith; eight = omega arith }
