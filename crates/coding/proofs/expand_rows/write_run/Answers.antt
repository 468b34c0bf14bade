-- `run_coding::expand::write_run` meets its contract. Assumes nothing.
use mathlib.Core.Path.{◌≡◌, ◌∙◌}
use mathlib.Core.Bool.{Bool, true, false}
use mathlib.Core.List.{List}
use Prim.Native.Nat.{ℕ, ◌+◌, ◌*◌, ◌≤◌}
use native.Mathlib.Nat.{mul_comm}
use native.Mathlib.Omega.{arith}
use lib.ListN.{replicate}
use Rattle.number.specs.Number.{splice}
use Rattle.bits.specs.Bits.{put_bits}
use Rattle.utils.specs.Offsets.{repeated}
use Rattle.coding.specs.run_coding.Rows.{as_bit, cell_of}
use Rattle.coding.specs.run_coding.Writes.{Holds, bits_written, rows_written}
use Rattle.coding.proofs.expand_rows.write_run.Goals as goal

-- where the rows stand
rows_in_lem : {w values mask size : ℕ} {masked : Bool} (r n : ℕ) → Holds w masked values mask size (r + n) → values + r * w + w * n ≤ size
rows_in_lem {w = w} r n f = let z : (r + n) * w ≡ r * w + n * w = omega arith in omega (arith, z, mul_comm w n, f.of_values)

module _ (w : ℕ) (masked : Bool) (values mask r n : ℕ) (valid : Bool) (x : ℕ) (room : List ℕ) where
  wrote : {room1 room2 : List ℕ} {y : ℕ} → y ≡ cell_of valid x → room1 ≡ splice (values + r * w) (repeated w y n) room → masked ≡ true
      → room2 ≡ put_bits (8 * mask + r) (replicate n (as_bit valid)) room1 → room2 ≡ rows_written w masked values mask r n valid x room
  unfolding rows_written bits_written
  wrote a b d h = h ∙ rw (d, b, a)

  wrote_one : {room1 : List ℕ} {y : ℕ} → y ≡ cell_of valid x → room1 ≡ splice (values + r * w) (repeated w y n) room → masked ≡ false
      → room1 ≡ rows_written w masked values mask r n valid x room
  unfolding rows_written bits_written
  wrote_one a b d = b ∙ rw (d, a)

pub overflow_mul-r : goal.overflow_mul-r
overflow_mul-r g c = let z = rows_in_lem c.args.r c.args.n c.requires in rw c.SIZE.ensures (omega (arith, z))

pub overflow_add-t : goal.overflow_add-t
overflow_add-t g c = let z = rows_in_lem c.args.r c.args.n c.requires in rw c.SIZE.ensures (omega (arith, z))

pub fill_by-requires : goal.fill_by-requires
fill_by-requires g c = rw c.SIZE.ensures (rows_in_lem c.args.r c.args.n c.requires)

pub write_bits-requires : goal.write_bits-requires
write_bits-requires g c = let z = c.requires.of_bits c.if-masked.true in omega (arith, z)

pub returns-then-masked : goal.returns-then-masked
returns-then-masked g c =
    let z = c.args in
    wrote g.N.Unsigned.SIZE z.masked z.t.values z.t.mask z.r z.n z.valid z.x z.room.now c.cell_of.ensures (rw c.SIZE.ensures at c.fill_by.ensures) c.if-masked.true c.write_bits.ensures

pub returns-else-masked : goal.returns-else-masked
returns-else-masked g c =
    let z = c.args in
    wrote_one g.N.Unsigned.SIZE z.masked z.t.values z.t.mask z.r z.n z.valid z.x z.room.now c.cell_of.ensures (rw c.SIZE.ensures at c.fill_by.ensures) c.if-masked.false
