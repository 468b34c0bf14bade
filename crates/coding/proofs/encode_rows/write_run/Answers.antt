-- `run_coding::encode::write_run` meets its contract. Assumes nothing.
use mathlib.Core.Path.{◌≡◌, ◌∙◌}
use mathlib.Core.Bool.{Bool, true, false}
use mathlib.Core.List.{List}
use Prim.Native.Nat.{ℕ, ◌+◌, ◌*◌, ◌≤◌}
use native.Mathlib.Omega.{arith}
use native.Mathlib.Numerals.{add-one}
use lib.ListN.{replicate}
use Rattle.number.specs.Number.{splice, encode}
use Rattle.bits.specs.Bits.{put_bits}
use Rattle.coding.specs.run_coding.Rows.{as_bit, cell_of}
use Rattle.coding.specs.run_coding.Writes.{Fits, bits_written, run_written}
use Rattle.coding.proofs.encode_rows.write_run.Goals as goal

-- where run k's end and value stand
end_in_lem : {w e ends values mask size : ℕ} {masked : Bool} (k : ℕ) → Fits w masked e ends values mask size (k + 1) → ends + k * e + e ≤ size
end_in_lem {e = e} k f = let z : (k + 1) * e ≡ k * e + e = omega arith in omega (arith, z, f.of_ends)

value_in : {w e ends values mask size : ℕ} {masked : Bool} (k : ℕ) → Fits w masked e ends values mask size (k + 1) → values + k * w + w ≤ size
value_in {w = w} k f = let z : (k + 1) * w ≡ k * w + w = omega arith in omega (arith, z, f.of_values)

module _ (w : ℕ) (masked : Bool) (e ends values mask k r : ℕ) (valid : Bool) (x : ℕ) (room : List ℕ) where
  wrote : {room1 room2 room3 : List ℕ} {y : ℕ} → room1 ≡ splice (ends + k * e) (encode e (r + 1)) room → y ≡ cell_of valid x → room2 ≡ splice (values + k * w) (encode w y) room1
      → masked ≡ true → room3 ≡ put_bits (8 * mask + k) (replicate 1 (as_bit valid)) room2 → room3 ≡ run_written w masked e ends values mask k r valid x room
  unfolding run_written bits_written
  wrote a b c d h = h ∙ rw (d, c, b, a, add-one r)

  wrote_two : {room1 room2 : List ℕ} {y : ℕ} → room1 ≡ splice (ends + k * e) (encode e (r + 1)) room → y ≡ cell_of valid x → room2 ≡ splice (values + k * w) (encode w y) room1
      → masked ≡ false → room2 ≡ run_written w masked e ends values mask k r valid x room
  unfolding run_written bits_written
  wrote_two a b c d = c ∙ rw (d, b, a, add-one r)

pub overflow_mul-k : goal.overflow_mul-k
overflow_mul-k g c = let z = end_in_lem c.args.k c.requires.1 in omega (arith, z)

pub overflow_add-t : goal.overflow_add-t
overflow_add-t g c = let z = end_in_lem c.args.k c.requires.1 in omega (arith, z)

pub overflow_add-r : goal.overflow_add-r
overflow_add-r g c = omega (arith, c.requires.2)

pub write_entry-requires : goal.write_entry-requires
write_entry-requires g c = (c.requires.0, end_in_lem c.args.k c.requires.1)

pub overflow_mul-k-2 : goal.overflow_mul-k-2
overflow_mul-k-2 g c = let z = value_in c.args.k c.requires.1 in rw c.SIZE.ensures (omega (arith, z))

pub overflow_add-t-2 : goal.overflow_add-t-2
overflow_add-t-2 g c = let z = value_in c.args.k c.requires.1 in rw c.SIZE.ensures (omega (arith, z))

pub write_number-requires : goal.write_number-requires
write_number-requires g c = let z = value_in c.args.k c.requires.1 in rw c.SIZE.ensures (omega (arith, z))

pub write_bits-requires : goal.write_bits-requires
write_bits-requires g c = let z = c.requires.1.of_bits c.if-masked.true in omega (arith, z)

pub returns-then-masked : goal.returns-then-masked
returns-then-masked g c =
    let z = c.args in
    wrote g.N.Unsigned.SIZE z.masked z.e z.t.ends z.t.values z.t.mask z.k z.r z.valid z.x z.room.now c.write_entry.ensures c.cell_of.ensures (rw c.SIZE.ensures at c.write_number.ensures) c.if-masked.true c.write_bits.ensures

pub returns-else-masked : goal.returns-else-masked
returns-else-masked g c =
    let z = c.args in
    wrote_two g.N.Unsigned.SIZE z.masked z.e z.t.ends z.t.values z.t.mask z.k z.r z.valid z.x z.room.now c.write_entry.ensures c.cell_of.ensures (rw c.SIZE.ensures at c.write_number.ensures) c.if-masked.false
