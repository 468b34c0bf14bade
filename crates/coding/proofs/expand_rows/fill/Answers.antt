-- `run_coding::expand::fill` meets its contract: room has the number i times at `at`. Assumes nothing.
use mathlib.Core.Path.{◌≡◌, sym, ◌∙◌}
use Prim.Native.Nat.{ℕ, ◌+◌, ◌*◌, ◌≤◌, ◌<◌}
use native.Mathlib.Nat.{mul_comm}
use native.Mathlib.Omega.{arith}
use Rattle.columnar.proofs.Items.{entry_end}
use Rattle.utils.proofs.Laws.{repeated_none, repeated_step}
use Rattle.coding.proofs.expand_rows.fill.Goals as goal

inside : (w i n : ℕ) → i < n → w * i + w ≤ w * n
inside w i n h = let a = mul_comm w i in let b = mul_comm w n in let z = entry_end w h in omega (arith, a, b, z)

more : (w i : ℕ) → w * (i + 1) ≡ w * i + w
more w i = omega arith

pub loop-i-init : goal.loop-i-init
loop-i-init g c = sym (repeated_none _ _ _ _)

pub overflow_mul-SIZE : goal.overflow_mul-SIZE
overflow_mul-SIZE g c = let z = inside g.N.Unsigned.SIZE c.loop-i.i c.args.n c.loop-i-test.true in rw c.SIZE.ensures (omega (arith, z, c.requires))

pub overflow_add-at : goal.overflow_add-at
overflow_add-at g c = let z = inside g.N.Unsigned.SIZE c.loop-i.i c.args.n c.loop-i-test.true in rw c.SIZE.ensures (omega (arith, z, c.requires))

pub write_number-requires : goal.write_number-requires
write_number-requires g c =
    let z = inside g.N.Unsigned.SIZE c.loop-i.i c.args.n c.loop-i-test.true in
    rw c.SIZE.ensures (omega (arith, z, c.requires))

pub loop-i-preserved : goal.loop-i-preserved
loop-i-preserved g c =
    let a = c.args in
    let l = c.loop-i in
    let z = inside g.N.Unsigned.SIZE l.i a.n c.loop-i-test.true in
    cc (repeated_step g.N.Unsigned.SIZE a.v a.room.now a.at l.i (omega (arith, z, more g.N.Unsigned.SIZE l.i, c.requires)))

pub returns : goal.returns
returns g c =
    let e : c.loop-i.i ≡ c.args.n = omega arith in
    c.loop-i.invariant ∙ rw e
