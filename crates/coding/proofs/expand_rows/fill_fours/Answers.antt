-- `expand_rows::fill_fours` meets its contract: room has the number at least i times at `at`. Assumes nothing.
use mathlib.Core.Path.{◌≡◌}
use Prim.Native.Nat.{ℕ, ◌+◌, ◌*◌, ◌≤◌, ◌-◌}
use native.Mathlib.Omega.{arith}
use lib.ListN.{length}
use Rattle.coding.proofs.Fours.{scale_le, block_in, begun, turned, ended}
use Rattle.coding.proofs.expand_rows.fill_fours.Goals as goal

pub fill-requires-2 : goal.fill-requires-2
fill-requires-2 g c =
    (omega (arith, c.requires, scale_le g.N.Unsigned.SIZE 4 c.args.n c.if-n-lt4.false))

pub loop-i-init : goal.loop-i-init
loop-i-init g c =
    let z : length c.fill-2.new.room ≡ length c.args.room.now = omega arith in
    begun g.N.Unsigned.SIZE c.args.v c.fill-2.new.room c.args.at c.args.n (omega (arith, c.requires, z)) c.args.room.now
    c.if-n-lt4.false (omega arith) z c.fill-2.ensures

pub overflow_mul-SIZE : goal.overflow_mul-SIZE
overflow_mul-SIZE g c = rw c.SIZE.ensures (omega (arith, (let fact : (i : ℕ) → i + 4 ≤ c.args.n → c.args.at + g.N.Unsigned.SIZE * i + g.N.Unsigned.SIZE * 4 ≤ length c.loop-i.room = λ i₁ h₁. omega (arith, c.loop-i.invariant.sized, block_in g.N.Unsigned.SIZE c.args.v ((c.fill-2.new.room)) c.args.at c.args.n ((let fact : c.args.at + g.N.Unsigned.SIZE * c.args.n ≤ length ((c.fill-2.new.room)) = omega (arith, c.requires, ((let fact : length ((c.fill-2.new.room)) ≡ length c.args.room.now = omega arith in fact))) in fact)) i₁ h₁) in fact) c.loop-i.i ((let fact : c.loop-i.i + 4 ≤ c.args.n = omega (arith, c.loop-i-test.true, (let fact : 4 ≤ c.args.n = c.if-n-lt4.false in fact)) in fact))))

pub overflow_add-at : goal.overflow_add-at
overflow_add-at g c = rw c.SIZE.ensures (omega (arith, (let fact : (i : ℕ) → i + 4 ≤ c.args.n → c.args.at + g.N.Unsigned.SIZE * i + g.N.Unsigned.SIZE * 4 ≤ length c.loop-i.room = λ i₁ h₁. omega (arith, c.loop-i.invariant.sized, block_in g.N.Unsigned.SIZE c.args.v ((c.fill-2.new.room)) c.args.at c.args.n ((let fact : c.args.at + g.N.Unsigned.SIZE * c.args.n ≤ length ((c.fill-2.new.room)) = omega (arith, c.requires, ((let fact : length ((c.fill-2.new.room)) ≡ length c.args.room.now = omega arith in fact))) in fact)) i₁ h₁) in fact) c.loop-i.i ((let fact : c.loop-i.i + 4 ≤ c.args.n = omega (arith, c.loop-i-test.true, (let fact : 4 ≤ c.args.n = c.if-n-lt4.false in fact)) in fact))))

pub fill-requires-in-loop-i : goal.fill-requires-in-loop-i
fill-requires-in-loop-i g c = rw c.SIZE.ensures (((let fact : (i : ℕ) → i + 4 ≤ c.args.n → c.args.at + g.N.Unsigned.SIZE * i + g.N.Unsigned.SIZE * 4 ≤ length c.loop-i.room = λ i₁ h₁. omega (arith, c.loop-i.invariant.sized, block_in g.N.Unsigned.SIZE c.args.v ((c.fill-2.new.room)) c.args.at c.args.n ((let fact : c.args.at + g.N.Unsigned.SIZE * c.args.n ≤ length ((c.fill-2.new.room)) = omega (arith, c.requires, ((let fact : length ((c.fill-2.new.room)) ≡ length c.args.room.now = omega arith in fact))) in fact)) i₁ h₁) in fact) c.loop-i.i ((let fact : c.loop-i.i + 4 ≤ c.args.n = omega (arith, c.loop-i-test.true, (let fact : 4 ≤ c.args.n = c.if-n-lt4.false in fact)) in fact))))

pub overflow_add-i : goal.overflow_add-i
overflow_add-i g c = omega (arith, (let fact : c.loop-i.i + 4 ≤ c.args.n = omega (arith, c.loop-i-test.true, (let fact : 4 ≤ c.args.n = c.if-n-lt4.false in fact)) in fact))

pub loop-i-smaller : goal.loop-i-smaller
loop-i-smaller g c = omega (arith, (let fact : c.loop-i.i + 4 ≤ c.args.n = omega (arith, c.loop-i-test.true, (let fact : 4 ≤ c.args.n = c.if-n-lt4.false in fact)) in fact))

pub loop-i-preserved : goal.loop-i-preserved
loop-i-preserved g c =
    turned g.N.Unsigned.SIZE c.args.v ((c.fill-2.new.room)) c.args.at c.args.n ((let fact : c.args.at + g.N.Unsigned.SIZE * c.args.n ≤ length ((c.fill-2.new.room)) = omega (arith, c.requires, ((let fact : length ((c.fill-2.new.room)) ≡ length c.args.room.now = omega arith in fact))) in fact)) c.loop-i.invariant ((let fact : c.loop-i.i + 4 ≤ c.args.n = omega (arith, c.loop-i-test.true, (let fact : 4 ≤ c.args.n = c.if-n-lt4.false in fact)) in fact))
    (omega (arith, c.loop-i.invariant.sized)) (rw c.SIZE.ensures at c.fill-in-loop-i.ensures)

pub overflow_mul-SIZE-2 : goal.overflow_mul-SIZE-2
overflow_mul-SIZE-2 g c = rw c.SIZE-2.ensures (omega (arith, (let fact : (i : ℕ) → i + 4 ≤ c.args.n → c.args.at + g.N.Unsigned.SIZE * i + g.N.Unsigned.SIZE * 4 ≤ length c.loop-i.room = λ i₁ h₁. omega (arith, c.loop-i.invariant.sized, block_in g.N.Unsigned.SIZE c.args.v ((c.fill-2.new.room)) c.args.at c.args.n ((let fact : c.args.at + g.N.Unsigned.SIZE * c.args.n ≤ length ((c.fill-2.new.room)) = omega (arith, c.requires, ((let fact : length ((c.fill-2.new.room)) ≡ length c.args.room.now = omega arith in fact))) in fact)) i₁ h₁) in fact) (c.args.n - 4) (omega (arith, (let fact : 4 ≤ c.args.n = c.if-n-lt4.false in fact)))))

pub overflow_add-at-2 : goal.overflow_add-at-2
overflow_add-at-2 g c = rw c.SIZE-2.ensures (omega (arith, (let fact : (i : ℕ) → i + 4 ≤ c.args.n → c.args.at + g.N.Unsigned.SIZE * i + g.N.Unsigned.SIZE * 4 ≤ length c.loop-i.room = λ i₁ h₁. omega (arith, c.loop-i.invariant.sized, block_in g.N.Unsigned.SIZE c.args.v ((c.fill-2.new.room)) c.args.at c.args.n ((let fact : c.args.at + g.N.Unsigned.SIZE * c.args.n ≤ length ((c.fill-2.new.room)) = omega (arith, c.requires, ((let fact : length ((c.fill-2.new.room)) ≡ length c.args.room.now = omega arith in fact))) in fact)) i₁ h₁) in fact) (c.args.n - 4) (omega (arith, (let fact : 4 ≤ c.args.n = c.if-n-lt4.false in fact)))))

pub fill-requires-3 : goal.fill-requires-3
fill-requires-3 g c = rw c.SIZE-2.ensures (((let fact : (i : ℕ) → i + 4 ≤ c.args.n → c.args.at + g.N.Unsigned.SIZE * i + g.N.Unsigned.SIZE * 4 ≤ length c.loop-i.room = λ i₁ h₁. omega (arith, c.loop-i.invariant.sized, block_in g.N.Unsigned.SIZE c.args.v ((c.fill-2.new.room)) c.args.at c.args.n ((let fact : c.args.at + g.N.Unsigned.SIZE * c.args.n ≤ length ((c.fill-2.new.room)) = omega (arith, c.requires, ((let fact : length ((c.fill-2.new.room)) ≡ length c.args.room.now = omega arith in fact))) in fact)) i₁ h₁) in fact) (c.args.n - 4) (omega (arith, (let fact : 4 ≤ c.args.n = c.if-n-lt4.false in fact)))))

pub shape_of-room : goal.shape_of-room
shape_of-room g c =
    omega (arith, (let fact : length ((c.fill-2.new.room)) ≡ length c.args.room.now = omega arith in fact), c.loop-i.invariant.sized)

pub returns : goal.returns
returns g c =
    ended g.N.Unsigned.SIZE c.args.v ((c.fill-2.new.room)) c.args.at c.args.n ((let fact : c.args.at + g.N.Unsigned.SIZE * c.args.n ≤ length ((c.fill-2.new.room)) = omega (arith, c.requires, ((let fact : length ((c.fill-2.new.room)) ≡ length c.args.room.now = omega arith in fact))) in fact)) c.args.room.now (c.args.n - 4) c.loop-i.invariant (omega (arith, (let fact : 4 ≤ c.args.n = c.if-n-lt4.false in fact)))
    (omega (arith, c.loop-i-test.false)) ((let fact : length ((c.fill-2.new.room)) ≡ length c.args.room.now = omega arith in fact)) c.fill-2.ensures (rw c.SIZE-2.ensures at c.fill-3.ensures)
