-- `run_ends::copies::extend_run_ends` meets its contract: room has the first k clipped run ends at `at`. Assumes nothing.
use mathlib.Core.Path.{◌≡◌, sym}
use Prim.Native.Nat.{◌+◌, ◌*◌, ◌%◌, ◌^◌, ◌≤◌}
use native.Mathlib.Nat.{mod-eq_of_lt, mul-le-mul_left, pow-le-pow_right}
use native.Mathlib.Omega.{arith}
use Rattle.number.proofs.Laws.{splice_nil}
use Rattle.run_ends.specs.Clip.{clipped}
use Rattle.run_ends.proofs.Laws.{clipped_step}
use Rattle.run_ends.proofs.copies.extend_run_ends.Goals as goal

pub loop-k-init : goal.loop-k-init
unfolding clipped
loop-k-init g c = sym (splice_nil _ _)

pub overflow_add-last : goal.overflow_add-last
overflow_add-last g c =
    let most : 256 ^ g.N.Unsigned.SIZE ≤ 256 ^ 8 = pow-le-pow_right (omega arith) g.met.N.Unsigned.sized.eight in omega arith

pub loop-k-preserved : goal.loop-k-preserved
loop-k-preserved g c =
    let z = c.args in
    let fits : (z.last + c.clip_end-x.result) % 256 ^ g.N.Unsigned.SIZE ≡ z.last + c.clip_end-x.result = mod-eq_of_lt (omega arith) in
    let inside : g.N.Unsigned.SIZE * (c.loop-k.k + 1) ≤ g.N.Unsigned.SIZE * z.m = mul-le-mul_left g.N.Unsigned.SIZE (omega arith) in
    cc (clipped_step g.N.Unsigned.SIZE z.body.now z.from z.start.0 z.end.0 z.last z.room.now z.at c.loop-k.k (omega arith))
