-- `small_parts::times_more` meets its contract. Assumes nothing.
use Prim.Native.Nat.{◌+◌, ◌*◌}
use native.Mathlib.Nat.{add-mul}
use native.Mathlib.Omega.{arith}
use Rattle.explain.proofs.small_parts.times_more.Goals as goal

pub returns : goal.returns
returns c = omega (arith, add-mul c.args.r 1 c.args.w)
