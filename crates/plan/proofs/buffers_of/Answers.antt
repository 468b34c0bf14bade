-- `plan::buffers_of` meets its contract. Assumes nothing.
use mathlib.Core.Path.{ap, ◌∙◌}
use Prim.Native.Nat.{min}
use native.Mathlib.Omega.{arith}
use Rattle.plan.proofs.buffers_of.Goals as goal

pub returns : goal.returns
returns c = record { value = c.min.ensures ∙ ap (λ n. min n 33) c.place.ensures; upper_bound = omega arith }
