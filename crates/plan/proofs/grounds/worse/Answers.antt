-- `parts::grounds::worse` meets its contract. Assumes nothing.
use mathlib.Core.Path.{◌≡◌, refl, ◌∙◌}
use mathlib.Core.Bool.{Bool, true, false, cond}
use Prim.Native.Nat.{ℕ, max}
use native.Mathlib.Omega.{arith}
use lib.Dec.{ltb}
use borrow.Author.Tests.{ltb-true, ltb-false}
use Rattle.plan.proofs.grounds.worse.Goals as goal

larger : (a b : ℕ) (t : Bool) → ltb a b ≡ t → max a b ≡ cond t b a
larger a b true e = omega (arith, ltb-true a b e)
larger a b false e = omega (arith, ltb-false a b e)

pub returns : goal.returns
returns c = c.max.ensures ∙ larger c.args.a c.args.b (ltb c.args.a c.args.b) refl
