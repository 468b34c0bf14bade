-- `coding::ends_hold` meets its contract. Assumes nothing.
use mathlib.Core.Path.{◌≡◌, sym, ap}
use Prim.Native.Nat.{ℕ}
use lib.Dec.{ltb}
use Rattle.columnar.specs.Types.{half}
use Rattle.coding.proofs.ends_hold.Goals as goal

by : (m w u : ℕ) → w ≡ u → ltb m (half u) ≡ ltb m (half w)
by m w u e = ap (λ z. ltb m (half z)) (sym e)

pub returns-in-2 : goal.returns-in-2
returns-in-2 c = by c.args.m _ 2 c.in-2.is

pub returns-in-4 : goal.returns-in-4
returns-in-4 c = by c.args.m _ 4 c.in-4.is

pub returns-in_default : goal.returns-in_default
returns-in_default c = by c.args.m _ 8 (c.requires c.in_default.in_default-own.rest.0.1 c.in_default.in_default-own.rest.1)
