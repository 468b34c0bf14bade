-- `run_coding::is_valid` meets its contract. Assumes nothing.
use mathlib.Core.Path.{refl}
use native.Mathlib.Omega.{arith}
use Rattle.coding.specs.run_coding.Rows.{valid_in}
use Rattle.coding.proofs.run_coding.is_valid.Goals as goal

pub overflow_add-i : goal.overflow_add-i
overflow_add-i c = let z = (c.requires c.if-masked.true).0 in omega (arith, z)

pub overflow_add-result : goal.overflow_add-result
overflow_add-result c = let z = (c.requires c.if-masked.true).1 in omega (arith, z)

pub bounds-body-s : goal.bounds-body-s
bounds-body-s c = let z = (c.requires c.if-masked.true).1 in omega (arith, z)

pub returns-then-masked : goal.returns-then-masked
unfolding valid_in
returns-then-masked c = rw c.if-masked.true refl

pub returns : goal.returns
unfolding valid_in
returns c = rw c.if-masked.false refl
