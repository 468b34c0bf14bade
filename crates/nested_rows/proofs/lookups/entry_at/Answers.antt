-- `steps::entry_at` meets its contract. Assumes nothing.
use mathlib.Core.Path.{◌∙◌}
use native.Mathlib.Omega.{arith}
use Rattle.nested_rows.proofs.lookups.entry_at.Goals as goal

pub overflow_mul-k : goal.overflow_mul-k
overflow_mul-k c = let h = rw c.if-w-eq4.true at c.requires.k_in_bounds in omega arith

pub overflow_add-from : goal.overflow_add-from
overflow_add-from c = let h = rw c.if-w-eq4.true at c.requires.k_in_bounds in omega arith

pub read-requires : goal.read-requires
read-requires c = let h = rw c.if-w-eq4.true at c.requires.k_in_bounds in omega arith

pub returns-then-w-eq4 : goal.returns-then-w-eq4
returns-then-w-eq4 c = rw c.if-w-eq4.true (c.to_u64.ensures ∙ c.read.ensures)

pub overflow_mul-k-2 : goal.overflow_mul-k-2
overflow_mul-k-2 c = let h = rw (c.requires.w_value c.if-w-eq4.false) at c.requires.k_in_bounds in omega arith

pub overflow_add-from-2 : goal.overflow_add-from-2
overflow_add-from-2 c = let h = rw (c.requires.w_value c.if-w-eq4.false) at c.requires.k_in_bounds in omega arith

pub read-requires-2 : goal.read-requires-2
read-requires-2 c = let h = rw (c.requires.w_value c.if-w-eq4.false) at c.requires.k_in_bounds in omega arith

pub returns : goal.returns
returns c = rw (c.requires.w_value c.if-w-eq4.false) c.read-2.ensures
