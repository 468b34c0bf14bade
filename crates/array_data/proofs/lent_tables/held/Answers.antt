-- `lent_tables::held` meets its contract. Assumes nothing.
use Prim.Native.Nat.{suc, ◌*◌}
use native.Mathlib.Numerals.{add-one}
use native.Mathlib.Omega.{arith}
use lib.ListN.{length}
use borrow.Author.Tests.{le-leb, lt-leb}
use Rattle.array_data.proofs.lent_tables.held.Goals as goal

pub returns-then-lengths-k : goal.returns-then-lengths-k
returns-then-lengths-k c =
    let a = c.args in
    rw (lt-leb (2 * suc a.k) (length a.lengths.now) (omega arith))

pub returns : goal.returns
returns c =
    let a = c.args in
    rw (add-one, le-leb (2 * suc a.k) (length a.lengths.now) (omega arith))
