-- `parts::parts_placed` meets its contract. Assumes nothing.
use Prim.Native.Nat.{◌*◌}
use native.Mathlib.Omega.{arith}
use lib.ListN.{length}
use borrow.Author.Tests.{eq-eqb, ne_eqb}
use Rattle.array_data.proofs.lent_tables.Laws.{no, yes}
use Rattle.plan.specs.parts.Parts.{parts_placed}
use Rattle.plan.proofs.placed.parts_placed.Goals as goal

pub returns-then-parts-count : goal.returns-then-parts-count
unfolding parts_placed
returns-then-parts-count c = rw (ne_eqb (length c.args.parts.now) (2 * c.args.count) (λ e. omega arith))

pub returns-then-not-all_in_room : goal.returns-then-not-all_in_room
unfolding parts_placed
returns-then-not-all_in_room c = rw (eq-eqb (length c.args.parts.now) (2 * c.args.count) (omega arith), no c.all_in_room.ensures c.if-not-all_in_room.true-raw)

pub returns : goal.returns
unfolding parts_placed
returns c = rw (eq-eqb (length c.args.parts.now) (2 * c.args.count) (omega arith), yes c.all_in_room.ensures c.if-not-all_in_room.false-raw) c.all_apart.ensures
