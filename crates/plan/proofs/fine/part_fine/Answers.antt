-- `plan::fine::part_fine` meets its contract. Assumes nothing.
use mathlib.Core.Path.{◌≡◌, refl, sym, ◌∙◌}
use mathlib.Core.Bool.{true}
use Prim.Native.Nat.{◌+◌, ◌*◌}
use lib.ListN.{length}
use borrow.Author.Tests.{lt-ltb}
use Rattle.array_data.proofs.lent_tables.Laws.{yes}
use Rattle.plan.proofs.grounds.Laws.{never}
use Rattle.plan.proofs.fine.part_fine.Goals as goal

pub returns-then-parts-p : goal.returns-then-parts-p
returns-then-parts-p c = λ z. never z

pub returns-then-not-holds : goal.returns-then-not-holds
returns-then-not-holds c = λ z. never z

pub returns : goal.returns
returns c =
    let a = c.args in
    let h : a.holds ≡ true = yes refl c.if-not-holds.false-raw in
    λ z. rw (lt-ltb (2 * a.p + 1) (length a.parts.now) c.if-parts-p.false, sym c.in_room.ensures ∙ z, h)
