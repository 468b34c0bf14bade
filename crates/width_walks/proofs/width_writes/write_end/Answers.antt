-- `width_writes::write_end` meets its contract. Assumes nothing.
use mathlib.Core.Path.{ap, ◌∙◌}
use mathlib.Core.List.{List}
use Prim.Native.Nat.{ℕ}
use Rattle.number.specs.Number.{splice}
use Rattle.number.proofs.Laws.{encode_mod}
use Rattle.width_walks.proofs.width_writes.write_end.Goals as goal

pub returns-in-2 : goal.returns-in-2
returns-in-2 c =
    let a = c.args in
    rw c.in-2.is (c.write.ensures ∙ ap (λ (z : List ℕ). splice a.at z a.room.now) (rw c.truncate.ensures (encode_mod 2 a.v)))

pub returns-in-4 : goal.returns-in-4
returns-in-4 c =
    let a = c.args in
    rw c.in-4.is (c.write-in-4.ensures ∙ ap (λ (z : List ℕ). splice a.at z a.room.now) (rw c.truncate-in-4.ensures (encode_mod 4 a.v)))
