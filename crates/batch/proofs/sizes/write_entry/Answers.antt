-- `batch_walk::sizes::write_entry` meets its contract. Assumes nothing.
use mathlib.Core.Path.{ap, ◌∙◌}
use mathlib.Core.List.{List}
use Prim.Native.Nat.{ℕ}
use Rattle.number.specs.Number.{encode, splice}
use Rattle.number.proofs.Laws.{encode_mod}
use Rattle.batch.proofs.sizes.write_entry.Goals as goal

pub returns-then-w-eq4 : goal.returns-then-w-eq4
returns-then-w-eq4 c =
    let a = c.args in
    rw c.if-w-eq4.true (c.write.ensures ∙ ap (λ (z : List ℕ). splice a.at z a.room.now) (ap (λ (v : ℕ). encode 4 v) c.truncate.ensures ∙ encode_mod 4 a.v))
