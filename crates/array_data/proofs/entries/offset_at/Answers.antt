-- `lent_entries::offset_at` meets its contract. Assumes nothing.
use mathlib.Core.Path.{◌∙◌}
use Prim.Native.Nat.{◌+◌, ◌*◌}
use native.Mathlib.Omega.{arith}
use Rattle.array_data.proofs.entries.Laws.{shifted}
use Rattle.array_data.proofs.entries.offset_at.Goals as goal

pub returns : goal.returns
returns c =
    let z = c.args in
    c.offset_of.ensures ∙ shifted z.lengths.now (2 * z.first) (2 * (z.first + z.i) + 1) (2 * z.i + 1) (omega arith)
