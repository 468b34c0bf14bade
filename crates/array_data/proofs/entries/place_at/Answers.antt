-- `lent_entries::place_at` meets its contract. Assumes nothing.
use mathlib.Core.Path.{◌∙◌}
use Prim.Native.Nat.{◌+◌, ◌*◌}
use native.Mathlib.Omega.{arith}
use Rattle.array_data.proofs.entries.Laws.{shifted}
use Rattle.array_data.proofs.entries.place_at.Goals as goal

pub returns : goal.returns
returns c =
    let z = c.args in
    c.place.ensures ∙ shifted z.places.now (9 * z.first) (9 * (z.first + z.i) + z.j) (9 * z.i + z.j) (omega arith)
