-- `explain::small_parts::size_of` meets its contract. Assumes nothing.
use mathlib.Core.Path.{ap, ◌∙◌}
use Prim.Native.Nat.{ℕ, ◌+◌, ◌*◌}
use lib.ListN.{get_or}
use Rattle.explain.proofs.small_parts.size_of.Goals as goal

pub returns : goal.returns
returns c =
    let a = c.args in
    c.at_u64.ensures ∙ ap (λ (z : ℕ). get_or a.parts.now (2 * z + 1) 0) c.number_of.ensures.value
