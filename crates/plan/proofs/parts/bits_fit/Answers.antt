-- `parts::bits_fit` meets its contract. Assumes nothing.
use mathlib.Core.Path.{◌∙◌}
use native.Mathlib.Nat.{add-zero}
use Rattle.plan.proofs.parts.Laws.{bits_hold_lem}
use Rattle.plan.proofs.parts.bits_fit.Goals as goal

pub returns : goal.returns
returns c =
    let a = c.args in
    c.bits_fit.ensures ∙ rw (add-zero a.r) (bits_hold_lem a.r a.size)
