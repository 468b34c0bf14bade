-- `plan::has_strings` meets its contract. Assumes nothing.
use mathlib.Core.Path.{◌≡◌, ap, ◌∙◌}
use Prim.Native.Nat.{ℕ, suc, ◌+◌, ◌*◌, ◌%◌}
use native.Mathlib.Omega.{arith}
use lib.ListN.{get_or}
use Rattle.schema.specs.formats.Code.{is_string}
use Rattle.plan.proofs.has_strings.Goals as goal

pub returns : goal.returns
returns c =
    let z = c.args in
    let e : 8 * (z.i + 1) ≡ 8 * suc z.i + 0 = omega arith in
    c.is_string.ensures ∙ ap (λ (w : ℕ). is_string (w % 256)) (c.at_u64-word.ensures ∙ ap (λ k. get_or z.plan.now k 0) e)
