-- `lafkuno::reading::leaf_number` meets its contract. Assumes nothing.
use mathlib.Core.Path.{◌≡◌, sym, ap, ◌∙◌}
use mir.Syntax.{w64}
use mir.Val.{to_z, of_z}
use Rattle.number.specs.Number.{pattern}
use Rattle.lafkuno.specs.Calls.{leaf_number}
use borrow.Author.Rules.{rules}
use Rattle.lafkuno.proofs.reading.leaf_number.Goals as goal

pub returns-in-Signed : goal.returns-in-Signed
returns-in-Signed c =
    let e : to_z w64 (of_z w64 c.in-Signed.z) ≡ c.in-Signed.z = search rules in
    c.whole_number.ensures ∙ (ap (pattern 8) e ∙ ap leaf_number (sym c.in-Signed.is))

pub returns-in-Single : goal.returns-in-Single
returns-in-Single c = c.bits_f32.ensures ∙ ap leaf_number (sym c.in-Single.is)

pub returns-in-Double : goal.returns-in-Double
returns-in-Double c = c.bits_f64.ensures ∙ ap leaf_number (sym c.in-Double.is)
