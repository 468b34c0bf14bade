-- `leaf_row::leaf_key` meets its contract. Assumes nothing.
use mathlib.Core.Path.{◌≡◌, sym, ap, ◌∙◌}
use Rattle.slot_reader.specs.declared.leaf_row.Leaf.{Leaf}
use Rattle.slot_reader.specs.leaf_row.Reading.{leaf_row_of, key_of, key_as, key_of_whole}
use mir.Syntax.{w64}
use mir.Val.{to_z, of_z}
use borrow.Author.Rules.{rules}
use Rattle.slot_reader.proofs.leaf_row.leaf_key.Goals as goal

pub returns-in-Null : goal.returns-in-Null
returns-in-Null c = ap (λ (l : Leaf). key_of (leaf_row_of l)) (sym c.in-Null.is)

pub returns-in-Signed : goal.returns-in-Signed
returns-in-Signed c =
    let e : to_z w64 (of_z w64 c.in-Signed.z) ≡ c.in-Signed.z = search rules in
    c.whole_key.ensures ∙ (ap key_of_whole e ∙ ap (λ (l : Leaf). key_of (leaf_row_of l)) (sym c.in-Signed.is))

pub returns-in-Unsigned : goal.returns-in-Unsigned
returns-in-Unsigned c = ap (λ (l : Leaf). key_of (leaf_row_of l)) (sym c.in-Unsigned.is)

pub returns-in-Single : goal.returns-in-Single
returns-in-Single c = ap (key_as 3) c.bits_f32.ensures ∙ ap (λ (l : Leaf). key_of (leaf_row_of l)) (sym c.in-Single.is)

pub returns-in-Double : goal.returns-in-Double
returns-in-Double c = ap (key_as 4) c.bits_f64.ensures ∙ ap (λ (l : Leaf). key_of (leaf_row_of l)) (sym c.in-Double.is)

pub returns-in-SingleNan : goal.returns-in-SingleNan
returns-in-SingleNan c = ap (λ (l : Leaf). key_of (leaf_row_of l)) (sym c.in-SingleNan.is)

pub returns-in-DoubleNan : goal.returns-in-DoubleNan
returns-in-DoubleNan c = ap (λ (l : Leaf). key_of (leaf_row_of l)) (sym c.in-DoubleNan.is)
