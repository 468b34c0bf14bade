-- `row_pair::is_number` meets its contract. Assumes nothing.
use mathlib.Core.Path.{◌≡◌, sym, ap, ◌∙◌}
use mathlib.Core.Bool.{false}
use mathlib.Core.List.{List}
use Prim.Native.Nat.{ℕ}
use borrow.Author.Tests.{eq-eqb, ne_eqb}
use Rattle.schema.specs.formats.Code.{is_fixed}
use Rattle.schema.specs.Tree.{dictionary, code_of}
use Rattle.row_reader.specs.row_pair.Same.{number_node}
use Rattle.row_reader.proofs.row_pair.is_number.Goals as goal

module _ (formats schema : List ℕ) (first i d : ℕ) (e : d ≡ dictionary schema first i) where
  keyed : (d ≡ 0 → ⊥) → false ≡ number_node formats schema first i
  unfolding number_node
  keyed h = rw (ne_eqb (dictionary schema first i) 0 (λ q. h (e ∙ q)))

  plain : d ≡ 0 → (k : ℕ) → k ≡ code_of formats schema first i → is_fixed k ≡ number_node formats schema first i
  unfolding number_node
  plain h k f = rw (eq-eqb (dictionary schema first i) 0 (sym e ∙ h)) (ap is_fixed f)

pub returns-then-dictionary_of-ne0 : goal.returns-then-dictionary_of-ne0
returns-then-dictionary_of-ne0 c =
    let z = c.args in
    keyed z.formats.now z.schema.now z.first z.i _ c.dictionary_of.ensures c.if-dictionary_of-ne0.true

pub returns : goal.returns
returns c =
    let z = c.args in
    c.is_fixed.ensures
    ∙ plain z.formats.now z.schema.now z.first z.i _ c.dictionary_of.ensures c.if-dictionary_of-ne0.false _ c.code_of.ensures
