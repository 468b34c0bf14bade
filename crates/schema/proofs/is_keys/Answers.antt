-- `schema::is_keys` meets its contract. Assumes nothing.
use mathlib.Core.Path.{◌≡◌, sym, ◌∙◌}
use mathlib.Core.Bool.{◌&&◌}
use Prim.Native.Nat.{suc}
use native.Mathlib.Numerals.{add-one}
use lib.Dec.{eqb}
use borrow.Author.Tests.{not-true, not-false}
use Rattle.schema.specs.Tree.{values_shape}
use Rattle.schema.proofs.Shapes.{and_no, and_yes, and_3}
use Rattle.schema.proofs.is_keys.Goals as goal

pub returns-then-not-kind-childless : goal.returns-then-not-kind-childless
returns-then-not-kind-childless c = sym (and_no _ _ (and_3 _ _ _ _ _ _ 0 1 c.is_integer-kind.ensures c.children_of-childless.ensures c.dictionary_of-a_dictionary.ensures ∙ not-true (c.is_integer-kind.result && eqb c.children_of-childless.result 0 && eqb c.dictionary_of-a_dictionary.result 1) c.if-not-kind-childless.true-raw))

pub returns : goal.returns
returns c =
    let z = c.args in
    let r : c.is_values.result ≡ values_shape z.formats.now z.schema.now z.first (suc z.i) = cc (add-one z.i) in
    r ∙ sym (and_yes _ _ (and_3 _ _ _ _ _ _ 0 1 c.is_integer-kind.ensures c.children_of-childless.ensures c.dictionary_of-a_dictionary.ensures ∙ not-false (c.is_integer-kind.result && eqb c.children_of-childless.result 0 && eqb c.dictionary_of-a_dictionary.result 1) c.if-not-kind-childless.false-raw))
