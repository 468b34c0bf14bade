-- `schema::is_runs` meets its contract. Assumes nothing.
use mathlib.Core.Path.{◌≡◌, sym, ◌∙◌}
use mathlib.Core.Bool.{◌&&◌}
use Prim.Native.Nat.{suc}
use native.Mathlib.Numerals.{add-one}
use lib.Dec.{eqb}
use borrow.Author.Tests.{not-true, not-false}
use Rattle.schema.specs.Tree.{ends_shape}
use Rattle.schema.proofs.Shapes.{and_no, and_yes, and_3}
use Rattle.schema.proofs.is_runs.Goals as goal

pub returns-then-not-kind-two_children : goal.returns-then-not-kind-two_children
returns-then-not-kind-two_children c = sym (and_no _ _ (and_3 _ _ _ _ _ _ 2 0 c.is_run_end-kind.ensures c.children_of-two_children.ensures c.dictionary_of-no_dictionary.ensures ∙ not-true (c.is_run_end-kind.result && eqb c.children_of-two_children.result 2 && eqb c.dictionary_of-no_dictionary.result 0) c.if-not-kind-two_children.true-raw))

pub returns : goal.returns
returns c =
    let z = c.args in
    let r : c.is_ends.result ≡ ends_shape z.formats.now z.schema.now z.first (suc z.i) = cc (add-one z.i) in
    r ∙ sym (and_yes _ _ (and_3 _ _ _ _ _ _ 2 0 c.is_run_end-kind.ensures c.children_of-two_children.ensures c.dictionary_of-no_dictionary.ensures ∙ not-false (c.is_run_end-kind.result && eqb c.children_of-two_children.result 2 && eqb c.dictionary_of-no_dictionary.result 0) c.if-not-kind-two_children.false-raw))
