-- `schema::is_union_node` meets its contract. Assumes nothing.
use mathlib.Core.Path.{sym, ◌∙◌}
use borrow.Author.Tests.{not-true, not-false}
use Rattle.schema.specs.Tree.{child_for_each, ids_of}
use Rattle.schema.proofs.Shapes.{and_no, and_yes}
use Rattle.schema.proofs.is_union_node.Goals as goal

pub returns-then-not-is_union : goal.returns-then-not-is_union
returns-then-not-is_union c = sym (and_no _ _ (and_no _ _ (sym c.is_union.ensures ∙ not-true _ c.if-not-is_union.true-raw)))

pub returns : goal.returns
returns c =
    let z = c.args in
    let q = sym c.is_union.ensures ∙ not-false _ c.if-not-is_union.false-raw in
    cc (and_yes _ (child_for_each z.schema.now z.first (ids_of z.formats.now z.schema.now z.first z.i) z.i) q)
