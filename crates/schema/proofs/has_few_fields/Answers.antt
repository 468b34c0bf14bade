-- `schema::has_few_fields` meets its contract. Assumes nothing.
use mathlib.Core.Path.{sym}
use mathlib.Core.Bool.{not}
use native.Mathlib.Omega.{arith}
use borrow.Author.Tests.{le-leb, lt-leb}
use Rattle.schema.specs.formats.Code.{is_union}
use Rattle.schema.specs.Tree.{children, code_of, few_fields}
use Rattle.schema.proofs.Shapes.{or_right, or_left}
use Rattle.schema.proofs.has_few_fields.Goals as goal

pub returns-then-children_of-le16 : goal.returns-then-children_of-le16
unfolding few_fields
returns-then-children_of-le16 c =
    let z = c.args in
    sym (or_right (not (is_union (code_of z.formats.now z.schema.now z.first z.i))) _ (le-leb (children z.schema.now z.first z.i) 16 (omega (arith, c.children_of.ensures, c.if-children_of-le16.true))))

pub returns : goal.returns
unfolding few_fields
returns c =
    let z = c.args in
    let q = lt-leb (children z.schema.now z.first z.i) 16 (omega (arith, c.children_of.ensures, c.if-children_of-le16.false)) in
    cc (or_left (not (is_union (code_of z.formats.now z.schema.now z.first z.i))) _ q)
