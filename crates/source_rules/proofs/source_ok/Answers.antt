-- `source_rules::source_ok` meets its contract. The invariant: the nodes below i obey. Assumes nothing.
use mathlib.Core.Path.{◌≡◌, sym, ◌∙◌}
use mathlib.Core.Bool.{true}
use native.Mathlib.Omega.{arith}
use borrow.Author.Count.{below_more}
use Rattle.columnar.proofs.Test.{every_false}
use Rattle.array_data.specs.Typed.{tables_from, node_rule}
use Rattle.array_data.specs.type_tree.Lent.{tree_of}
use Rattle.source_rules.specs.kinds.Rows.{tables_of}
use Rattle.source_rules.proofs.Node.{every_true}
use Rattle.source_rules.proofs.source_ok.Goals as goal

pub loop-i-init : goal.loop-i-init
loop-i-init c = λ j h. absurd (omega arith)

pub returns-then-not-node_ok : goal.returns-then-not-node_ok
returns-then-not-node_ok c =
    let z = c.args in
    let p = node_rule (tree_of z.formats.now z.schema.now z.first z.n) (tables_from (tables_of z.lengths.now z.places.now z.buffers.now z.body.now) z.first) in
    sym (every_false p z.n c.loop-i.i (omega arith) (sym c.node_ok.ensures ∙ c.if-not-node_ok.true))

pub loop-i-preserved : goal.loop-i-preserved
loop-i-preserved c =
    let z = c.args in
    let p = node_rule (tree_of z.formats.now z.schema.now z.first z.n) (tables_from (tables_of z.lengths.now z.places.now z.buffers.now z.body.now) z.first) in
    below_more (λ j. p j ≡ true) c.loop-i.i c.loop-i.invariant (sym c.node_ok.ensures ∙ c.if-not-node_ok.false)

pub returns : goal.returns
returns c =
    let z = c.args in
    let p = node_rule (tree_of z.formats.now z.schema.now z.first z.n) (tables_from (tables_of z.lengths.now z.places.now z.buffers.now z.body.now) z.first) in
    sym (every_true p z.n (λ j h. c.loop-i.invariant j (omega arith)))
