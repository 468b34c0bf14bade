-- `schema::is_shaped` meets its contract. Assumes nothing.
use mathlib.Core.Path.{sym, ◌∙◌}
use Rattle.schema.proofs.Shapes.{shape_by, or_1, or_2, or_3, or_4, or_5}
use Rattle.schema.proofs.is_shaped.Goals as goal

pub returns-then-is_leaf : goal.returns-then-is_leaf
returns-then-is_leaf c =
    let z = c.args in
    let e = shape_by z.formats.now z.schema.now z.first z.i _ c.code_of-code.ensures in
    sym (e ∙ or_1 _ _ _ _ _ (sym c.is_leaf.ensures ∙ c.if-is_leaf.true))

pub returns-then-is_keys : goal.returns-then-is_keys
returns-then-is_keys c =
    let z = c.args in
    let e = shape_by z.formats.now z.schema.now z.first z.i _ c.code_of-code.ensures in
    sym (e ∙ or_2 _ _ _ _ _ (sym c.is_leaf.ensures ∙ c.if-is_leaf.false) (sym c.is_keys.ensures ∙ c.if-is_keys.true))

pub returns-then-is_list : goal.returns-then-is_list
returns-then-is_list c =
    let z = c.args in
    let e = shape_by z.formats.now z.schema.now z.first z.i _ c.code_of-code.ensures in
    sym (e ∙ or_3 _ _ _ _ _ (sym c.is_leaf.ensures ∙ c.if-is_leaf.false) (sym c.is_keys.ensures ∙ c.if-is_keys.false) (sym c.is_list.ensures ∙ c.if-is_list.true))

pub returns-then-is_union_node : goal.returns-then-is_union_node
returns-then-is_union_node c =
    let z = c.args in
    let e = shape_by z.formats.now z.schema.now z.first z.i _ c.code_of-code.ensures in
    sym (e ∙ or_4 _ _ _ _ _ (sym c.is_leaf.ensures ∙ c.if-is_leaf.false) (sym c.is_keys.ensures ∙ c.if-is_keys.false) (sym c.is_list.ensures ∙ c.if-is_list.false) (sym c.is_union_node.ensures ∙ c.if-is_union_node.true))

pub returns : goal.returns
returns c =
    let z = c.args in
    let e = shape_by z.formats.now z.schema.now z.first z.i _ c.code_of-code.ensures in
    c.is_runs.ensures ∙ sym (e ∙ or_5 _ _ _ _ _ (sym c.is_leaf.ensures ∙ c.if-is_leaf.false) (sym c.is_keys.ensures ∙ c.if-is_keys.false) (sym c.is_list.ensures ∙ c.if-is_list.false) (sym c.is_union_node.ensures ∙ c.if-is_union_node.false))
