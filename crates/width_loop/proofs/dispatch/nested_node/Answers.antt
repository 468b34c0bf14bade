-- `width_loop::dispatch::nested_node` meets its contract. Assumes nothing.
use native.Mathlib.Omega.{arith}
use Rattle.schema.specs.formats.Code.{is_list, is_union, is_run_end}
use Rattle.source_rules.proofs.Node.{told, list_left}
use Rattle.width_loop.proofs.Here.{few, shape_here}
use Rattle.width_loop.proofs.dispatch.nested_node.Goals as goal

pub code_of-code-requires : goal.code_of-code-requires
code_of-code-requires c =
    let a = c.args in
    let z = c.requires.here in
    (omega arith, omega (arith, few a.formats.now a.schema.now a.lengths.now a.places.now a.body.now a.first a.count a.target z.accepted, z.is_node))

pub run_node-requires : goal.run_node-requires
run_node-requires c =
    let a = c.args in
    let z = c.requires.here in
    record { by_index = (a.count, z); i_value = told is_run_end _ c.code_of-code.ensures c.is_run_end.ensures c.if-is_run_end.true }

pub returns-then-is_run_end : goal.returns-then-is_run_end
returns-then-is_run_end c =
    let a = c.args in
    let z = c.requires.here in
    record { by_index = (λ buffers. c.run_node.ensures.by_index_2 buffers a.count); by_index_2 = λ buffers q. c.run_node.ensures.by_index_3 buffers a.count q }

pub union_node-requires : goal.union_node-requires
union_node-requires c =
    let a = c.args in
    let z = c.requires.here in
    record { by_index = (a.target, z); i_value = told is_union _ c.code_of-code.ensures c.is_union.ensures c.if-is_union.true }

pub returns-then-is_union : goal.returns-then-is_union
returns-then-is_union c =
    let a = c.args in
    let z = c.requires.here in
    record { by_index = (λ buffers. c.union_node.ensures.by_index_2 buffers a.counters.now a.target); by_index_2 = λ buffers q. c.union_node.ensures.by_index_3 buffers a.target }

pub list_node-requires : goal.list_node-requires
list_node-requires c =
    let a = c.args in
    let z = c.requires.here in
    record { by_index = (a.count, z); i_value = told is_list _ c.code_of-code.ensures c.is_list.ensures c.if-is_list.true }

pub returns-then-is_list : goal.returns-then-is_list
returns-then-is_list c =
    let a = c.args in
    let z = c.requires.here in
    record { by_index = (λ buffers. c.list_node.ensures.by_index_2 buffers a.counters.now a.count); by_index_2 = λ buffers q. c.list_node.ensures.by_index_3 buffers a.count q }

pub list_view_node-requires : goal.list_view_node-requires
list_view_node-requires c =
    let a = c.args in
    let z = c.requires.here in
    record { by_index = (a.count, z); i_value = list_left a.formats.now a.schema.now a.first a.i (shape_here a.formats.now a.schema.now a.lengths.now a.places.now a.body.now a.first a.count a.target z.accepted a.i z.is_node) c.requires.fact.0 c.requires.fact.2 (told is_union _ c.code_of-code.ensures c.is_union.ensures c.if-is_union.false) (told is_run_end _ c.code_of-code.ensures c.is_run_end.ensures c.if-is_run_end.false) c.requires.fact.1 (told is_list _ c.code_of-code.ensures c.is_list.ensures c.if-is_list.false) }

pub returns : goal.returns
returns c =
    let a = c.args in
    let z = c.requires.here in
    record { by_index = (λ buffers. c.list_view_node.ensures.by_index_2 buffers a.counters.now a.count); by_index_2 = λ buffers q. c.list_view_node.ensures.by_index_3 buffers a.count q }
