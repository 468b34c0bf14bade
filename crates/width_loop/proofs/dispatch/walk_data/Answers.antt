-- `width_loop::dispatch::walk_data` meets its contract. Assumes nothing.
use mathlib.Core.Path.{refl}
use native.Mathlib.Omega.{arith}
use Rattle.columnar.specs.Array.{ok}
use Rattle.schema.specs.formats.Code.{is_fixed, is_string, is_view}
use Rattle.array_data.specs.Tables.{place, valid_of}
use Rattle.array_data.specs.NodeKinds.{view_node}
use Rattle.array_data.specs.entries.Entries.{column}
use Rattle.array_data.specs.type_tree.Lent.{tree_of}
use Rattle.source_rules.proofs.Node.{told}
use Rattle.width_loop.proofs.Laws.{slots_in}
use Rattle.width_loop.proofs.Own.{view_as}
use Rattle.width_loop.proofs.Rules.{view_here_lem}
use Rattle.width_loop.proofs.Here.{few, rule_as, string_kinds, view_kinds, by_kinds, settled_by}
use Rattle.array_data.specs.Typed.{kind_in}
use Rattle.width_loop.proofs.dispatch.walk_data.Goals as goal

pub code_of-code-requires : goal.code_of-code-requires
code_of-code-requires c =
    let a = c.args in
    let z = c.requires in
    (omega arith, omega (arith, few a.formats.now a.schema.now a.lengths.now a.places.now a.body.now a.first a.count a.target z.accepted, z.is_node))

pub number_node-requires : goal.number_node-requires
number_node-requires c =
    let a = c.args in
    let z = c.requires in
    record { by_index = (a.count, z); fact = (told is_fixed _ c.code_of-code.ensures c.is_fixed.ensures c.if-is_fixed.true, c.code_of-code.ensures) }

pub returns-then-is_fixed : goal.returns-then-is_fixed
returns-then-is_fixed c =
    let a = c.args in
    let z = c.requires in
    record { by_index = (λ buffers. c.number_node.ensures.by_index_2 buffers a.counters.now a.count); by_index_2 = λ buffers q. c.number_node.ensures.by_index_3 buffers a.count q }

pub string_node-requires : goal.string_node-requires
string_node-requires c =
    let a = c.args in
    let z = c.requires in
    record { by_index = (a.count, z); fact = (told is_string _ c.code_of-code.ensures c.is_string.ensures c.if-is_string.true, c.code_of-code.ensures) }

pub returns-then-is_string : goal.returns-then-is_string
returns-then-is_string c =
    let a = c.args in
    let z = c.requires in
    record { by_index = (λ buffers. c.string_node.ensures buffers a.count); by_index_2 = λ buffers q. settled_by a.formats.now a.schema.now a.lengths.now a.places.now buffers a.body.now a.plan.now a.first a.count a.target a.i a.s a.n a.ranges.now (string_kinds a.formats.now a.schema.now a.lengths.now a.places.now a.body.now a.first a.count a.target z.accepted a.i z.is_node (told is_string _ c.code_of-code.ensures c.is_string.ensures c.if-is_string.true)).0 refl }

pub place_at-at-requires : goal.place_at-at-requires
place_at-at-requires c =
    let a = c.args in
    let z = c.requires in
    (omega (arith, few a.formats.now a.schema.now a.lengths.now a.places.now a.body.now a.first a.count a.target z.accepted, z.is_node), omega arith)

pub put_slots-requires : goal.put_slots-requires
put_slots-requires c =
    let a = c.args in
    let z = c.requires in
    let f = view_here_lem (column a.lengths.now a.places.now z.accepted.buffers a.body.now a.first) a.i a.s a.n z.above z.below (rule_as a.formats.now a.schema.now a.lengths.now a.places.now a.body.now a.first a.count a.target z.accepted a.i z.is_node view_node (view_kinds a.formats.now a.schema.now a.lengths.now a.places.now a.body.now a.first a.count a.target z.accepted a.i z.is_node (told is_view _ c.code_of-code.ensures c.is_view.ensures c.if-is_view.true))) in
    (omega (arith, few a.formats.now a.schema.now a.lengths.now a.places.now a.body.now a.first a.count a.target z.accepted, z.is_node), omega arith, omega (arith, c.place_at-at.ensures, slots_in a.body.now (place (column a.lengths.now a.places.now z.accepted.buffers a.body.now a.first) a.i 3) (place (column a.lengths.now a.places.now z.accepted.buffers a.body.now a.first) a.i 4) 16 a.s a.n f.0 f.1))

pub returns-then-is_view : goal.returns-then-is_view
returns-then-is_view c =
    let a = c.args in
    let z = c.requires in
    let e = view_kinds a.formats.now a.schema.now a.lengths.now a.places.now a.body.now a.first a.count a.target z.accepted a.i z.is_node (told is_view _ c.code_of-code.ensures c.is_view.ensures c.if-is_view.true) in
    let f = view_here_lem (column a.lengths.now a.places.now z.accepted.buffers a.body.now a.first) a.i a.s a.n z.above z.below (rule_as a.formats.now a.schema.now a.lengths.now a.places.now a.body.now a.first a.count a.target z.accepted a.i z.is_node view_node e) in
    record { by_index = (λ buffers. by_kinds a.formats.now a.schema.now a.lengths.now a.places.now buffers a.body.now a.plan.now a.first a.count a.target a.i a.s a.n a.parts.now a.write a.room.now a.counters.now e refl (view_as a.plan.now a.parts.now a.write a.room.now (column a.lengths.now a.places.now buffers a.body.now a.first) a.i a.s a.n a.counters.now (tree_of a.formats.now a.schema.now a.first a.count) (tree_of a.formats.now a.schema.now a.target a.count) (ok (valid_of (column a.lengths.now a.places.now buffers a.body.now a.first) a.i)) (kind_in (tree_of a.formats.now a.schema.now a.target a.count) a.i) f.0 f.1 c.place_at-at.ensures c.put_slots.ensures)); by_index_2 = λ buffers q. settled_by a.formats.now a.schema.now a.lengths.now a.places.now buffers a.body.now a.plan.now a.first a.count a.target a.i a.s a.n a.ranges.now e refl }

pub nested_node-requires : goal.nested_node-requires
nested_node-requires c =
    let a = c.args in
    let z = c.requires in
    record { here = z; fact = (told is_fixed _ c.code_of-code.ensures c.is_fixed.ensures c.if-is_fixed.false, told is_string _ c.code_of-code.ensures c.is_string.ensures c.if-is_string.false, told is_view _ c.code_of-code.ensures c.is_view.ensures c.if-is_view.false) }

pub returns : goal.returns
returns c = record { by_index = c.nested_node.ensures.by_index; by_index_2 = c.nested_node.ensures.by_index_2 }
