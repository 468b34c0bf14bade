-- `width_loop::convert_walk` meets its contract. Assumes nothing.
use mathlib.Core.Path.{refl, sym, subst}
use mathlib.Core.List.{[]}
use Prim.Native.Nat.{◌+◌, ◌-◌}
use native.Mathlib.Omega.{arith}
use Rattle.array_data.specs.entries.Entries.{column}
use Rattle.array_data.specs.type_tree.Lent.{tree_of}
use Rattle.width_loop.specs.Here.{Accepted}
use Rattle.width_loop.proofs.Fits.{Fits, fits_first, settle_fits}
use Rattle.width_loop.proofs.Turns.{nodes_none, nodes_stop, nodes_more, first_rest}
use Rattle.width_loop.proofs.convert_walk.Goals as goal

pub loop-i-init : goal.loop-i-init
loop-i-init c =
    let a = c.args in
    (fits_first (column a.lengths.now a.places.now [] a.body.now a.first) c.length_at.ensures, λ buffers. first_rest (tree_of a.formats.now a.schema.now a.first a.n) (tree_of a.formats.now a.schema.now a.target a.n) (column a.lengths.now a.places.now buffers a.body.now a.first) a.plan.now a.parts.now a.write _ a.counters.now a.room.now c.length_at.ensures refl)

pub walk_node-g-requires : goal.walk_node-g-requires
walk_node-g-requires c =
    let a = c.args in
    let l = c.loop-i in
    record { accepted = ((record { buffers = c.requires.by_index.0; column_good = c.requires.by_index.1; target_good = c.requires.n_value }), omega arith); i_in_bounds = l.invariant.0.among l.i }

pub returns-then-g-ne0 : goal.returns-then-g-ne0
returns-then-g-ne0 c =
    let a = c.args in
    let l = c.loop-i in
    λ buffers. l.invariant.1 buffers _ _ _ (nodes_stop (tree_of a.formats.now a.schema.now a.first a.n) (tree_of a.formats.now a.schema.now a.target a.n) (column a.lengths.now a.places.now buffers a.body.now a.first) a.plan.now a.parts.now a.write (a.n - l.i) (a.n - (l.i + 1)) l.i l.ranges l.counters l.room (omega arith) (c.walk_node-g.ensures.by_index buffers) c.if-g-ne0.true)

pub loop-i-preserved : goal.loop-i-preserved
loop-i-preserved c =
    let a = c.args in
    let l = c.loop-i in
    let ac : Accepted a.formats.now a.schema.now a.lengths.now a.places.now a.body.now a.first a.n a.target = (record { buffers = c.requires.by_index.0; column_good = c.requires.by_index.1; target_good = c.requires.n_value }) in
    (subst (Fits (column a.lengths.now a.places.now [] a.body.now a.first)) (sym (c.walk_node-g.ensures.by_index_2 [] c.if-g-ne0.false)) (settle_fits a.formats.now a.schema.now a.lengths.now a.places.now a.body.now a.first a.n a.target ac l.i (omega arith) (tree_of a.formats.now a.schema.now a.target a.n) [] a.plan.now l.ranges l.invariant.0), λ buffers g c2 room2 d. l.invariant.1 buffers _ _ _ (nodes_more (tree_of a.formats.now a.schema.now a.first a.n) (tree_of a.formats.now a.schema.now a.target a.n) (column a.lengths.now a.places.now buffers a.body.now a.first) a.plan.now a.parts.now a.write (a.n - l.i) (a.n - (l.i + 1)) l.i (l.i + 1) l.ranges _ l.counters l.room (omega arith) refl (c.walk_node-g.ensures.by_index buffers) c.if-g-ne0.false (c.walk_node-g.ensures.by_index_2 buffers c.if-g-ne0.false) d))

pub returns : goal.returns
returns c =
    let a = c.args in
    let l = c.loop-i in
    λ buffers. l.invariant.1 buffers _ _ _ (nodes_none (tree_of a.formats.now a.schema.now a.first a.n) (tree_of a.formats.now a.schema.now a.target a.n) (column a.lengths.now a.places.now buffers a.body.now a.first) a.plan.now a.parts.now a.write (a.n - l.i) l.i l.ranges l.counters l.room (omega arith))
