-- `buffer_names::copy_names` meets its contract. The invariant: the first q numbers are written. Assumes nothing.
use mathlib.Core.Path.{ap, ◌∙◌}
use Prim.Native.Nat.{◌*◌}
use lib.ListN.{get_or}
use Rattle.into_builder.proofs.buffers.Written.{behind_none, seg_more, seg_all}
use native.Mathlib.Omega.{arith}
use Rattle.into_builder.proofs.buffers.copy_names.Goals as goal

pub loop-q-init : goal.loop-q-init
loop-q-init c =
    let z = c.args in
    behind_none z.names.now z.at

pub bounds-names-at : goal.bounds-names-at
bounds-names-at c = omega (arith, c.loop-q.invariant.same)

pub loop-q-preserved : goal.loop-q-preserved
loop-q-preserved c =
    let z = c.args in
    let l = c.loop-q in
    seg_more (λ a. get_or z.buffers.now a 0) z.names.now l.names (2 * z.from) z.at l.q _ (omega arith) l.invariant (c.pair_at.ensures ∙ ap (λ a. get_or z.buffers.now a 0) (omega arith))

pub shape_of-names : goal.shape_of-names
shape_of-names c = c.loop-q.invariant.same

pub returns : goal.returns
returns c =
    let z = c.args in
    let l = c.loop-q in
    seg_all (λ a. get_or z.buffers.now a 0) z.names.now l.names (2 * z.from) z.at l.q z.n (omega arith) l.invariant
