-- `row_reader::unions::find_child` meets its contract. The invariant: the child is not among the first c. Assumes nothing.
use mathlib.Core.Path.{sym, ap, ◌∙◌}
use Prim.Native.Nat.{◌+◌, ◌-◌}
use native.Mathlib.Numerals.{add-one}
use native.Mathlib.Omega.{arith}
use Rattle.row_reader.specs.Walk.{end_word, child_from}
use Rattle.row_reader.proofs.Laws.{from_past, from_here, from_next, from_last}
use Rattle.row_reader.proofs.unions.find_child.Goals as goal

pub end_word-end-requires : goal.end_word-end-requires
end_word-end-requires c = omega arith

pub overflow_add-node : goal.overflow_add-node
overflow_add-node c = omega arith

pub loop-step-init : goal.loop-step-init
loop-step-init c = (ap (child_from c.args.tree.now c.args.id (end_word c.args.tree.now c.args.i) 16) (add-one c.args.i))

pub returns-then-end-node : goal.returns-then-end-node
returns-then-end-node c =
    let z = c.args in
    let l = c.loop-step in
    sym (from_past z.tree.now z.id (end_word z.tree.now z.i) l._step l.node (omega arith) (omega (arith, c.end_word-end.ensures.value))) ∙ l.invariant

pub word-requires : goal.word-requires
word-requires c = omega (arith, c.end_word-end.ensures.upper_bound)

pub returns-then-word-id : goal.returns-then-word-id
returns-then-word-id c =
    let z = c.args in
    let l = c.loop-step in
    sym (from_here z.tree.now z.id (end_word z.tree.now z.i) l._step l.node (omega arith) (omega (arith, c.end_word-end.ensures.value)) (sym c.word.ensures ∙ c.if-word-id.true)) ∙ l.invariant

pub word-node-requires : goal.word-node-requires
word-node-requires c = omega (arith, c.end_word-end.ensures.upper_bound)

pub loop-step-preserved : goal.loop-step-preserved
loop-step-preserved c =
    let z = c.args in
    let l = c.loop-step in
    (ap (child_from z.tree.now z.id (end_word z.tree.now z.i) (16 - (l._step + 1))) c.word-node.ensures ∙ sym (from_next z.tree.now z.id (end_word z.tree.now z.i) l._step l.node (omega arith) (omega (arith, c.end_word-end.ensures.value)) (λ q. c.if-word-id.false (c.word.ensures ∙ q))) ∙ l.invariant)

pub returns : goal.returns
returns c =
    let z = c.args in
    let l = c.loop-step in
    sym (from_last z.tree.now z.id (end_word z.tree.now z.i) l._step l.node (omega arith)) ∙ l.invariant
