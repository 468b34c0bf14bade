-- `columns::all_typed` meets its contract. The invariant: the sources below s are of types that are admitted. Assumes nothing.
use mathlib.Core.Path.{◌≡◌, sym}
use mathlib.Core.Bool.{true}
use Prim.Native.Nat.{◌-◌}
use native.Mathlib.Omega.{arith}
use borrow.Author.Count.{below_more}
use Rattle.schema.specs.Tree.{typed}
use Rattle.schema.proofs.Laws.{every_all, every_not}
use Rattle.array_data.proofs.lent_tables.Laws.{no, yes}
use Rattle.columns.specs.Grounds.{all_typed}
use Rattle.array_data.specs.Sources.{source_count}
use Rattle.columns.proofs.Laws.{at_source, of_source}
use Rattle.columns.proofs.all_typed.Goals as goal

pub loop-s-init : goal.loop-s-init
loop-s-init c = λ j h. absurd (omega arith)

pub first_of-first-requires : goal.first_of-first-requires
first_of-first-requires c = omega arith

pub overflow_cast-first : goal.overflow_cast-first
overflow_cast-first c = omega arith

pub nodes_of-nodes-requires : goal.nodes_of-nodes-requires
nodes_of-nodes-requires c = omega arith

pub overflow_cast-nodes : goal.overflow_cast-nodes
overflow_cast-nodes c = omega arith

pub is_typed-requires : goal.is_typed-requires
is_typed-requires c = omega arith

pub returns-then-not-is_typed : goal.returns-then-not-is_typed
unfolding all_typed
returns-then-not-is_typed c =
    let z = c.args in
    let l = c.loop-s in
    let f = typed z.formats.now z.schema.now in
    sym (every_not (of_source f z.sources.now) (source_count z.sources.now) l.s (omega arith) (no (at_source f z.sources.now l.s c.is_typed.ensures c.first_of-first.ensures c.nodes_of-nodes.ensures) c.if-not-is_typed.true-raw))

pub loop-s-preserved : goal.loop-s-preserved
loop-s-preserved c =
    let z = c.args in
    let l = c.loop-s in
    let f = typed z.formats.now z.schema.now in
    (below_more (λ j. of_source f z.sources.now j ≡ true) l.s l.invariant (yes (at_source f z.sources.now l.s c.is_typed.ensures c.first_of-first.ensures c.nodes_of-nodes.ensures) c.if-not-is_typed.false-raw))

pub returns : goal.returns
unfolding all_typed
returns c =
    let z = c.args in
    sym (every_all (of_source (typed z.formats.now z.schema.now) z.sources.now) (source_count z.sources.now) (λ j h. c.loop-s.invariant j (omega arith)))
