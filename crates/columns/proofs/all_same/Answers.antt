-- `columns::all_same` meets its contract. The invariant: the sources below s are of the first one's type. Assumes nothing.
use mathlib.Core.Path.{◌≡◌, sym}
use mathlib.Core.Bool.{true}
use Prim.Native.Nat.{◌-◌}
use native.Mathlib.Omega.{arith}
use borrow.Author.Count.{below_more}
use Rattle.schema.specs.Tree.{same_type}
use Rattle.schema.proofs.Laws.{every_all, every_not}
use Rattle.array_data.proofs.lent_tables.Laws.{no, yes}
use Rattle.columns.specs.Grounds.{all_same}
use Rattle.array_data.specs.Sources.{source_count, first_of, nodes_of}
use Rattle.columns.proofs.Laws.{at_source, of_source, first_is}
use Rattle.columns.proofs.all_same.Goals as goal

pub first_of-first-requires : goal.first_of-first-requires
first_of-first-requires c = omega arith

pub overflow_cast-first : goal.overflow_cast-first
overflow_cast-first c = omega arith

pub nodes_of-nodes-requires : goal.nodes_of-nodes-requires
nodes_of-nodes-requires c = omega arith

pub overflow_cast-nodes : goal.overflow_cast-nodes
overflow_cast-nodes c = omega arith

pub loop-s-init : goal.loop-s-init
loop-s-init c = (c.first_of-first.ensures, c.nodes_of-nodes.ensures, λ j h. absurd (omega arith))

pub first_of-first2-requires : goal.first_of-first2-requires
first_of-first2-requires c = omega arith

pub overflow_cast-first2 : goal.overflow_cast-first2
overflow_cast-first2 c = omega arith

pub nodes_of-nodes2-requires : goal.nodes_of-nodes2-requires
nodes_of-nodes2-requires c = omega arith

pub overflow_cast-nodes2 : goal.overflow_cast-nodes2
overflow_cast-nodes2 c = omega arith

pub same_type-requires : goal.same_type-requires
same_type-requires c = omega arith

pub returns-then-not-same_type : goal.returns-then-not-same_type
unfolding all_same
returns-then-not-same_type c =
    let z = c.args in
    let l = c.loop-s in
    let f = same_type z.formats.now z.schema.now (first_of z.sources.now 0) (nodes_of z.sources.now 0) in
    sym (every_not (of_source f z.sources.now) (source_count z.sources.now) l.s (omega arith) (no (at_source f z.sources.now l.s (first_is z.formats.now z.schema.now z.sources.now _ _ l.invariant.0 l.invariant.1 c.same_type.ensures) c.first_of-first2.ensures c.nodes_of-nodes2.ensures) c.if-not-same_type.true-raw))

pub loop-s-preserved : goal.loop-s-preserved
loop-s-preserved c =
    let z = c.args in
    let l = c.loop-s in
    let f = same_type z.formats.now z.schema.now (first_of z.sources.now 0) (nodes_of z.sources.now 0) in
    (l.invariant.0, l.invariant.1, below_more (λ j. of_source f z.sources.now j ≡ true) l.s l.invariant.2 (yes (at_source f z.sources.now l.s (first_is z.formats.now z.schema.now z.sources.now _ _ l.invariant.0 l.invariant.1 c.same_type.ensures) c.first_of-first2.ensures c.nodes_of-nodes2.ensures) c.if-not-same_type.false-raw))

pub returns : goal.returns
unfolding all_same
returns c =
    let z = c.args in
    sym (every_all (of_source (same_type z.formats.now z.schema.now (first_of z.sources.now 0) (nodes_of z.sources.now 0)) z.sources.now) (source_count z.sources.now) (λ j h. c.loop-s.invariant.2 j (omega arith)))
