-- `columns::all_within` meets its contract. The invariant: the sources below s pass no ceiling. Assumes nothing.
use mathlib.Core.Path.{◌≡◌, sym}
use mathlib.Core.Bool.{true}
use Prim.Native.Nat.{◌-◌}
use native.Mathlib.Omega.{arith}
use borrow.Author.Count.{below_more}
use mathlib.Core.List.{[]}
use Rattle.array_data.specs.lent_tables.Lent.{tables}
use Rattle.schema.proofs.Laws.{every_all, every_not}
use Rattle.array_data.proofs.lent_tables.Laws.{no, yes}
use Rattle.columns.specs.Grounds.{within_ceilings, all_within}
use Rattle.array_data.specs.Sources.{source_count}
use Rattle.columns.proofs.Laws.{at_source, of_source}
use Rattle.columns.proofs.all_within.Goals as goal

pub loop-s-init : goal.loop-s-init
loop-s-init c = λ j h. absurd (omega arith)

pub first_of-first-requires : goal.first_of-first-requires
first_of-first-requires c = omega arith

pub nodes_of-nodes-requires : goal.nodes_of-nodes-requires
nodes_of-nodes-requires c = omega arith

pub is_within-requires : goal.is_within-requires
is_within-requires c = omega arith

pub returns-then-not-is_within : goal.returns-then-not-is_within
unfolding all_within
returns-then-not-is_within c =
    let z = c.args in
    let l = c.loop-s in
    let f = within_ceilings z.formats.now z.schema.now (tables z.lengths.now z.places.now []) in
    sym (every_not (of_source f z.sources.now) (source_count z.sources.now) l.s (omega arith) (no (at_source f z.sources.now l.s c.is_within.ensures c.first_of-first.ensures c.nodes_of-nodes.ensures) c.if-not-is_within.true-raw))

pub loop-s-preserved : goal.loop-s-preserved
loop-s-preserved c =
    let z = c.args in
    let l = c.loop-s in
    let f = within_ceilings z.formats.now z.schema.now (tables z.lengths.now z.places.now []) in
    (below_more (λ j. of_source f z.sources.now j ≡ true) l.s l.invariant (yes (at_source f z.sources.now l.s c.is_within.ensures c.first_of-first.ensures c.nodes_of-nodes.ensures) c.if-not-is_within.false-raw))

pub returns : goal.returns
unfolding all_within
returns c =
    let z = c.args in
    sym (every_all (of_source (within_ceilings z.formats.now z.schema.now (tables z.lengths.now z.places.now [])) z.sources.now) (source_count z.sources.now) (λ j h. c.loop-s.invariant j (omega arith)))
