-- `columns::all_obey` meets its contract. The invariant: the sources below s obey. Assumes nothing.
use mathlib.Core.Path.{◌≡◌, sym}
use mathlib.Core.Bool.{true}
use Prim.Native.Nat.{◌-◌}
use native.Mathlib.Omega.{arith}
use borrow.Author.Count.{below_more}
use mathlib.Core.Path.{◌∙◌}
use Rattle.source_rules.specs.kinds.Rows.{tables_of}
use Rattle.columns.proofs.Answers.{all_within_as, ready_at}
use Rattle.schema.proofs.Laws.{every_all, every_not}
use Rattle.array_data.proofs.lent_tables.Laws.{no, yes}
use Rattle.columns.specs.Grounds.{obeys, all_obey}
use Rattle.array_data.specs.Sources.{source_count}
use Rattle.columns.proofs.Laws.{at_source, of_source}
use Rattle.columns.proofs.all_obey.Goals as goal

pub loop-s-init : goal.loop-s-init
loop-s-init c = λ j h. absurd (omega arith)

pub first_of-from-requires : goal.first_of-from-requires
first_of-from-requires c = omega arith

pub overflow_cast-from : goal.overflow_cast-from
overflow_cast-from c = omega arith

pub nodes_of-size-requires : goal.nodes_of-size-requires
nodes_of-size-requires c = omega arith

pub overflow_cast-size : goal.overflow_cast-size
overflow_cast-size c = omega arith

pub source_ok-requires : goal.source_ok-requires
source_ok-requires c =
    let z = c.args in
    let l = c.loop-s in
    let x = tables_of z.lengths.now z.places.now z.buffers.now z.body.now in
    let same = all_within_as z.formats.now z.schema.now z.lengths.now z.places.now z.buffers.now z.body.now z.sources.now in
    ready_at z.formats.now z.schema.now x z.sources.now (sym same ∙ c.requires.0) c.requires.1 l.s (omega arith) _ _ c.first_of-from.ensures c.nodes_of-size.ensures (omega arith)

pub returns-then-not-source_ok : goal.returns-then-not-source_ok
unfolding all_obey obeys
returns-then-not-source_ok c =
    let z = c.args in
    let l = c.loop-s in
    let f = obeys z.formats.now z.schema.now (tables_of z.lengths.now z.places.now z.buffers.now z.body.now) in
    sym (every_not (of_source f z.sources.now) (source_count z.sources.now) l.s (omega arith) (no (at_source f z.sources.now l.s c.source_ok.ensures c.first_of-from.ensures c.nodes_of-size.ensures) c.if-not-source_ok.true-raw))

pub loop-s-preserved : goal.loop-s-preserved
unfolding obeys
loop-s-preserved c =
    let z = c.args in
    let l = c.loop-s in
    let f = obeys z.formats.now z.schema.now (tables_of z.lengths.now z.places.now z.buffers.now z.body.now) in
    (below_more (λ j. of_source f z.sources.now j ≡ true) l.s l.invariant (yes (at_source f z.sources.now l.s c.source_ok.ensures c.first_of-from.ensures c.nodes_of-size.ensures) c.if-not-source_ok.false-raw))

pub returns : goal.returns
unfolding all_obey obeys
returns c =
    let z = c.args in
    sym (every_all (of_source (obeys z.formats.now z.schema.now (tables_of z.lengths.now z.places.now z.buffers.now z.body.now)) z.sources.now) (source_count z.sources.now) (λ j h. c.loop-s.invariant j (omega arith)))
