-- `finished_counts::all_kept` meets its contract. The invariant: the nodes below i pass. Assumes nothing.
use mathlib.Core.Path.{sym}
use Rattle.columnar.proofs.Test.{every_false}
use Rattle.array_data.proofs.lent_tables.Laws.{no, yes}
use Rattle.plan.specs.parts.Parts.{nodes_of}
use Rattle.plan.proofs.parts.Laws.{every_one, every_now}
use Rattle.into_builder.specs.counts.Counts.{kept_of}
use native.Mathlib.Omega.{arith}
use Rattle.into_builder.proofs.counts.all_kept.Goals as goal

pub kept_in-requires : goal.kept_in-requires
kept_in-requires c = omega (arith, c.node_count-n.ensures.upper_bound)

pub returns-then-not-kept_in : goal.returns-then-not-kept_in
returns-then-not-kept_in c =
    let z = c.args in
    sym (every_false (kept_of z.plan.now z.sources.now z.lengths.now z.places.now z.body.now) (nodes_of z.plan.now) c.loop-i.i (omega (arith, c.node_count-n.ensures.value)) (no c.kept_in.ensures c.if-not-kept_in.true-raw))

pub loop-i-preserved : goal.loop-i-preserved
loop-i-preserved c =
    let z = c.args in
    every_one (kept_of z.plan.now z.sources.now z.lengths.now z.places.now z.body.now) c.loop-i.i c.loop-i.invariant (yes c.kept_in.ensures c.if-not-kept_in.false-raw)

pub returns : goal.returns
returns c =
    let z = c.args in
    sym (every_now (kept_of z.plan.now z.sources.now z.lengths.now z.places.now z.body.now) (nodes_of z.plan.now) c.loop-i.i (omega (arith, c.node_count-n.ensures.value)) (omega (arith, c.node_count-n.ensures.value)) c.loop-i.invariant)
