-- `buffer_names::count_at` meets its contract. Assumes nothing.
use mathlib.Core.Path.{refl, sym}
use Rattle.array_data.proofs.lent_tables.Laws.{no, yes}
use Rattle.into_builder.proofs.buffers.Names.{count_none, count_some}
use native.Mathlib.Omega.{arith}
use Rattle.into_builder.proofs.buffers.count_at.Goals as goal

pub returns-then-not-is_view : goal.returns-then-not-is_view
returns-then-not-is_view c =
    let z = c.args in
    record { value = sym (count_none z.plan.now z.sources.now z.places.now z.i c.code_of.ensures refl (no c.is_view.ensures c.if-not-is_view.true-raw)); upper_bound = omega arith }

pub returns : goal.returns
returns c =
    let z = c.args in
    record { value = count_some z.plan.now z.sources.now z.places.now z.i c.code_of.ensures refl (yes c.is_view.ensures c.if-not-is_view.false-raw) c.source_count.ensures.value c.buffers_up_to.ensures.value; upper_bound = omega arith }
