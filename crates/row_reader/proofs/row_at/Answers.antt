-- `row_reader::row_at` meets its contract. Assumes nothing.
use mathlib.Core.Path.{sym, subst, ◌∙◌}
use native.Mathlib.Omega.{arith}
use Rattle.array_data.specs.entries.Entries.{column}
use Rattle.row_reader.specs.Walk.{walk}
use Rattle.row_reader.proofs.Laws.{walk_short, Read, past_last, answer_none, answer_some}
use Rattle.row_reader.proofs.row_at.Goals as goal

pub returns-then-length_at-row : goal.returns-then-length_at-row
returns-then-length_at-row c =
    let z = c.args in
    let y = column z.lengths.now z.places.now z.buffers.now z.body.now z.first in
    let d = past_last z.tree.now y z.row _ c.length_at.ensures z.ids.now (omega arith) in
    record { fact = (d.row_is, d.count_is); ids_value = d.ids_are }

pub returns-then-is_refused : goal.returns-then-is_refused
returns-then-is_refused c =
    let z = c.args in
    let y = column z.lengths.now z.places.now z.buffers.now z.body.now z.first in
    let e = c.read_at-r.ensures in
    let q : Read (walk z.tree.now y 8 0 z.row) c.copied-old.result 0 c.read_at-r.result.read c.read_at-r.result.ids c.read_at-r.result.count = record { row_is = e.0; count_is = e.1; ids_are = e.2 } in
    let d = answer_none z.tree.now y z.row _ c.length_at.ensures z.ids.now (omega arith) _ _ _ (subst (λ o. Read (walk z.tree.now y 8 0 z.row) o 0 c.read_at-r.result.read c.read_at-r.result.ids c.read_at-r.result.count) c.copied-old.ensures q) (sym c.is_refused.ensures ∙ c.if-is_refused.true) in
    record { fact = (d.row_is, d.count_is); ids_value = d.ids_are }

pub overflow_cast-result : goal.overflow_cast-result
overflow_cast-result c =
    let z = c.args in
    let y = column z.lengths.now z.places.now z.buffers.now z.body.now z.first in
    omega (arith, c.read_at-r.ensures.1, walk_short z.tree.now y 8 0 z.row)

pub returns : goal.returns
returns c =
    let z = c.args in
    let y = column z.lengths.now z.places.now z.buffers.now z.body.now z.first in
    let e = c.read_at-r.ensures in
    let q : Read (walk z.tree.now y 8 0 z.row) c.copied-old.result 0 c.read_at-r.result.read c.read_at-r.result.ids c.read_at-r.result.count = record { row_is = e.0; count_is = e.1; ids_are = e.2 } in
    let d = answer_some z.tree.now y z.row _ c.length_at.ensures z.ids.now (omega arith) _ _ _ (subst (λ o. Read (walk z.tree.now y 8 0 z.row) o 0 c.read_at-r.result.read c.read_at-r.result.ids c.read_at-r.result.count) c.copied-old.ensures q) (sym c.is_refused.ensures ∙ c.if-is_refused.false) in
    record { fact = (d.row_is, d.count_is); ids_value = d.ids_are }
