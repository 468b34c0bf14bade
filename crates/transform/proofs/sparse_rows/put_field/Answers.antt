-- `transform::sparse_rows::put_field` meets its contract. Assumes nothing.
use mathlib.Core.Path.{ap, ◌∙◌}
use mathlib.Core.List.{[]}
use native.Mathlib.Omega.{arith}
use Rattle.schema.specs.formats.Code.{is_fixed}
use Rattle.walk.specs.State.{code_of}
use Rattle.leaf_walk.specs.Join.{join}
use Rattle.nested_rows.proofs.lookups.Laws.{slot_rows}
use Rattle.plan.specs.parts.Parts.{entry_size}
use Rattle.transform.proofs.numbers.Laws.{number_wide}
use Rattle.transform.proofs.null_ways.Laws.{numbers_at_lem}
use Rattle.transform.proofs.sparse_rows.Laws.{field_known, field_place, field_did}
use Rattle.transform.proofs.sparse_rows.put_field.Goals as goal

pub put_validity-requires : goal.put_validity-requires
put_validity-requires c =
    let a = c.args in
    let f = field_known (join a.plan.now a.parts.now a.lengths.now a.places.now a.body.now a.first 0) a.k a.row a.n (c.slot_of-at.ensures a.plan.now a.parts.now a.places.now a.body.now 0) c.requires.n_value in
    (c.requires.counters_len.0, c.requires.counters_len.1, c.requires.counters_len.2, omega (arith, slot_rows (join [] [] a.lengths.now [] [] a.first 0) a.k a.row a.n (c.slot_of-at.ensures [] [] [] [] 0) f.0), f.1)

pub put_entries-requires : goal.put_entries-requires
put_entries-requires c =
    let a = c.args in
    let w = c.number_size-w.ensures ∙ ap entry_size c.code_of.ensures in
    let f = field_known (join a.plan.now a.parts.now a.lengths.now a.places.now a.body.now a.first 0) a.k a.row a.n (c.slot_of-at.ensures a.plan.now a.parts.now a.places.now a.body.now 0) c.requires.n_value in
    let v = number_wide (code_of a.plan.now a.k) (numbers_at_lem a.plan.now a.k c.requires.counters_len.3).fixed w in
    record { first_bound = (c.requires.counters_len.1, c.requires.counters_len.2, omega (arith, slot_rows (join [] [] a.lengths.now [] [] a.first 0) a.k a.row a.n (c.slot_of-at.ensures [] [] [] [] 0) f.0), v.0, v.1); n_in_bounds = field_place (join a.plan.now a.parts.now a.lengths.now a.places.now a.body.now a.first 0) a.k c.slot_of-at.result a.n w f.2 }

pub returns : goal.returns
returns c =
    let a = c.args in
    let w = c.number_size-w.ensures ∙ ap entry_size c.code_of.ensures in
    let f = field_known (join a.plan.now a.parts.now a.lengths.now a.places.now a.body.now a.first 0) a.k a.row a.n (c.slot_of-at.ensures a.plan.now a.parts.now a.places.now a.body.now 0) c.requires.n_value in
    λ source. field_did (join a.plan.now a.parts.now a.lengths.now a.places.now a.body.now a.first source) a.k a.row a.n a.counters.now a.room.now c.requires.counters_len.2 (numbers_at_lem a.plan.now a.k c.requires.counters_len.3) (c.slot_of-at.ensures a.plan.now a.parts.now a.places.now a.body.now source) f.0 w (c.put_validity.ensures a.lengths.now source) (c.put_entries.ensures a.lengths.now source) c.add_to.ensures
