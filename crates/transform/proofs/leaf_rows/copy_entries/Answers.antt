-- `transform::leaf_rows::copy_entries` meets its contract. Assumes nothing.
use mathlib.Core.Path.{refl, ap, ◌∙◌}
use mathlib.Core.List.{[]}
use lib.ListN.{length}
use native.Mathlib.Omega.{arith}
use Rattle.array_data.proofs.lent_tables.Laws.{no, yes}
use Rattle.walk.specs.State.{code_of, add_rows, set_bytes}
use Rattle.walk.specs.Copy.{copy_walk}
use Rattle.leaf_walk.specs.Join.{join}
use Rattle.leaf_walk.proofs.Laws.{rows_in_lem}
use Rattle.plan.specs.parts.Parts.{entry_size}
use Rattle.transform.proofs.leaf_counters.Laws.{full, full_alike, holds_rows}
use Rattle.transform.proofs.leaf_rows.Laws.{leaf_data, leaf_parts, leaf_made}
use Rattle.transform.proofs.leaf_rows.Entries.{size_in_lem, entries_are, entries_out, entries_dry}
use Rattle.transform.proofs.leaf_rows.copy_entries.Goals as goal

pub rows_in-requires : goal.rows_in-requires
rows_in-requires c =
    let a = c.args in
    ((size_in_lem (code_of a.plan.now a.i) c.requires.bound.0 c.requires.bound.1 c.requires.bound.2 (c.entry_size-w.ensures ∙ ap entry_size c.code_of.ensures)).1, omega (arith, c.requires.counters_len.4))

pub returns-then-not-rows_in : goal.returns-then-not-rows_in
returns-then-not-rows_in c =
    let a = c.args in
    λ sources lengths start s. leaf_data a.plan.now a.parts.now sources lengths a.places.now a.body.now a.first a.source a.i start a.n a.counters.now a.room.now c.requires.counters_len.3 s (omega (arith, c.requires.counters_len.4)) c.requires.bound.1 c.requires.counters_len.0 c.requires.n_value (entries_out (join a.plan.now a.parts.now lengths a.places.now a.body.now a.first a.source) (copy_walk (join a.plan.now a.parts.now lengths a.places.now a.body.now a.first a.source) 7) a.i a.slot a.n (full a.i a.counters.now) a.room.now (entries_are (join a.plan.now a.parts.now lengths a.places.now a.body.now a.first a.source) (copy_walk (join a.plan.now a.parts.now lengths a.places.now a.body.now a.first a.source) 7) a.i a.slot a.n (full a.i a.counters.now) c.requires.bound.0 c.requires.bound.1 c.requires.bound.2) (rw (c.place.ensures, c.entry_size-w.ensures ∙ ap entry_size c.code_of.ensures) at (no (c.rows_in.ensures a.plan.now a.parts.now lengths a.places.now a.first a.source) c.if-not-rows_in.true-raw))) (λ z. omega arith)

pub returns-then-g-ne0 : goal.returns-then-g-ne0
returns-then-g-ne0 c =
    let a = c.args in
    λ sources lengths start s. leaf_parts a.plan.now a.parts.now sources lengths a.places.now a.body.now a.first a.source a.i start a.n a.counters.now a.room.now c.requires.counters_len.3 s (omega (arith, c.requires.counters_len.4)) c.requires.bound.1 c.requires.counters_len.0 c.requires.n_value (entries_dry (join a.plan.now a.parts.now lengths a.places.now a.body.now a.first a.source) (copy_walk (join a.plan.now a.parts.now lengths a.places.now a.body.now a.first a.source) 7) a.i a.slot a.n (full a.i a.counters.now) a.room.now (entries_are (join a.plan.now a.parts.now lengths a.places.now a.body.now a.first a.source) (copy_walk (join a.plan.now a.parts.now lengths a.places.now a.body.now a.first a.source) 7) a.i a.slot a.n (full a.i a.counters.now) c.requires.bound.0 c.requires.bound.1 c.requires.bound.2) (rw (c.place.ensures, c.entry_size-w.ensures ∙ ap entry_size c.code_of.ensures) at (yes (c.rows_in.ensures a.plan.now a.parts.now lengths a.places.now a.first a.source) c.if-not-rows_in.false-raw))) refl (set_bytes a.i c.at_u64-b.result (add_rows a.i a.n a.counters.now)) (holds_rows a.plan.now a.parts.now a.i a.n a.counters.now (full_alike a.i a.counters.now) c.at_u64-b.ensures) c.room_ground-g.ensures.value c.room_ground-g.ensures.counters_value c.if-g-ne0.true

pub put_bits-requires : goal.put_bits-requires
put_bits-requires c =
    let a = c.args in
    (ap length c.room_ground-g.ensures.counters_value ∙ c.requires.counters_len.0, c.requires.counters_len.1, c.requires.counters_len.3, c.requires.counters_len.4, c.requires.n_value)

pub put_entries-requires : goal.put_entries-requires
put_entries-requires c =
    let a = c.args in
    let q = c.entry_size-w.ensures ∙ ap entry_size c.code_of.ensures in
    let y = rows_in_lem (join [] [] [] [] a.body.now 0 0) c.place.result c.entry_size-w.result a.slot a.n (c.rows_in.ensures [] [] [] [] 0 0) c.if-not-rows_in.false-raw in
    record { first_bound = (c.requires.counters_len.1, c.requires.counters_len.2, c.requires.counters_len.3, c.requires.counters_len.4); bound = (c.requires.bound.0, c.requires.bound.1, c.requires.bound.2, q); n_in_bounds = rw c.place.ensures at y }

pub returns : goal.returns
returns c =
    let a = c.args in
    λ sources lengths start s. leaf_made a.plan.now a.parts.now sources lengths a.places.now a.body.now a.first a.source a.i start a.n a.counters.now a.room.now c.requires.counters_len.3 s (omega (arith, c.requires.counters_len.4)) c.requires.bound.1 c.requires.counters_len.0 c.requires.n_value (entries_dry (join a.plan.now a.parts.now lengths a.places.now a.body.now a.first a.source) (copy_walk (join a.plan.now a.parts.now lengths a.places.now a.body.now a.first a.source) 7) a.i a.slot a.n (full a.i a.counters.now) a.room.now (entries_are (join a.plan.now a.parts.now lengths a.places.now a.body.now a.first a.source) (copy_walk (join a.plan.now a.parts.now lengths a.places.now a.body.now a.first a.source) 7) a.i a.slot a.n (full a.i a.counters.now) c.requires.bound.0 c.requires.bound.1 c.requires.bound.2) (rw (c.place.ensures, c.entry_size-w.ensures ∙ ap entry_size c.code_of.ensures) at (yes (c.rows_in.ensures a.plan.now a.parts.now lengths a.places.now a.first a.source) c.if-not-rows_in.false-raw))) refl (set_bytes a.i c.at_u64-b.result (add_rows a.i a.n a.counters.now)) (holds_rows a.plan.now a.parts.now a.i a.n a.counters.now (full_alike a.i a.counters.now) c.at_u64-b.ensures) c.room_ground-g.ensures.value c.room_ground-g.ensures.counters_value c.if-g-ne0.false (c.put_bits.ensures lengths a.source) (c.put_entries.ensures lengths (copy_walk (join a.plan.now a.parts.now lengths a.places.now a.body.now a.first a.source) 7)) c.add_to.ensures
