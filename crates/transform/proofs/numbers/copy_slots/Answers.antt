-- `transform::numbers::copy_slots` meets its contract. Assumes nothing.
use mathlib.Core.Path.{refl, sym, ap, ◌∙◌}
use mathlib.Core.List.{[]}
use native.Mathlib.Omega.{arith}
use lib.ListN.{length}
use Rattle.schema.specs.formats.Code.{is_fixed}
use Rattle.array_data.proofs.lent_tables.Laws.{no, yes}
use Rattle.walk.specs.State.{code_of, bytes, add_rows, set_bytes}
use Rattle.walk.specs.Copy.{copy_walk}
use Rattle.leaf_walk.specs.Join.{join}
use Rattle.leaf_walk.proofs.Laws.{rows_in_lem}
use Rattle.plan.specs.parts.Parts.{entry_size}
use Rattle.transform.proofs.leaf_counters.Laws.{full, full_alike, holds_rows}
use Rattle.transform.proofs.leaf_rows.Laws.{leaf_data, leaf_parts, leaf_made}
use Rattle.transform.proofs.leaf_rows.Entries.{entries_are, entries_out, entries_dry}
use Rattle.transform.proofs.numbers.Laws.{one_node, one_first, first_one, fixed_low, no_offsets, number_wide, raised_rows, numbers_fit, rows_kept}
use Rattle.transform.proofs.numbers.copy_slots.Goals as goal

pub rows_in-requires : goal.rows_in-requires
rows_in-requires c =
    let a = c.args in
    ((number_wide (code_of a.plan.now 0) (one_node a.plan.now c.requires.counters_len.3).fixed (c.number_size-w.ensures ∙ ap entry_size c.code_of.ensures)).1, omega (arith, c.requires.counters_len.2))

pub returns-then-not-rows_in : goal.returns-then-not-rows_in
returns-then-not-rows_in c =
    let a = c.args in
    let f = (one_node a.plan.now c.requires.counters_len.3).fixed in
    let l = fixed_low (code_of a.plan.now 0) f in
    λ sources lengths source start s. let x = join a.plan.now a.parts.now lengths a.places.now a.body.now a.first source in leaf_data a.plan.now a.parts.now sources lengths a.places.now a.body.now a.first source 0 start a.n a.counters.now a.room.now (omega arith) s (omega (arith, c.requires.counters_len.2)) (omega (arith, l.1)) c.requires.counters_len.0 c.requires.n_value (entries_out x (copy_walk x 7) 0 a.slot a.n (full 0 a.counters.now) a.room.now (entries_are x (copy_walk x 7) 0 a.slot a.n (full 0 a.counters.now) l.0 (omega (arith, l.1)) (no_offsets (code_of a.plan.now 0) f).0) (rw (c.place-at.ensures, c.number_size-w.ensures ∙ ap entry_size c.code_of.ensures) at (no (c.rows_in.ensures a.plan.now a.parts.now lengths a.places.now a.first source) c.if-not-rows_in.true-raw))) (λ z. omega arith)

pub returns-then-g-ne0 : goal.returns-then-g-ne0
returns-then-g-ne0 c =
    let a = c.args in
    let f = (one_node a.plan.now c.requires.counters_len.3).fixed in
    let l = fixed_low (code_of a.plan.now 0) f in
    λ sources lengths source start s. let x = join a.plan.now a.parts.now lengths a.places.now a.body.now a.first source in leaf_parts a.plan.now a.parts.now sources lengths a.places.now a.body.now a.first source 0 start a.n a.counters.now a.room.now (omega arith) s (omega (arith, c.requires.counters_len.2)) (omega (arith, l.1)) c.requires.counters_len.0 c.requires.n_value (entries_dry x (copy_walk x 7) 0 a.slot a.n (full 0 a.counters.now) a.room.now (entries_are x (copy_walk x 7) 0 a.slot a.n (full 0 a.counters.now) l.0 (omega (arith, l.1)) (no_offsets (code_of a.plan.now 0) f).0) (rw (c.place-at.ensures, c.number_size-w.ensures ∙ ap entry_size c.code_of.ensures) at (yes (c.rows_in.ensures a.plan.now a.parts.now lengths a.places.now a.first source) c.if-not-rows_in.false-raw))) refl (set_bytes 0 (bytes a.counters.now 0) (add_rows 0 a.n a.counters.now)) (holds_rows a.plan.now a.parts.now 0 a.n a.counters.now (full_alike 0 a.counters.now) refl) (c.room_ground-g.ensures (set_bytes 0 (bytes a.counters.now 0) (add_rows 0 a.n a.counters.now)) (raised_rows a.n (bytes a.counters.now 0) a.counters.now c.requires.counters_len.0 c.at_u64-p.ensures c.grow-r.ensures)) refl c.if-g-ne0.true

pub put_numbers-requires : goal.put_numbers-requires
put_numbers-requires c =
    let a = c.args in
    let o = one_node a.plan.now c.requires.counters_len.3 in
    let e = c.number_size-w.ensures ∙ ap entry_size c.code_of.ensures in
    let y = rows_in_lem (join [] [] [] [] a.body.now 0 0) c.place-at.result c.number_size-w.result a.slot a.n (c.rows_in.ensures [] [] [] [] 0 0) c.if-not-rows_in.false-raw in
    let t = set_bytes 0 (bytes a.counters.now 0) (add_rows 0 a.n a.counters.now) in
    let r = raised_rows a.n (bytes a.counters.now 0) a.counters.now c.requires.counters_len.0 c.at_u64-p.ensures c.grow-r.ensures in
    let fit = numbers_fit a.plan.now a.parts.now t (length a.room.now) (one_first a.plan.now o) (c.room_ground-g.ensures t r) c.if-g-ne0.false c.at_u64-p.result a.n refl (r ∙ c.grow-r.ensures) e (omega (arith, c.well_formed)) in
    record { i_bound = (omega arith, o.fixed, o.plain, e); n_in_bounds = (y, omega (arith, fit, c.room-1.given)) }

pub add_to-requires : goal.add_to-requires
add_to-requires c =
    omega (arith, c.counters-1.given, c.requires.counters_len.0)

pub returns : goal.returns
returns c =
    let a = c.args in
    let f = (one_node a.plan.now c.requires.counters_len.3).fixed in
    let l = fixed_low (code_of a.plan.now 0) f in
    let e = c.number_size-w.ensures ∙ ap entry_size c.code_of.ensures in
    λ sources lengths source start s. let x = join a.plan.now a.parts.now lengths a.places.now a.body.now a.first source in leaf_made a.plan.now a.parts.now sources lengths a.places.now a.body.now a.first source 0 start a.n a.counters.now a.room.now (omega arith) s (omega (arith, c.requires.counters_len.2)) (omega (arith, l.1)) c.requires.counters_len.0 c.requires.n_value (entries_dry x (copy_walk x 7) 0 a.slot a.n (full 0 a.counters.now) a.room.now (entries_are x (copy_walk x 7) 0 a.slot a.n (full 0 a.counters.now) l.0 (omega (arith, l.1)) (no_offsets (code_of a.plan.now 0) f).0) (rw (c.place-at.ensures, e) at (yes (c.rows_in.ensures a.plan.now a.parts.now lengths a.places.now a.first source) c.if-not-rows_in.false-raw))) refl (set_bytes 0 (bytes a.counters.now 0) (add_rows 0 a.n a.counters.now)) (holds_rows a.plan.now a.parts.now 0 a.n a.counters.now (full_alike 0 a.counters.now) refl) (c.room_ground-g.ensures (set_bytes 0 (bytes a.counters.now 0) (add_rows 0 a.n a.counters.now)) (raised_rows a.n (bytes a.counters.now 0) a.counters.now c.requires.counters_len.0 c.at_u64-p.ensures c.grow-r.ensures)) refl c.if-g-ne0.false (c.put_validity.ensures lengths source) (c.put_numbers.ensures lengths a.places.now _ a.first source (copy_walk x 7) c.place-at.ensures (c.at_u64-p.ensures ∙ sym (rows_kept x 0 a.slot a.n a.counters.now (c.put_validity.ensures lengths source)))) c.add_to.ensures
