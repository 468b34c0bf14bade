-- `transform::leaf_rows::write_text` meets its contract. Assumes nothing.
use mathlib.Core.Path.{refl, sym, ap, ◌∙◌}
use mathlib.Core.Bool.{true, false}
use mathlib.Core.List.{[]}
use Prim.Native.Nat.{ℕ, ◌-◌}
use native.Mathlib.Omega.{arith}
use lib.ListN.{length}
use Rattle.utils.specs.Extension.{extended}
use Rattle.room_writes.proofs.Bytes.{width_in_lem}
use Rattle.walk.specs.State.{code_of, bytes, add_rows, set_bytes}
use Rattle.walk.specs.Copy.{copy_walk}
use Rattle.leaf_walk.specs.Join.{join}
use Rattle.leaf_walk.proofs.variable_size.Laws.{bytes_in_lem, fits_is, extended_fits}
use Rattle.nested_rows.proofs.node_data.Laws.{string_wide}
use Rattle.transform.proofs.leaf_counters.Laws.{full, full_alike, holds_bytes}
use Rattle.transform.proofs.leaf_rows.Laws.{leaf_data, leaf_parts, leaf_made}
use Rattle.transform.proofs.leaf_rows.Text.{string_code, bytes_kept, text_in, fits_no, fits_dry}
use Rattle.transform.proofs.leaf_rows.write_text.Goals as goal

pub overflow_sub-last : goal.overflow_sub-last
overflow_sub-last c =
    let a = c.args in
    let b = fits_is a.w a.body.now a.from a.n (bytes a.counters.now a.i) refl c.requires.from_value.2 in
    omega (arith, c.at_u64-old.ensures, b.0)

pub returns-then-not-bytes_in : goal.returns-then-not-bytes_in
returns-then-not-bytes_in c =
    let a = c.args in
    λ sources lengths source start s. leaf_data a.plan.now a.parts.now sources lengths a.places.now a.body.now a.first source a.i start a.n a.counters.now a.room.now c.requires.counters_len.2 s (omega (arith, c.requires.counters_len.3)) (string_code (code_of a.plan.now a.i) c.requires.i_value.0) c.requires.counters_len.0 c.requires.n_value (text_in (join a.plan.now a.parts.now lengths a.places.now a.body.now a.first source) (copy_walk (join a.plan.now a.parts.now lengths a.places.now a.body.now a.first source) 7) a.i a.slot a.n c.requires.i_value.0 c.requires.i_value.1 c.requires.counters_len.4 false (full a.i a.counters.now) a.room.now refl c.requires.from_value.0 c.requires.from_value.1 (fits_no (join a.plan.now a.parts.now lengths a.places.now a.body.now a.first source) a.i a.w a.from a.n a.last a.lead (full a.i a.counters.now) a.room.now (c.at_u64-old.ensures ∙ sym ((full_alike a.i a.counters.now).bytes_same a.i)) (ap (λ (v : ℕ). extended a.w a.body.now a.from a.n v) c.at_u64-old.ensures ∙ c.requires.from_value.2) c.place-at.ensures c.bytes_in.ensures c.if-not-bytes_in.true-raw)) (λ z. omega arith)

pub returns-then-g-ne0 : goal.returns-then-g-ne0
returns-then-g-ne0 c =
    let a = c.args in
    λ sources lengths source start s. leaf_parts a.plan.now a.parts.now sources lengths a.places.now a.body.now a.first source a.i start a.n a.counters.now a.room.now c.requires.counters_len.2 s (omega (arith, c.requires.counters_len.3)) (string_code (code_of a.plan.now a.i) c.requires.i_value.0) c.requires.counters_len.0 c.requires.n_value (text_in (join a.plan.now a.parts.now lengths a.places.now a.body.now a.first source) (copy_walk (join a.plan.now a.parts.now lengths a.places.now a.body.now a.first source) 7) a.i a.slot a.n c.requires.i_value.0 c.requires.i_value.1 c.requires.counters_len.4 false (full a.i a.counters.now) a.room.now refl c.requires.from_value.0 c.requires.from_value.1 (fits_dry (join a.plan.now a.parts.now lengths a.places.now a.body.now a.first source) a.i a.w a.from a.n a.last a.lead (full a.i a.counters.now) a.room.now (c.at_u64-old.ensures ∙ sym ((full_alike a.i a.counters.now).bytes_same a.i)) (ap (λ (v : ℕ). extended a.w a.body.now a.from a.n v) c.at_u64-old.ensures ∙ c.requires.from_value.2) (width_in_lem a.w (λ p q. string_wide a.plan.now a.i refl c.requires.i_value.1 refl c.requires.i_value.0)).0 (omega (arith, c.well_formed)) c.place-at.ensures c.bytes_in.ensures c.if-not-bytes_in.false-raw)) refl (set_bytes a.i a.last (add_rows a.i a.n a.counters.now)) (holds_bytes a.plan.now a.parts.now a.i a.n a.counters.now a.last) c.room_ground-g.ensures.value c.room_ground-g.ensures.counters_value c.if-g-ne0.true

pub put_text-requires : goal.put_text-requires
put_text-requires c =
    let a = c.args in
    let b = fits_is a.w a.body.now a.from a.n (bytes a.counters.now a.i) refl c.requires.from_value.2 in
    let y = bytes_kept (join a.plan.now a.parts.now [] a.places.now a.body.now a.first 0) a.i a.slot a.n c.room_ground-g.ensures.counters_value (c.put_bits.ensures [] 0) in
    let k = bytes_in_lem (length a.body.now) c.place-at.result a.lead (a.last - c.at_u64-old.result) c.bytes_in.ensures c.if-not-bytes_in.false-raw in
    record { counters_len = (omega (arith, c.counters-2-1.given, c.counters-1.given, ap length c.room_ground-g.ensures.counters_value, c.requires.counters_len.0), c.requires.counters_len.1, c.requires.counters_len.2, c.requires.from_value.1, omega (arith, y, b.0)); w_value = string_wide a.plan.now a.i refl c.requires.i_value.1 refl c.requires.i_value.0; i_in_bounds = omega (arith, y, k, c.place-at.ensures, c.at_u64-old.ensures) }

pub returns : goal.returns
returns c =
    let a = c.args in
    let y = bytes_kept (join a.plan.now a.parts.now [] a.places.now a.body.now a.first 0) a.i a.slot a.n c.room_ground-g.ensures.counters_value (c.put_bits.ensures [] 0) in
    λ sources lengths source start s. leaf_made a.plan.now a.parts.now sources lengths a.places.now a.body.now a.first source a.i start a.n a.counters.now a.room.now c.requires.counters_len.2 s (omega (arith, c.requires.counters_len.3)) (string_code (code_of a.plan.now a.i) c.requires.i_value.0) c.requires.counters_len.0 c.requires.n_value (text_in (join a.plan.now a.parts.now lengths a.places.now a.body.now a.first source) (copy_walk (join a.plan.now a.parts.now lengths a.places.now a.body.now a.first source) 7) a.i a.slot a.n c.requires.i_value.0 c.requires.i_value.1 c.requires.counters_len.4 false (full a.i a.counters.now) a.room.now refl c.requires.from_value.0 c.requires.from_value.1 (fits_dry (join a.plan.now a.parts.now lengths a.places.now a.body.now a.first source) a.i a.w a.from a.n a.last a.lead (full a.i a.counters.now) a.room.now (c.at_u64-old.ensures ∙ sym ((full_alike a.i a.counters.now).bytes_same a.i)) (ap (λ (v : ℕ). extended a.w a.body.now a.from a.n v) c.at_u64-old.ensures ∙ c.requires.from_value.2) (width_in_lem a.w (λ p q. string_wide a.plan.now a.i refl c.requires.i_value.1 refl c.requires.i_value.0)).0 (omega (arith, c.well_formed)) c.place-at.ensures c.bytes_in.ensures c.if-not-bytes_in.false-raw)) refl (set_bytes a.i a.last (add_rows a.i a.n a.counters.now)) (holds_bytes a.plan.now a.parts.now a.i a.n a.counters.now a.last) c.room_ground-g.ensures.value c.room_ground-g.ensures.counters_value c.if-g-ne0.false (c.put_bits.ensures lengths source) (text_in (join a.plan.now a.parts.now lengths a.places.now a.body.now a.first source) (copy_walk (join a.plan.now a.parts.now lengths a.places.now a.body.now a.first source) 7) a.i a.slot a.n c.requires.i_value.0 c.requires.i_value.1 c.requires.counters_len.4 true _ _ refl c.requires.from_value.0 c.requires.from_value.1 (extended_fits (join a.plan.now a.parts.now lengths a.places.now a.body.now a.first source) a.i true _ _ a.w a.from a.n (sym y) refl c.requires.from_value.2 (c.put_text.ensures lengths source))) c.add_to.ensures
