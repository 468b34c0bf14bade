-- `transform::leaf_rows::copy_text` meets its contract. Assumes nothing.
use mathlib.Core.Path.{refl, sym, ap, ◌∙◌}
use mathlib.Core.Bool.{false}
use mathlib.Core.List.{[]}
use Prim.Native.Nat.{ℕ, ◌+◌, ◌*◌, ◌-◌}
use native.Mathlib.Omega.{arith}
use Rattle.room_writes.proofs.Bytes.{width_in_lem}
use Rattle.utils.specs.Extension.{extended}
use Rattle.walk.specs.State.{code_of}
use Rattle.walk.specs.Copy.{copy_walk}
use Rattle.leaf_walk.specs.Join.{join}
use Rattle.leaf_walk.proofs.Laws.{rows_in_lem}
use Rattle.leaf_walk.proofs.variable_size.Laws.{extended_over, extended_falls}
use Rattle.nested_rows.proofs.node_data.Laws.{string_wide}
use Rattle.transform.proofs.leaf_counters.Laws.{full, full_alike}
use Rattle.transform.proofs.leaf_rows.Laws.{leaf_data}
use Rattle.transform.proofs.leaf_rows.Text.{string_code, text_out, text_in}
use Rattle.transform.proofs.leaf_rows.copy_text.Goals as goal

pub rows_in-requires : goal.rows_in-requires
rows_in-requires c =
    let a = c.args in
    let b = width_in_lem c.width_at-w.result (λ p q. string_wide a.plan.now a.i refl c.width_at-w.ensures refl c.requires.i_value) in
    (b.1, omega (arith, c.requires.counters_len.3))

pub returns-then-not-rows_in : goal.returns-then-not-rows_in
returns-then-not-rows_in c =
    let a = c.args in
    λ sources lengths source start s. leaf_data a.plan.now a.parts.now sources lengths a.places.now a.body.now a.first source a.i start a.n a.counters.now a.room.now c.requires.counters_len.2 s (omega (arith, c.requires.counters_len.3)) (string_code (code_of a.plan.now a.i) c.requires.i_value) c.requires.counters_len.0 c.requires.n_value (text_out (join a.plan.now a.parts.now lengths a.places.now a.body.now a.first source) (copy_walk (join a.plan.now a.parts.now lengths a.places.now a.body.now a.first source) 7) a.i a.slot a.n c.requires.i_value c.width_at-w.ensures c.requires.counters_len.4 false (full a.i a.counters.now) a.room.now c.place-at.ensures (c.rows_in.ensures a.plan.now a.parts.now lengths a.places.now a.first source) c.if-not-rows_in.true-raw) (λ z. omega arith)

pub overflow_mul-from : goal.overflow_mul-from
overflow_mul-from c =
    let a = c.args in
    omega (arith, rows_in_lem (join [] [] [] [] a.body.now 0 0) c.place-at.result c.width_at-w.result a.slot (a.n + 1) (c.rows_in.ensures [] [] [] [] 0 0) c.if-not-rows_in.false-raw)

pub overflow_add-from : goal.overflow_add-from
overflow_add-from c =
    let a = c.args in
    omega (arith, rows_in_lem (join [] [] [] [] a.body.now 0 0) c.place-at.result c.width_at-w.result a.slot (a.n + 1) (c.rows_in.ensures [] [] [] [] 0 0) c.if-not-rows_in.false-raw)

pub try_offsets-requires : goal.try_offsets-requires
try_offsets-requires c =
    let a = c.args in
    record { n_in_bounds = omega (arith, rows_in_lem (join [] [] [] [] a.body.now 0 0) c.place-at.result c.width_at-w.result a.slot (a.n + 1) (c.rows_in.ensures [] [] [] [] 0 0) c.if-not-rows_in.false-raw); w_value = string_wide a.plan.now a.i refl c.width_at-w.ensures refl c.requires.i_value }

pub write_text-requires : goal.write_text-requires
write_text-requires c =
    let a = c.args in
    let y = rows_in_lem (join [] [] [] [] a.body.now 0 0) c.place-at.result c.width_at-w.result a.slot (a.n + 1) (c.rows_in.ensures [] [] [] [] 0 0) c.if-not-rows_in.false-raw in
    record { counters_len = c.requires.counters_len; i_value = (c.requires.i_value, c.width_at-w.ensures); from_value = (ap (λ (v : ℕ). v + c.width_at-w.result * a.slot) c.place-at.ensures, omega (arith, y), ap (λ (v : ℕ). extended c.width_at-w.result a.body.now (c.place-at.result + c.width_at-w.result * a.slot) a.n v) (sym c.at_u64-old.ensures) ∙ sym c.try_offsets.ensures ∙ c.in-Fits.is); n_value = c.requires.n_value }

pub returns-in-Over : goal.returns-in-Over
returns-in-Over c =
    let a = c.args in
    let y = rows_in_lem (join [] [] [] [] a.body.now 0 0) c.place-at.result c.width_at-w.result a.slot (a.n + 1) (c.rows_in.ensures [] [] [] [] 0 0) c.if-not-rows_in.false-raw in
    λ sources lengths source start s. leaf_data a.plan.now a.parts.now sources lengths a.places.now a.body.now a.first source a.i start a.n a.counters.now a.room.now c.requires.counters_len.2 s (omega (arith, c.requires.counters_len.3)) (string_code (code_of a.plan.now a.i) c.requires.i_value) c.requires.counters_len.0 c.requires.n_value (text_in (join a.plan.now a.parts.now lengths a.places.now a.body.now a.first source) (copy_walk (join a.plan.now a.parts.now lengths a.places.now a.body.now a.first source) 7) a.i a.slot a.n c.requires.i_value c.width_at-w.ensures c.requires.counters_len.4 false (full a.i a.counters.now) a.room.now c.place-at.ensures refl (omega (arith, y)) (extended_over (join a.plan.now a.parts.now lengths a.places.now a.body.now a.first source) a.i false (full a.i a.counters.now) a.room.now c.width_at-w.result (c.place-at.result + c.width_at-w.result * a.slot) a.n (c.at_u64-old.ensures ∙ sym ((full_alike a.i a.counters.now).bytes_same a.i)) c.try_offsets.ensures c.in-Over.is)) (λ z. omega arith)

pub returns-in-Falls : goal.returns-in-Falls
returns-in-Falls c =
    let a = c.args in
    let y = rows_in_lem (join [] [] [] [] a.body.now 0 0) c.place-at.result c.width_at-w.result a.slot (a.n + 1) (c.rows_in.ensures [] [] [] [] 0 0) c.if-not-rows_in.false-raw in
    λ sources lengths source start s. leaf_data a.plan.now a.parts.now sources lengths a.places.now a.body.now a.first source a.i start a.n a.counters.now a.room.now c.requires.counters_len.2 s (omega (arith, c.requires.counters_len.3)) (string_code (code_of a.plan.now a.i) c.requires.i_value) c.requires.counters_len.0 c.requires.n_value (text_in (join a.plan.now a.parts.now lengths a.places.now a.body.now a.first source) (copy_walk (join a.plan.now a.parts.now lengths a.places.now a.body.now a.first source) 7) a.i a.slot a.n c.requires.i_value c.width_at-w.ensures c.requires.counters_len.4 false (full a.i a.counters.now) a.room.now c.place-at.ensures refl (omega (arith, y)) (extended_falls (join a.plan.now a.parts.now lengths a.places.now a.body.now a.first source) a.i false (full a.i a.counters.now) a.room.now c.width_at-w.result (c.place-at.result + c.width_at-w.result * a.slot) a.n (c.at_u64-old.ensures ∙ sym ((full_alike a.i a.counters.now).bytes_same a.i)) c.try_offsets.ensures c.in-Falls.is)) (λ z. omega arith)
