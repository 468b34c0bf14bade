-- `transform::list_rows::copy_slots` meets its contract. Assumes nothing.
use mathlib.Core.Path.{sym, ap, ◌∙◌}
use mathlib.Core.List.{[]}
use Prim.Native.Nat.{ℕ, ◌+◌, ◌*◌}
use native.Mathlib.Omega.{arith}
use Rattle.utils.specs.Extension.{extended}
use Rattle.leaf_walk.specs.Join.{join}
use Rattle.leaf_walk.proofs.Laws.{rows_in_lem}
use Rattle.transform.proofs.null_ways.Laws.{lists_known}
use Rattle.transform.proofs.list_rows.Laws.{offset_wide, offsets_outside, offsets_over, offsets_fall}
use Rattle.transform.proofs.list_rows.copy_slots.Goals as goal

pub rows_in-requires : goal.rows_in-requires
rows_in-requires c =
    let p = c.args.plan.now in
    ((offset_wide p (lists_known p c.requires.counters_len.2) c.width_at-w.ensures).0.1, omega (arith, c.requires.n_bound.0))

pub returns-then-not-rows_in : goal.returns-then-not-rows_in
returns-then-not-rows_in c =
    let a = c.args in
    let o = lists_known a.plan.now c.requires.counters_len.2 in
    λ sources source start s. offsets_outside a.plan.now a.parts.now sources a.lengths.now a.places.now a.body.now a.first source start a.n a.counters.now a.room.now o s (omega (arith, c.requires.n_bound.0)) c.requires.n_bound.1 c.requires.counters_len.3 c.requires.counters_len.0 c.width_at-w.ensures c.place-at.ensures (c.rows_in.ensures a.plan.now a.parts.now a.lengths.now a.places.now a.first source) c.if-not-rows_in.true-raw

pub overflow_mul-from : goal.overflow_mul-from
overflow_mul-from c =
    let a = c.args in
    omega (arith, rows_in_lem (join [] [] [] [] a.body.now 0 0) c.place-at.result c.width_at-w.result a.slot (a.n + 1) (c.rows_in.ensures [] [] [] [] 0 0) c.if-not-rows_in.false-raw)

pub overflow_add-from : goal.overflow_add-from
overflow_add-from c =
    let a = c.args in
    omega (arith, rows_in_lem (join [] [] [] [] a.body.now 0 0) c.place-at.result c.width_at-w.result a.slot (a.n + 1) (c.rows_in.ensures [] [] [] [] 0 0) c.if-not-rows_in.false-raw)

pub try_offsets-requires : goal.try_offsets-requires
try_offsets-requires c =
    let a = c.args in
    record { n_in_bounds = omega (arith, rows_in_lem (join [] [] [] [] a.body.now 0 0) c.place-at.result c.width_at-w.result a.slot (a.n + 1) (c.rows_in.ensures [] [] [] [] 0 0) c.if-not-rows_in.false-raw); w_value = (offset_wide a.plan.now (lists_known a.plan.now c.requires.counters_len.2) c.width_at-w.ensures).1 }

pub copy_items-requires : goal.copy_items-requires
copy_items-requires c =
    let a = c.args in
    let y = rows_in_lem (join [] [] [] [] a.body.now 0 0) c.place-at.result c.width_at-w.result a.slot (a.n + 1) (c.rows_in.ensures [] [] [] [] 0 0) c.if-not-rows_in.false-raw in
    record { counters_len = c.requires.counters_len; rows_in_lem = (c.width_at-w.ensures, ap (λ (v : ℕ). v + c.width_at-w.result * a.slot) c.place-at.ensures, omega (arith, y), c.requires.n_bound.1, omega (arith, c.requires.n_bound.0)); counters_value = ap (λ (v : ℕ). extended c.width_at-w.result a.body.now (c.place-at.result + c.width_at-w.result * a.slot) a.n v) (sym c.at_u64-old.ensures) ∙ sym c.try_offsets.ensures ∙ c.in-Fits.is }

pub returns-in-Over : goal.returns-in-Over
returns-in-Over c =
    let a = c.args in
    let o = lists_known a.plan.now c.requires.counters_len.2 in
    λ sources source start s. offsets_over a.plan.now a.parts.now sources a.lengths.now a.places.now a.body.now a.first source start a.n a.counters.now a.room.now o s (omega (arith, c.requires.n_bound.0)) c.requires.n_bound.1 c.requires.counters_len.3 c.requires.counters_len.0 c.width_at-w.ensures c.place-at.ensures (c.rows_in.ensures a.plan.now a.parts.now a.lengths.now a.places.now a.first source) c.if-not-rows_in.false-raw c.at_u64-old.ensures c.try_offsets.ensures c.in-Over.is

pub returns-in-Falls : goal.returns-in-Falls
returns-in-Falls c =
    let a = c.args in
    let o = lists_known a.plan.now c.requires.counters_len.2 in
    λ sources source start s. offsets_fall a.plan.now a.parts.now sources a.lengths.now a.places.now a.body.now a.first source start a.n a.counters.now a.room.now o s (omega (arith, c.requires.n_bound.0)) c.requires.n_bound.1 c.requires.counters_len.3 c.requires.counters_len.0 c.width_at-w.ensures c.place-at.ensures (c.rows_in.ensures a.plan.now a.parts.now a.lengths.now a.places.now a.first source) c.if-not-rows_in.false-raw c.at_u64-old.ensures c.try_offsets.ensures c.in-Falls.is
