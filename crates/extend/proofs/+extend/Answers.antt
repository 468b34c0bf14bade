use native.Mathlib.Omega.{arith}
use mathlib.Core.Path.{◌≡◌, refl, ap}
use Prim.Native.Nat.{suc, ◌+◌, ℕ, ◌-◌}
use borrow.Author.Rules.{rules}
use lib.ListN.{get_or}
use native.Mathlib.Nat.{sub-zero}
use native.Mathlib.Numerals.{add-one}
use Rattle.walk.specs.State.{place}
use Rattle.walk.specs.Copy.{copy_walk}
use Rattle.walk.proofs.Laws.{each_none, each_stop, each_more}
use Rattle.room_writes.proofs.Bytes.{width_in_lem}
use Rattle.leaf_walk.specs.Join.{join}
use Rattle.extend.proofs.Laws.{pairs_row, list_out, list_short, list_rows_lem, list_stop, list_go, at_none, at_out, at_far, at_valid, at_data, at_done, leaf_code, to_sparse, to_dense, to_runs, runs_none, runs_ready_lem, runs_stop, runs_past, runs_values, runs_done, runs_wide, runs_inside, runs_fit, runs_found, fields_none, fields_over, fields_stop, fields_more, sparse_stop, sparse_go, dense_short, dense_rows_lem, dense_none, dense_stop, dense_go}
use Rattle.extend.proofs.Listed.{lists_none, lists_out, lists_over, lists_fall, lists_less, lists_go, listed_code, list_wide, view_wide, to_list_lem, to_list_view}
use mathlib.Core.List.{[]}
use Rattle.nested_rows.proofs.lookups.Laws.{slot_rows}
use Rattle.extend.proofs.+extend.Goals as goal

pub add_two : (i : ℕ) → i + 2 ≡ suc (suc i)
add_two i = omega arith

pub extend-returns-then-depth-eq0 : goal.extend-returns-then-depth-eq0
extend-returns-then-depth-eq0 t c =
    let a = c.args in
    at_none (join a.plan.now a.parts.now a.lengths.now a.places.now a.body.now a.first a.source) a.write a.depth a.i a.a a.n a.counters.now a.room.now c.if-depth-eq0.true

pub extend-returns-then-i-ge32 : goal.extend-returns-then-i-ge32
extend-returns-then-i-ge32 t c =
    let a = c.args in
    at_out (join a.plan.now a.parts.now a.lengths.now a.places.now a.body.now a.first a.source) a.write a.depth a.i a.a a.n a.counters.now a.room.now c.if-depth-eq0.false c.if-i-ge32.true

pub extend-returns-then-slot-ge-FAR : goal.extend-returns-then-slot-ge-FAR
extend-returns-then-slot-ge-FAR t c =
    let a = c.args in
    at_far (join a.plan.now a.parts.now a.lengths.now a.places.now a.body.now a.first a.source) a.write a.depth a.i a.a a.n a.counters.now a.room.now c.if-depth-eq0.false c.if-i-ge32.false (c.slot_of-slot.ensures a.plan.now a.parts.now a.places.now a.body.now a.source) c.if-slot-ge-FAR.true

pub extend-copy_validity-g-requires : goal.extend-copy_validity-g-requires
extend-copy_validity-g-requires t c =
    let a = c.args in
    omega (arith, slot_rows (join [] [] a.lengths.now [] [] a.first 0) a.i a.a a.n (c.slot_of-slot.ensures [] [] [] [] 0) c.if-slot-ge-FAR.false)

pub extend-returns-then-g-ne0 : goal.extend-returns-then-g-ne0
extend-returns-then-g-ne0 t c =
    let a = c.args in
    at_valid (join a.plan.now a.parts.now a.lengths.now a.places.now a.body.now a.first a.source) a.write a.depth a.i a.a a.n a.counters.now a.room.now c.if-depth-eq0.false c.if-i-ge32.false (c.slot_of-slot.ensures a.plan.now a.parts.now a.places.now a.body.now a.source) c.if-slot-ge-FAR.false (c.copy_validity-g.ensures a.lengths.now a.source) c.if-g-ne0.true

pub extend-extend_data-g-requires : goal.extend-extend_data-g-requires
extend-extend_data-g-requires t c =
    let a = c.args in
    omega (arith, slot_rows (join [] [] a.lengths.now [] [] a.first 0) a.i a.a a.n (c.slot_of-slot.ensures [] [] [] [] 0) c.if-slot-ge-FAR.false)

pub extend-returns-then-g-ne0-2 : goal.extend-returns-then-g-ne0-2
extend-returns-then-g-ne0-2 t c =
    let a = c.args in
    at_data (join a.plan.now a.parts.now a.lengths.now a.places.now a.body.now a.first a.source) a.write a.depth a.i a.a a.n a.counters.now a.room.now c.if-depth-eq0.false c.if-i-ge32.false (c.slot_of-slot.ensures a.plan.now a.parts.now a.places.now a.body.now a.source) c.if-slot-ge-FAR.false (c.copy_validity-g.ensures a.lengths.now a.source) c.if-g-ne0.false c.extend_data-g.ensures c.if-g-ne0-2.true

pub extend-returns : goal.extend-returns
extend-returns t c =
    let a = c.args in
    at_done (join a.plan.now a.parts.now a.lengths.now a.places.now a.body.now a.first a.source) a.write a.depth a.i a.a a.n a.counters.now a.room.now c.if-depth-eq0.false c.if-i-ge32.false (c.slot_of-slot.ensures a.plan.now a.parts.now a.places.now a.body.now a.source) c.if-slot-ge-FAR.false (c.copy_validity-g.ensures a.lengths.now a.source) c.if-g-ne0.false c.extend_data-g.ensures c.if-g-ne0-2.false c.add_rows.ensures

pub extend_data-extend_listed-requires : goal.extend_data-extend_listed-requires
extend_data-extend_listed-requires t c =
    let a = c.args in
    (omega arith, (search rules, listed_code a.plan.now a.i c.code_of-code.ensures c.is_list_view.ensures c.is_list.ensures c.if-is_list_view-is_list.true))

pub extend_data-returns-then-is_list_view-is_list : goal.extend_data-returns-then-is_list_view-is_list
extend_data-returns-then-is_list_view-is_list t c = c.extend_listed.ensures

pub extend_data-extend_sparse-requires : goal.extend_data-extend_sparse-requires
extend_data-extend_sparse-requires t c = omega arith

pub extend_data-returns-then-code-eq-SPARSE : goal.extend_data-returns-then-code-eq-SPARSE
extend_data-returns-then-code-eq-SPARSE t c =
    let a = c.args in
    to_sparse (join a.plan.now a.parts.now a.lengths.now a.places.now a.body.now a.first a.source) (copy_walk (join a.plan.now a.parts.now a.lengths.now a.places.now a.body.now a.first a.source) a.depth) a.write a.i a.slot a.n a.counters.now a.room.now c.code_of-code.ensures c.if-code-eq-SPARSE.true c.extend_sparse.ensures

pub extend_data-extend_dense-requires : goal.extend_data-extend_dense-requires
extend_data-extend_dense-requires t c = omega arith

pub extend_data-returns-then-code-eq-DENSE : goal.extend_data-returns-then-code-eq-DENSE
extend_data-returns-then-code-eq-DENSE t c =
    let a = c.args in
    to_dense (join a.plan.now a.parts.now a.lengths.now a.places.now a.body.now a.first a.source) (copy_walk (join a.plan.now a.parts.now a.lengths.now a.places.now a.body.now a.first a.source) a.depth) a.write a.i a.slot a.n a.counters.now a.room.now c.code_of-code.ensures c.if-code-eq-DENSE.true c.extend_dense.ensures

pub extend_data-extend_run-requires : goal.extend_data-extend_run-requires
extend_data-extend_run-requires t c = omega arith

pub extend_data-returns-then-code-eq-RUN_END : goal.extend_data-returns-then-code-eq-RUN_END
extend_data-returns-then-code-eq-RUN_END t c =
    let a = c.args in
    to_runs (join a.plan.now a.parts.now a.lengths.now a.places.now a.body.now a.first a.source) (copy_walk (join a.plan.now a.parts.now a.lengths.now a.places.now a.body.now a.first a.source) a.depth) a.write a.i a.slot a.n a.counters.now a.room.now c.code_of-code.ensures c.if-code-eq-RUN_END.true c.extend_run.ensures

pub extend_data-copy_leaf-requires : goal.extend_data-copy_leaf-requires
extend_data-copy_leaf-requires t c =
    let a = c.args in
    record { first_bound = search rules; bound = leaf_code a.plan.now a.i c.code_of-code.ensures c.is_list_view.ensures c.is_list.ensures c.if-is_list_view-is_list.false c.if-code-eq-SPARSE.false c.if-code-eq-DENSE.false c.if-code-eq-RUN_END.false }

pub extend_data-returns : goal.extend_data-returns
extend_data-returns t c =
    let a = c.args in
    c.copy_leaf.ensures a.lengths.now (copy_walk (join a.plan.now a.parts.now a.lengths.now a.places.now a.body.now a.first a.source) a.depth)

pub union::extend_dense-pairs_in-requires : goal.union::extend_dense-pairs_in-requires
union::extend_dense-pairs_in-requires t c = omega arith

pub union::extend_dense-returns-then-not-pairs_in : goal.union::extend_dense-returns-then-not-pairs_in
union::extend_dense-returns-then-not-pairs_in t c =
    let a = c.args in
    dense_short (join a.plan.now a.parts.now a.lengths.now a.places.now a.body.now a.first a.source) (copy_walk (join a.plan.now a.parts.now a.lengths.now a.places.now a.body.now a.first a.source) a.depth) a.write a.i a.slot a.counters.now a.room.now a.n (c.pairs_in.ensures a.plan.now a.parts.now a.lengths.now a.source) c.if-not-pairs_in.true-raw

pub union::extend_dense-loop-r-init : goal.union::extend_dense-loop-r-init
union::extend_dense-loop-r-init t c = λ g c2 room2. simp sub-zero (λ d. d)

pub union::extend_dense-extend_dense_row-g-requires : goal.union::extend_dense-extend_dense_row-g-requires
union::extend_dense-extend_dense_row-g-requires t c =
    let a = c.args in
    let l = c.loop-r in
    let p = pairs_row (join a.plan.now a.parts.now a.lengths.now a.places.now a.body.now a.first a.source) (place (join a.plan.now a.parts.now a.lengths.now a.places.now a.body.now a.first a.source) a.i 3) (place (join a.plan.now a.parts.now a.lengths.now a.places.now a.body.now a.first a.source) a.i 5) 1 4 a.slot a.n l.r (c.pairs_in.ensures a.plan.now a.parts.now a.lengths.now a.source) c.if-not-pairs_in.false-raw (omega arith) in
    (omega arith, (omega arith, (omega (arith, p.0), p.1)))

pub union::extend_dense-returns-then-g-ne0 : goal.union::extend_dense-returns-then-g-ne0
union::extend_dense-returns-then-g-ne0 t c =
    let a = c.args in
    let l = c.loop-r in
    dense_rows_lem (join a.plan.now a.parts.now a.lengths.now a.places.now a.body.now a.first a.source) (copy_walk (join a.plan.now a.parts.now a.lengths.now a.places.now a.body.now a.first a.source) a.depth) a.write a.i a.slot a.counters.now a.room.now a.n (c.pairs_in.ensures a.plan.now a.parts.now a.lengths.now a.source) c.if-not-pairs_in.false-raw (l.invariant _ _ _ (each_stop _ _ (a.n - l.r) (a.n - (l.r + 1)) _ _ _ (omega arith) c.extend_dense_row-g.ensures c.if-g-ne0.true))

pub union::extend_dense-loop-r-preserved : goal.union::extend_dense-loop-r-preserved
union::extend_dense-loop-r-preserved t c =
    let a = c.args in
    let l = c.loop-r in
    λ g c2 room2 d. l.invariant _ _ _ (each_more _ _ (a.n - l.r) (a.n - (l.r + 1)) l.r (l.r + 1) _ _ (omega arith) refl c.extend_dense_row-g.ensures c.if-g-ne0.false d)

pub union::extend_dense-returns : goal.union::extend_dense-returns
union::extend_dense-returns t c =
    let a = c.args in
    let l = c.loop-r in
    dense_rows_lem (join a.plan.now a.parts.now a.lengths.now a.places.now a.body.now a.first a.source) (copy_walk (join a.plan.now a.parts.now a.lengths.now a.places.now a.body.now a.first a.source) a.depth) a.write a.i a.slot a.counters.now a.room.now a.n (c.pairs_in.ensures a.plan.now a.parts.now a.lengths.now a.source) c.if-not-pairs_in.false-raw (l.invariant _ _ _ (each_none _ _ (a.n - l.r) _ _ _ (omega arith)))

pub union::extend_dense_row-overflow_add-at : goal.union::extend_dense_row-overflow_add-at
union::extend_dense_row-overflow_add-at t c = omega (arith, c.place.ensures, c.requires.fact)

pub union::extend_dense_row-overflow_add-at-2 : goal.union::extend_dense_row-overflow_add-at-2
union::extend_dense_row-overflow_add-at-2 t c = omega (arith, c.place.ensures, c.requires.fact, c.well_formed)

pub union::extend_dense_row-bounds-body-at : goal.union::extend_dense_row-bounds-body-at
union::extend_dense_row-bounds-body-at t c = omega (arith, c.place.ensures, c.requires.fact)

pub union::extend_dense_row-child_with-k-requires : goal.union::extend_dense_row-child_with-k-requires
union::extend_dense_row-child_with-k-requires t c = omega (arith, c.end_of.ensures.upper_bound)

pub union::extend_dense_row-returns-then-k-ge32 : goal.union::extend_dense_row-returns-then-k-ge32
union::extend_dense_row-returns-then-k-ge32 t c =
    let a = c.args in
    dense_none (join a.plan.now a.parts.now a.lengths.now a.places.now a.body.now a.first a.source) (copy_walk (join a.plan.now a.parts.now a.lengths.now a.places.now a.body.now a.first a.source) a.depth) a.write a.i a.slot a.counters.now a.room.now a.r (ap (λ (z : ℕ). get_or a.body.now (z + (a.slot + a.r)) 0) c.place.ensures) c.end_of.ensures.value (add-one a.i) c.child_with-k.ensures.value c.if-k-ge32.true

pub union::extend_dense_row-dense_numbers-g-requires : goal.union::extend_dense_row-dense_numbers-g-requires
union::extend_dense_row-dense_numbers-g-requires t c = omega arith

pub union::extend_dense_row-returns-then-g-ne0 : goal.union::extend_dense_row-returns-then-g-ne0
union::extend_dense_row-returns-then-g-ne0 t c =
    let a = c.args in
    dense_stop (join a.plan.now a.parts.now a.lengths.now a.places.now a.body.now a.first a.source) (copy_walk (join a.plan.now a.parts.now a.lengths.now a.places.now a.body.now a.first a.source) a.depth) a.write a.i a.slot a.counters.now a.room.now a.r (ap (λ (z : ℕ). get_or a.body.now (z + (a.slot + a.r)) 0) c.place.ensures) c.end_of.ensures.value (add-one a.i) c.child_with-k.ensures.value c.if-k-ge32.false c.dense_numbers-g.ensures c.if-g-ne0.true

pub union::extend_dense_row-entry_at-position-requires : goal.union::extend_dense_row-entry_at-position-requires
union::extend_dense_row-entry_at-position-requires t c = record { w_value = λ z. absurd (z refl); k_in_bounds = omega (arith, c.place-2.ensures, c.requires.fact.1) }

pub union::extend_dense_row-extend-requires : goal.union::extend_dense_row-extend-requires
union::extend_dense_row-extend-requires t c = omega (arith, c.requires.first_bound)

pub union::extend_dense_row-returns : goal.union::extend_dense_row-returns
union::extend_dense_row-returns t c =
    let a = c.args in
    dense_go (join a.plan.now a.parts.now a.lengths.now a.places.now a.body.now a.first a.source) (copy_walk (join a.plan.now a.parts.now a.lengths.now a.places.now a.body.now a.first a.source) a.depth) a.write a.i a.slot a.counters.now a.room.now a.r (ap (λ (z : ℕ). get_or a.body.now (z + (a.slot + a.r)) 0) c.place.ensures) c.end_of.ensures.value (add-one a.i) c.child_with-k.ensures.value c.if-k-ge32.false c.dense_numbers-g.ensures c.if-g-ne0.false c.place-2.ensures c.entry_at-position.ensures c.extend.ensures

pub list::extend_list-returns-then-n-eq0 : goal.list::extend_list-returns-then-n-eq0
list::extend_list-returns-then-n-eq0 t c =
    let a = c.args in
    lists_none (join a.plan.now a.parts.now a.lengths.now a.places.now a.body.now a.first a.source) (copy_walk (join a.plan.now a.parts.now a.lengths.now a.places.now a.body.now a.first a.source) a.depth) a.write a.w a.i a.slot a.n a.counters.now a.room.now c.if-n-eq0.true

pub list::extend_list-returns-then-i-ge32 : goal.list::extend_list-returns-then-i-ge32
list::extend_list-returns-then-i-ge32 t c =
    let a = c.args in
    lists_out (join a.plan.now a.parts.now a.lengths.now a.places.now a.body.now a.first a.source) (copy_walk (join a.plan.now a.parts.now a.lengths.now a.places.now a.body.now a.first a.source) a.depth) a.write a.w a.i a.slot a.n a.counters.now a.room.now c.if-n-eq0.false (add-one a.i) c.if-i-ge32.true

pub list::extend_list-copy_offsets-requires : goal.list::extend_list-copy_offsets-requires
list::extend_list-copy_offsets-requires t c = record { first_bound = omega arith; w_value = c.requires.w_value }

pub list::extend_list-overflow_sub-size : goal.list::extend_list-overflow_sub-size
list::extend_list-overflow_sub-size t c =
    let a = c.args in
    omega (arith, lists_less (join a.plan.now a.parts.now a.lengths.now a.places.now a.body.now a.first a.source) (copy_walk (join a.plan.now a.parts.now a.lengths.now a.places.now a.body.now a.first a.source) a.depth) a.write a.w a.i a.slot a.n a.counters.now a.room.now c.if-n-eq0.false (add-one a.i) c.if-i-ge32.false (c.copy_offsets.ensures.any_lengths a.lengths.now a.source) (c.copy_offsets.ensures.any_lengths_2 a.lengths.now a.source) c.in-Fits.is c.rows_of.ensures)

pub list::extend_list-extend-requires : goal.list::extend_list-extend-requires
list::extend_list-extend-requires t c = omega (arith, c.decreases, c.requires.first_bound)

pub list::extend_list-returns-in-Fits : goal.list::extend_list-returns-in-Fits
list::extend_list-returns-in-Fits t c =
    let a = c.args in
    lists_go (join a.plan.now a.parts.now a.lengths.now a.places.now a.body.now a.first a.source) (copy_walk (join a.plan.now a.parts.now a.lengths.now a.places.now a.body.now a.first a.source) a.depth) a.write a.w a.i a.slot a.n a.counters.now a.room.now c.if-n-eq0.false (add-one a.i) c.if-i-ge32.false (c.copy_offsets.ensures.any_lengths a.lengths.now a.source) (c.copy_offsets.ensures.any_lengths_2 a.lengths.now a.source) c.in-Fits.is c.rows_of.ensures c.extend.ensures

pub list::extend_list-returns-in-Over : goal.list::extend_list-returns-in-Over
list::extend_list-returns-in-Over t c =
    let a = c.args in
    lists_over (join a.plan.now a.parts.now a.lengths.now a.places.now a.body.now a.first a.source) (copy_walk (join a.plan.now a.parts.now a.lengths.now a.places.now a.body.now a.first a.source) a.depth) a.write a.w a.i a.slot a.n a.counters.now a.room.now c.if-n-eq0.false (add-one a.i) c.if-i-ge32.false (c.copy_offsets.ensures.any_lengths a.lengths.now a.source) (c.copy_offsets.ensures.any_lengths_2 a.lengths.now a.source) c.in-Over.is

pub list::extend_list-returns-in-Falls : goal.list::extend_list-returns-in-Falls
list::extend_list-returns-in-Falls t c =
    let a = c.args in
    lists_fall (join a.plan.now a.parts.now a.lengths.now a.places.now a.body.now a.first a.source) (copy_walk (join a.plan.now a.parts.now a.lengths.now a.places.now a.body.now a.first a.source) a.depth) a.write a.w a.i a.slot a.n a.counters.now a.room.now c.if-n-eq0.false (add-one a.i) c.if-i-ge32.false (c.copy_offsets.ensures.any_lengths a.lengths.now a.source) (c.copy_offsets.ensures.any_lengths_2 a.lengths.now a.source) c.in-Falls.is

pub list_view::extend_list_row-entry_at-offset-requires : goal.list_view::extend_list_row-entry_at-offset-requires
list_view::extend_list_row-entry_at-offset-requires t c = record { w_value = c.requires.w_value; k_in_bounds = omega (arith, c.place.ensures, c.requires.fact.0) }

pub list_view::extend_list_row-entry_at-size-requires : goal.list_view::extend_list_row-entry_at-size-requires
list_view::extend_list_row-entry_at-size-requires t c = record { w_value = c.requires.w_value; k_in_bounds = omega (arith, c.place-2.ensures, c.requires.fact.1) }

pub list_view::extend_list_row-list_numbers-g-requires : goal.list_view::extend_list_row-list_numbers-g-requires
list_view::extend_list_row-list_numbers-g-requires t c = record { i_bound = omega arith; w_value = c.requires.w_value }

pub list_view::extend_list_row-returns-then-g-ne0 : goal.list_view::extend_list_row-returns-then-g-ne0
list_view::extend_list_row-returns-then-g-ne0 t c =
    let a = c.args in
    list_stop (join a.plan.now a.parts.now a.lengths.now a.places.now a.body.now a.first a.source) (copy_walk (join a.plan.now a.parts.now a.lengths.now a.places.now a.body.now a.first a.source) a.depth) a.write a.w a.i a.slot a.counters.now a.room.now a.r c.place-2.ensures c.entry_at-size.ensures c.list_numbers-g.ensures c.if-g-ne0.true

pub list_view::extend_list_row-extend-requires : goal.list_view::extend_list_row-extend-requires
list_view::extend_list_row-extend-requires t c = omega (arith, c.requires.first_bound)

pub list_view::extend_list_row-returns : goal.list_view::extend_list_row-returns
list_view::extend_list_row-returns t c =
    let a = c.args in
    list_go (join a.plan.now a.parts.now a.lengths.now a.places.now a.body.now a.first a.source) (copy_walk (join a.plan.now a.parts.now a.lengths.now a.places.now a.body.now a.first a.source) a.depth) a.write a.w a.i a.slot a.counters.now a.room.now a.r c.place-2.ensures c.entry_at-size.ensures c.list_numbers-g.ensures c.if-g-ne0.false c.place.ensures c.entry_at-offset.ensures (add-one a.i) c.extend.ensures

pub list_view::extend_list_view-returns-then-i-ge32 : goal.list_view::extend_list_view-returns-then-i-ge32
list_view::extend_list_view-returns-then-i-ge32 t c =
    let a = c.args in
    list_out (join a.plan.now a.parts.now a.lengths.now a.places.now a.body.now a.first a.source) (copy_walk (join a.plan.now a.parts.now a.lengths.now a.places.now a.body.now a.first a.source) a.depth) a.write a.w a.i a.slot a.counters.now a.room.now a.n (add-one a.i) c.if-i-ge32.true

pub list_view::extend_list_view-pairs_in-requires : goal.list_view::extend_list_view-pairs_in-requires
list_view::extend_list_view-pairs_in-requires t c = omega (arith, width_in_lem c.args.w (λ p q. c.requires.w_value))

pub list_view::extend_list_view-returns-then-not-pairs_in : goal.list_view::extend_list_view-returns-then-not-pairs_in
list_view::extend_list_view-returns-then-not-pairs_in t c =
    let a = c.args in
    list_short (join a.plan.now a.parts.now a.lengths.now a.places.now a.body.now a.first a.source) (copy_walk (join a.plan.now a.parts.now a.lengths.now a.places.now a.body.now a.first a.source) a.depth) a.write a.w a.i a.slot a.counters.now a.room.now a.n (add-one a.i) c.if-i-ge32.false (c.pairs_in.ensures a.plan.now a.parts.now a.lengths.now a.source) c.if-not-pairs_in.true-raw

pub list_view::extend_list_view-loop-r-init : goal.list_view::extend_list_view-loop-r-init
list_view::extend_list_view-loop-r-init t c = λ g c2 room2. simp sub-zero (λ d. d)

pub list_view::extend_list_view-extend_list_row-g-requires : goal.list_view::extend_list_view-extend_list_row-g-requires
list_view::extend_list_view-extend_list_row-g-requires t c =
    let a = c.args in
    let l = c.loop-r in
    (omega arith, (omega arith, (c.requires.w_value, pairs_row (join a.plan.now a.parts.now a.lengths.now a.places.now a.body.now a.first a.source) (place (join a.plan.now a.parts.now a.lengths.now a.places.now a.body.now a.first a.source) a.i 3) (place (join a.plan.now a.parts.now a.lengths.now a.places.now a.body.now a.first a.source) a.i 5) a.w a.w a.slot a.n l.r (c.pairs_in.ensures a.plan.now a.parts.now a.lengths.now a.source) c.if-not-pairs_in.false-raw (omega arith))))

pub list_view::extend_list_view-returns-then-g-ne0 : goal.list_view::extend_list_view-returns-then-g-ne0
list_view::extend_list_view-returns-then-g-ne0 t c =
    let a = c.args in
    let l = c.loop-r in
    list_rows_lem (join a.plan.now a.parts.now a.lengths.now a.places.now a.body.now a.first a.source) (copy_walk (join a.plan.now a.parts.now a.lengths.now a.places.now a.body.now a.first a.source) a.depth) a.write a.w a.i a.slot a.counters.now a.room.now a.n (add-one a.i) c.if-i-ge32.false (c.pairs_in.ensures a.plan.now a.parts.now a.lengths.now a.source) c.if-not-pairs_in.false-raw (l.invariant _ _ _ (each_stop _ _ (a.n - l.r) (a.n - (l.r + 1)) _ _ _ (omega arith) c.extend_list_row-g.ensures c.if-g-ne0.true))

pub list_view::extend_list_view-loop-r-preserved : goal.list_view::extend_list_view-loop-r-preserved
list_view::extend_list_view-loop-r-preserved t c =
    let a = c.args in
    let l = c.loop-r in
    λ g c2 room2 d. l.invariant _ _ _ (each_more _ _ (a.n - l.r) (a.n - (l.r + 1)) l.r (l.r + 1) _ _ (omega arith) refl c.extend_list_row-g.ensures c.if-g-ne0.false d)

pub list_view::extend_list_view-returns : goal.list_view::extend_list_view-returns
list_view::extend_list_view-returns t c =
    let a = c.args in
    let l = c.loop-r in
    list_rows_lem (join a.plan.now a.parts.now a.lengths.now a.places.now a.body.now a.first a.source) (copy_walk (join a.plan.now a.parts.now a.lengths.now a.places.now a.body.now a.first a.source) a.depth) a.write a.w a.i a.slot a.counters.now a.room.now a.n (add-one a.i) c.if-i-ge32.false (c.pairs_in.ensures a.plan.now a.parts.now a.lengths.now a.source) c.if-not-pairs_in.false-raw (l.invariant _ _ _ (each_none _ _ (a.n - l.r) _ _ _ (omega arith)))

pub extend_listed-extend_list-requires : goal.extend_listed-extend_list-requires
extend_listed-extend_list-requires t c =
    let a = c.args in
    (omega arith, (search rules, list_wide a.plan.now a.i c.code_of.ensures c.is_list.ensures c.width_at-w.ensures c.if-is_list.true))

pub extend_listed-returns-then-is_list : goal.extend_listed-returns-then-is_list
extend_listed-returns-then-is_list t c =
    let a = c.args in
    to_list_lem (join a.plan.now a.parts.now a.lengths.now a.places.now a.body.now a.first a.source) (copy_walk (join a.plan.now a.parts.now a.lengths.now a.places.now a.body.now a.first a.source) a.depth) a.write a.i a.slot a.n a.counters.now a.room.now c.code_of.ensures c.is_list.ensures c.width_at-w.ensures c.if-is_list.true c.extend_list.ensures

pub extend_listed-extend_list_view-requires : goal.extend_listed-extend_list_view-requires
extend_listed-extend_list_view-requires t c =
    let a = c.args in
    (omega arith, (search rules, view_wide a.plan.now a.i c.code_of.ensures c.is_list.ensures c.width_at-w.ensures c.requires.i_value c.if-is_list.false))

pub extend_listed-returns : goal.extend_listed-returns
extend_listed-returns t c =
    let a = c.args in
    to_list_view (join a.plan.now a.parts.now a.lengths.now a.places.now a.body.now a.first a.source) (copy_walk (join a.plan.now a.parts.now a.lengths.now a.places.now a.body.now a.first a.source) a.depth) a.write a.i a.slot a.n a.counters.now a.room.now c.code_of.ensures c.is_list.ensures c.width_at-w.ensures c.requires.i_value c.if-is_list.false c.extend_list_view.ensures

pub run::extend_run-returns-then-n-eq0 : goal.run::extend_run-returns-then-n-eq0
run::extend_run-returns-then-n-eq0 t c =
    let a = c.args in
    runs_none (join a.plan.now a.parts.now a.lengths.now a.places.now a.body.now a.first a.source) (copy_walk (join a.plan.now a.parts.now a.lengths.now a.places.now a.body.now a.first a.source) a.depth) a.write a.i a.slot a.n a.counters.now a.room.now c.if-n-eq0.true

pub run::extend_run-returns-then-g-ne0 : goal.run::extend_run-returns-then-g-ne0
run::extend_run-returns-then-g-ne0 t c =
    let a = c.args in
    runs_stop (join a.plan.now a.parts.now a.lengths.now a.places.now a.body.now a.first a.source) (copy_walk (join a.plan.now a.parts.now a.lengths.now a.places.now a.body.now a.first a.source) a.depth) a.write a.i a.slot a.n a.counters.now a.room.now c.if-n-eq0.false (c.runs_ready-g.ensures a.parts.now a.room.now a.source a.write) c.if-g-ne0.true

pub run::extend_run-overflow_add-i : goal.run::extend_run-overflow_add-i
run::extend_run-overflow_add-i t c = omega arith

pub run::extend_run-width_at-w-requires : goal.run::extend_run-width_at-w-requires
run::extend_run-width_at-w-requires t c =
    let a = c.args in
    omega (arith, (runs_ready_lem (join a.plan.now a.parts.now a.lengths.now a.places.now a.body.now a.first a.source) (copy_walk (join a.plan.now a.parts.now a.lengths.now a.places.now a.body.now a.first a.source) a.depth) a.write a.i a.slot a.n a.counters.now a.room.now c.if-n-eq0.false (c.runs_ready-g.ensures a.parts.now a.room.now a.source a.write) c.if-g-ne0.false).low)

pub run::extend_run-runs_at-requires : goal.run::extend_run-runs_at-requires
run::extend_run-runs_at-requires t c =
    let a = c.args in
    record { first_bound = omega (arith, (runs_ready_lem (join a.plan.now a.parts.now a.lengths.now a.places.now a.body.now a.first a.source) (copy_walk (join a.plan.now a.parts.now a.lengths.now a.places.now a.body.now a.first a.source) a.depth) a.write a.i a.slot a.n a.counters.now a.room.now c.if-n-eq0.false (c.runs_ready-g.ensures a.parts.now a.room.now a.source a.write) c.if-g-ne0.false).low); w_value = runs_wide (join a.plan.now a.parts.now a.lengths.now a.places.now a.body.now a.first a.source) a.i a.n a.counters.now (add-one a.i) c.width_at-w.ensures (runs_ready_lem (join a.plan.now a.parts.now a.lengths.now a.places.now a.body.now a.first a.source) (copy_walk (join a.plan.now a.parts.now a.lengths.now a.places.now a.body.now a.first a.source) a.depth) a.write a.i a.slot a.n a.counters.now a.room.now c.if-n-eq0.false (c.runs_ready-g.ensures a.parts.now a.room.now a.source a.write) c.if-g-ne0.false); i_in_bounds = runs_inside (join a.plan.now a.parts.now a.lengths.now a.places.now a.body.now a.first a.source) a.i a.n a.counters.now (add-one a.i) c.width_at-w.ensures (runs_ready_lem (join a.plan.now a.parts.now a.lengths.now a.places.now a.body.now a.first a.source) (copy_walk (join a.plan.now a.parts.now a.lengths.now a.places.now a.body.now a.first a.source) a.depth) a.write a.i a.slot a.n a.counters.now a.room.now c.if-n-eq0.false (c.runs_ready-g.ensures a.parts.now a.room.now a.source a.write) c.if-g-ne0.false) }

pub run::extend_run-extend-g-requires : goal.run::extend_run-extend-g-requires
run::extend_run-extend-g-requires t c = omega (arith, c.requires)

pub run::extend_run-returns-then-g-ne0-2 : goal.run::extend_run-returns-then-g-ne0-2
run::extend_run-returns-then-g-ne0-2 t c =
    let a = c.args in
    runs_values (join a.plan.now a.parts.now a.lengths.now a.places.now a.body.now a.first a.source) (copy_walk (join a.plan.now a.parts.now a.lengths.now a.places.now a.body.now a.first a.source) a.depth) a.write a.i a.slot a.n a.counters.now a.room.now c.if-n-eq0.false (c.runs_ready-g.ensures a.parts.now a.room.now a.source a.write) c.if-g-ne0.false (add-one a.i) c.width_at-w.ensures (c.runs_at.ensures a.plan.now a.parts.now a.source (copy_walk (join a.plan.now a.parts.now a.lengths.now a.places.now a.body.now a.first a.source) a.depth)) c.in-Some.is (add_two a.i) c.extend-g.ensures c.if-g-ne0-2.true

pub run::extend_run-run_numbers-requires : goal.run::extend_run-run_numbers-requires
run::extend_run-run_numbers-requires t c =
    let a = c.args in
    record { first_bound = omega (arith, c.requires, (runs_ready_lem (join a.plan.now a.parts.now a.lengths.now a.places.now a.body.now a.first a.source) (copy_walk (join a.plan.now a.parts.now a.lengths.now a.places.now a.body.now a.first a.source) a.depth) a.write a.i a.slot a.n a.counters.now a.room.now c.if-n-eq0.false (c.runs_ready-g.ensures a.parts.now a.room.now a.source a.write) c.if-g-ne0.false).low, runs_fit (join a.plan.now a.parts.now a.lengths.now a.places.now a.body.now a.first a.source) a.i a.n a.counters.now (add-one a.i) c.width_at-w.ensures (runs_ready_lem (join a.plan.now a.parts.now a.lengths.now a.places.now a.body.now a.first a.source) (copy_walk (join a.plan.now a.parts.now a.lengths.now a.places.now a.body.now a.first a.source) a.depth) a.write a.i a.slot a.n a.counters.now a.room.now c.if-n-eq0.false (c.runs_ready-g.ensures a.parts.now a.room.now a.source a.write) c.if-g-ne0.false) c.rows_of-last.ensures); w_value = runs_wide (join a.plan.now a.parts.now a.lengths.now a.places.now a.body.now a.first a.source) a.i a.n a.counters.now (add-one a.i) c.width_at-w.ensures (runs_ready_lem (join a.plan.now a.parts.now a.lengths.now a.places.now a.body.now a.first a.source) (copy_walk (join a.plan.now a.parts.now a.lengths.now a.places.now a.body.now a.first a.source) a.depth) a.write a.i a.slot a.n a.counters.now a.room.now c.if-n-eq0.false (c.runs_ready-g.ensures a.parts.now a.room.now a.source a.write) c.if-g-ne0.false); count_in_bounds = runs_found (join a.plan.now a.parts.now a.lengths.now a.places.now a.body.now a.first a.source) a.i a.n a.counters.now (add-one a.i) c.width_at-w.ensures (runs_ready_lem (join a.plan.now a.parts.now a.lengths.now a.places.now a.body.now a.first a.source) (copy_walk (join a.plan.now a.parts.now a.lengths.now a.places.now a.body.now a.first a.source) a.depth) a.write a.i a.slot a.n a.counters.now a.room.now c.if-n-eq0.false (c.runs_ready-g.ensures a.parts.now a.room.now a.source a.write) c.if-g-ne0.false) (copy_walk (join a.plan.now a.parts.now a.lengths.now a.places.now a.body.now a.first a.source) a.depth) a.slot (c.runs_at.ensures a.plan.now a.parts.now a.source (copy_walk (join a.plan.now a.parts.now a.lengths.now a.places.now a.body.now a.first a.source) a.depth)) c.in-Some.is }

pub run::extend_run-returns-else-g-ne0-2 : goal.run::extend_run-returns-else-g-ne0-2
run::extend_run-returns-else-g-ne0-2 t c =
    let a = c.args in
    runs_done (join a.plan.now a.parts.now a.lengths.now a.places.now a.body.now a.first a.source) (copy_walk (join a.plan.now a.parts.now a.lengths.now a.places.now a.body.now a.first a.source) a.depth) a.write a.i a.slot a.n a.counters.now a.room.now c.if-n-eq0.false (c.runs_ready-g.ensures a.parts.now a.room.now a.source a.write) c.if-g-ne0.false (add-one a.i) c.width_at-w.ensures (c.runs_at.ensures a.plan.now a.parts.now a.source (copy_walk (join a.plan.now a.parts.now a.lengths.now a.places.now a.body.now a.first a.source) a.depth)) c.in-Some.is (add_two a.i) c.extend-g.ensures c.if-g-ne0-2.false c.rows_of-last.ensures (c.run_numbers.ensures a.source)

pub run::extend_run-returns-in-None : goal.run::extend_run-returns-in-None
run::extend_run-returns-in-None t c =
    let a = c.args in
    runs_past (join a.plan.now a.parts.now a.lengths.now a.places.now a.body.now a.first a.source) (copy_walk (join a.plan.now a.parts.now a.lengths.now a.places.now a.body.now a.first a.source) a.depth) a.write a.i a.slot a.n a.counters.now a.room.now c.if-n-eq0.false (c.runs_ready-g.ensures a.parts.now a.room.now a.source a.write) c.if-g-ne0.false (add-one a.i) c.width_at-w.ensures (c.runs_at.ensures a.plan.now a.parts.now a.source (copy_walk (join a.plan.now a.parts.now a.lengths.now a.places.now a.body.now a.first a.source) a.depth)) c.in-None.is

pub union::extend_sparse-first_id-ids-requires : goal.union::extend_sparse-first_id-ids-requires
union::extend_sparse-first_id-ids-requires t c = omega arith

pub union::extend_sparse-first_row-row-requires : goal.union::extend_sparse-first_row-row-requires
union::extend_sparse-first_row-row-requires t c = omega arith

pub union::extend_sparse-copy_numbers-g-requires : goal.union::extend_sparse-copy_numbers-g-requires
union::extend_sparse-copy_numbers-g-requires t c = omega arith

pub union::extend_sparse-returns-then-g-ne0 : goal.union::extend_sparse-returns-then-g-ne0
union::extend_sparse-returns-then-g-ne0 t c =
    let a = c.args in
    sparse_stop (join a.plan.now a.parts.now a.lengths.now a.places.now a.body.now a.first a.source) (copy_walk (join a.plan.now a.parts.now a.lengths.now a.places.now a.body.now a.first a.source) a.depth) a.write a.i a.slot a.n a.counters.now a.room.now (rw c.first_id-ids.ensures at (c.copy_numbers-g.ensures a.lengths.now a.source)) c.if-g-ne0.true

pub union::extend_sparse-loop-t-init : goal.union::extend_sparse-loop-t-init
union::extend_sparse-loop-t-init t c = λ g c2 room2 d. d

pub union::extend_sparse-returns-then-end-k : goal.union::extend_sparse-returns-then-end-k
union::extend_sparse-returns-then-end-k t c =
    let a = c.args in
    let l = c.loop-t in
    sparse_go (join a.plan.now a.parts.now a.lengths.now a.places.now a.body.now a.first a.source) (copy_walk (join a.plan.now a.parts.now a.lengths.now a.places.now a.body.now a.first a.source) a.depth) a.write a.i a.slot a.n a.counters.now a.room.now (rw c.first_id-ids.ensures at (c.copy_numbers-g.ensures a.lengths.now a.source)) c.if-g-ne0.false c.end_of-end.ensures.value (add-one a.i) (l.invariant _ _ _ (fields_none (join a.plan.now a.parts.now a.lengths.now a.places.now a.body.now a.first a.source) (copy_walk (join a.plan.now a.parts.now a.lengths.now a.places.now a.body.now a.first a.source) a.depth) a.write a.slot a.n c.end_of-end.result l.k _ _ (32 - l._t) c.if-end-k.true))

pub union::extend_sparse-extend-g-requires : goal.union::extend_sparse-extend-g-requires
union::extend_sparse-extend-g-requires t c = omega arith

pub union::extend_sparse-returns-then-g-ne0-2 : goal.union::extend_sparse-returns-then-g-ne0-2
union::extend_sparse-returns-then-g-ne0-2 t c =
    let a = c.args in
    let l = c.loop-t in
    let z : 32 - l._t ≡ suc (32 - (l._t + 1)) = omega arith in
    sparse_go (join a.plan.now a.parts.now a.lengths.now a.places.now a.body.now a.first a.source) (copy_walk (join a.plan.now a.parts.now a.lengths.now a.places.now a.body.now a.first a.source) a.depth) a.write a.i a.slot a.n a.counters.now a.room.now (rw c.first_id-ids.ensures at (c.copy_numbers-g.ensures a.lengths.now a.source)) c.if-g-ne0.false c.end_of-end.ensures.value (add-one a.i) (l.invariant _ _ _ (fields_stop (join a.plan.now a.parts.now a.lengths.now a.places.now a.body.now a.first a.source) (copy_walk (join a.plan.now a.parts.now a.lengths.now a.places.now a.body.now a.first a.source) a.depth) a.write a.slot a.n c.end_of-end.result l.k _ _ z c.if-end-k.false (rw c.first_row-row.ensures at c.extend-g.ensures) c.if-g-ne0-2.true))

pub union::extend_sparse-end_of-k-requires : goal.union::extend_sparse-end_of-k-requires
union::extend_sparse-end_of-k-requires t c = omega (arith, c.end_of-end.ensures.upper_bound)

pub union::extend_sparse-loop-t-preserved : goal.union::extend_sparse-loop-t-preserved
union::extend_sparse-loop-t-preserved t c =
    let a = c.args in
    let l = c.loop-t in
    let z : 32 - l._t ≡ suc (32 - (l._t + 1)) = omega arith in
    λ g c2 room2 d. l.invariant _ _ _ (fields_more (join a.plan.now a.parts.now a.lengths.now a.places.now a.body.now a.first a.source) (copy_walk (join a.plan.now a.parts.now a.lengths.now a.places.now a.body.now a.first a.source) a.depth) a.write a.slot a.n c.end_of-end.result l.k _ _ z c.if-end-k.false (rw c.first_row-row.ensures at c.extend-g.ensures) c.if-g-ne0-2.false c.end_of-k.ensures.value d)

pub union::extend_sparse-returns : goal.union::extend_sparse-returns
union::extend_sparse-returns t c =
    let a = c.args in
    let l = c.loop-t in
    sparse_go (join a.plan.now a.parts.now a.lengths.now a.places.now a.body.now a.first a.source) (copy_walk (join a.plan.now a.parts.now a.lengths.now a.places.now a.body.now a.first a.source) a.depth) a.write a.i a.slot a.n a.counters.now a.room.now (rw c.first_id-ids.ensures at (c.copy_numbers-g.ensures a.lengths.now a.source)) c.if-g-ne0.false c.end_of-end.ensures.value (add-one a.i) (l.invariant _ _ _ (fields_over (join a.plan.now a.parts.now a.lengths.now a.places.now a.body.now a.first a.source) (copy_walk (join a.plan.now a.parts.now a.lengths.now a.places.now a.body.now a.first a.source) a.depth) a.write a.slot a.n c.end_of-end.result l.k _ _ (omega arith)))
