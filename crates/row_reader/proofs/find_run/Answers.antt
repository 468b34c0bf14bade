-- `row_reader::find_run` meets its contract. Assumes nothing.
use mathlib.Core.Path.{refl, sym, ap, ◌∙◌}
use mathlib.Core.List.{[]}
use Prim.Native.Nat.{◌+◌, ◌*◌}
use native.Mathlib.Omega.{arith}
use lib.Dec.{leb}
use Rattle.array_data.proofs.lent_tables.Laws.{no, yes}
use Rattle.row_reader.proofs.Laws.{ends_room, run_over, run_long_lem, run_none, run_some}
use Rattle.row_reader.proofs.find_run.Goals as goal

pub returns-then-off-len : goal.returns-then-off-len
returns-then-off-len c =
    let z = c.args in
    run_over z.w z.body.now z.start z.size z.off z.len z.offset z.rows z.row.0 (omega arith)

pub returns-then-not-rows_fit : goal.returns-then-not-rows_fit
returns-then-not-rows_fit c =
    let z = c.args in
    run_long_lem z.w z.body.now z.start z.size z.off z.len z.offset z.rows z.row.0 (ap (leb ((z.off + z.len) * z.w)) (sym c.part_len.ensures) ∙ no c.rows_fit.ensures c.if-not-rows_fit.true-raw)

pub overflow_mul-n : goal.overflow_mul-n
overflow_mul-n c =
    let z = c.args in
    omega (arith, ends_room z.body.now z.start z.size z.off z.len z.w (ap (leb ((z.off + z.len) * z.w)) (sym c.part_len.ensures) ∙ yes c.rows_fit.ensures c.if-not-rows_fit.false-raw))

pub returns-then-n-eq0 : goal.returns-then-n-eq0
returns-then-n-eq0 c =
    let z = c.args in
    c.run_at.ensures ∙ run_none z.w z.body.now z.start z.size z.off z.len z.offset z.rows z.row.0 (omega arith) (ap (leb ((z.off + z.len) * z.w)) (sym c.part_len.ensures) ∙ yes c.rows_fit.ensures c.if-not-rows_fit.false-raw) [] refl c.if-n-eq0.true

pub overflow_mul-a : goal.overflow_mul-a
overflow_mul-a c =
    let z = c.args in
    omega (arith, ends_room z.body.now z.start z.size z.off z.len z.w (ap (leb ((z.off + z.len) * z.w)) (sym c.part_len.ensures) ∙ yes c.rows_fit.ensures c.if-not-rows_fit.false-raw))

pub overflow_add-a : goal.overflow_add-a
overflow_add-a c =
    let z = c.args in
    omega (arith, ends_room z.body.now z.start z.size z.off z.len z.w (ap (leb ((z.off + z.len) * z.w)) (sym c.part_len.ensures) ∙ yes c.rows_fit.ensures c.if-not-rows_fit.false-raw))

pub overflow_add-e : goal.overflow_add-e
overflow_add-e c =
    let z = c.args in
    omega (arith, ends_room z.body.now z.start z.size z.off z.len z.w (ap (leb ((z.off + z.len) * z.w)) (sym c.part_len.ensures) ∙ yes c.rows_fit.ensures c.if-not-rows_fit.false-raw))

pub slice_bounds-run_at-count : goal.slice_bounds-run_at-count
slice_bounds-run_at-count c =
    let z = c.args in
    omega (arith, ends_room z.body.now z.start z.size z.off z.len z.w (ap (leb ((z.off + z.len) * z.w)) (sym c.part_len.ensures) ∙ yes c.rows_fit.ensures c.if-not-rows_fit.false-raw))

pub slice_bounds-run_at-start : goal.slice_bounds-run_at-start
slice_bounds-run_at-start c =
    let z = c.args in
    omega (arith, ends_room z.body.now z.start z.size z.off z.len z.w (ap (leb ((z.off + z.len) * z.w)) (sym c.part_len.ensures) ∙ yes c.rows_fit.ensures c.if-not-rows_fit.false-raw))

pub slice_bounds-run_at-end-2 : goal.slice_bounds-run_at-end-2
slice_bounds-run_at-end-2 c =
    let z = c.args in
    omega (arith, ends_room z.body.now z.start z.size z.off z.len z.w (ap (leb ((z.off + z.len) * z.w)) (sym c.part_len.ensures) ∙ yes c.rows_fit.ensures c.if-not-rows_fit.false-raw))

pub returns : goal.returns
returns c =
    let z = c.args in
    c.run_at-2.ensures ∙ run_some z.w z.body.now z.start z.size z.off z.len z.offset z.rows z.row.0 (omega arith) (ap (leb ((z.off + z.len) * z.w)) (sym c.part_len.ensures) ∙ yes c.rows_fit.ensures c.if-not-rows_fit.false-raw) (z.start + z.off * z.w) (z.start + z.off * z.w + z.len * z.w) refl refl
