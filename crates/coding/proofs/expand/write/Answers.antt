-- `coding::expand::write` meets its contract. Assumes nothing.
use mathlib.Core.Path.{◌≡◌, ap, ◌∙◌}
use Prim.Native.Nat.{ℕ, ◌+◌, ◌*◌, ◌-◌, ◌^◌, ◌≤◌, ◌<◌}
use native.Mathlib.Omega.{arith}
use lib.ListN.{length}
use Rattle.schema.specs.formats.Code.{width_of}
use Rattle.schema.specs.Tree.{code_of}
use Rattle.array_data.specs.Tables.{Tables, length_of, offset_of, place}
use Rattle.array_data.specs.Typed.{tables_from}
use Rattle.array_data.specs.lent_tables.Lent.{tables}
use Rattle.aggregates.specs.stretches.Ends.{ends_of}
use Rattle.coding.specs.Expand.{Expandable, first_run}
use Rattle.coding.proofs.Rows.{place_as, ends_as, values_as, holds_as, rows_as, no_rows, run_as}
use Rattle.coding.proofs.expand.write.Goals as goal

above : (a b : ℕ) → a ≤ b → (a ≡ b → ⊥) → a < b
above a b l d = omega arith

fit_as : (p q : ℕ) {e e' : ℕ} → e' ≡ e → (0 < e * q → p + e * q < 2 ^ 64) → 0 < e' * q → p + e' * q < 2 ^ 64
fit_as p q h f = rw h f

held_ends : (x : Tables) (m : ℕ) {e e' : ℕ} → e' ≡ e → ((ends_of x e).start ≤ (ends_of x e).stop) × ((ends_of x e).stop ≤ m) → ((ends_of x e').start ≤ (ends_of x e').stop) × ((ends_of x e').stop ≤ m)
held_ends x m h f = rw h f

pub returns-then-start-end : goal.returns-then-start-end
returns-then-start-end c =
    no_rows c.args.body.now ((width_of (code_of c.args.formats.now c.args.schema.now c.args.first 2))) c.args.keep _ _ _ ((width_of (code_of c.args.formats.now c.args.schema.now c.args.first 1))) _ _ (c.args.end - c.args.start) _ _ _ c.args.room.now (let e = c.if-start-end.true in omega (arith, e))

pub slots_of-s-requires : goal.slots_of-s-requires
slots_of-s-requires c =
    let h = (let fact : Expandable c.args.formats.now c.args.schema.now ((tables c.args.lengths.now c.args.places.now c.args.body.now)) c.args.first c.args.start c.args.end c.args.keep = c.requires.start_le_end.1 (above _ _ c.requires.start_le_end.0 c.if-start-end.false) in fact) in
    (omega arith, omega (arith, h.bits_low), place_as (place ((tables_from ((tables c.args.lengths.now c.args.places.now c.args.body.now)) c.args.first)) 2 3) (offset_of ((tables_from ((tables c.args.lengths.now c.args.places.now c.args.body.now)) c.args.first)) 2 + 0) ((let fact : c.width_of-w.result ≡ (width_of (code_of c.args.formats.now c.args.schema.now c.args.first 2)) = c.width_of-w.ensures ∙ ap width_of c.code_of.ensures in fact)) h.values_in)

pub slots_of-ends-requires : goal.slots_of-ends-requires
slots_of-ends-requires c =
    let h = (let fact : Expandable c.args.formats.now c.args.schema.now ((tables c.args.lengths.now c.args.places.now c.args.body.now)) c.args.first c.args.start c.args.end c.args.keep = c.requires.start_le_end.1 (above _ _ c.requires.start_le_end.0 c.if-start-end.false) in fact) in
    (omega arith, omega (arith, h.ends_low), place_as (place ((tables_from ((tables c.args.lengths.now c.args.places.now c.args.body.now)) c.args.first)) 1 3) (offset_of ((tables_from ((tables c.args.lengths.now c.args.places.now c.args.body.now)) c.args.first)) 1 + 0) ((let fact : c.width_of-e.result ≡ (width_of (code_of c.args.formats.now c.args.schema.now c.args.first 1)) = c.width_of-e.ensures ∙ ap width_of c.code_of-2.ensures in fact)) h.ends_in_lem)

pub first_run-run-requires : goal.first_run-run-requires
first_run-run-requires c =
    let h = (let fact : Expandable c.args.formats.now c.args.schema.now ((tables c.args.lengths.now c.args.places.now c.args.body.now)) c.args.first c.args.start c.args.end c.args.keep = c.requires.start_le_end.1 (above _ _ c.requires.start_le_end.0 c.if-start-end.false) in fact) in
    let e = (let fact : c.width_of-e.result ≡ (width_of (code_of c.args.formats.now c.args.schema.now c.args.first 1)) = c.width_of-e.ensures ∙ ap width_of c.code_of-2.ensures in fact) in
    record { x_bound = h.ends_sum; fact = fit_as (place ((tables_from ((tables c.args.lengths.now c.args.places.now c.args.body.now)) c.args.first)) 1 3) (offset_of ((tables_from ((tables c.args.lengths.now c.args.places.now c.args.body.now)) c.args.first)) 1 + length_of ((tables_from ((tables c.args.lengths.now c.args.places.now c.args.body.now)) c.args.first)) 1) e h.ends_fit; fact_2 = held_ends ((tables_from ((tables c.args.lengths.now c.args.places.now c.args.body.now)) c.args.first)) (length c.args.body.now) e h.ends_held }

pub overflow_add-x : goal.overflow_add-x
overflow_add-x c = let h = (let fact : Expandable c.args.formats.now c.args.schema.now ((tables c.args.lengths.now c.args.places.now c.args.body.now)) c.args.first c.args.start c.args.end c.args.keep = c.requires.start_le_end.1 (above _ _ c.requires.start_le_end.0 c.if-start-end.false) in fact) in omega (arith, h.low, c.offset_at.ensures)

pub overflow_sub-m : goal.overflow_sub-m
overflow_sub-m c = omega (arith, c.requires.start_le_end.0)

pub write_rows-requires : goal.write_rows-requires
write_rows-requires c =
    let h = (let fact : Expandable c.args.formats.now c.args.schema.now ((tables c.args.lengths.now c.args.places.now c.args.body.now)) c.args.first c.args.start c.args.end c.args.keep = c.requires.start_le_end.1 (above _ _ c.requires.start_le_end.0 c.if-start-end.false) in fact) in
    let m = c.args.end - c.args.start in
    let ew = (let fact : c.width_of-w.result ≡ (width_of (code_of c.args.formats.now c.args.schema.now c.args.first 2)) = c.width_of-w.ensures ∙ ap width_of c.code_of.ensures in fact) in
    let ee = (let fact : c.width_of-e.result ≡ (width_of (code_of c.args.formats.now c.args.schema.now c.args.first 1)) = c.width_of-e.ensures ∙ ap width_of c.code_of-2.ensures in fact) in
    let k = c.slots_of-s.ensures in
    let j = c.slots_of-ends.ensures in
    let x = ap (λ z. z + c.args.start) c.offset_at.ensures in record {
      ends = (
        ends_as c.args.body.now ((width_of (code_of c.args.formats.now c.args.schema.now c.args.first 1))) (place ((tables_from ((tables c.args.lengths.now c.args.places.now c.args.body.now)) c.args.first)) 1 3) (offset_of ((tables_from ((tables c.args.lengths.now c.args.places.now c.args.body.now)) c.args.first)) 1 + 0) (first_run c.args.formats.now c.args.schema.now ((tables c.args.lengths.now c.args.places.now c.args.body.now)) c.args.first c.args.start c.args.end) (offset_of ((tables_from ((tables c.args.lengths.now c.args.places.now c.args.body.now)) c.args.first)) 0 + c.args.start) m (length_of ((tables_from ((tables c.args.lengths.now c.args.places.now c.args.body.now)) c.args.first)) 1) ee j.0 ((let fact : c.first_run-run.result ≡ first_run c.args.formats.now c.args.schema.now ((tables c.args.lengths.now c.args.places.now c.args.body.now)) c.args.first c.args.start c.args.end = c.first_run-run.ensures ∙ run_as ((tables c.args.lengths.now c.args.places.now c.args.body.now)) c.args.first c.args.start ((let fact : c.width_of-e.result ≡ (width_of (code_of c.args.formats.now c.args.schema.now c.args.first 1)) = c.width_of-e.ensures ∙ ap width_of c.code_of-2.ensures in fact)) in fact)) x c.length_at-count.ensures h.ends,
        values_as c.args.body.now ((width_of (code_of c.args.formats.now c.args.schema.now c.args.first 2))) c.args.keep (place ((tables_from ((tables c.args.lengths.now c.args.places.now c.args.body.now)) c.args.first)) 2 3) (offset_of ((tables_from ((tables c.args.lengths.now c.args.places.now c.args.body.now)) c.args.first)) 2 + 0) (place ((tables_from ((tables c.args.lengths.now c.args.places.now c.args.body.now)) c.args.first)) 2 1) (offset_of ((tables_from ((tables c.args.lengths.now c.args.places.now c.args.body.now)) c.args.first)) 2 + 0) (length_of ((tables_from ((tables c.args.lengths.now c.args.places.now c.args.body.now)) c.args.first)) 1) ew k.0 k.1 k.2 c.length_at-count.ensures h.held,
      );
      holds = holds_as ((width_of (code_of c.args.formats.now c.args.schema.now c.args.first 2))) c.args.keep _ _ (length c.args.room.now) m ew c.start_of.ensures c.start_of-2.ensures c.requires.rows_fit;
    }

pub returns : goal.returns
returns c =
    let m = c.args.end - c.args.start in
    let ew = (let fact : c.width_of-w.result ≡ (width_of (code_of c.args.formats.now c.args.schema.now c.args.first 2)) = c.width_of-w.ensures ∙ ap width_of c.code_of.ensures in fact) in
    let ee = (let fact : c.width_of-e.result ≡ (width_of (code_of c.args.formats.now c.args.schema.now c.args.first 1)) = c.width_of-e.ensures ∙ ap width_of c.code_of-2.ensures in fact) in
    let k = c.slots_of-s.ensures in
    let j = c.slots_of-ends.ensures in
    let x = ap (λ z. z + c.args.start) c.offset_at.ensures in
    rows_as c.args.body.now ((width_of (code_of c.args.formats.now c.args.schema.now c.args.first 2))) c.args.keep (place ((tables_from ((tables c.args.lengths.now c.args.places.now c.args.body.now)) c.args.first)) 2 3) (offset_of ((tables_from ((tables c.args.lengths.now c.args.places.now c.args.body.now)) c.args.first)) 2 + 0) (place ((tables_from ((tables c.args.lengths.now c.args.places.now c.args.body.now)) c.args.first)) 2 1) (offset_of ((tables_from ((tables c.args.lengths.now c.args.places.now c.args.body.now)) c.args.first)) 2 + 0) ((width_of (code_of c.args.formats.now c.args.schema.now c.args.first 1))) (place ((tables_from ((tables c.args.lengths.now c.args.places.now c.args.body.now)) c.args.first)) 1 3) (offset_of ((tables_from ((tables c.args.lengths.now c.args.places.now c.args.body.now)) c.args.first)) 1 + 0) (offset_of ((tables_from ((tables c.args.lengths.now c.args.places.now c.args.body.now)) c.args.first)) 0 + c.args.start) m _ _
    (first_run c.args.formats.now c.args.schema.now ((tables c.args.lengths.now c.args.places.now c.args.body.now)) c.args.first c.args.start c.args.end) c.args.room.now ew k.0 k.1 k.2 ee j.0 x c.start_of.ensures c.start_of-2.ensures ((let fact : c.first_run-run.result ≡ first_run c.args.formats.now c.args.schema.now ((tables c.args.lengths.now c.args.places.now c.args.body.now)) c.args.first c.args.start c.args.end = c.first_run-run.ensures ∙ run_as ((tables c.args.lengths.now c.args.places.now c.args.body.now)) c.args.first c.args.start ((let fact : c.width_of-e.result ≡ (width_of (code_of c.args.formats.now c.args.schema.now c.args.first 1)) = c.width_of-e.ensures ∙ ap width_of c.code_of-2.ensures in fact)) in fact)) c.write_rows.ensures
