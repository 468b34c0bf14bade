-- `reclaim_walk::plain::copy_plain` meets its contract. Assumes nothing.
use mathlib.Core.Path.{◌≡◌, refl, sym, ap, ap₂, ◌∙◌}
use mathlib.Core.Bool.{Bool, true, false, not, cond, false≢true}
use mathlib.Core.List.{[]}
use Prim.Native.Nat.{◌+◌, ◌*◌, ◌-◌, ◌<◌}
use native.Mathlib.Nat.{add-zero}
use native.Mathlib.Omega.{arith}
use lib.ListN.{length, get_or}
use Rattle.number.specs.Number.{splice}
use Rattle.walk.specs.State.{code_of, bytes_of, rows}
use Rattle.walk.specs.Log.{start_of}
use Rattle.room_writes.proofs.Bytes.{width_in_lem}
use Rattle.leaf_walk.specs.Join.{join}
use Rattle.leaf_walk.proofs.Widths.{fixed_width}
use Rattle.reclaim.specs.used_entries.Keys.{rank}
use Rattle.reclaim.specs.reclaim_walk.Walk.{keys_of}
use Rattle.reclaim.specs.reclaim_walk.Plain.{Plain}
use Rattle.reclaim.proofs.reclaim_walk.Kept.{counted, rank_up, did_as, plain_runs, risen_kept, many_told, risen_length}
use Rattle.reclaim.proofs.plain.copy_plain.Goals as goal

is_false : (b : Bool) → not b ≡ true → b ≡ false
is_false true e = sym e
is_false false e = refl

is_true : (b : Bool) → not b ≡ false → b ≡ true
is_true true e = refl
is_true false e = sym e

pub is_plain-requires : goal.is_plain-requires
is_plain-requires c = (c.requires.first_bound.0, c.requires.first_bound.2)

pub returns-then-not-is_plain : goal.returns-then-not-is_plain
returns-then-not-is_plain c = record { walks = (λ z. absurd (false≢true z)); counters_value = λ z. (refl, refl) }

pub overflow_sub-n : goal.overflow_sub-n
overflow_sub-n c = omega (arith, c.requires.by_index c.args.count (omega arith), c.requires.by_index 0 (omega arith), ap (rank (keys_of ((join c.args.plan.now [] c.args.lengths.now c.args.places.now c.args.body.now c.args.first 0)))) (add-zero c.args.base), rank_up (keys_of ((join c.args.plan.now [] c.args.lengths.now c.args.places.now c.args.body.now c.args.first 0))) c.args.base c.args.count)

pub write_entries-requires : goal.write_entries-requires
write_entries-requires c =
    let p = c.is_plain.ensures (is_true _ c.if-not-is_plain.false-raw) in
    record { first_bound = (c.requires.first_bound.0, c.requires.first_bound.1, p); count_value = risen_length ((join c.args.plan.now [] c.args.lengths.now c.args.places.now c.args.body.now c.args.first 0)) c.args.base c.args.count c.args.ranks.now c.requires.by_index ((get_or c.args.ranks.now c.args.count 0 - get_or c.args.ranks.now 0 0)) refl p }

pub returns-then-not-write_entries : goal.returns-then-not-write_entries
returns-then-not-write_entries c = record { walks = (λ z. absurd (false≢true z)); counters_value = λ z. (refl, c.write_entries.ensures.room_value (is_false _ c.if-not-write_entries.true-raw)) }

pub returns : goal.returns
returns c =
    let a = c.args in
    let x = (join c.args.plan.now a.parts.now c.args.lengths.now c.args.places.now c.args.body.now c.args.first 0) in
    let p = (let fact : Plain ((join c.args.plan.now [] c.args.lengths.now c.args.places.now c.args.body.now c.args.first 0)) c.args.base c.args.count → Plain ((join c.args.plan.now c.args.parts.now c.args.lengths.now c.args.places.now c.args.body.now c.args.first 0)) c.args.base c.args.count = λ p₁. record { number = p₁.number; no_keys = p₁.no_keys; no_nulls = p₁.no_nulls; slots = p₁.slots; inside = p₁.inside } in fact) (c.is_plain.ensures (is_true _ c.if-not-is_plain.false-raw)) in
    let o = c.write_entries.ensures.stand (is_true _ c.if-not-write_entries.false-raw) in
    let had : get_or c.copied-had.result 3 0 ≡ rows a.counters.now 1 = ap (λ l. get_or l 3 0) c.copied-had.ensures in
    let w = bytes_of a.plan.now 1 in
    let wide = width_in_lem w (fixed_width (code_of a.plan.now 1) p.number) in
    let long : 3 < length a.counters.now = omega (arith, c.copied-had, ap length c.copied-had.ensures) in
    let sized = risen_length x a.base a.count a.ranks.now c.requires.by_index ((get_or c.args.ranks.now c.args.count 0 - get_or c.args.ranks.now 0 0)) refl p in
    let same = risen_kept x a.base a.count a.ranks.now c.requires.by_index in
    let d = plain_runs x a.count a.count a.base a.write a.counters.now a.room.now (omega arith) p wide.0 long (omega (arith, c.well_formed)) (λ h. omega (arith, o.0 h, ap (λ v. v * w) had, sized, ap length same)) in record { walks = (λ z. did_as a.plan.now a.parts.now (ap (λ t. counted t a.counters.now) (sym (many_told x a.base a.count a.ranks.now c.requires.by_index ((get_or c.args.ranks.now c.args.count 0 - get_or c.args.ranks.now 0 0)) refl)) ∙ sym c.count_entries.ensures) (sym (o.1 ∙ ap₂ (λ v b. cond a.write (splice (start_of a.plan.now a.parts.now 1 1 + v * w) b a.room.now) a.room.now) had same)) d); counters_value = λ z. absurd (false≢true (sym z)) }
