-- `coding::expand::expand` meets its contract. Assumes nothing.
use mathlib.Core.Path.{◌≡◌, refl, sym, ap, ap₂, subst, ◌∙◌}
use mathlib.Core.Bool.{true, not}
use Prim.Native.Nat.{ℕ, ◌-◌, ◌<◌, ◌^◌}
use native.Mathlib.Omega.{arith}
use lib.ListN.{length, get_or}
use lib.Dec.{eqb}
use Rattle.source_rules.specs.kinds.Rows.{tables_of}
use Rattle.columns.specs.Grounds.{small_body, column_ground}
use Rattle.array_data.specs.lent_tables.Lent.{tables}
use Rattle.anew.specs.Anew.{ahead, room_ground}
use Rattle.anew.proofs.result_plan.Answered.{before_column, before_own, answers_large, answers_refused, answers_room, answers_made}
use Rattle.coding.specs.Counted.{row_counts}
use Rattle.coding.specs.Expand.{expand_own, expand_keeps, expand_plan, expand_out, RowsFit, rows_in}
use Rattle.coding.proofs.Runs.{own_same, none_before, rows_fit}
use Rattle.coding.proofs.Expanded.{target_plain, ranged, come, expandable, counters_are, room_is}
use Rattle.coding.proofs.Asked.{lengths_are, small_yes, small_no, flag_by}
use Rattle.coding.proofs.Room.{room_free}
use Rattle.coding.proofs.expand.expand.Goals.{Else-g-ne0-2}
use Rattle.coding.proofs.expand.expand.Goals as goal

-- what the refusals leave: the body has bytes, the column is well formed, and the call's own grounds hold
kept : (c : Else-g-ne0-2) → let z = c.args in let x = tables_of z.lengths.now z.places.now z.buffers.now z.body.now in
    (z.first < 2 ^ 32)
    × ((j : ℕ) → get_or z.body.now j 0 < 256)
    × (column_ground z.formats.now z.schema.now x z.first z.n ≡ 0)
    × (expand_own z.formats.now z.schema.now x z.first z.n z.target z.start z.end ≡ 0)
kept c =
    let z = c.args in (
      omega arith,
      λ j. (c.shared_slice_known-6-1.given j).fits,
      sym c.column_ground-g.ensures ∙ c.if-g-ne0.false,
      sym (own_same z.formats.now z.schema.now z.lengths.now z.places.now z.buffers.now z.body.now z.first z.n z.target z.start z.end) ∙ sym c.own_ground-g.ensures ∙ c.if-g-ne0-2.false,
    )

pub returns-then-room-gt-CEILING : goal.returns-then-room-gt-CEILING
returns-then-room-gt-CEILING c =
    let z = c.args in
    let x = tables_of z.lengths.now z.places.now z.buffers.now z.body.now in
    let ground = expand_own z.formats.now z.schema.now x z.first z.n z.target z.start z.end in
    let made = expand_plan z.formats.now z.schema.now x z.first z.n z.target z.start z.end in
    let answer = expand_out z.formats.now z.schema.now x z.first z.n z.target z.start z.end in
    answers_large z.formats.now z.schema.now x z.first z.n ground made answer z.parts.now z.plan.now z.counters.now z.room.now (small_no z.room.now (omega (arith, c.if-room-gt-CEILING.true)))

pub returns-then-g-ne0 : goal.returns-then-g-ne0
returns-then-g-ne0 c =
    let z = c.args in
    let x = tables_of z.lengths.now z.places.now z.buffers.now z.body.now in
    let ground = expand_own z.formats.now z.schema.now x z.first z.n z.target z.start z.end in
    let made = expand_plan z.formats.now z.schema.now x z.first z.n z.target z.start z.end in
    let answer = expand_out z.formats.now z.schema.now x z.first z.n z.target z.start z.end in
    answers_refused z.formats.now z.schema.now x z.first z.n ground made answer z.parts.now z.plan.now z.counters.now z.room.now (small_yes z.room.now (omega (arith, c.if-room-gt-CEILING.false))) (before_column z.formats.now z.schema.now x z.first z.n ground made answer c.column_ground-g.ensures c.if-g-ne0.true) c.if-g-ne0.true

pub returns-then-g-ne0-2 : goal.returns-then-g-ne0-2
returns-then-g-ne0-2 c =
    let z = c.args in
    let x = tables_of z.lengths.now z.places.now z.buffers.now z.body.now in
    let ground = expand_own z.formats.now z.schema.now x z.first z.n z.target z.start z.end in
    let made = expand_plan z.formats.now z.schema.now x z.first z.n z.target z.start z.end in
    let answer = expand_out z.formats.now z.schema.now x z.first z.n z.target z.start z.end in
    let e = c.own_ground-g.ensures ∙ own_same z.formats.now z.schema.now z.lengths.now z.places.now z.buffers.now z.body.now z.first z.n z.target z.start z.end in
    answers_refused z.formats.now z.schema.now x z.first z.n ground made answer z.parts.now z.plan.now z.counters.now z.room.now (small_yes z.room.now (omega (arith, c.if-room-gt-CEILING.false))) (before_own z.formats.now z.schema.now x z.first z.n ground made answer (sym c.column_ground-g.ensures ∙ c.if-g-ne0.false) e c.if-g-ne0-2.true) c.if-g-ne0-2.true

pub row_of-row-requires : goal.row_of-row-requires
row_of-row-requires c =
    let z = c.args in
    let k = kept (goal.at.row_of-row-requires c).Else-g-ne0-2 in
    record { comes = come z.formats.now z.schema.now z.lengths.now z.places.now z.buffers.now z.body.now z.first z.n z.target z.start z.end k.0 k.1 k.2 k.3; target_value = target_plain z.formats.now z.schema.now _ z.first z.n z.target z.start z.end k.3 }

pub overflow_sub-m : goal.overflow_sub-m
overflow_sub-m c =
    let z = c.args in
    let k = kept (goal.at.overflow_sub-m c).Else-g-ne0-2 in
    let r = (ranged z.formats.now z.schema.now z.lengths.now z.places.now z.buffers.now z.body.now z.first z.n z.target z.start z.end k.0 k.1 k.2 k.3).0 in
    omega (arith, r)

pub room_ground-g-requires : goal.room_ground-g-requires
room_ground-g-requires c =
    let e = c.row_of-row.ensures.nulls_value_2 in (e.1, e.2)

pub returns-then-g-ne0-3 : goal.returns-then-g-ne0-3
returns-then-g-ne0-3 c =
    let z = c.args in
    let x = tables_of z.lengths.now z.places.now z.buffers.now z.body.now in
    let ground = expand_own z.formats.now z.schema.now x z.first z.n z.target z.start z.end in
    let made = expand_plan z.formats.now z.schema.now x z.first z.n z.target z.start z.end in
    let answer = expand_out z.formats.now z.schema.now x z.first z.n z.target z.start z.end in
    let k = kept (goal.at.returns-then-g-ne0-3 c).Else-g-ne0-2 in
    let small : small_body z.room.now ≡ true = small_yes z.room.now (omega (arith, c.if-room-gt-CEILING.false)) in
    let none_ahead : ahead z.formats.now z.schema.now x z.first z.n ground made answer ≡ 0 = none_before z.formats.now z.schema.now z.lengths.now z.places.now z.buffers.now z.body.now z.first z.n z.target z.start z.end k.0 k.1 k.2 k.3 in
    let counted : row_counts (z.end - z.start) ≡ answer.counters = counters_are z.formats.now z.schema.now z.lengths.now z.places.now z.buffers.now z.body.now z.first z.n z.target z.start z.end k.0 k.1 k.2 k.3 _ refl in
    let ground_is : c.room_ground-g.result ≡ (room_ground made answer.counters z.parts.now (length z.plan.now) (length z.counters.now) (length z.room.now)) = c.room_ground-g.ensures ∙ ap₂ (λ p k. room_ground p k z.parts.now (length z.plan.now) (length z.counters.now) (length z.room.now)) c.row_of-row.ensures.nulls_value counted in
    answers_room z.formats.now z.schema.now x z.first z.n ground made answer z.parts.now z.plan.now z.counters.now z.room.now small none_ahead ground_is c.if-g-ne0-3.true

pub write_words-requires : goal.write_words-requires
write_words-requires c =
    let z = c.args in
    let x = tables_of z.lengths.now z.places.now z.buffers.now z.body.now in
    let made = expand_plan z.formats.now z.schema.now x z.first z.n z.target z.start z.end in
    let answer = expand_out z.formats.now z.schema.now x z.first z.n z.target z.start z.end in
    let k = kept (goal.at.write_words-requires c).Else-g-ne0-2 in
    let counted : row_counts (z.end - z.start) ≡ answer.counters = counters_are z.formats.now z.schema.now z.lengths.now z.places.now z.buffers.now z.body.now z.first z.n z.target z.start z.end k.0 k.1 k.2 k.3 _ refl in
    let ground_is : c.room_ground-g.result ≡ (room_ground made answer.counters z.parts.now (length z.plan.now) (length z.counters.now) (length z.room.now)) = c.room_ground-g.ensures ∙ ap₂ (λ p k. room_ground p k z.parts.now (length z.plan.now) (length z.counters.now) (length z.room.now)) c.row_of-row.ensures.nulls_value counted in
    let room_fits : (room_ground made answer.counters z.parts.now (length z.plan.now) (length z.counters.now) (length z.room.now)) ≡ 0 = sym ground_is ∙ c.if-g-ne0-3.false in
    let lengths : (length z.plan.now ≡ 872) × (length z.counters.now ≡ 96) = lengths_are (length z.plan.now) (length z.counters.now) (room_free made answer.counters z.parts.now (length z.plan.now) (length z.counters.now) (length z.room.now) room_fits).lengths in
    (lengths.0, c.row_of-row.ensures.nulls_value_2.1)

pub write_counters-requires : goal.write_counters-requires
write_counters-requires c =
    let z = c.args in
    let x = tables_of z.lengths.now z.places.now z.buffers.now z.body.now in
    let made = expand_plan z.formats.now z.schema.now x z.first z.n z.target z.start z.end in
    let answer = expand_out z.formats.now z.schema.now x z.first z.n z.target z.start z.end in
    let k = kept (goal.at.write_counters-requires c).Else-g-ne0-2 in
    let counted : row_counts (z.end - z.start) ≡ answer.counters = counters_are z.formats.now z.schema.now z.lengths.now z.places.now z.buffers.now z.body.now z.first z.n z.target z.start z.end k.0 k.1 k.2 k.3 _ refl in
    let ground_is : c.room_ground-g.result ≡ (room_ground made answer.counters z.parts.now (length z.plan.now) (length z.counters.now) (length z.room.now)) = c.room_ground-g.ensures ∙ ap₂ (λ p k. room_ground p k z.parts.now (length z.plan.now) (length z.counters.now) (length z.room.now)) c.row_of-row.ensures.nulls_value counted in
    let room_fits : (room_ground made answer.counters z.parts.now (length z.plan.now) (length z.counters.now) (length z.room.now)) ≡ 0 = sym ground_is ∙ c.if-g-ne0-3.false in
    let lengths : (length z.plan.now ≡ 872) × (length z.counters.now ≡ 96) = lengths_are (length z.plan.now) (length z.counters.now) (room_free made answer.counters z.parts.now (length z.plan.now) (length z.counters.now) (length z.room.now) room_fits).lengths in
    lengths.1

pub write-requires : goal.write-requires
write-requires c =
    let z = c.args in
    let x = tables_of z.lengths.now z.places.now z.buffers.now z.body.now in
    let made = expand_plan z.formats.now z.schema.now x z.first z.n z.target z.start z.end in
    let answer = expand_out z.formats.now z.schema.now x z.first z.n z.target z.start z.end in
    let k = kept (goal.at.write-requires c).Else-g-ne0-2 in
    let keeps : not (eqb c.row_of-row.result.nulls 0) ≡ expand_keeps z.formats.now z.schema.now x z.first z.n z.target z.start z.end 0 = flag_by _ c.row_of-row.ensures.nulls_value_2.0 in
    let small : small_body z.room.now ≡ true = small_yes z.room.now (omega (arith, c.if-room-gt-CEILING.false)) in
    let counted : row_counts (z.end - z.start) ≡ answer.counters = counters_are z.formats.now z.schema.now z.lengths.now z.places.now z.buffers.now z.body.now z.first z.n z.target z.start z.end k.0 k.1 k.2 k.3 _ refl in
    let ground_is : c.room_ground-g.result ≡ (room_ground made answer.counters z.parts.now (length z.plan.now) (length z.counters.now) (length z.room.now)) = c.room_ground-g.ensures ∙ ap₂ (λ p k. room_ground p k z.parts.now (length z.plan.now) (length z.counters.now) (length z.room.now)) c.row_of-row.ensures.nulls_value counted in
    let room_fits : (room_ground made answer.counters z.parts.now (length z.plan.now) (length z.counters.now) (length z.room.now)) ≡ 0 = sym ground_is ∙ c.if-g-ne0-3.false in
    let rows_held : RowsFit z.formats.now z.schema.now (tables z.lengths.now z.places.now z.body.now) z.first z.start z.end made z.parts.now (not (eqb c.row_of-row.result.nulls 0)) (length z.room.now) = rows_fit z.formats.now z.schema.now z.lengths.now z.places.now z.buffers.now z.body.now z.first z.n z.target z.start z.end k.0 k.1 k.2 k.3 z.parts.now z.room.now (length z.plan.now) (length z.counters.now) (not (eqb c.row_of-row.result.nulls 0)) keeps small (ap (λ k. room_ground made k z.parts.now (length z.plan.now) (length z.counters.now) (length z.room.now)) counted ∙ room_fits) in
    record {
      start_le_end = (
        (ranged z.formats.now z.schema.now z.lengths.now z.places.now z.buffers.now z.body.now z.first z.n z.target z.start z.end k.0 k.1 k.2 k.3).0,
        λ more. expandable z.formats.now z.schema.now z.lengths.now z.places.now z.buffers.now z.body.now z.first z.n z.target z.start z.end k.0 k.1 k.2 k.3 _ keeps more,
      );
      rows_fit = subst (λ p. RowsFit z.formats.now z.schema.now (tables z.lengths.now z.places.now z.body.now) z.first z.start z.end p z.parts.now (not (eqb c.row_of-row.result.nulls 0)) (length z.room.now)) (sym (c.write_words.ensures ∙ c.row_of-row.ensures.nulls_value)) rows_held;
    }

pub returns : goal.returns
returns c =
    let z = c.args in
    let x = tables_of z.lengths.now z.places.now z.buffers.now z.body.now in
    let ground = expand_own z.formats.now z.schema.now x z.first z.n z.target z.start z.end in
    let made = expand_plan z.formats.now z.schema.now x z.first z.n z.target z.start z.end in
    let answer = expand_out z.formats.now z.schema.now x z.first z.n z.target z.start z.end in
    let k = kept (goal.at.returns c).Else-g-ne0-2 in
    let small : small_body z.room.now ≡ true = small_yes z.room.now (omega (arith, c.if-room-gt-CEILING.false)) in
    let none_ahead : ahead z.formats.now z.schema.now x z.first z.n ground made answer ≡ 0 = none_before z.formats.now z.schema.now z.lengths.now z.places.now z.buffers.now z.body.now z.first z.n z.target z.start z.end k.0 k.1 k.2 k.3 in
    let counted : row_counts (z.end - z.start) ≡ answer.counters = counters_are z.formats.now z.schema.now z.lengths.now z.places.now z.buffers.now z.body.now z.first z.n z.target z.start z.end k.0 k.1 k.2 k.3 _ refl in
    let ground_is : c.room_ground-g.result ≡ (room_ground made answer.counters z.parts.now (length z.plan.now) (length z.counters.now) (length z.room.now)) = c.room_ground-g.ensures ∙ ap₂ (λ p k. room_ground p k z.parts.now (length z.plan.now) (length z.counters.now) (length z.room.now)) c.row_of-row.ensures.nulls_value counted in
    let room_fits : (room_ground made answer.counters z.parts.now (length z.plan.now) (length z.counters.now) (length z.room.now)) ≡ 0 = sym ground_is ∙ c.if-g-ne0-3.false in
    let keeps : not (eqb c.row_of-row.result.nulls 0) ≡ expand_keeps z.formats.now z.schema.now x z.first z.n z.target z.start z.end 0 = flag_by _ c.row_of-row.ensures.nulls_value_2.0 in
    let rows_held : RowsFit z.formats.now z.schema.now (tables z.lengths.now z.places.now z.body.now) z.first z.start z.end made z.parts.now (not (eqb c.row_of-row.result.nulls 0)) (length z.room.now) = rows_fit z.formats.now z.schema.now z.lengths.now z.places.now z.buffers.now z.body.now z.first z.n z.target z.start z.end k.0 k.1 k.2 k.3 z.parts.now z.room.now (length z.plan.now) (length z.counters.now) (not (eqb c.row_of-row.result.nulls 0)) keeps small (ap (λ k. room_ground made k z.parts.now (length z.plan.now) (length z.counters.now) (length z.room.now)) counted ∙ room_fits) in
    let p = c.write_words.ensures ∙ c.row_of-row.ensures.nulls_value in
    answers_made z.formats.now z.schema.now x z.first z.n ground made answer z.parts.now z.plan.now z.counters.now z.room.now small none_ahead room_fits refl
    p
    (c.write_counters.ensures ∙ counted)
    (c.write.ensures
    ∙ ap (λ p. rows_in z.formats.now z.schema.now (tables z.lengths.now z.places.now z.body.now) z.first z.start z.end p z.parts.now (not (eqb c.row_of-row.result.nulls 0)) z.room.now) p
    ∙ room_is z.formats.now z.schema.now z.lengths.now z.places.now z.buffers.now z.body.now z.first z.n z.target z.start z.end k.0 k.1 k.2 k.3 (not (eqb c.row_of-row.result.nulls 0)) keeps made z.parts.now z.room.now rows_held)
