-- `coding::encode::encode` meets its contract. Assumes nothing.
use mathlib.Core.Path.{◌≡◌, refl, sym, ap, ap₂, subst, ◌∙◌}
use mathlib.Core.Bool.{true, not}
use Prim.Native.Nat.{ℕ, ◌-◌, ◌<◌, ◌^◌}
use native.Mathlib.Omega.{arith}
use lib.ListN.{length, get_or}
use lib.Dec.{eqb}
use Rattle.source_rules.specs.kinds.Rows.{tables_of}
use Rattle.columns.specs.Grounds.{small_body, column_ground}
use Rattle.array_data.specs.lent_tables.Lent.{tables}
use Rattle.anew.specs.Anew.{ahead, room_ground}
use Rattle.anew.proofs.PlanWords.{plan_length}
use Rattle.anew.proofs.result_plan.Answered.{before_column, before_own, answers_large, answers_refused, answers_room, answers_made}
use Rattle.coding.specs.Counted.{all_counts}
use Rattle.coding.specs.Encode.{encode_own, encode_keeps, encode_plan, encode_out, RoomFor, runs_in}
use Rattle.coding.proofs.Grounds.{own_same}
use Rattle.coding.proofs.Encoded.{own, due, come, codable, counters_are, room_is}
use Rattle.coding.proofs.Asked.{lengths_are, small_yes, small_no, keep_by, none_before}
use Rattle.coding.proofs.Accepted.{due_width}
use Rattle.coding.proofs.Codes.{ends_sized}
use Rattle.coding.proofs.Fitted.{room_for}
use Rattle.coding.proofs.Room.{room_free}
use Rattle.coding.proofs.encode.encode.Goals.{Else-g-ne0-2}
use Rattle.coding.proofs.encode.encode.Goals as goal

-- what the refusals leave: the body has bytes, the column is well formed, and the call's own grounds hold
kept : (c : Else-g-ne0-2) → let z = c.args in let x = tables_of z.lengths.now z.places.now z.buffers.now z.body.now in
    (z.first < 2 ^ 32)
    × ((j : ℕ) → get_or z.body.now j 0 < 256)
    × (column_ground z.formats.now z.schema.now x z.first z.n ≡ 0)
    × (encode_own z.formats.now z.schema.now x z.first z.n z.target z.start z.end ≡ 0)
kept c =
    let z = c.args in (
      omega arith,
      λ j. (c.shared_slice_known-6-1.given j).fits,
      sym c.column_ground-g.ensures ∙ c.if-g-ne0.false,
      sym (own_same z.formats.now z.schema.now z.lengths.now z.places.now z.buffers.now z.body.now z.first z.n z.target z.start z.end) ∙ sym c.own_ground-g.ensures ∙ c.if-g-ne0-2.false,
    )

pub returns-then-room-gt-CEILING : goal.returns-then-room-gt-CEILING
returns-then-room-gt-CEILING c =
    let z = c.args in
    let x = tables_of z.lengths.now z.places.now z.buffers.now z.body.now in
    let ground = encode_own z.formats.now z.schema.now x z.first z.n z.target z.start z.end in
    let made = encode_plan z.formats.now z.schema.now x z.first z.n z.target z.start z.end in
    let answer = encode_out z.formats.now z.schema.now x z.first z.n z.target z.start z.end in
    answers_large z.formats.now z.schema.now x z.first z.n ground made answer z.parts.now z.plan.now z.counters.now z.room.now (small_no z.room.now (omega (arith, c.if-room-gt-CEILING.true)))

pub returns-then-g-ne0 : goal.returns-then-g-ne0
returns-then-g-ne0 c =
    let z = c.args in
    let x = tables_of z.lengths.now z.places.now z.buffers.now z.body.now in
    let ground = encode_own z.formats.now z.schema.now x z.first z.n z.target z.start z.end in
    let made = encode_plan z.formats.now z.schema.now x z.first z.n z.target z.start z.end in
    let answer = encode_out z.formats.now z.schema.now x z.first z.n z.target z.start z.end in
    answers_refused z.formats.now z.schema.now x z.first z.n ground made answer z.parts.now z.plan.now z.counters.now z.room.now (small_yes z.room.now (omega (arith, c.if-room-gt-CEILING.false))) (before_column z.formats.now z.schema.now x z.first z.n ground made answer c.column_ground-g.ensures c.if-g-ne0.true) c.if-g-ne0.true

pub returns-then-g-ne0-2 : goal.returns-then-g-ne0-2
returns-then-g-ne0-2 c =
    let z = c.args in
    let x = tables_of z.lengths.now z.places.now z.buffers.now z.body.now in
    let ground = encode_own z.formats.now z.schema.now x z.first z.n z.target z.start z.end in
    let made = encode_plan z.formats.now z.schema.now x z.first z.n z.target z.start z.end in
    let answer = encode_out z.formats.now z.schema.now x z.first z.n z.target z.start z.end in
    let e = c.own_ground-g.ensures ∙ own_same z.formats.now z.schema.now z.lengths.now z.places.now z.buffers.now z.body.now z.first z.n z.target z.start z.end in
    answers_refused z.formats.now z.schema.now x z.first z.n ground made answer z.parts.now z.plan.now z.counters.now z.room.now (small_yes z.room.now (omega (arith, c.if-room-gt-CEILING.false))) (before_own z.formats.now z.schema.now x z.first z.n ground made answer (sym c.column_ground-g.ensures ∙ c.if-g-ne0.false) e c.if-g-ne0-2.true) c.if-g-ne0-2.true

pub planned-draft-requires : goal.planned-draft-requires
planned-draft-requires c =
    let z = c.args in
    let k = kept (goal.at.planned-draft-requires c).Else-g-ne0-2 in
    record { comes = come z.formats.now z.schema.now z.lengths.now z.places.now z.buffers.now z.body.now z.first z.n z.target z.start z.end k.0 k.1 k.2 k.3; target_value = (own z.formats.now z.schema.now z.lengths.now z.places.now z.buffers.now z.body.now z.first z.n z.target z.start z.end k.0 k.1 k.2 k.3).due }

pub runs_ground-g-requires : goal.runs_ground-g-requires
runs_ground-g-requires c =
    let z = c.args in
    let x = tables_of z.lengths.now z.places.now z.buffers.now z.body.now in
    let k = kept (goal.at.runs_ground-g-requires c).Else-g-ne0-2 in
    let keeps : not (eqb c.keeps_of-keep.result 0) ≡ encode_keeps z.formats.now z.schema.now x z.first z.n z.target z.start z.end 2 = keep_by z.formats.now z.schema.now z.target 3 2 (encode_keeps z.formats.now z.schema.now x z.first z.n z.target z.start z.end) _ (omega arith) (omega arith) c.planned-draft.ensures c.keeps_of-keep.ensures in
    codable z.formats.now z.schema.now z.lengths.now z.places.now z.buffers.now z.body.now z.first z.n z.target z.start z.end k.0 k.1 k.2 k.3 _ keeps

pub returns-then-g-ne0-3 : goal.returns-then-g-ne0-3
returns-then-g-ne0-3 c =
    let z = c.args in
    let x = tables_of z.lengths.now z.places.now z.buffers.now z.body.now in
    let ground = encode_own z.formats.now z.schema.now x z.first z.n z.target z.start z.end in
    let made = encode_plan z.formats.now z.schema.now x z.first z.n z.target z.start z.end in
    let answer = encode_out z.formats.now z.schema.now x z.first z.n z.target z.start z.end in
    let k = kept (goal.at.returns-then-g-ne0-3 c).Else-g-ne0-2 in
    let small : small_body z.room.now ≡ true = small_yes z.room.now (omega (arith, c.if-room-gt-CEILING.false)) in
    let none_ahead : ahead z.formats.now z.schema.now x z.first z.n ground made answer ≡ 0 = none_before z.formats.now z.schema.now z.lengths.now z.places.now z.buffers.now z.body.now z.first z.n z.target z.start z.end k.0 k.1 k.2 k.3 in
    let keeps : not (eqb c.keeps_of-keep.result 0) ≡ encode_keeps z.formats.now z.schema.now x z.first z.n z.target z.start z.end 2 = keep_by z.formats.now z.schema.now z.target 3 2 (encode_keeps z.formats.now z.schema.now x z.first z.n z.target z.start z.end) _ (omega arith) (omega arith) c.planned-draft.ensures c.keeps_of-keep.ensures in
    let ground_is : c.runs_ground-g.result ≡ room_ground made answer.counters z.parts.now (length z.plan.now) (length z.counters.now) (length z.room.now) = c.runs_ground-g.ensures ∙ ap₂ (λ p k. room_ground p k z.parts.now (length z.plan.now) (length z.counters.now) (length z.room.now)) c.planned-draft.ensures (counters_are z.formats.now z.schema.now z.lengths.now z.places.now z.buffers.now z.body.now z.first z.n z.target z.start z.end k.0 k.1 k.2 k.3 _ keeps) in
    answers_room z.formats.now z.schema.now x z.first z.n ground made answer z.parts.now z.plan.now z.counters.now z.room.now small none_ahead ground_is c.if-g-ne0-3.true

pub write-k-requires : goal.write-k-requires
write-k-requires c =
    let z = c.args in
    let x = tables_of z.lengths.now z.places.now z.buffers.now z.body.now in
    let made = encode_plan z.formats.now z.schema.now x z.first z.n z.target z.start z.end in
    let answer = encode_out z.formats.now z.schema.now x z.first z.n z.target z.start z.end in
    let k = kept (goal.at.write-k-requires c).Else-g-ne0-2 in
    let keeps : not (eqb c.keeps_of-keep.result 0) ≡ encode_keeps z.formats.now z.schema.now x z.first z.n z.target z.start z.end 2 = keep_by z.formats.now z.schema.now z.target 3 2 (encode_keeps z.formats.now z.schema.now x z.first z.n z.target z.start z.end) _ (omega arith) (omega arith) c.planned-draft.ensures c.keeps_of-keep.ensures in
    let small : small_body z.room.now ≡ true = small_yes z.room.now (omega (arith, c.if-room-gt-CEILING.false)) in
    let ground_is : c.runs_ground-g.result ≡ room_ground made answer.counters z.parts.now (length z.plan.now) (length z.counters.now) (length z.room.now) = c.runs_ground-g.ensures ∙ ap₂ (λ p k. room_ground p k z.parts.now (length z.plan.now) (length z.counters.now) (length z.room.now)) c.planned-draft.ensures (counters_are z.formats.now z.schema.now z.lengths.now z.places.now z.buffers.now z.body.now z.first z.n z.target z.start z.end k.0 k.1 k.2 k.3 _ keeps) in
    let room_fits : room_ground made answer.counters z.parts.now (length z.plan.now) (length z.counters.now) (length z.room.now) ≡ 0 = sym ground_is ∙ c.if-g-ne0-3.false in
    let room_held : RoomFor z.formats.now z.schema.now (tables z.lengths.now z.places.now z.body.now) z.first z.start z.end z.target made z.parts.now (not (eqb c.keeps_of-keep.result 0)) (length z.room.now) = room_for z.formats.now z.schema.now z.lengths.now z.places.now z.buffers.now z.body.now z.first z.n z.target z.start z.end k.0 k.1 k.2 k.3 z.parts.now z.room.now (length z.plan.now) (length z.counters.now) _ (not (eqb c.keeps_of-keep.result 0)) keeps small (ap (λ k. room_ground made k z.parts.now (length z.plan.now) (length z.counters.now) (length z.room.now)) (counters_are z.formats.now z.schema.now z.lengths.now z.places.now z.buffers.now z.body.now z.first z.n z.target z.start z.end k.0 k.1 k.2 k.3 _ keeps) ∙ room_fits) in
    let u = due z.formats.now z.schema.now z.lengths.now z.places.now z.buffers.now z.body.now z.first z.n z.target z.start z.end k.0 k.1 k.2 k.3 in
    record { sized = (ends_sized _ (due_width z.formats.now z.schema.now z.first z.target u), codable z.formats.now z.schema.now z.lengths.now z.places.now z.buffers.now z.body.now z.first z.n z.target z.start z.end k.0 k.1 k.2 k.3 _ keeps); room_for = subst (λ p. RoomFor z.formats.now z.schema.now (tables z.lengths.now z.places.now z.body.now) z.first z.start z.end z.target p z.parts.now (not (eqb c.keeps_of-keep.result 0)) (length z.room.now)) (sym c.planned-draft.ensures) room_held }

pub overflow_sub-end : goal.overflow_sub-end
overflow_sub-end c =
    let z = c.args in
    let x = tables_of z.lengths.now z.places.now z.buffers.now z.body.now in
    let k = kept (goal.at.overflow_sub-end c).Else-g-ne0-2 in
    let keeps : not (eqb c.keeps_of-keep.result 0) ≡ encode_keeps z.formats.now z.schema.now x z.first z.n z.target z.start z.end 2 = keep_by z.formats.now z.schema.now z.target 3 2 (encode_keeps z.formats.now z.schema.now x z.first z.n z.target z.start z.end) _ (omega arith) (omega arith) c.planned-draft.ensures c.keeps_of-keep.ensures in
    let r = (codable z.formats.now z.schema.now z.lengths.now z.places.now z.buffers.now z.body.now z.first z.n z.target z.start z.end k.0 k.1 k.2 k.3 _ keeps).in_order_lem in
    omega (arith, r)

pub keep_result-requires : goal.keep_result-requires
keep_result-requires c =
    let z = c.args in
    let x = tables_of z.lengths.now z.places.now z.buffers.now z.body.now in
    let made = encode_plan z.formats.now z.schema.now x z.first z.n z.target z.start z.end in
    let answer = encode_out z.formats.now z.schema.now x z.first z.n z.target z.start z.end in
    let k = kept (goal.at.keep_result-requires c).Else-g-ne0-2 in
    let keeps : not (eqb c.keeps_of-keep.result 0) ≡ encode_keeps z.formats.now z.schema.now x z.first z.n z.target z.start z.end 2 = keep_by z.formats.now z.schema.now z.target 3 2 (encode_keeps z.formats.now z.schema.now x z.first z.n z.target z.start z.end) _ (omega arith) (omega arith) c.planned-draft.ensures c.keeps_of-keep.ensures in
    let ground_is : c.runs_ground-g.result ≡ room_ground made answer.counters z.parts.now (length z.plan.now) (length z.counters.now) (length z.room.now) = c.runs_ground-g.ensures ∙ ap₂ (λ p k. room_ground p k z.parts.now (length z.plan.now) (length z.counters.now) (length z.room.now)) c.planned-draft.ensures (counters_are z.formats.now z.schema.now z.lengths.now z.places.now z.buffers.now z.body.now z.first z.n z.target z.start z.end k.0 k.1 k.2 k.3 _ keeps) in
    let room_fits : room_ground made answer.counters z.parts.now (length z.plan.now) (length z.counters.now) (length z.room.now) ≡ 0 = sym ground_is ∙ c.if-g-ne0-3.false in
    let l = lengths_are (length z.plan.now) (length z.counters.now) (room_free made answer.counters z.parts.now (length z.plan.now) (length z.counters.now) (length z.room.now) room_fits).lengths in
    (l.0, l.1, ap length c.planned-draft.ensures ∙ plan_length z.formats.now z.schema.now z.target 3 _ _ 0 (omega arith), ap length c.counters_of-tally.ensures)

pub returns : goal.returns
returns c =
    let z = c.args in
    let x = tables_of z.lengths.now z.places.now z.buffers.now z.body.now in
    let ground = encode_own z.formats.now z.schema.now x z.first z.n z.target z.start z.end in
    let made = encode_plan z.formats.now z.schema.now x z.first z.n z.target z.start z.end in
    let answer = encode_out z.formats.now z.schema.now x z.first z.n z.target z.start z.end in
    let k = kept (goal.at.returns c).Else-g-ne0-2 in
    let small : small_body z.room.now ≡ true = small_yes z.room.now (omega (arith, c.if-room-gt-CEILING.false)) in
    let none_ahead : ahead z.formats.now z.schema.now x z.first z.n ground made answer ≡ 0 = none_before z.formats.now z.schema.now z.lengths.now z.places.now z.buffers.now z.body.now z.first z.n z.target z.start z.end k.0 k.1 k.2 k.3 in
    let keeps : not (eqb c.keeps_of-keep.result 0) ≡ encode_keeps z.formats.now z.schema.now x z.first z.n z.target z.start z.end 2 = keep_by z.formats.now z.schema.now z.target 3 2 (encode_keeps z.formats.now z.schema.now x z.first z.n z.target z.start z.end) _ (omega arith) (omega arith) c.planned-draft.ensures c.keeps_of-keep.ensures in
    let ground_is : c.runs_ground-g.result ≡ room_ground made answer.counters z.parts.now (length z.plan.now) (length z.counters.now) (length z.room.now) = c.runs_ground-g.ensures ∙ ap₂ (λ p k. room_ground p k z.parts.now (length z.plan.now) (length z.counters.now) (length z.room.now)) c.planned-draft.ensures (counters_are z.formats.now z.schema.now z.lengths.now z.places.now z.buffers.now z.body.now z.first z.n z.target z.start z.end k.0 k.1 k.2 k.3 _ keeps) in
    let room_fits : room_ground made answer.counters z.parts.now (length z.plan.now) (length z.counters.now) (length z.room.now) ≡ 0 = sym ground_is ∙ c.if-g-ne0-3.false in
    let counted : c.counters_of-tally.result ≡ answer.counters = c.counters_of-tally.ensures ∙ ap (all_counts (z.end - z.start)) c.write-k.ensures.value ∙ counters_are z.formats.now z.schema.now z.lengths.now z.places.now z.buffers.now z.body.now z.first z.n z.target z.start z.end k.0 k.1 k.2 k.3 _ keeps in
    let room_held : RoomFor z.formats.now z.schema.now (tables z.lengths.now z.places.now z.body.now) z.first z.start z.end z.target made z.parts.now (not (eqb c.keeps_of-keep.result 0)) (length z.room.now) = room_for z.formats.now z.schema.now z.lengths.now z.places.now z.buffers.now z.body.now z.first z.n z.target z.start z.end k.0 k.1 k.2 k.3 z.parts.now z.room.now (length z.plan.now) (length z.counters.now) _ (not (eqb c.keeps_of-keep.result 0)) keeps small (ap (λ k. room_ground made k z.parts.now (length z.plan.now) (length z.counters.now) (length z.room.now)) (counters_are z.formats.now z.schema.now z.lengths.now z.places.now z.buffers.now z.body.now z.first z.n z.target z.start z.end k.0 k.1 k.2 k.3 _ keeps) ∙ room_fits) in
    answers_made z.formats.now z.schema.now x z.first z.n ground made answer z.parts.now z.plan.now z.counters.now z.room.now small none_ahead room_fits refl
    (c.keep_result.ensures.plan_after ∙ c.planned-draft.ensures)
    (c.keep_result.ensures.counters_after ∙ counted)
    (c.write-k.ensures.room_value
    ∙ ap (λ p. runs_in z.formats.now z.schema.now (tables z.lengths.now z.places.now z.body.now) z.first z.start z.end z.target p z.parts.now (not (eqb c.keeps_of-keep.result 0)) z.room.now) c.planned-draft.ensures
    ∙ room_is z.formats.now z.schema.now z.lengths.now z.places.now z.buffers.now z.body.now z.first z.n z.target z.start z.end k.0 k.1 k.2 k.3 (not (eqb c.keeps_of-keep.result 0)) keeps made z.parts.now z.room.now room_held)
