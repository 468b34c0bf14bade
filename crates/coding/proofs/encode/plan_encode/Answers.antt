-- `coding::encode::plan_encode` meets its contract. Assumes nothing.
use mathlib.Core.Path.{◌≡◌, refl, sym, ◌∙◌}
use mathlib.Core.Bool.{not}
use Prim.Native.Nat.{ℕ, ◌<◌, ◌^◌}
use native.Mathlib.Omega.{arith}
use lib.ListN.{length, get_or}
use lib.Dec.{eqb}
use Rattle.source_rules.specs.kinds.Rows.{tables_of}
use Rattle.columns.specs.Grounds.{column_ground}
use Rattle.anew.specs.Anew.{ahead}
use Rattle.anew.proofs.result_plan.Answered.{before_column, before_own, asks_refused, asks_lengths, asks_done}
use Rattle.coding.specs.Encode.{encode_own, encode_keeps, encode_plan, encode_out}
use Rattle.coding.proofs.Grounds.{own_same}
use Rattle.coding.proofs.Encoded.{own, come, codable, counters_are}
use Rattle.coding.proofs.Asked.{lengths_first, lengths_second, lengths_both, keep_by, none_before}
use Rattle.coding.proofs.encode.plan_encode.Goals.{Else-g-ne0-2}
use Rattle.coding.proofs.encode.plan_encode.Goals as goal

-- what the refusals leave: the body has bytes, the column is well formed, and the call's own grounds hold
kept : (c : Else-g-ne0-2) → let z = c.args in let x = tables_of z.lengths.now z.places.now z.buffers.now z.body.now in
    (z.first < 2 ^ 32)
    × ((j : ℕ) → get_or z.body.now j 0 < 256)
    × (column_ground z.formats.now z.schema.now x z.first z.n ≡ 0)
    × (encode_own z.formats.now z.schema.now x z.first z.n z.target z.start z.end ≡ 0)
kept c =
    let z = c.args in (
      omega arith,
      λ j. (c.shared_slice_known-6-1.given j).fits,
      sym c.column_ground-g.ensures ∙ c.if-g-ne0.false,
      sym (own_same z.formats.now z.schema.now z.lengths.now z.places.now z.buffers.now z.body.now z.first z.n z.target z.start z.end) ∙ sym c.own_ground-g.ensures ∙ c.if-g-ne0-2.false,
    )

pub returns-then-g-ne0 : goal.returns-then-g-ne0
returns-then-g-ne0 c =
    let z = c.args in
    let x = tables_of z.lengths.now z.places.now z.buffers.now z.body.now in
    let ground = encode_own z.formats.now z.schema.now x z.first z.n z.target z.start z.end in
    let made = encode_plan z.formats.now z.schema.now x z.first z.n z.target z.start z.end in
    let answer = encode_out z.formats.now z.schema.now x z.first z.n z.target z.start z.end in
    asks_refused z.formats.now z.schema.now x z.first z.n ground made answer z.plan.now z.counters.now (before_column z.formats.now z.schema.now x z.first z.n ground made answer c.column_ground-g.ensures c.if-g-ne0.true) c.if-g-ne0.true

pub returns-then-g-ne0-2 : goal.returns-then-g-ne0-2
returns-then-g-ne0-2 c =
    let z = c.args in
    let x = tables_of z.lengths.now z.places.now z.buffers.now z.body.now in
    let ground = encode_own z.formats.now z.schema.now x z.first z.n z.target z.start z.end in
    let made = encode_plan z.formats.now z.schema.now x z.first z.n z.target z.start z.end in
    let answer = encode_out z.formats.now z.schema.now x z.first z.n z.target z.start z.end in
    let e = c.own_ground-g.ensures ∙ own_same z.formats.now z.schema.now z.lengths.now z.places.now z.buffers.now z.body.now z.first z.n z.target z.start z.end in
    asks_refused z.formats.now z.schema.now x z.first z.n ground made answer z.plan.now z.counters.now (before_own z.formats.now z.schema.now x z.first z.n ground made answer (sym c.column_ground-g.ensures ∙ c.if-g-ne0.false) e c.if-g-ne0-2.true) c.if-g-ne0-2.true

pub returns-then-plan-ne-WORDS : goal.returns-then-plan-ne-WORDS
returns-then-plan-ne-WORDS c =
    let z = c.args in
    let x = tables_of z.lengths.now z.places.now z.buffers.now z.body.now in
    let ground = encode_own z.formats.now z.schema.now x z.first z.n z.target z.start z.end in
    let made = encode_plan z.formats.now z.schema.now x z.first z.n z.target z.start z.end in
    let answer = encode_out z.formats.now z.schema.now x z.first z.n z.target z.start z.end in
    let k = kept (goal.at.returns-then-plan-ne-WORDS c).Else-g-ne0-2 in
    let none_ahead : ahead z.formats.now z.schema.now x z.first z.n ground made answer ≡ 0 = none_before z.formats.now z.schema.now z.lengths.now z.places.now z.buffers.now z.body.now z.first z.n z.target z.start z.end k.0 k.1 k.2 k.3 in
    asks_lengths z.formats.now z.schema.now x z.first z.n ground made answer z.plan.now z.counters.now none_ahead (lengths_first (length z.plan.now) (length z.counters.now) c.if-plan-ne-WORDS.true)

pub returns-then-counters-ne-COUNTERS : goal.returns-then-counters-ne-COUNTERS
returns-then-counters-ne-COUNTERS c =
    let z = c.args in
    let x = tables_of z.lengths.now z.places.now z.buffers.now z.body.now in
    let ground = encode_own z.formats.now z.schema.now x z.first z.n z.target z.start z.end in
    let made = encode_plan z.formats.now z.schema.now x z.first z.n z.target z.start z.end in
    let answer = encode_out z.formats.now z.schema.now x z.first z.n z.target z.start z.end in
    let k = kept (goal.at.returns-then-counters-ne-COUNTERS c).Else-g-ne0-2 in
    let none_ahead : ahead z.formats.now z.schema.now x z.first z.n ground made answer ≡ 0 = none_before z.formats.now z.schema.now z.lengths.now z.places.now z.buffers.now z.body.now z.first z.n z.target z.start z.end k.0 k.1 k.2 k.3 in
    asks_lengths z.formats.now z.schema.now x z.first z.n ground made answer z.plan.now z.counters.now none_ahead (lengths_second (length z.plan.now) (length z.counters.now) c.if-counters-ne-COUNTERS.true)

pub planned-draft-requires : goal.planned-draft-requires
planned-draft-requires c =
    let z = c.args in
    let k = kept (goal.at.planned-draft-requires c).Else-g-ne0-2 in
    record { comes = come z.formats.now z.schema.now z.lengths.now z.places.now z.buffers.now z.body.now z.first z.n z.target z.start z.end k.0 k.1 k.2 k.3; target_value = (own z.formats.now z.schema.now z.lengths.now z.places.now z.buffers.now z.body.now z.first z.n z.target z.start z.end k.0 k.1 k.2 k.3).due }

pub tried-tally-requires : goal.tried-tally-requires
tried-tally-requires c =
    let z = c.args in
    let x = tables_of z.lengths.now z.places.now z.buffers.now z.body.now in
    let k = kept (goal.at.tried-tally-requires c).Else-g-ne0-2 in
    let keeps : not (eqb c.keeps_of-keep.result 0) ≡ encode_keeps z.formats.now z.schema.now x z.first z.n z.target z.start z.end 2 = keep_by z.formats.now z.schema.now z.target 3 2 (encode_keeps z.formats.now z.schema.now x z.first z.n z.target z.start z.end) _ (omega arith) (omega arith) c.planned-draft.ensures c.keeps_of-keep.ensures in
    codable z.formats.now z.schema.now z.lengths.now z.places.now z.buffers.now z.body.now z.first z.n z.target z.start z.end k.0 k.1 k.2 k.3 _ keeps

pub returns : goal.returns
returns c =
    let z = c.args in
    let x = tables_of z.lengths.now z.places.now z.buffers.now z.body.now in
    let ground = encode_own z.formats.now z.schema.now x z.first z.n z.target z.start z.end in
    let made = encode_plan z.formats.now z.schema.now x z.first z.n z.target z.start z.end in
    let answer = encode_out z.formats.now z.schema.now x z.first z.n z.target z.start z.end in
    let k = kept (goal.at.returns c).Else-g-ne0-2 in
    let keeps : not (eqb c.keeps_of-keep.result 0) ≡ encode_keeps z.formats.now z.schema.now x z.first z.n z.target z.start z.end 2 = keep_by z.formats.now z.schema.now z.target 3 2 (encode_keeps z.formats.now z.schema.now x z.first z.n z.target z.start z.end) _ (omega arith) (omega arith) c.planned-draft.ensures c.keeps_of-keep.ensures in
    let none_ahead : ahead z.formats.now z.schema.now x z.first z.n ground made answer ≡ 0 = none_before z.formats.now z.schema.now z.lengths.now z.places.now z.buffers.now z.body.now z.first z.n z.target z.start z.end k.0 k.1 k.2 k.3 in
    asks_done z.formats.now z.schema.now x z.first z.n ground made answer z.plan.now z.counters.now none_ahead (lengths_both (length z.plan.now) (length z.counters.now) c.if-plan-ne-WORDS.false c.if-counters-ne-COUNTERS.false) refl
    (c.keep_result.ensures.plan_after ∙ c.planned-draft.ensures)
    (c.keep_result.ensures.counters_after ∙ c.tried-tally.ensures ∙ counters_are z.formats.now z.schema.now z.lengths.now z.places.now z.buffers.now z.body.now z.first z.n z.target z.start z.end k.0 k.1 k.2 k.3 _ keeps)
