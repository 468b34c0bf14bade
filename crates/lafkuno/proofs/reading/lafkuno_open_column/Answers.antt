-- `lafkuno::reading::lafkuno_open_column` meets its contract. Assumes nothing.
use mathlib.Core.Path.{◌≡◌, sym, ap, ◌∙◌}
use Prim.Native.Nat.{◌≤◌}
use native.Mathlib.Omega.{arith}
use lib.ListN.{length}
use Rattle.number.specs.Number.{splice}
use Rattle.source_rules.specs.kinds.Rows.{tables_of}
use Rattle.lafkuno.proofs.Laws.{column_refused, short_ground, no_ground, room_kept, tree_put, tree_is}
use Rattle.lafkuno.proofs.reading.lafkuno_open_column.Goals as goal

pub returns-then-refusal-ne0 : goal.returns-then-refusal-ne0
returns-then-refusal-ne0 c =
    let z = c.args in
    let x = tables_of z.lengths.now z.places.now z.buffers.now z.body.now in
    let e = column_refused z.formats.now z.schema.now x z.first z.n z.room.now _ c.open_column-refusal.ensures.value c.if-refusal-ne0.true in
    record { value = e; room_value = room_kept z.formats.now z.schema.now x z.first z.n z.room.now (λ q. c.if-refusal-ne0.true (e ∙ q)) }

pub returns-then-room-lt256 : goal.returns-then-room-lt256
returns-then-room-lt256 c =
    let z = c.args in
    let x = tables_of z.lengths.now z.places.now z.buffers.now z.body.now in
    let g = sym c.open_column-refusal.ensures.value ∙ c.if-refusal-ne0.false in
    let e = short_ground z.formats.now z.schema.now x z.first z.n z.room.now g (omega arith) in
    record { value = e; room_value = room_kept z.formats.now z.schema.now x z.first z.n z.room.now (λ q. let n : 14 ≡ 0 = e ∙ q in omega arith) }

pub returns : goal.returns
returns c =
    let z = c.args in
    let x = tables_of z.lengths.now z.places.now z.buffers.now z.body.now in
    let o = c.open_column-refusal.ensures in
    let g = sym o.value ∙ c.if-refusal-ne0.false in
    let h : 256 ≤ length z.room.now = omega arith in
    let e = no_ground z.formats.now z.schema.now x z.first z.n z.room.now g h in
    let t = c.copied-words.ensures ∙ o.tree_value ∙ tree_is z.formats.now z.schema.now x z.first z.n z.room.now g _ in
    record { value = e; room_value = c.copy_words.ensures ∙ ap (λ w. splice 0 w z.room.now) t ∙ tree_put z.formats.now z.schema.now x z.first z.n z.room.now (sym e) }
