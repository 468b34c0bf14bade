-- `lafkuno::beside::lafkuno_join_frames` meets its contract. Assumes nothing.
use mathlib.Core.Path.{sym, ap, ap₂, ◌∙◌}
use lib.ListN.{length}
use borrow.Author.Tests.{eqb-true, eq-eqb, ne_eqb}
use Rattle.array_data.proofs.lent_tables.Laws.{no, yes}
use Rattle.frames.specs.Frames.{joined}
use Rattle.lafkuno.specs.Beside.{sides, four}
use Rattle.lafkuno.proofs.FrameCalls.{first_not, second_not, third_not, three, not_four, all_four}
use Rattle.lafkuno.proofs.beside.lafkuno_join_frames.Goals as goal

pub returns-then-not-is_four : goal.returns-then-not-is_four
returns-then-not-is_four c =
    let z = c.args in
    let both = not_four _ _ _ (first_not (four z.left.now) (four z.right.now) (four z.room.now) (no c.is_four.ensures c.if-not-is_four.true-raw)) in record { value = both.0; room_after = both.1 }

pub returns-then-not-is_four-2 : goal.returns-then-not-is_four-2
returns-then-not-is_four-2 c =
    let z = c.args in
    let both = not_four _ _ _ (second_not (four z.left.now) (four z.right.now) (four z.room.now) (no c.is_four-2.ensures c.if-not-is_four-2.true-raw)) in record { value = both.0; room_after = both.1 }

pub returns-then-room-ne4 : goal.returns-then-room-ne4
returns-then-room-ne4 c =
    let z = c.args in
    let both = not_four _ _ _ (third_not (four z.left.now) (four z.right.now) (four z.room.now) (ne_eqb (length z.room.now) 4 c.if-room-ne4.true)) in record { value = both.0; room_after = both.1 }

pub get_frame-requires : goal.get_frame-requires
get_frame-requires c = eqb-true (length c.args.left.now) 4 (yes c.is_four.ensures c.if-not-is_four.false-raw)

pub get_frame-requires-2 : goal.get_frame-requires-2
get_frame-requires-2 c = eqb-true (length c.args.right.now) 4 (yes c.is_four-2.ensures c.if-not-is_four-2.false-raw)

pub put_frame-requires : goal.put_frame-requires
put_frame-requires c = c.if-room-ne4.false

pub shape_of-room : goal.shape_of-room
shape_of-room c = ap length c.put_frame.ensures ∙ sym c.if-room-ne4.false

pub returns : goal.returns
returns c =
    let z = c.args in
    let both = all_four z.left.now z.right.now z.room.now (three (yes c.is_four.ensures c.if-not-is_four.false-raw) (yes c.is_four-2.ensures c.if-not-is_four-2.false-raw) (eq-eqb (length z.room.now) 4 c.if-room-ne4.false)) _ (c.put_frame.ensures ∙ ap sides (c.join_frames.ensures ∙ ap₂ joined c.get_frame.ensures c.get_frame-2.ensures)) in record { value = both.0; room_after = both.1 }
