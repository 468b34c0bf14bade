-- `lafkuno::beside::lafkuno_frame` meets its contract. Assumes nothing.
use mathlib.Core.Path.{sym, ap, ◌∙◌}
use lib.ListN.{length}
use Rattle.lafkuno.proofs.FrameCalls.{no_room, answered, refused}
use Rattle.lafkuno.proofs.beside.lafkuno_frame.Goals as goal

pub returns-then-room-ne4 : goal.returns-then-room-ne4
returns-then-room-ne4 c = let both = no_room _ _ _ c.if-room-ne4.true (sym c.box_of-answer.ensures ∙ c.in-Ok.is) in record { value = both.0; room_after = both.1 }

pub put_frame-requires : goal.put_frame-requires
put_frame-requires c = c.if-room-ne4.false

pub shape_of-room : goal.shape_of-room
shape_of-room c = ap length c.put_frame.ensures ∙ sym c.if-room-ne4.false

pub returns-else-room-ne4 : goal.returns-else-room-ne4
returns-else-room-ne4 c = let both = answered _ _ c.if-room-ne4.false c.in-Ok.f (sym c.box_of-answer.ensures ∙ c.in-Ok.is) _ c.put_frame.ensures in record { value = both.0; room_after = both.1 }

pub returns-in-Err : goal.returns-in-Err
returns-in-Err c = let both = refused _ _ c.in-Err.g (sym c.box_of-answer.ensures ∙ c.in-Err.is) in record { value = both.0; room_after = both.1 }
