-- `parts::has_part` meets its contract. Assumes nothing.
use Rattle.plan.proofs.parts.Laws.{has_validity, has_buffer}
use Rattle.plan.proofs.parts.has_part.Goals as goal

pub returns-then-b-eq0 : goal.returns-then-b-eq0
returns-then-b-eq0 c =
    let a = c.args in
    has_validity a.plan.now a.i a.b _ c.if-b-eq0.true c.validity_parts.ensures.value

pub returns : goal.returns
returns c =
    let a = c.args in
    has_buffer a.plan.now a.i a.b _ c.if-b-eq0.false c.buffer_parts.ensures.value
