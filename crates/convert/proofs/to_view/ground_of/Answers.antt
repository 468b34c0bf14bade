-- `convert::to_view::ground_of` meets its contract. Assumes nothing.
use Rattle.convert.proofs.CalledView.{ground_column, ground_other, ground_none}
use Rattle.convert.proofs.to_view.ground_of.Goals as goal

pub returns-then-g-ne0 : goal.returns-then-g-ne0
returns-then-g-ne0 c = let z = c.args in ground_column z.formats.now z.schema.now z.lengths.now z.places.now z.buffers.now z.body.now z.first z.n z.target z.target_n c.column_ground-g.ensures c.if-g-ne0.true

pub returns-then-not-is_view_due : goal.returns-then-not-is_view_due
returns-then-not-is_view_due c = let z = c.args in ground_other z.formats.now z.schema.now z.lengths.now z.places.now z.buffers.now z.body.now z.first z.n z.target z.target_n c.column_ground-g.ensures c.if-g-ne0.false c.is_view_due.ensures c.if-not-is_view_due.true-raw

pub returns : goal.returns
returns c = let z = c.args in ground_none z.formats.now z.schema.now z.lengths.now z.places.now z.buffers.now z.body.now z.first z.n z.target z.target_n c.column_ground-g.ensures c.if-g-ne0.false c.is_view_due.ensures c.if-not-is_view_due.false-raw
