-- `batch_walk::side::side_of` meets its contract. Assumes nothing.
use Rattle.batch.proofs.batch_walk.Sides.{side_before_none, side_before, side_follows, side_first, side_behind, side_inside_none, side_inside}
use Rattle.batch.proofs.side.side_of.Goals as goal

pub returns-then-size-eq0 : goal.returns-then-size-eq0
returns-then-size-eq0 c = let a = c.args in side_before_none a.a a.m a.start a.size c.if-start-a.true c.if-size-eq0.true

pub returns-then-start-a : goal.returns-then-start-a
returns-then-start-a c = let a = c.args in side_before a.a a.m a.start a.size c.if-start-a.true c.if-size-eq0.false

pub returns-then-gap-m : goal.returns-then-gap-m
returns-then-gap-m c = let a = c.args in side_follows a.a a.m a.start a.size c.if-start-a.false c.if-gap-m.true

pub returns-then-m-eq0 : goal.returns-then-m-eq0
returns-then-m-eq0 c = let a = c.args in side_first a.a a.m a.start a.size c.if-start-a.false c.if-gap-m.false c.if-m-eq0.true

pub returns-then-m-gap : goal.returns-then-m-gap
returns-then-m-gap c = let a = c.args in side_behind a.a a.m a.start a.size c.if-start-a.false c.if-m-gap.true c.if-m-eq0.false

pub returns-then-size-eq0-2 : goal.returns-then-size-eq0-2
returns-then-size-eq0-2 c = let a = c.args in side_inside_none a.a a.m a.start a.size c.if-start-a.false c.if-gap-m.false c.if-m-gap.false c.if-size-eq0-2.true

pub returns : goal.returns
returns c = let a = c.args in side_inside a.a a.m a.start a.size c.if-start-a.false c.if-gap-m.false c.if-m-gap.false c.if-m-eq0.false c.if-size-eq0-2.false
