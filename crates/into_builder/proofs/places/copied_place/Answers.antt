-- `finished_places::copied_place` meets its contract. Assumes nothing.
use Rattle.into_builder.specs.buffers.Names.{lent}
use Rattle.into_builder.proofs.places.Spots.{copied_valid, copied_three, copied_four, copied_five, copied_six, copied_view}
use native.Mathlib.Omega.{arith}
use Rattle.into_builder.proofs.places.copied_place.Goals as goal

pub valid_place-requires : goal.valid_place-requires
valid_place-requires c = (omega arith, omega arith, c.requires.2)

pub returns-then-j-lt3 : goal.returns-then-j-lt3
returns-then-j-lt3 c =
    let z = c.args in
    λ lengths body buffers room g.
    copied_valid (lent z.plan.now z.parts.now z.sources.now lengths z.places.now body) buffers z.counters.now room z.base z.i z.j c.if-j-lt3.true g (c.valid_place.ensures room g)

pub buffer_start-requires : goal.buffer_start-requires
buffer_start-requires c = (omega arith, omega arith, c.requires.2.start 1 (omega arith))

pub returns-then-j-eq3 : goal.returns-then-j-eq3
returns-then-j-eq3 c =
    let z = c.args in
    λ lengths body buffers room g.
    copied_three (lent z.plan.now z.parts.now z.sources.now lengths z.places.now body) buffers z.counters.now room z.base z.i z.j c.if-j-eq3.true c.buffer_start.ensures

pub buffer_size-requires : goal.buffer_size-requires
buffer_size-requires c = (omega arith, omega arith, c.requires.2.size 1 (omega arith))

pub returns-then-j-eq4 : goal.returns-then-j-eq4
returns-then-j-eq4 c =
    let z = c.args in
    λ lengths body buffers room g.
    copied_four (lent z.plan.now z.parts.now z.sources.now lengths z.places.now body) buffers z.counters.now room z.base z.i z.j c.if-j-eq4.true c.buffer_size.ensures

pub buffer_start-requires-then-j-eq5 : goal.buffer_start-requires-then-j-eq5
buffer_start-requires-then-j-eq5 c = (omega arith, omega arith, c.requires.2.start 2 (omega arith))

pub returns-then-j-eq5 : goal.returns-then-j-eq5
returns-then-j-eq5 c =
    let z = c.args in
    λ lengths body buffers room g.
    copied_five (lent z.plan.now z.parts.now z.sources.now lengths z.places.now body) buffers z.counters.now room z.base z.i z.j c.if-j-eq5.true c.buffer_start-then-j-eq5.ensures

pub buffer_size-requires-then-j-eq6 : goal.buffer_size-requires-then-j-eq6
buffer_size-requires-then-j-eq6 c = (omega arith, omega arith, c.requires.2.size 2 (omega arith))

pub returns-then-j-eq6 : goal.returns-then-j-eq6
returns-then-j-eq6 c =
    let z = c.args in
    λ lengths body buffers room g.
    copied_six (lent z.plan.now z.parts.now z.sources.now lengths z.places.now body) buffers z.counters.now room z.base z.i z.j c.if-j-eq6.true c.buffer_size-then-j-eq6.ensures

pub returns : goal.returns
returns c =
    let z = c.args in
    λ lengths body buffers room g.
    copied_view (lent z.plan.now z.parts.now z.sources.now lengths z.places.now body) buffers z.counters.now room z.base z.i z.j c.requires.1 c.if-j-lt3.false c.if-j-eq3.false c.if-j-eq4.false c.if-j-eq5.false c.if-j-eq6.false c.view_place.ensures
