-- `finished_places::kept_place` meets its contract. Assumes nothing.
use Rattle.into_builder.specs.buffers.Names.{lent}
use Rattle.into_builder.proofs.places.Spots.{kept_dropped, kept_valid, kept_buffer, kept_none}
use Rattle.into_builder.proofs.places.kept_place.Goals as goal

pub returns-then-count-eq0 : goal.returns-then-count-eq0
returns-then-count-eq0 c =
    let z = c.args in
    λ plan parts lengths body buffers counters room base e. kept_dropped (lent plan parts z.sources.now lengths z.places.now body) buffers counters room base z.i z.j e c.if-j-lt3.true c.if-count-eq0.true

pub place-requires : goal.place-requires
place-requires c = (c.node_of-k.ensures.upper_bound, c.requires.1)

pub returns-then-j-lt3 : goal.returns-then-j-lt3
returns-then-j-lt3 c =
    let z = c.args in
    λ plan parts lengths body buffers counters room base e. kept_valid (lent plan parts z.sources.now lengths z.places.now body) buffers counters room base z.i z.j e c.if-j-lt3.true c.if-count-eq0.false c.node_of-k.ensures.value c.place.ensures

pub place-requires-then-j-lt7 : goal.place-requires-then-j-lt7
place-requires-then-j-lt7 c = (c.node_of-k.ensures.upper_bound, c.requires.1)

pub returns-then-j-lt7 : goal.returns-then-j-lt7
returns-then-j-lt7 c =
    let z = c.args in
    λ plan parts lengths body buffers counters room base e. kept_buffer (lent plan parts z.sources.now lengths z.places.now body) buffers counters room base z.i z.j c.if-j-lt3.false c.if-j-lt7.true c.node_of-k.ensures.value c.place-then-j-lt7.ensures

pub returns : goal.returns
returns c =
    let z = c.args in
    λ plan parts lengths body buffers counters room base e. kept_none (lent plan parts z.sources.now lengths z.places.now body) buffers counters room base z.i z.j c.if-j-lt3.false c.if-j-lt7.false
