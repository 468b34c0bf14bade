-- `finished_places::place_at` meets its contract. Assumes nothing.
use Rattle.into_builder.specs.buffers.Names.{lent}
use Rattle.into_builder.proofs.places.Spots.{place_copied, place_kept, nulls_zeros, nulls_are}
use native.Mathlib.Omega.{arith}
use Rattle.into_builder.proofs.places.place_at.Goals as goal

pub returns-then-is_copied : goal.returns-then-is_copied
returns-then-is_copied c =
    let z = c.args in
    λ lengths body buffers room h.
    place_copied (lent z.plan.now z.parts.now z.sources.now lengths z.places.now body) buffers z.counters.now room z.base z.i z.j c.is_copied.ensures c.if-is_copied.true
    (c.copied_place.ensures lengths body buffers room
    (nulls_zeros (lent z.plan.now z.parts.now z.sources.now lengths z.places.now body) z.counters.now room z.nulls.now h z.i c.requires.0 c.at_u64-count.ensures c.is_copied.ensures c.if-is_copied.true))

pub kept_place-requires : goal.kept_place-requires
kept_place-requires c = (omega arith, c.requires.1)

pub returns : goal.returns
returns c =
    let z = c.args in
    λ lengths body buffers room h.
    place_kept (lent z.plan.now z.parts.now z.sources.now lengths z.places.now body) buffers z.counters.now room z.base z.i z.j c.is_copied.ensures c.if-is_copied.false
    (c.kept_place.ensures z.plan.now z.parts.now lengths body buffers z.counters.now room z.base
    (nulls_are (lent z.plan.now z.parts.now z.sources.now lengths z.places.now body) z.counters.now room z.nulls.now h z.i c.requires.0 c.at_u64-count.ensures buffers z.base))
