-- `finished_places::part_size` meets its contract. Assumes nothing.
use mathlib.Core.Path.{◌∙◌}
use Rattle.into_builder.proofs.places.Spots.{bits_size, size_first, size_second}
use native.Mathlib.Omega.{arith}
use Rattle.into_builder.proofs.places.part_size.Goals as goal

pub returns-then-b-eq0 : goal.returns-then-b-eq0
returns-then-b-eq0 c = c.bit_room.ensures ∙ bits_size c.args.plan.now c.args.counters.now c.args.i c.at_u64-r.ensures c.args.b c.if-b-eq0.true

pub first_size-requires : goal.first_size-requires
first_size-requires c = omega (arith, size_first c.args.plan.now c.args.counters.now c.args.i c.at_u64-r.ensures c.code_of-code.ensures c.args.b c.if-b-eq1.true, c.requires.2)

pub returns-then-b-eq1 : goal.returns-then-b-eq1
returns-then-b-eq1 c = c.first_size.ensures ∙ size_first c.args.plan.now c.args.counters.now c.args.i c.at_u64-r.ensures c.code_of-code.ensures c.args.b c.if-b-eq1.true

pub second_size-requires : goal.second_size-requires
second_size-requires c = omega (arith, size_second c.args.plan.now c.args.counters.now c.args.i c.at_u64-r.ensures c.code_of-code.ensures c.args.b c.requires.1 c.if-b-eq0.false c.if-b-eq1.false c.at_u64.ensures, c.requires.2)

pub returns : goal.returns
returns c = c.second_size.ensures ∙ size_second c.args.plan.now c.args.counters.now c.args.i c.at_u64-r.ensures c.code_of-code.ensures c.args.b c.requires.1 c.if-b-eq0.false c.if-b-eq1.false c.at_u64.ensures
