-- `coding::encode::runs_ground` meets its contract. Assumes nothing.
use mathlib.Core.Path.{sym, ap, ◌∙◌}
use Prim.Native.Nat.{◌-◌, ◌≤◌}
use native.Mathlib.Omega.{arith}
use lib.ListN.{length}
use Rattle.array_data.specs.lent_tables.Lent.{tables}
use Rattle.anew.specs.Anew.{room_ground}
use Rattle.anew.proofs.runs.Those.{those_few}
use Rattle.coding.specs.Encode.{last_of}
use Rattle.coding.proofs.Fewer.{ground_less}
use Rattle.coding.proofs.encode.runs_ground.Goals as goal

pub overflow_sub-end : goal.overflow_sub-end
overflow_sub-end c = omega (arith, c.requires.in_order_lem)

pub overflow_sub-end-2 : goal.overflow_sub-end-2
overflow_sub-end-2 c = omega (arith, c.requires.in_order_lem)

pub returns-then-room_ground-eq0 : goal.returns-then-room_ground-eq0
returns-then-room_ground-eq0 c =
    let z = c.args in
    let m = z.end - z.start in
    let few : length (last_of z.formats.now z.schema.now (tables z.lengths.now z.places.now z.body.now) z.first z.start z.end z.keep) ≤ m = those_few _ m 0 in
    ground_less m _ few z.plan.now z.parts.now z.words z.counters z.size
    (ap (λ q. room_ground z.plan.now q z.parts.now z.words z.counters z.size) (sym c.counters_of-most.ensures) ∙ sym c.room_ground.ensures ∙ c.if-room_ground-eq0.true)

pub returns : goal.returns
returns c =
    let z = c.args in
    c.room_ground-2.ensures ∙ ap (λ q. room_ground z.plan.now q z.parts.now z.words z.counters z.size) c.tried-tally.ensures
