-- `transform::list_rows::list_ground` meets its contract. Assumes nothing.
use native.Mathlib.Omega.{arith}
use Rattle.transform.proofs.numbers.Laws.{root_copied, worse_lt, worse_ge}
use Rattle.transform.proofs.null_ways.Laws.{lists_known, list_code, list_two}
use Rattle.transform.proofs.list_rows.list_ground.Goals as goal

pub bits_ground-bits-requires : goal.bits_ground-bits-requires
bits_ground-bits-requires c =
    let p = c.args.plan.now in
    (omega arith, omega (arith, (list_code p (lists_known p c.requires)).1), root_copied p)

pub returns-then-bits-offsets : goal.returns-then-bits-offsets
returns-then-bits-offsets c =
    let a = c.args in
    λ counters q. list_two a.plan.now counters a.parts.now a.m (lists_known a.plan.now c.requires) (c.bits_ground-bits.ensures counters q) (c.offsets_ground-offsets.ensures counters q) (worse_lt c.bits_ground-bits.result c.offsets_ground-offsets.result c.if-bits-offsets.true)

pub returns : goal.returns
returns c =
    let a = c.args in
    λ counters q. list_two a.plan.now counters a.parts.now a.m (lists_known a.plan.now c.requires) (c.bits_ground-bits.ensures counters q) (c.offsets_ground-offsets.ensures counters q) (worse_ge c.bits_ground-bits.result c.offsets_ground-offsets.result c.if-bits-offsets.false)
