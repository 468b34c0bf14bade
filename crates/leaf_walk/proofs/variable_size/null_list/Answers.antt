-- `string_walk::null_list` meets its contract. Assumes nothing.
use native.Mathlib.Numerals.{add-one}
use native.Mathlib.Omega.{arith}
use Rattle.room_writes.proofs.Bytes.{width_in_lem}
use Rattle.leaf_walk.specs.Join.{join}
use Rattle.leaf_walk.proofs.variable_size.Lists.{null_far, null_near}
use Rattle.leaf_walk.proofs.variable_size.null_list.Goals as goal

pub returns-then-i-ge32 : goal.returns-then-i-ge32
returns-then-i-ge32 c =
    let a = c.args in
    λ lengths places body first source child. null_far (join a.plan.now a.parts.now lengths places body first source) child a.write a.w a.i a.n a.counters.now a.room.now (add-one a.i) c.if-i-ge32.true

pub scale-o-requires : goal.scale-o-requires
scale-o-requires c = width_in_lem c.args.w (λ p q. c.requires.w_value)

pub returns : goal.returns
returns c =
    let a = c.args in
    λ lengths places body first source child. null_near (join a.plan.now a.parts.now lengths places body first source) child a.write a.w a.i a.n a.counters.now a.room.now (add-one a.i) c.if-i-ge32.false (add-one a.i) c.rows_of-last.ensures c.rows_of.ensures c.grow.ensures c.scale-o.ensures (width_in_lem a.w (λ p q. c.requires.w_value)).0 (omega (arith, c.well_formed)) c.put_repeated.ensures
