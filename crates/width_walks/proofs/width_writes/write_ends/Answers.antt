-- `width_writes::write_ends` meets its contract. Assumes nothing.
use native.Mathlib.Omega.{arith}
use Rattle.width_walks.proofs.width_writes.Sizes.{times_last, ends_join}
use Rattle.width_walks.proofs.width_writes.write_ends.Goals as goal

pub recode_less-requires : goal.recode_less-requires
recode_less-requires c =
    let a = c.args in
    record { n_in_bounds = (omega (arith, times_last a.w2 a.m c.requires.le_m.0), omega (arith, times_last a.w a.m c.requires.le_m.0)); w_value = λ p. c.requires.w_value; w2_value = λ p. c.requires.w2_value }

pub overflow_mul-w2 : goal.overflow_mul-w2
overflow_mul-w2 c =
    let a = c.args in
    omega (arith, times_last a.w2 a.m c.requires.le_m.0)

pub overflow_add-at : goal.overflow_add-at
overflow_add-at c =
    let a = c.args in
    omega (arith, times_last a.w2 a.m c.requires.le_m.0)

pub write_end-requires : goal.write_end-requires
write_end-requires c =
    let a = c.args in
    record { w_in_bounds = omega (arith, times_last a.w2 a.m c.requires.le_m.0); w_value = c.requires.w2_value }

pub returns : goal.returns
returns c =
    let a = c.args in
    ends_join a.w a.w2 a.body.now a.from a.base a.last a.m c.requires.le_m.0 a.at a.room.now _ _ c.requires.le_m.1 c.recode_less.ensures c.write_end.ensures
