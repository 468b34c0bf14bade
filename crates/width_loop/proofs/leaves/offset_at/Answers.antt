-- `width_loop::leaves::offset_at` meets its contract. Assumes nothing.
use native.Mathlib.Omega.{arith}
use native.Mathlib.Nat.{mul_comm}
use Prim.Native.Nat.{◌+◌}
use mathlib.Core.Path.{◌∙◌}
use Rattle.width_loop.proofs.Laws.{no_offset, some_offset}
use Rattle.width_loop.proofs.leaves.offset_at.Goals as goal

pub returns-then-size-eq0 : goal.returns-then-size-eq0
returns-then-size-eq0 c =
    let a = c.args in
    no_offset a.body.now a.at a.size a.w a.p c.if-size-eq0.true

pub entry_at-requires : goal.entry_at-requires
entry_at-requires c =
    let a = c.args in
    record { w_value = c.requires.w_value; k_in_bounds = omega (arith, c.requires.size_in_bounds.1 c.if-size-eq0.false, mul_comm a.w (a.p + 1)) }

pub returns : goal.returns
returns c =
    let a = c.args in
    c.entry_at.ensures ∙ some_offset a.body.now a.at a.size a.w a.p c.requires.size_in_bounds.0 (c.requires.size_in_bounds.1 c.if-size-eq0.false)
