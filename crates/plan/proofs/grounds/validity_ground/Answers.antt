-- `parts::grounds::validity_ground` meets its contract. Assumes nothing.
use mathlib.Core.Path.{refl, sym, ◌∙◌}
use native.Mathlib.Omega.{arith}
use Rattle.plan.proofs.parts.Laws.{holds_by}
use Rattle.plan.proofs.parts.Words.{has_bits}
use Rattle.plan.proofs.grounds.Laws.{part_none, part_some, no_bits, no_mask_lem}
use Rattle.plan.proofs.grounds.validity_ground.Goals as goal

pub returns-then-keeps_of-eq0 : goal.returns-then-keeps_of-eq0
returns-then-keeps_of-eq0 c =
    let a = c.args in
    part_none a.plan.now a.counters.now a.parts.now a.m a.i 0 (no_bits a.plan.now a.i (sym c.keeps_of.ensures ∙ c.if-keeps_of-eq0.true))

pub returns-then-code_of-ge21 : goal.returns-then-code_of-ge21
returns-then-code_of-ge21 c =
    let a = c.args in
    part_none a.plan.now a.counters.now a.parts.now a.m a.i 0 (no_mask_lem a.plan.now a.i (omega (arith, c.code_of.ensures, c.if-code_of-ge21.true)))

pub returns : goal.returns
returns c =
    let a = c.args in
    let has = has_bits a.plan.now a.i c.requires.1 (λ z. c.if-keeps_of-eq0.false (c.keeps_of.ensures ∙ z)) (omega (arith, c.code_of.ensures, c.if-code_of-ge21.false)) in
    part_some a.plan.now a.counters.now a.parts.now a.m a.i 0 has c.number_of-p.ensures.value (c.bits_fit.ensures ∙ holds_by a.plan.now a.counters.now a.parts.now a.i 0 refl c.at_u64-r.ensures refl c.number_of-p.ensures.value c.at_u64-size.ensures) c.part_ground.ensures
