-- `transform::numbers::bits_ground` meets its contract. Assumes nothing.
use mathlib.Core.Path.{refl, sym, ◌∙◌}
use Rattle.plan.proofs.parts.Laws.{holds_by}
use Rattle.plan.proofs.parts.Words.{has_bits}
use Rattle.plan.proofs.grounds.Laws.{part_none, part_some, no_bits}
use Rattle.transform.proofs.numbers.Laws.{bits_need}
use Rattle.transform.proofs.numbers.bits_ground.Goals as goal

pub returns-then-keeps_of-eq0 : goal.returns-then-keeps_of-eq0
returns-then-keeps_of-eq0 c =
    let a = c.args in
    λ counters q. part_none a.plan.now counters a.parts.now a.m a.i 0 (no_bits a.plan.now a.i (sym c.keeps_of.ensures ∙ c.if-keeps_of-eq0.true))

pub returns : goal.returns
returns c =
    let a = c.args in
    let has = has_bits a.plan.now a.i c.requires.2 (λ z. c.if-keeps_of-eq0.false (c.keeps_of.ensures ∙ z)) c.requires.1 in
    λ counters q. part_some a.plan.now counters a.parts.now a.m a.i 0 has c.number_of-p.ensures.value (c.bits_fit.ensures ∙ bits_need a.r c.at_u64-size.result ∙ holds_by a.plan.now counters a.parts.now a.i 0 refl (sym q) refl c.number_of-p.ensures.value c.at_u64-size.ensures) c.part_ground.ensures
