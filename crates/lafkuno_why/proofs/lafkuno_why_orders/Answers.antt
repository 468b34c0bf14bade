-- `lafkuno_why::lafkuno_why_orders` meets its contract. Assumes nothing.
use mathlib.Core.Path.{ap, ◌∙◌}
use lib.ListN.{length}
use Rattle.explain.specs.declared.stops.WhyListed.{WhyListed}
use Rattle.lafkuno_why.specs.Why.{listed_answer}
use Rattle.lafkuno_why.proofs.Numbers.{listed_long}
use Rattle.lafkuno_why.proofs.lafkuno_why_orders.Goals as goal

pub shape_of-answer : goal.shape_of-answer
shape_of-answer c =
    let a = c.args in
    ap length c.put_listed.ensures ∙ listed_long c.why_orders-w.result a.answer.now

pub returns : goal.returns
returns c =
    let a = c.args in
    record { value = ap (λ (z : WhyListed). z.why.refusal) c.why_orders-w.ensures; answer_value = c.put_listed.ensures ∙ ap (λ (z : WhyListed). listed_answer z a.answer.now) c.why_orders-w.ensures }
