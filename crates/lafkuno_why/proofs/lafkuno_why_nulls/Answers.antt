-- `lafkuno_why::lafkuno_why_nulls` meets its contract. Assumes nothing.
use mathlib.Core.Path.{ap, ◌∙◌}
use lib.ListN.{length}
use Rattle.explain.specs.declared.stops.Why.{Why}
use Rattle.lafkuno_why.specs.Why.{why_answer}
use Rattle.lafkuno_why.proofs.Numbers.{why_long}
use Rattle.lafkuno_why.proofs.lafkuno_why_nulls.Goals as goal

pub shape_of-answer : goal.shape_of-answer
shape_of-answer c =
    let a = c.args in
    ap length c.put_why.ensures ∙ why_long c.why_nulls-w.result a.answer.now

pub returns : goal.returns
returns c =
    let a = c.args in
    record { value = (λ sources lengths places body. ap (λ (z : Why). z.refusal) (c.why_nulls-w.ensures sources lengths places body)); answer_value = (λ sources lengths places body. c.put_why.ensures ∙ ap (λ (z : Why). why_answer z a.answer.now) (c.why_nulls-w.ensures sources lengths places body)) }
