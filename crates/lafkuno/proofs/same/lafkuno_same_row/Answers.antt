-- `lafkuno::same::lafkuno_same_row` meets its contract. Assumes nothing.
use mathlib.Core.Path.{sym, ◌∙◌}
use Rattle.lafkuno.proofs.SameCalls.{same_short, same_refused, same_told}
use Rattle.lafkuno.proofs.same.lafkuno_same_row.Goals as goal

pub returns-then-answer-ne1 : goal.returns-then-answer-ne1
returns-then-answer-ne1 c =
    let both = same_short _ _ c.if-answer-ne1.true _ (sym c.same_row.ensures ∙ c.in-Ok.is) in record { value = both.0; answer_value = both.1 }

pub returns-else-answer-ne1 : goal.returns-else-answer-ne1
returns-else-answer-ne1 c =
    let both = same_told _ _ c.if-answer-ne1.false _ (sym c.same_row.ensures ∙ c.in-Ok.is) _ c.flag.ensures in record { value = both.0; answer_value = both.1 }

pub returns-in-Err : goal.returns-in-Err
returns-in-Err c =
    let both = same_refused _ _ _ (sym c.same_row.ensures ∙ c.in-Err.is) in record { value = both.0; answer_value = both.1 }
