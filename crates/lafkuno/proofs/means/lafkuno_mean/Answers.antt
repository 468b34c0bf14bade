-- `lafkuno::means::lafkuno_mean` meets its contract. Assumes nothing.
use mathlib.Core.Path.{sym, ◌∙◌}
use Rattle.lafkuno.proofs.Sums.{mean_short, mean_refused, mean_done}
use Rattle.lafkuno.proofs.means.lafkuno_mean.Goals as goal

pub returns-then-answer-ne5 : goal.returns-then-answer-ne5
returns-then-answer-ne5 c =
    let both = mean_short _ _ c.if-answer-ne5.true c.in-Ok.report (sym c.mean.ensures ∙ c.in-Ok.is) in record { value = both.0; answer_value = both.1 }

pub returns-else-answer-ne5 : goal.returns-else-answer-ne5
returns-else-answer-ne5 c =
    let both = mean_done _ _ c.if-answer-ne5.false c.in-Ok.report (sym c.mean.ensures ∙ c.in-Ok.is) _ _ c.mean_words-words.ensures c.copy_words.ensures in record { value = both.0; answer_value = both.1 }

pub returns-in-Err : goal.returns-in-Err
returns-in-Err c =
    let both = mean_refused _ _ _ (sym c.mean.ensures ∙ c.in-Err.is) in record { value = both.0; answer_value = both.1 }
