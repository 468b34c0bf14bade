-- `lafkuno::means::lafkuno_ratio` meets its contract. Assumes nothing.
use mathlib.Core.Path.{sym, ◌∙◌}
use Rattle.lafkuno.proofs.Sums.{ratio_short, ratio_refused, ratio_done}
use Rattle.lafkuno.proofs.means.lafkuno_ratio.Goals as goal

pub returns-then-answer-ne6 : goal.returns-then-answer-ne6
returns-then-answer-ne6 c =
    let both = ratio_short _ _ c.if-answer-ne6.true c.in-Ok.report (sym c.ratio.ensures ∙ c.in-Ok.is) in record { value = both.0; answer_value = both.1 }

pub returns-else-answer-ne6 : goal.returns-else-answer-ne6
returns-else-answer-ne6 c =
    let both = ratio_done _ _ c.if-answer-ne6.false c.in-Ok.report (sym c.ratio.ensures ∙ c.in-Ok.is) _ _ c.ratio_words-words.ensures c.copy_words.ensures in record { value = both.0; answer_value = both.1 }

pub returns-in-Err : goal.returns-in-Err
returns-in-Err c =
    let both = ratio_refused _ _ _ (sym c.ratio.ensures ∙ c.in-Err.is) in record { value = both.0; answer_value = both.1 }
