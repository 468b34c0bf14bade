-- `result_plan::plan_anew` meets its contract. Assumes nothing.
use mathlib.Core.Path.{refl, ap, ◌∙◌}
use Rattle.array_data.specs.lent_tables.Lent.{tables}
use Rattle.anew.specs.ResultPlan.{keeps_from, plan_by}
use Rattle.anew.proofs.ByWords.{plan_by_words}
use Rattle.anew.proofs.result_plan.plan_anew.Goals as goal

pub words_anew-requires : goal.words_anew-requires
words_anew-requires c = c.requires

pub plan_by-requires : goal.plan_by-requires
plan_by-requires c = (c.requires.1, refl)

pub returns : goal.returns
returns c =
    let z = c.args in
    c.plan_by.ensures
    ∙ ap (λ w. plan_by w z.n z.kept) c.words_anew.ensures
    ∙ plan_by_words z.formats.now z.schema.now z.target z.n (keeps_from (tables z.lengths.now z.places.now z.body.now) z.first z.from.now) z.joined z.kept c.requires.1
