-- `result_plan::plan_by` meets its contract. Assumes nothing.
use mathlib.Core.Path.{sym, ap, ◌∙◌}
use native.Mathlib.Omega.{arith}
use lib.ListN.{replicate}
use Rattle.anew.proofs.result_plan.Laws.{tree_long, one_long, two_long, three_long, four_long, by_all}
use Rattle.anew.proofs.result_plan.plan_by.Goals as goal

pub put_words-requires : goal.put_words-requires
put_words-requires c = c.fill.ensures.after (λ y e. e) ∙ ap (λ n. replicate n 0) c.requires.1

pub bounds-plan-864 : goal.bounds-plan-864
bounds-plan-864 c = omega (arith, tree_long c.args.words.now c.put_words.ensures)

pub bounds-plan-865 : goal.bounds-plan-865
bounds-plan-865 c = omega (arith, one_long c.args.words.now c.put_words.ensures 864 1)

pub parts_before-requires : goal.parts_before-requires
parts_before-requires c = c.requires.0

pub bounds-plan-866 : goal.bounds-plan-866
bounds-plan-866 c = omega (arith, two_long c.args.words.now c.put_words.ensures 864 1 865 c.args.n)

pub bounds-plan-868 : goal.bounds-plan-868
bounds-plan-868 c = omega (arith, three_long c.args.words.now c.put_words.ensures 864 1 865 c.args.n 866 c.parts_before.result)

pub shape_of-plan : goal.shape_of-plan
shape_of-plan c =
    four_long c.args.words.now c.put_words.ensures 864 1 865 c.args.n 866 c.parts_before.result 868 c.args.kept ∙ sym c.requires.1

pub returns : goal.returns
returns c = by_all c.args.words.now c.put_words.ensures c.args.n c.args.kept c.parts_before.ensures.value
