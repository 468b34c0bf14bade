-- `coding::row_plan::write_counters` meets its contract. Assumes nothing.
use mathlib.Core.Path.{ap, ◌∙◌}
use lib.ListN.{set, replicate}
use Rattle.coding.proofs.row_plan.write_counters.Goals as goal

pub returns : goal.returns
returns c =
    ap (λ l. set l 0 c.args.m) (c.fill.ensures.after (λ y e. e) ∙ ap (λ n. replicate n 0) c.requires)
