-- `coding::row_plan::write_words` meets its contract. Assumes nothing.
use mathlib.Core.Path.{ap, ◌∙◌}
use Prim.Native.Nat.{◌+◌}
use lib.ListN.{set, replicate}
use Rattle.coding.proofs.row_plan.write_words.Goals as goal

pub returns : goal.returns
returns c =
    let r = c.args.row in
    ap (λ l. set (set (set (set (set (set (set (set l 0 r.code) 2 1) 4 r.nullable) 864 1) 865 1) 5 r.nulls) 6 r.nulls) 866 (1 + r.nulls)) (c.fill.ensures.after (λ y e. e) ∙ ap (λ n. replicate n 0) c.requires.0)
