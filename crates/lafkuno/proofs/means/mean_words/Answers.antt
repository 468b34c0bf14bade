-- `lafkuno::means::mean_words` meets its contract. Assumes nothing.
use mathlib.Core.Path.{◌≡◌, ap, ◌∙◌}
use mir.Syntax.{w64}
use mir.Val.{to_z, of_z}
use Rattle.number.specs.Number.{pattern}
use Rattle.lafkuno.proofs.Sums.{mean_list}
use borrow.Author.Rules.{rules}
use Rattle.lafkuno.proofs.means.mean_words.Goals as goal

pub returns : goal.returns
returns c =
    let z = c.args.r in
    let e : to_z w64 (of_z w64 z.sum) ≡ z.sum = search rules in
    mean_list z _ _ (c.whole_number.ensures ∙ ap (pattern 8) e) c.flag.ensures
