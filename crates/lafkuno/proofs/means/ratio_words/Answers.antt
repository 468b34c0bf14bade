-- `lafkuno::means::ratio_words` meets its contract. Assumes nothing.
use mathlib.Core.Path.{◌≡◌, ap, ◌∙◌}
use mir.Syntax.{w64}
use mir.Val.{to_z, of_z}
use Rattle.number.specs.Number.{pattern}
use Rattle.lafkuno.proofs.Sums.{ratio_list}
use borrow.Author.Rules.{rules}
use Rattle.lafkuno.proofs.means.ratio_words.Goals as goal

pub returns : goal.returns
returns c =
    let z = c.args.r in
    let e : to_z w64 (of_z w64 z.first) ≡ z.first = search rules in
    let f : to_z w64 (of_z w64 z.second) ≡ z.second = search rules in
    ratio_list z _ _ _ (c.whole_number.ensures ∙ ap (pattern 8) e) (c.whole_number-2.ensures ∙ ap (pattern 8) f) c.flag.ensures
