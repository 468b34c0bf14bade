-- `row_pair::leaf_at` meets its contract. Assumes nothing.
use mathlib.Core.Path.{ap, ◌∙◌}
use Rattle.array_data.specs.entries.Entries.{column}
use Rattle.row_reader.specs.Walk.{row_at}
use Rattle.row_reader.specs.row_pair.Same.{leaf_in}
use Rattle.row_reader.proofs.row_pair.leaf_at.Goals as goal

pub returns : goal.returns
returns c =
    let z = c.args in
    let y = column z.lengths.now z.places.now z.buffers.now z.body.now z.first in
    let p = c.copied-words.ensures ∙ c.plant.ensures in
    c.leaf_of.ensures ∙ ap leaf_in (c.row_at-found.ensures.fact.0 ∙ ap (λ w. (row_at w y z.row).read) p)
