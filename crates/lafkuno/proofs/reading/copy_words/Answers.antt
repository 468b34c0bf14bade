-- `lafkuno::reading::copy_words` meets its contract. Assumes nothing.
use native.Mathlib.Nat.{zero-add}
use Rattle.number.specs.Number.{splice}
use Rattle.lafkuno.proofs.reading.copy_words.Goals as goal

pub returns : goal.returns
unfolding splice
returns c = simp (c.copy_from_slice.ensures.after, zero-add)
