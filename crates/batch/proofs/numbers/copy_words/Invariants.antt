use mathlib.Core.Path.{◌≡◌}
use Prim.Native.Nat.{◌*◌}
use lib.ListN.{take, drop}
use Rattle.number.specs.Number.{splice}
use Rattle.batch.proofs.numbers.copy_words.Given as goal

abbrev pub invariant-loop-q : goal.invariant-loop-q
invariant-loop-q l = l.room ≡ splice l.at (take (4 * l.q) (drop l.from l.body)) l.initial.room
