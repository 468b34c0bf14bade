use mathlib.Core.Path.{◌≡◌}
use Prim.Native.Nat.{◌≤◌, ◌*◌}
use Rattle.bits.specs.Bits.{zeros, bits_at}
use Rattle.bits.proofs.count_words.Given as goal

abbrev pub invariant-loop-i : goal.invariant-loop-i
invariant-loop-i l = (l.none ≡ zeros (bits_at (8 * l.q) (64 * l.i) l.body)) × (l.none ≤ 64 * l.i)
