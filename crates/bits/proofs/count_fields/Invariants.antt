use mathlib.Core.Path.{◌≡◌}
use Prim.Native.Nat.{◌≤◌, ◌+◌, ◌*◌, min}
use Rattle.bits.specs.Bits.{zeros, bits_at}
use Rattle.bits.proofs.count_fields.Given as goal

abbrev pub invariant-loop-i : goal.invariant-loop-i
invariant-loop-i l = (l.none ≡ zeros (bits_at (8 * l.q + l.j) (min l.n (8 * l.i)) l.body)) × (l.none ≤ 8 * l.i)
