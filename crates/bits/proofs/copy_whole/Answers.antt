-- `bits::copy_whole` meets its contract. Assumes nothing.
use mathlib.Core.Path.{◌≡◌, ◌∙◌}
use Prim.Native.Nat.{◌+◌, ◌*◌}
use native.Mathlib.Omega.{arith}
use Rattle.bits.proofs.copy_whole.Goals as goal

pub returns-then-j-eq0 : goal.returns-then-j-eq0
returns-then-j-eq0 c =
    let z = c.args in
    let e : 8 * z.q + z.j ≡ 8 * z.q = omega arith in
    record { room_after = c.copy_words.ensures.room_after ∙ rw e; value = c.copy_words.ensures.value ∙ rw e }
