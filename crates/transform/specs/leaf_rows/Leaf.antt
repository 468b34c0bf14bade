-- What a copy at a leaf asks before it writes. Assumes nothing.
use Rattle.std.specs.Prelude.{Bool, true, cond, ℕ, ◌+◌, ◌*◌, length, leb, eqb}
use Rattle.walk.specs.State.{Join, keeps_of, place}

-- the validity bits of n slots, where they are copied, lie in the body
abbrev pub bits_in : Join → ℕ → ℕ → ℕ → Bool
bits_in x i slot n =
    cond (eqb (keeps_of x.plan i) 0) true (cond (eqb (place x i 0) 0) true (leb (8 * place x i 1 + slot + n) (8 * length x.body)))
