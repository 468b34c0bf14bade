-- The zeros that a copy of validity answers. Assumes nothing.
use mathlib.Core.Path.{◌≡◌, refl, ◌∙◌}
use mathlib.Core.List.{List, [], ◌∷◌}
use Prim.Native.Nat.{ℕ, zero, suc, ◌+◌, ◌<◌}
use native.Mathlib.Omega.{arith}
use lib.ListN.{length, take, drop, get_or, length-take}
use lib.Seq.{get_or-take, get_or-drop}
use Rattle.bits.specs.Bits.{zeros, bits, bits_at}

-- bits that are all 1 have no zeros
pub ones_none : (l : List ℕ) → ((k : ℕ) → k < length l → get_or l k 0 ≡ 1) → zeros l ≡ 0
unfolding zeros
ones_none [] h = refl
ones_none (x ∷ l) h = omega (arith, h 0 (omega arith), ones_none l (λ k q. h (suc k) (omega arith)))

-- A RANGE OF ONES IS COUNTED AS 0, at every place: what stands before the range or behind it is not looked at
pub range_none : (body : List ℕ) (p n : ℕ) → ((k : ℕ) → k < n → get_or (bits body) (p + k) 0 ≡ 1) → zeros (bits_at p n body) ≡ 0
unfolding bits_at
range_none body p n h =
    ones_none (take n (drop p (bits body)))
    (λ k q. let s : k < n = omega (arith, length-take n (drop p (bits body)), q) in
    get_or-take n (drop p (bits body)) k 0 s ∙ get_or-drop p (bits body) k 0 ∙ h k s)
