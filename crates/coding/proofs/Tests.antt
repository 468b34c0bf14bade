-- Tests and what they answer. Assumes nothing.
use mathlib.Core.Path.{◌≡◌, refl, sym, ◌∙◌}
use mathlib.Core.Bool.{Bool, true, false, not, cond}
use Prim.Native.Nat.{ℕ, ◌<◌}
use native.Mathlib.Omega.{arith}

pub is_no : (b : Bool) → not b ≡ true → b ≡ false
is_no true e = sym e
is_no false e = refl

pub is_yes : (b : Bool) → not b ≡ false → b ≡ true
is_yes true e = refl
is_yes false e = sym e

-- .. by a call's answer
pub no_by : {r b : Bool} → r ≡ b → not r ≡ true → b ≡ false
no_by {r} e h = sym e ∙ is_no r h

pub yes_by : {r b : Bool} → r ≡ b → not r ≡ false → b ≡ true
yes_by {r} e h = sym e ∙ is_yes r h

-- a ladder of two: the first test passed and then 0
pub chosen : (b : Bool) (a g : ℕ) → 0 < g → cond b a g ≡ 0 → (b ≡ true) × (a ≡ 0)
chosen true a g l h = (refl, h)
chosen false a g l h = absurd (omega arith)
