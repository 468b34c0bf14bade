-- The codes of one kind of format are not those of another. Assumes nothing.
use mathlib.Core.Path.{◌≡◌, refl}
use mathlib.Core.Bool.{Bool, true, false, ◌&&◌}
use Prim.Native.Nat.{ℕ, ◌<◌}
use native.Mathlib.Omega.{arith}
use lib.Dec.{leb}
use borrow.Author.Tests.{leb-true, lt-leb}
use Rattle.schema.specs.formats.Code.{between, is_fixed, is_string, is_view}

between_from : (low high z : ℕ) → between low high z ≡ true → leb low z ≡ true
between_from low high z h = go (leb low z) refl h
  where
    go : (b : Bool) → leb low z ≡ b → (b && leb z high) ≡ true → leb low z ≡ true
    go true e h = e
    go false e h = absurd (let y : ◌≡◌ {A = ℕ} 0 1 = cc h in omega arith)

-- codes from `low` on are not among those up to a lower one
pub between_apart : (low high low2 high2 z : ℕ) → high2 < low → between low high z ≡ true → between low2 high2 z ≡ false
between_apart low high low2 high2 z p h =
    let l = leb-true low z (between_from low high z h) in
    rw (lt-leb z high2 (omega arith)) (never (leb low2 z))
  where
    never : (b : Bool) → (b && false) ≡ false
    never true = refl
    never false = refl

pub string_apart : (z : ℕ) → is_string z ≡ true → is_fixed z ≡ false
string_apart z h = between_apart 11 14 1 10 z (omega arith) h

pub view_apart : (z : ℕ) → is_view z ≡ true → (is_fixed z ≡ false) × (is_string z ≡ false)
view_apart z h = (between_apart 15 16 1 10 z (omega arith) h, between_apart 15 16 11 14 z (omega arith) h)
