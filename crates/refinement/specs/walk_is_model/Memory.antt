-- A destination's memory, buffer by buffer: what its parts hold of bytes and bits that are in use. Assumes nothing.
use Rattle.std.specs.Prelude.{◌≡◌, Bool, cond, ◌&&◌, List, [], ◌∷◌, ◌++◌, ℕ, ◌+◌, length, take, eqb}
use Rattle.walk.specs.Log.{Entry, put, mask, amend, Log}

-- buffer b of node i, and the bits of node i's validity
pub record Memory : Type 0 where
  pub at : ℕ → ℕ → List ℕ
  pub bits : ℕ → List ℕ

-- bytes behind those of buffer b of node i
abbrev pub put_in : ℕ → ℕ → List ℕ → Memory → Memory
put_in i b bs m = record { at = λ j e. cond (eqb j i && eqb e b) (m.at j e ++ bs) (m.at j e); bits = m.bits }

-- bytes in place of those of buffer b of node i from byte o on
abbrev pub amend_in : ℕ → ℕ → ℕ → List ℕ → Memory → Memory
amend_in i b o bs m = record { at = λ j e. cond (eqb j i && eqb e b) (take o (m.at j e) ++ bs) (m.at j e); bits = m.bits }

-- bits behind those of node i
abbrev pub mask_in : ℕ → List ℕ → Memory → Memory
mask_in i vs m = record { at = m.at; bits = λ j. cond (eqb j i) (m.bits j ++ vs) (m.bits j) }

abbrev pub noted : Entry → Memory → Memory
noted (put i b o bs) m = put_in i b bs m
noted (mask i p vs) m = mask_in i vs m
noted (amend i b o bs) m = amend_in i b o bs m

-- a write begins where the buffer ends, or ends there where it is over the last bytes
abbrev pub InPlace : Entry → Memory → Type 0
InPlace (put i b o bs) m = o ≡ length (m.at i b)
InPlace (mask i p vs) m = p ≡ length (m.bits i)
InPlace (amend i b o bs) m = o + length bs ≡ length (m.at i b)

-- after a log
unfoldable pub after : Log → Memory → Memory
after [] m = m
after (e ∷ l) m = after l (noted e m)

unfoldable pub AllInPlace : Log → Memory → Type 0
AllInPlace [] m = Unit {0}
AllInPlace (e ∷ l) m = InPlace e m × AllInPlace l (noted e m)
