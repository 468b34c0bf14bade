-- Laws of `rebased` and `wrappingAdd`, over every width. Assumes nothing.
use Rattle.std.proofs.Common.{◌≡◌, ℕ, suc, ◌+◌, ◌-◌, ◌*◌, ◌/◌, ◌%◌, ◌^◌, ◌<◌, ◌≤◌, Bool, true, false, ltb, List, length, get_or, ℤ, pos, negsuc, refl, sym, ap, ◌∙◌, arith}
use native.Mathlib.Nat.{mod-mod, mod-lt, one-le-pow}
use mir.Val.{sel}
use Rattle.number.specs.Number.{encode, entry, splice, signed, pattern}
use Rattle.utils.proofs.Laws.{entry_lt}
use Rattle.utils.proofs.Pieces.{pieces_none, numbers_step, entry_splice}
use Rattle.utils.specs.primitive.Primitive.{rebased, wrapping_add}

pub rebased_none : (w : ℕ) (s : List ℕ) (from base at : ℕ) (room : List ℕ) → splice at (rebased w s from base 0) room ≡ room
unfolding rebased
rebased_none w s from base at room = pieces_none _ at room

-- one more key after the first i
pub rebased_step : (w : ℕ) (room s : List ℕ) (at from base i : ℕ) → at + w * (i + 1) ≤ length room
    → splice (at + w * i) (encode w ((entry w s from i + base) % 256 ^ w)) (splice at (rebased w s from base i) room)
    ≡ splice at (rebased w s from base (i + 1)) room
unfolding rebased
rebased_step w room s at from base i h = numbers_step w (λ k. (entry w s from k + base) % 256 ^ w) room at i h

-- ---- signed keys

-- the pattern of what a pattern stands for is that pattern
pub pattern_signed : (w p : ℕ) → p < 256 ^ w → pattern w (signed w p) ≡ p
pattern_signed w p h = go (ltb p (256 ^ w / 2))
  where
    go : (b : Bool) → pattern w (sel b (pos p) (negsuc (256 ^ w - suc p))) ≡ p
    go true = refl
    go false = omega arith

-- rebasing a signed key as its pattern is the sum of the helper
pub rebase_signed : (w key base : ℕ) → key < 256 ^ w → base < 256 ^ w
    → signed w ((key + base) % 256 ^ w) ≡ wrapping_add w (signed w key) (signed w base)
rebase_signed w key base h g = rw (pattern_signed w key h, pattern_signed w base g)

-- so a key that was rebased is read back as that sum, and an unsigned one as the sum modulo 256 ^ w
module _ (w : ℕ) (s room : List ℕ) (at from base n k : ℕ) (h : at + w * n ≤ length room) (l : k < n) where
  pub rebased_entry : entry w (splice at (rebased w s from base n) room) at k ≡ (entry w s from k + base) % 256 ^ w
  unfolding rebased
  rebased_entry = rw (entry_splice w (λ j. (entry w s from j + base) % 256 ^ w) n at room h k l, mod-mod)

  pub rebased_signed : ((i : ℕ) → get_or s i 0 < 256) → base < 256 ^ w
      → signed w (entry w (splice at (rebased w s from base n) room) at k) ≡ wrapping_add w (signed w (entry w s from k)) (signed w base)
  rebased_signed b g = ap (signed w) rebased_entry ∙ rebase_signed w (entry w s from k) base (entry_lt w s from k b) g

-- K10: the i8 key 100 with start 100
pub key_100 : wrapping_add 1 (pos 100) (pos 100) ≡ negsuc 55
key_100 = refl

-- ---- the path of signed keys

-- THE ONE LAW of both paths: a signed key k, plus any number by the helper, has the pattern that the unsigned path writes for that number's pattern
pub same_pattern : (w key p : ℕ) (k sum base : ℤ) → key < 256 ^ w → k ≡ signed w key → sum ≡ wrapping_add w k base → p ≡ pattern w sum
    → p ≡ (key + pattern w base) % 256 ^ w
same_pattern w key p k sum base f ek es ep =
    let r = (key + pattern w base) % 256 ^ w in
    let e : sum ≡ signed w r = rw (es, ek, pattern_signed w key f) refl in
    rw (ep, e) (pattern_signed w r (mod-lt (key + pattern w base) (one-le-pow w 256 (omega arith))))

-- .. for a number that is given by its pattern
pub same_pattern_of : (w : ℕ) (key base p : ℕ) (k offset sum : ℤ) → key < 256 ^ w → base < 256 ^ w → k ≡ signed w key → offset ≡ signed w base
    → sum ≡ wrapping_add w k offset → p ≡ pattern w sum → p ≡ (key + base) % 256 ^ w
same_pattern_of w key base p k offset sum f g ek eo es ep =
    let e : pattern w offset ≡ base = rw eo (pattern_signed w base g) in
    rw e at (same_pattern w key p k sum offset f ek es ep)
