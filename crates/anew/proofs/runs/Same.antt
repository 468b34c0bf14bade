-- Two rows of a fixed-width column read equal exactly where the encoder's test says so. Assumes nothing.
use mathlib.Core.Path.{◌≡◌, refl, sym, ap, ◌∙◌}
use mathlib.Core.Bool.{Bool, true, false, not, true≢false}
use Prim.Native.Nat.{ℕ, suc, ◌+◌, ◌-◌, ◌/◌, ◌^◌, ◌<◌}
use native.Mathlib.Omega.{arith}
use lib.Dec.{ltb, eqb}
use lib.IntN.{pos, negsuc}
use mir.Val.{sel}
use borrow.Author.Tests.{eqb-true}
use Rattle.number.specs.Number.{signed, pattern}
use Rattle.columnar.specs.Row.{Row, null, whole, single, double, bytes, list, union}
use Rattle.columnar.specs.Types.{Number, int, uint, w1, w2, w4, w8, f32, f64, width, fixed, t_plain}
use Rattle.columnar.specs.Array.{sight}
use Rattle.columnar.specs.Plain.{value}
use Rattle.columnar.specs.Reading.{Column, read}
use Rattle.columnar.proofs.Items.{item_lt}
use Rattle.columnar.proofs.Test.{Agrees, turn, eqb_agrees}
use Rattle.anew.specs.runs.Runs.{ok_at, bits_at, alike, same_at, Bytes}

-- ---- when two rows read alike

pub both_valid : (b c s : Bool) → b ≡ true → c ≡ true → s ≡ alike b c s
both_valid true true s p q = refl
both_valid true false s p q = absurd (true≢false (sym q))
both_valid false c s p q = absurd (true≢false (sym p))

pub one_valid : (b c s : Bool) → b ≡ true → c ≡ false → false ≡ alike b c s
one_valid true true s p q = absurd (true≢false q)
one_valid true false s p q = refl
one_valid false c s p q = absurd (true≢false (sym p))

pub null_first : (b c s : Bool) → b ≡ false → not c ≡ alike b c s
null_first true c s p = absurd (true≢false p)
null_first false true s p = refl
null_first false false s p = refl

-- ---- a number by its row

-- the pattern of w bytes of a whole number's row, and the bits of a float's
abbrev whole_bits : ℕ → Row → ℕ
whole_bits w null = 0
whole_bits w (whole z) = pattern w z
whole_bits w (single p) = 0
whole_bits w (double p) = 0
whole_bits w (bytes s) = 0
whole_bits w (list rs) = 0
whole_bits w (union c r) = 0

abbrev float_bits : Row → ℕ
float_bits null = 0
float_bits (whole z) = 0
float_bits (single p) = p
float_bits (double p) = p
float_bits (bytes s) = 0
float_bits (list rs) = 0
float_bits (union c r) = 0

abbrev is_null : Row → Bool
is_null null = true
is_null (whole z) = false
is_null (single p) = false
is_null (double p) = false
is_null (bytes s) = false
is_null (list rs) = false
is_null (union c r) = false

-- two's complement and back
back : (w p : ℕ) → p < 256 ^ w → pattern w (signed w p) ≡ p
back w p h = go (ltb p (256 ^ w / 2)) refl
  where
    go : (b : Bool) → ltb p (256 ^ w / 2) ≡ b → pattern w (sel b (pos p) (negsuc (256 ^ w - suc p))) ≡ p
    go true e = refl
    go false e = omega arith

abbrev row_bits : Number → Row → ℕ
row_bits (int w1) = whole_bits 1
row_bits (uint w1) = whole_bits 1
row_bits (int w2) = whole_bits 2
row_bits (uint w2) = whole_bits 2
row_bits (int w4) = whole_bits 4
row_bits (uint w4) = whole_bits 4
row_bits (int w8) = whole_bits 8
row_bits (uint w8) = whole_bits 8
row_bits f32 = float_bits
row_bits f64 = float_bits

row_bits_lem : (k : Number) (p : ℕ) → p < 256 ^ width k → row_bits k (value k p) ≡ p
row_bits_lem (int w1) p h = back 1 p h
row_bits_lem (uint w1) p h = refl
row_bits_lem (int w2) p h = back 2 p h
row_bits_lem (uint w2) p h = refl
row_bits_lem (int w4) p h = back 4 p h
row_bits_lem (uint w4) p h = refl
row_bits_lem (int w8) p h = back 8 p h
row_bits_lem (uint w8) p h = refl
row_bits_lem f32 p h = refl
row_bits_lem f64 p h = refl

no_null : (k : Number) (p : ℕ) → is_null (value k p) ≡ false
no_null (int w1) p = refl
no_null (uint w1) p = refl
no_null (int w2) p = refl
no_null (uint w2) p = refl
no_null (int w4) p = refl
no_null (uint w4) p = refl
no_null (int w8) p = refl
no_null (uint w8) p = refl
no_null f32 p = refl
no_null f64 p = refl

-- a number reads as no null
pub never_null : (k : Number) (p : ℕ) → value k p ≡ null → ⊥
never_null k p e = true≢false (sym (ap is_null e) ∙ no_null k p)

pub value_same : (k : Number) (p q : ℕ) → p < 256 ^ width k → q < 256 ^ width k → value k p ≡ value k q → p ≡ q
value_same k p q h g e = sym (row_bits_lem k p h) ∙ ap (row_bits k) e ∙ row_bits_lem k q g

sights : (b c : Bool) (k : Number) (p q : ℕ) → p < 256 ^ width k → q < 256 ^ width k → Agrees (alike b c (eqb p q)) (sight b (value k p) ≡ sight c (value k q))
sights true true k p q h g = turn (eqb_agrees p q) (ap (value k)) (value_same k p q h g)
sights true false k p q h g = record { sound = λ t. absurd t; complete = never_null k p }
sights false true k p q h g = record { sound = λ t. absurd t; complete = λ e. never_null k q (sym e) }
sights false false k p q h g = record { sound = λ t. refl; complete = λ e. tt }

-- .. and whatever the buffer holds, where the test passes
alike_sound : (b c : Bool) (k : Number) (p q : ℕ) → alike b c (eqb p q) ≡ true → sight b (value k p) ≡ sight c (value k q)
alike_sound true true k p q e = ap (value k) (eqb-true p q e)
alike_sound true false k p q e = absurd (true≢false (sym e))
alike_sound false true k p q e = absurd (true≢false (sym e))
alike_sound false false k p q e = refl

module _ (k : Number) (x : Column (t_plain (fixed k))) where
  pub same_sound : (i j : ℕ) → same_at k x i j ≡ true → read (t_plain (fixed k)) x i ≡ read (t_plain (fixed k)) x j
  same_sound i j e = alike_sound (ok_at x i) (ok_at x j) k (bits_at k x i) (bits_at k x j) e

  -- SAME ROWS: "read equal", floats by their bits, and a null equals a null whatever lies under it
  pub same_read : Bytes x.body → (i j : ℕ) → Agrees (same_at k x i j) (read (t_plain (fixed k)) x i ≡ read (t_plain (fixed k)) x j)
  same_read h i j =
      sights (ok_at x i) (ok_at x j) k (bits_at k x i) (bits_at k x j) (item_lt (width k) x.body h (x.off + i)) (item_lt (width k) x.body h (x.off + j))
