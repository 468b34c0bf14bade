-- What code over the lent tables goes by: tests one after the other, products without a product, where a node's buffers lie. Assumes nothing.
use mathlib.Core.Path.{◌≡◌, refl, sym, ◌∙◌}
use mathlib.Core.Bool.{Bool, true, false, not, ◌&&◌}
use mathlib.Core.List.{List}
use Prim.Native.Nat.{ℕ, ◌+◌, ◌-◌, ◌*◌, ◌/◌, ◌%◌, ◌^◌, ◌≤◌, ◌<◌}
use native.Mathlib.Nat.{le-div_iff_mul-le, mul-zero, mul-le-mul_left}
use native.Mathlib.Omega.{arith}
use lib.ListN.{length, get_or, get_or-eq_default}
use lib.Dec.{leb, eqb}
use borrow.Author.Tests.{not-true, not-false, le-leb, lt-leb, leb-true, leb-false, eq-eqb, ne_eqb}
use Rattle.array_data.specs.Tables.{Tables, place, held, valid_in}
use Rattle.array_data.specs.Rules.{one_in, two_in}

-- ---- tests one after the other; r is what a call answered

pub no : {r a : Bool} → r ≡ a → not r ≡ true → a ≡ false
no {r} e h = sym e ∙ not-true r h

pub yes : {r a : Bool} → r ≡ a → not r ≡ false → a ≡ true
yes {r} e h = sym e ∙ not-false r h

pub is_none : {r p : ℕ} → r ≡ p → r ≡ 0 → eqb p 0 ≡ true
is_none {r} {p} e h = eq-eqb p 0 (sym e ∙ h)

pub is_some : {r p : ℕ} → r ≡ p → (r ≡ 0 → ⊥) → eqb p 0 ≡ false
is_some {r} {p} e h = ne_eqb p 0 (λ q. h (e ∙ q))

false_true : false ≡ true → ⊥
false_true q = let z : ◌≡◌ {A = ℕ} 0 1 = cc in omega arith

pub and_left : (a b : Bool) → a && b ≡ true → a ≡ true
and_left true b h = refl
and_left false b h = absurd (false_true h)

pub and_right : (a b : Bool) → a && b ≡ true → b ≡ true
and_right true b h = h
and_right false b h = absurd (false_true h)

-- ---- a range within a length, by a difference

pub fits_no : (at size len : ℕ) → len < size → false ≡ leb (at + size) len
fits_no at size len h = sym (lt-leb (at + size) len (omega arith))

pub fits_left : (at size len : ℕ) → size ≤ len → leb at (len - size) ≡ leb (at + size) len
fits_left at size len h = go (leb (at + size) len) refl
  where
    go : (b : Bool) → leb (at + size) len ≡ b → leb at (len - size) ≡ b
    go true e = le-leb at (len - size) (omega (arith, leb-true (at + size) len e))
    go false e = lt-leb at (len - size) (omega (arith, leb-false (at + size) len e))

-- a sum that is behind a start, or lies past it
pub behind_no : (start rest len : ℕ) → leb rest len ≡ false → false ≡ leb (start + rest) len
behind_no start rest len h = sym (lt-leb (start + rest) len (omega (arith, leb-false rest len h)))

pub start_no : (start rest len : ℕ) → len < start → false ≡ leb (start + rest) len
start_no start rest len h = sym (lt-leb (start + rest) len (omega arith))

pub start_yes : (start rest len : ℕ) → start ≤ len → leb rest (len - start) ≡ leb (start + rest) len
start_yes start rest len h = go (leb (start + rest) len) refl
  where
    go : (b : Bool) → leb (start + rest) len ≡ b → leb rest (len - start) ≡ b
    go true e = le-leb rest (len - start) (omega (arith, leb-true (start + rest) len e))
    go false e = lt-leb rest (len - start) (omega (arith, leb-false (start + rest) len e))

-- ---- n bits in bytes

pub bits_held : (a n bytes : ℕ) → leb (a / 8 + n / 8 + (a % 8 + n % 8 + 7) / 8) bytes ≡ leb (a + n) (8 * bytes)
bits_held a n bytes = go (leb (a + n) (8 * bytes)) refl
  where
    go : (b : Bool) → leb (a + n) (8 * bytes) ≡ b → leb (a / 8 + n / 8 + (a % 8 + n % 8 + 7) / 8) bytes ≡ b
    go true e = le-leb (a / 8 + n / 8 + (a % 8 + n % 8 + 7) / 8) bytes (omega (arith, leb-true (a + n) (8 * bytes) e))
    go false e = lt-leb (a / 8 + n / 8 + (a % 8 + n % 8 + 7) / 8) bytes (omega (arith, leb-false (a + n) (8 * bytes) e))

pub bits_behind : (start a n bytes : ℕ) → start ≤ bytes → leb (a + n) (8 * (bytes - start)) ≡ leb (8 * start + a + n) (8 * bytes)
bits_behind start a n bytes h = go (leb (8 * start + a + n) (8 * bytes)) refl
  where
    go : (b : Bool) → leb (8 * start + a + n) (8 * bytes) ≡ b → leb (a + n) (8 * (bytes - start)) ≡ b
    go true e = le-leb (a + n) (8 * (bytes - start)) (omega (arith, leb-true (8 * start + a + n) (8 * bytes) e))
    go false e = lt-leb (a + n) (8 * (bytes - start)) (omega (arith, leb-false (8 * start + a + n) (8 * bytes) e))

-- ---- pairs of a table

pub pair_past : (t : List ℕ) (a b j : ℕ) → leb (a + b) (length t / 2) ≡ false → 0 ≡ get_or t (2 * (a + b) + j) 0
pair_past t a b j h = sym (get_or-eq_default t 0 (omega (arith, leb-false (a + b) (length t / 2) h)))

-- ---- n entries of w bytes

pub few_bytes : (n w : ℕ) → n < 72057594037927936 → w < 256 → n * w < 2 ^ 64
few_bytes n w h l = let m : n * w ≤ n * 255 = mul-le-mul_left n (omega arith) in omega arith

pub fits_none : (n size : ℕ) {w : ℕ} → w ≡ 0 → true ≡ leb (n * w) size
fits_none n size e = rw (e, mul-zero) (sym (le-leb 0 size (omega arith)))

pub fits_more : (n w size : ℕ) → 0 < w → leb n (size / w) ≡ leb (n * w) size
fits_more n w size h = go (leb n (size / w)) refl
  where
    go : (t : Bool) → leb n (size / w) ≡ t → leb n (size / w) ≡ leb (n * w) size
    go true e = e ∙ sym (le-leb (n * w) size ((le-div_iff_mul-le h).0 (leb-true _ _ e)))
    go false e =
        let f : n * w ≤ size → ⊥ = λ q. let g : n ≤ size / w = (le-div_iff_mul-le h).1 q in omega (arith, leb-false n (size / w) e) in
        e ∙ sym (lt-leb (n * w) size (omega (arith, f)))

-- ---- one node

module _ (x : Tables) (k : ℕ) where
  pub first_in : one_in x k ≡ true → place x k 3 + place x k 4 ≤ length x.body
  first_in h = leb-true _ _ (and_right (held x k && valid_in x k) _ h)

  pub two_one : two_in x k ≡ true → one_in x k ≡ true
  two_one h = and_left (one_in x k) _ h

  pub second_in : two_in x k ≡ true → place x k 5 + place x k 6 ≤ length x.body
  second_in h = leb-true _ _ (and_right (one_in x k) _ h)
