-- What the starts of keys and their test go by: sums that stop at the largest number. Assumes nothing.
use mathlib.Core.Path.{◌≡◌, refl, sym, ap, ◌∙◌}
use mathlib.Core.Bool.{Bool, true, false, and-true, and-false, and-eq-true_iff}
use mathlib.Core.List.{List, [], ◌∷◌}
use mathlib.Core.Option.{some, some-injective, none-ne-some}
use Prim.Native.Nat.{ℕ, zero, suc, ◌+◌, ◌-◌, ◌≤◌, ◌<◌}
use native.Mathlib.Omega.{arith}
use lib.ListN.{get_or}
use lib.Dec.{leb, ltb}
use borrow.Author.Tests.{le-leb, leb-true, leb-false, lt-ltb, le-ltb}
use Rattle.columnar.specs.Types.{Number, int, uint, w1, w2, w4, w8, limit, key_fits}
use Rattle.columnar.specs.Dictionary.{Dictionary}
use Rattle.model.specs.Opening.{shared, entries_before, start_of_keys}
use Rattle.schema.specs.formats.Code.{is_integer}
use Rattle.schema.specs.formats.Types.{number_of}
use Rattle.plan.specs.dictionaries.Sources.{capped}

-- ---- the largest key of a code

abbrev pub tops : List ℕ
tops = 0 ∷ 127 ∷ 255 ∷ 32767 ∷ 65535 ∷ 2147483647 ∷ 4294967295 ∷ 9223372036854775807 ∷ 18446744073709551615 ∷ []

pub code_below : (code : ℕ) → is_integer code ≡ true → code < 9
code_below code h = let l = leb-true code 8 ((and-eq-true_iff (leb 1 code) (leb code 8)).0 h).1 in omega arith

pub top_limit : (code : ℕ) → is_integer code ≡ true → (n : Number) → number_of code ≡ some n → limit n ≡ get_or tops code 0 + 1
unfolding number_of
top_limit zero h n e = absurd (none-ne-some n e)
top_limit (suc zero) h n e = ap limit (sym (some-injective (int w1) n e))
top_limit (suc (suc zero)) h n e = ap limit (sym (some-injective (uint w1) n e))
top_limit (suc (suc (suc zero))) h n e = ap limit (sym (some-injective (int w2) n e))
top_limit (suc (suc (suc (suc zero)))) h n e = ap limit (sym (some-injective (uint w2) n e))
top_limit (suc (suc (suc (suc (suc zero))))) h n e = ap limit (sym (some-injective (int w4) n e))
top_limit (suc (suc (suc (suc (suc (suc zero)))))) h n e = ap limit (sym (some-injective (uint w4) n e))
top_limit (suc (suc (suc (suc (suc (suc (suc zero))))))) h n e = ap limit (sym (some-injective (int w8) n e))
top_limit (suc (suc (suc (suc (suc (suc (suc (suc zero)))))))) h n e = ap limit (sym (some-injective (uint w8) n e))
top_limit (suc (suc (suc (suc (suc (suc (suc (suc (suc c))))))))) h n e =
    let l = code_below (suc (suc (suc (suc (suc (suc (suc (suc (suc c))))))))) h in
    absurd (omega arith)

-- ---- entries

module _ {P : Type 0} (ds : ℕ → Dictionary P) where
  pub sum_more : (s : ℕ) {sum n r : ℕ} → sum ≡ capped (entries_before ds s) → n ≡ (ds s).values.len → r ≡ capped (sum + n) → r ≡ capped (entries_before ds (suc s))
  sum_more s e f g = omega (arith, e, f, g)

pub entries_same : {P Q : Type 0} (ds : ℕ → Dictionary P) (es : ℕ → Dictionary Q) → ((s : ℕ) → (ds s).values.len ≡ (es s).values.len)
    → (j : ℕ) → entries_before ds j ≡ entries_before es j
entries_same ds es h zero = refl
entries_same ds es h (suc j) = rw (entries_same ds es h j, h j)

-- ---- starts; r is what a call answered

module _ (m : ℕ) {P : Type 0} (ds : ℕ → Dictionary P) where
  pub capped_shared : (j : ℕ) {r : Bool} → r ≡ shared m ds → r ≡ true → 0 ≡ capped (start_of_keys m ds j)
  capped_shared j e z = let q : shared m ds ≡ true = sym e ∙ z in rw q

  pub capped_joined : (j : ℕ) {r : Bool} {n : ℕ} → r ≡ shared m ds → r ≡ false → n ≡ capped (entries_before ds j) → n ≡ capped (start_of_keys m ds j)
  capped_joined j e z f = let q : shared m ds ≡ false = sym e ∙ z in rw q f

-- ---- keys, where `top` is the largest

module _ (k : Number) (start n : ℕ) {top : ℕ} (l : limit k ≡ top + 1) where
  -- the start is above it
  pub key_over : top < start → false ≡ key_fits k start n
  key_over h = let q : ltb start (top + 1) ≡ false = le-ltb start (top + 1) (omega arith) in rw (l, q) (sym (and-false (ltb (start + n - 1) (top + 1))))

  -- r is whether the last entry's key is at most it
  pub key_last : {r : Bool} → start ≤ top → r ≡ leb (start + n - 1) top → r ≡ key_fits k start n
  key_last {r} h e =
      let q : ltb start (top + 1) ≡ true = lt-ltb start (top + 1) (omega arith) in
      rw (l, q) (e ∙ go (leb (start + n - 1) top) refl ∙ sym (and-true (ltb (start + n - 1) (top + 1))))
    where
      go : (b : Bool) → leb (start + n - 1) top ≡ b → leb (start + n - 1) top ≡ ltb (start + n - 1) (top + 1)
      go true z = z ∙ sym (lt-ltb (start + n - 1) (top + 1) (omega (arith, leb-true (start + n - 1) top z)))
      go false z = z ∙ sym (le-ltb (start + n - 1) (top + 1) (omega (arith, leb-false (start + n - 1) top z)))

  pub key_none : start ≤ top → n ≡ 0 → true ≡ key_fits k start n
  key_none h e = key_last h (sym (le-leb (start + n - 1) top (omega arith)))
