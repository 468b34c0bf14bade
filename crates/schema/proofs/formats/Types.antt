-- Laws of codes read as types. Assumes nothing.
use mathlib.Core.Path.{◌≡◌, refl, ap, sym}
use mathlib.Core.Bool.{true, and-eq-true_iff, false≢true}
use mathlib.Core.Option.{some, some-injective, none-ne-some}
use Prim.Native.Nat.{ℕ, zero, suc}
use native.Mathlib.Omega.{arith}
use lib.Dec.{leb}
use borrow.Author.Tests.{leb-true}
use Rattle.columnar.specs.Types.{Number, int, uint, w1, w2, w4, w8, f32, f64, width}
use Rattle.schema.specs.formats.Code.{is_fixed, width_of}
use Rattle.schema.specs.formats.Types.{number_of}

-- a code's number has the bytes that `width_of` answers
pub number_width : (code : ℕ) (n : Number) → number_of code ≡ some n → width n ≡ width_of code
unfolding number_of
number_width zero n e = absurd (none-ne-some n e)
number_width (suc zero) n e = ap width (sym (some-injective (int w1) n e))
number_width (suc (suc zero)) n e = ap width (sym (some-injective (uint w1) n e))
number_width (suc (suc (suc zero))) n e = ap width (sym (some-injective (int w2) n e))
number_width (suc (suc (suc (suc zero)))) n e = ap width (sym (some-injective (uint w2) n e))
number_width (suc (suc (suc (suc (suc zero))))) n e = ap width (sym (some-injective (int w4) n e))
number_width (suc (suc (suc (suc (suc (suc zero)))))) n e = ap width (sym (some-injective (uint w4) n e))
number_width (suc (suc (suc (suc (suc (suc (suc zero))))))) n e = ap width (sym (some-injective (int w8) n e))
number_width (suc (suc (suc (suc (suc (suc (suc (suc zero)))))))) n e = ap width (sym (some-injective (uint w8) n e))
number_width (suc (suc (suc (suc (suc (suc (suc (suc (suc zero))))))))) n e = ap width (sym (some-injective f32 n e))
number_width (suc (suc (suc (suc (suc (suc (suc (suc (suc (suc zero)))))))))) n e = ap width (sym (some-injective f64 n e))
number_width (suc (suc (suc (suc (suc (suc (suc (suc (suc (suc (suc code))))))))))) n e = absurd (none-ne-some n e)

-- a code that `is_fixed` passes stands for a number
pub fixed_number : (code : ℕ) → is_fixed code ≡ true → (n : Number) × (number_of code ≡ some n)
unfolding number_of
fixed_number zero h = absurd (false≢true h)
fixed_number (suc zero) h = ((int w1), refl)
fixed_number (suc (suc zero)) h = ((uint w1), refl)
fixed_number (suc (suc (suc zero))) h = ((int w2), refl)
fixed_number (suc (suc (suc (suc zero)))) h = ((uint w2), refl)
fixed_number (suc (suc (suc (suc (suc zero))))) h = ((int w4), refl)
fixed_number (suc (suc (suc (suc (suc (suc zero)))))) h = ((uint w4), refl)
fixed_number (suc (suc (suc (suc (suc (suc (suc zero))))))) h = ((int w8), refl)
fixed_number (suc (suc (suc (suc (suc (suc (suc (suc zero)))))))) h = ((uint w8), refl)
fixed_number (suc (suc (suc (suc (suc (suc (suc (suc (suc zero))))))))) h = (f32, refl)
fixed_number (suc (suc (suc (suc (suc (suc (suc (suc (suc (suc zero)))))))))) h = (f64, refl)
fixed_number (suc (suc (suc (suc (suc (suc (suc (suc (suc (suc (suc c))))))))))) h =
    let k = suc (suc (suc (suc (suc (suc (suc (suc (suc (suc (suc c)))))))))) in
    let top = leb-true k 10 ((and-eq-true_iff (leb 1 k) (leb k 10)).0 h).1 in
    absurd (omega arith)
