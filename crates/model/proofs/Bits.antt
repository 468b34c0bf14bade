-- Bits of a growing node, and the bytes that they are packed to. Assumes nothing.
use mathlib.Core.Path.{◌≡◌, refl, sym, ap, ap₂, ◌∙◌, subst}
use mathlib.Core.Bool.{Bool, true, false, cond}
use mathlib.Core.List.{List, [], ◌∷◌, ◌++◌}
use Prim.Native.Nat.{ℕ, zero, suc, ◌+◌, ◌-◌, ◌*◌, ◌/◌, ◌%◌, ◌^◌, ◌≤◌, ◌<◌}
use native.Mathlib.Nat.{add-zero, zero-add, pow-zero, pow-suc, pow-succ', div-one, zero-div, div-div-eq-div-mul, div-add-mod'}
use native.Mathlib.Numerals.{add-one}
use native.Mathlib.Omega.{arith}
use lib.ListN.{length, drop, get_or, replicate, length-append, length-replicate, get_or-append}
use lib.Seq.{get_or-drop, get_or-append-add}
use lib.Dec.{eqb}
use Rattle.columnar.specs.Row.{seg}
use Rattle.columnar.specs.Array.{bit, nulls_in}
use Rattle.model.specs.Mutable.{bits_number, pack, zeros}

-- ---- stretches

pub shift : (a i : ℕ) → suc a + i ≡ a + suc i
shift a i = omega arith

pub length_seg : {A : Type 0} (f : ℕ → A) (a n : ℕ) → length (seg f a n) ≡ n
length_seg f a zero = refl
length_seg f a (suc n) = ap suc (length_seg f (suc a) n)

pub get_d_seg : {A : Type 0} (f : ℕ → A) (a n i : ℕ) (z : A) → i < n → get_or (seg f a n) i z ≡ f (a + i)
get_d_seg f a zero i z h = absurd (omega arith)
get_d_seg f a (suc n) zero z h = ap f (sym (add-zero a))
get_d_seg f a (suc n) (suc i) z h = get_d_seg f (suc a) n i z (omega arith) ∙ ap f (shift a i)

pub zeros_seg : (f : ℕ → Bool) (a n : ℕ) → zeros (seg f a n) ≡ nulls_in f a n
zeros_seg f a zero = refl
zeros_seg f a (suc n) = ap (cond (f a) 0 1 +◌) (zeros_seg f (suc a) n)

pub zeros_append : (l r : List Bool) → zeros (l ++ r) ≡ zeros l + zeros r
zeros_append [] r = sym (zero-add (zeros r))
zeros_append (b ∷ l) r = rw (zeros_append l r) (omega arith)

pub zeros_replicate : (n : ℕ) → zeros (replicate n false) ≡ n
zeros_replicate zero = refl
zeros_replicate (suc n) = rw (zeros_replicate n) (omega arith)

pub get_d_replicate : {A : Type 0} (n i : ℕ) (x z : A) → i < n → get_or (replicate n x) i z ≡ x
get_d_replicate zero i x z h = absurd (omega arith)
get_d_replicate (suc n) zero x z h = refl
get_d_replicate (suc n) (suc i) x z h = get_d_replicate n i x z (omega arith)

-- no zero: every bit is 1
pub all_true : (l : List Bool) → zeros l ≡ 0 → (i : ℕ) → i < length l → get_or l i false ≡ true
all_true [] e i h = absurd (omega arith)
all_true (true ∷ l) e zero h = refl
all_true (true ∷ l) e (suc i) h = all_true l (omega arith) i (omega arith)
all_true (false ∷ l) e i h = absurd (omega arith)

-- ---- packed

one_bit : (b : Bool) (x : ℕ) → (cond b 1 0 + 2 * x) % 2 ≡ cond b 1 0
one_bit true x = omega arith
one_bit false x = omega arith

rest_bits : (b : Bool) (x : ℕ) → (cond b 1 0 + 2 * x) / 2 ≡ x
rest_bits true x = omega arith
rest_bits false x = omega arith

pub number_bit : (k : ℕ) (l : List Bool) (i : ℕ) → i < k → bits_number k l / 2 ^ i % 2 ≡ cond (get_or l i false) 1 0
number_bit zero l i h = absurd (omega arith)
number_bit (suc k) [] zero h = refl
number_bit (suc k) [] (suc i) h = rw (zero-div (2 ^ suc i))
number_bit (suc k) (b ∷ l) zero h = rw (pow-zero, div-one) (one_bit b (bits_number k l))
number_bit (suc k) (b ∷ l) (suc i) h =
    rw (pow-succ' 2 i, ← div-div-eq-div-mul, rest_bits b (bits_number k l)) (number_bit k l i (omega arith))

eqb_cond : (b : Bool) → eqb (cond b 1 0) 1 ≡ b
eqb_cond true = refl
eqb_cond false = refl

pub pack_bit : (l : List Bool) (i : ℕ) → i < length l → bit (pack l) i ≡ get_or l i false
unfolding bit pack
pack_bit l i h =
    let e : 8 * (i / 8) + i % 8 ≡ i = omega arith in
    rw (get_d_seg (λ k. bits_number 8 (drop (8 * k) l)) 0 ((length l + 7) / 8) (i / 8) 0 (omega arith), zero-add, number_bit 8 (drop (8 * (i / 8)) l) (i % 8) (omega arith), get_or-drop, e)
    (eqb_cond (get_or l i false))

pub pack_length : (l : List Bool) → length l ≤ 8 * length (pack l)
unfolding pack
pack_length l = rw (length_seg (λ k. bits_number 8 (drop (8 * k) l)) 0 ((length l + 7) / 8)) (omega arith)
