-- Laws of `digits` and `bits`; lists with all entries below a bound. Assumes nothing.
use mathlib.Core.Path.{◌≡◌, refl, sym, ap, ◌∙◌}
use Prim.Native.Nat.{ℕ, zero, suc, ◌+◌, ◌*◌, ◌-◌, ◌/◌, ◌%◌, ◌^◌, ◌≤◌, ◌<◌}
use native.Mathlib.Nat.{zero-add, suc-add, zero-div, add_assoc, pow-zero, pow-suc, pow-succ', div-one, div-div-eq-div-mul}
use native.Mathlib.Numerals.{add-one}
use native.Mathlib.Omega.{arith}
use mathlib.Core.List.{List, [], ◌∷◌, ◌++◌, append_assoc, append-nil}
use lib.ListN.{length, take, drop, get_or, set, replicate, length-append, length-drop, take-append-drop, get_or-append}
use lib.Seq.{drop-drop, take-add, take_at, drop_at, length-take-le, set_split, append_snoc, drop-nil, take-nil, get_or-drop, drop-append-le, take-append-le, get_or-append-add}
use lib.Pow.{high, split}
use Rattle.number.specs.Number.{number, splice}
use Rattle.bits.specs.Bits.{digits, bits, bits_at}

pub length_digits : (n x : ℕ) → length (digits n x) ≡ n
unfolding digits
length_digits zero x = refl
length_digits (suc n) x = ap suc (length_digits n (x / 2))

pub digits_add : (a b x : ℕ) → digits (a + b) x ≡ digits a x ++ digits b (x / 2 ^ a)
unfolding digits
digits_add zero b x = simp (zero-add, pow-zero, div-one)
digits_add (suc a) b x = rw (suc-add, pow-succ', ← div-div-eq-div-mul, digits_add a b (x / 2))

-- what stands above the n lowest digits does not count
pub digits_low : (n x y : ℕ) → digits n (y * 2 ^ n + x) ≡ digits n x
unfolding digits
digits_low zero x y = refl
digits_low (suc n) x y =
    let m : (y * 2 ^ suc n + x) % 2 ≡ x % 2 = rw pow-suc (omega arith) in
    let d : (y * 2 ^ suc n + x) / 2 ≡ y * 2 ^ n + x / 2 = rw pow-suc (omega arith) in
    rw (m, d, digits_low n (x / 2) y)

pub digits_mod' : (n x : ℕ) → digits n (x % 2 ^ n) ≡ digits n x
digits_mod' n x = sym (digits_low n (x % 2 ^ n) (x / 2 ^ n)) ∙ ap (λ (y : ℕ). digits n y) (split x n)

pub digits_zero : (n : ℕ) → digits n 0 ≡ replicate n 0
unfolding digits
digits_zero zero = refl
digits_zero (suc n) = ap (λ (l : List ℕ). 0 ∷ l) (digits_zero n)

-- the k digits from j on
pub digits_part : (n j k x : ℕ) → j + k ≤ n → take k (drop j (digits n x)) ≡ digits k (x / 2 ^ j)
digits_part n j k x h =
    let e : n ≡ j + (k + (n - (j + k))) = omega arith in
    let r = n - (j + k) in
    rw (e, digits_add j (k + r) x, drop_at (digits j x) _ j (length_digits j x), digits_add k r (x / 2 ^ j), take_at (digits k (x / 2 ^ j)) _ k (length_digits k (x / 2 ^ j)))

-- ---- bytes

pub length_bits : (s : List ℕ) → length (bits s) ≡ 8 * length s
unfolding bits
length_bits [] = refl
length_bits (b ∷ s) = simp (length-append, length_digits, length_bits s) (omega arith)

pub bits_append : (s t : List ℕ) → bits (s ++ t) ≡ bits s ++ bits t
unfolding bits
bits_append [] t = refl
bits_append (b ∷ s) t = rw (bits_append s t, append_assoc)

pub drop_bits : (k : ℕ) (s : List ℕ) → drop (8 * k) (bits s) ≡ bits (drop k s)
unfolding bits
drop_bits zero s = refl
drop_bits (suc k) [] = drop-nil (8 * suc k)
drop_bits (suc k) (b ∷ s) =
    let e : 8 * suc k ≡ 8 + 8 * k = omega arith in
    rw (e, ← drop-drop, drop_at (digits 8 b) (bits s) 8 (length_digits 8 b), drop_bits k s)

pub take_bits : (k : ℕ) (s : List ℕ) → take (8 * k) (bits s) ≡ bits (take k s)
unfolding bits
take_bits zero s = refl
take_bits (suc k) [] = take-nil (8 * suc k)
take_bits (suc k) (b ∷ s) =
    let e : 8 * suc k ≡ 8 + 8 * k = omega arith in
    rw (e, take-add, take_at (digits 8 b) (bits s) 8 (length_digits 8 b), drop_at (digits 8 b) (bits s) 8 (length_digits 8 b), take_bits k s)

pub bits_splice : (at : ℕ) (p s : List ℕ) → bits (splice at p s) ≡ splice (8 * at) (bits p) (bits s)
unfolding splice
bits_splice at p s =
    let e : 8 * at + 8 * length p ≡ 8 * (at + length p) = omega arith in
    rw (length_bits, e, take_bits, drop_bits, bits_append, bits_append)

-- the bits of w whole bytes are the digits of their number
pub bits_number_lem : (w : ℕ) (s : List ℕ) → ((i : ℕ) → get_or s i 0 < 256) → w ≤ length s → digits (8 * w) (number w s) ≡ take (8 * w) (bits s)
unfolding number bits
bits_number_lem zero s u h = digits_zero 0
bits_number_lem (suc w) [] u h = absurd (omega arith)
bits_number_lem (suc w) (b ∷ s) u h =
    let e : 8 * suc w ≡ 8 + 8 * w = omega arith in
    let k : b < 256 = u 0 in
    let m : b + 256 * number w s ≡ number w s * 2 ^ 8 + b = omega arith in
    rw (e, take-add, take_at (digits 8 b) (bits s) 8 (length_digits 8 b), drop_at (digits 8 b) (bits s) 8 (length_digits 8 b))
    (rw (digits_add 8 (8 * w), m, digits_low 8 b (number w s), high (number w s) 8 k, bits_number_lem w s (λ i. u (suc i)) (omega arith)))

-- a part of the first m entries
pub take_mid : (j k m : ℕ) (l : List ℕ) → j + k ≤ m → m ≤ length l → take k (drop j (take m l)) ≡ take k (drop j l)
take_mid j k m l h g =
    let n : length (take m l) ≡ m = length-take-le m l g in
    let d : length (drop j (take m l)) ≡ m - j = length-drop j (take m l) ∙ ap (λ (x : ℕ). x - j) n in
    sym (ap (λ (x : List ℕ). take k (drop j x)) (sym (take-append-drop m l))
    ∙ rw (drop-append-le j (take m l) (drop m l) (omega arith), take-append-le k (drop j (take m l)) (drop m l) (omega arith)))

-- k bits from bit 8 * q + j on, out of the number of the w bytes at q
pub bits_field : (w q j k : ℕ) (s : List ℕ) → ((i : ℕ) → get_or s i 0 < 256) → q + w ≤ length s → j + k ≤ 8 * w
    → take k (drop (8 * q + j) (bits s)) ≡ digits k (number w (drop q s) / 2 ^ j)
bits_field w q j k s u h l =
    let t = drop q s in
    let n : length t ≡ length s - q = length-drop q s in
    let u' : (i : ℕ) → get_or t i 0 < 256 = λ i. rw get_or-drop (u (q + i)) in
    rw (← drop-drop, drop_bits, ← take_mid j k (8 * w) (bits t) l (rw length_bits (omega arith)), ← bits_number_lem w t u' (omega arith), digits_part (8 * w) j k (number w t) l)

-- a byte stored
pub bits_set : (d v : ℕ) (s : List ℕ) → d < length s → bits (set s d v) ≡ splice (8 * d) (digits 8 v) (bits s)
unfolding splice bits
bits_set d v s h =
    let e : set s d v ≡ splice d (v ∷ []) s = rw (set_split s d v h, append_snoc, add-one) in
    rw (e, bits_splice d (v ∷ []) s, append-nil)

-- what stands there already needs no store
pub splice_same : (at h : ℕ) (p l : List ℕ) → at + h ≤ length l → splice at (take h (drop at l) ++ p) l ≡ splice (at + h) p l
unfolding splice
splice_same at h p l g =
    let n : length (take h (drop at l)) ≡ h = length-take-le h (drop at l) (simp length-drop (omega arith)) in
    rw (take-add, length-append, n, add_assoc) (simp append_assoc)

-- ---- one bit

pub digit : (n i x : ℕ) → i < n → get_or (digits n x) i 0 ≡ x / 2 ^ i % 2
unfolding digits
digit zero i x h = absurd (omega arith)
digit (suc n) zero x h = rw (pow-zero, div-one)
digit (suc n) (suc i) x h = rw (digit n i (x / 2) (omega arith), pow-succ', ← div-div-eq-div-mul)

zero_bit : (i : ℕ) → 0 ≡ 0 / 2 ^ i % 2
zero_bit i = rw (zero-div (2 ^ i))

bit_of_lem : (s : List ℕ) (q r : ℕ) → r < 8 → get_or (bits s) (8 * q + r) 0 ≡ get_or s q 0 / 2 ^ r % 2
unfolding bits
bit_of_lem [] q r h = zero_bit r
bit_of_lem (b ∷ s) zero r h =
    rw (zero-add, get_or-append (digits 8 b) (bits s) 0 r (rw length_digits h), digit 8 r b h)
bit_of_lem (b ∷ s) (suc q) r h =
    let e : 8 * suc q + r ≡ length (digits 8 b) + (8 * q + r) = rw length_digits (omega arith) in
    rw (e, get_or-append-add (digits 8 b) (bits s) (8 * q + r) 0, bit_of_lem s q r h)

-- bit i is a digit of its byte
pub bit_at : (s : List ℕ) (i : ℕ) → get_or (bits s) i 0 ≡ get_or s (i / 8) 0 / 2 ^ (i % 8) % 2
bit_at s i =
    let e : 8 * (i / 8) + i % 8 ≡ i = omega arith in
    rw e at (bit_of_lem s (i / 8) (i % 8) (omega arith))

-- ---- all entries of a list below a bound

pub data Below : ℕ → List ℕ → Type 0 where
  none : {m : ℕ} → Below m []
  more : {m x : ℕ} {l : List ℕ} → x < m → Below m l → Below m (x ∷ l)

pub below_of_lem : (m : ℕ) (l : List ℕ) → ((i : ℕ) → get_or l i 0 < m) → Below m l
below_of_lem m [] u = none
below_of_lem m (x ∷ l) u = more (u 0) (below_of_lem m l (λ i. u (suc i)))

pub below_at_lem : (m : ℕ) (l : List ℕ) → 1 ≤ m → Below m l → (i : ℕ) → get_or l i 0 < m
below_at_lem m [] h none i = omega arith
below_at_lem m (x ∷ l) h (more k b) zero = k
below_at_lem m (x ∷ l) h (more k b) (suc i) = below_at_lem m l h b i

pub below_append : (m : ℕ) (s t : List ℕ) → Below m s → Below m t → Below m (s ++ t)
below_append m [] t none b = b
below_append m (x ∷ s) t (more k a) b = more k (below_append m s t a b)

pub below_take : (m n : ℕ) (l : List ℕ) → Below m l → Below m (take n l)
below_take m zero l b = none
below_take m (suc n) [] none = none
below_take m (suc n) (x ∷ l) (more k b) = more k (below_take m n l b)

pub below_drop : (m n : ℕ) (l : List ℕ) → Below m l → Below m (drop n l)
below_drop m zero l b = b
below_drop m (suc n) [] none = none
below_drop m (suc n) (x ∷ l) (more k b) = below_drop m n l b

pub below_set : (m d v : ℕ) (l : List ℕ) → v < m → Below m l → Below m (set l d v)
below_set m d v [] h none = none
below_set m zero v (x ∷ l) h (more k b) = more h b
below_set m (suc d) v (x ∷ l) h (more k b) = more k (below_set m d v l h b)

pub below_replicate : (m n x : ℕ) → x < m → Below m (replicate n x)
below_replicate m zero x h = none
below_replicate m (suc n) x h = more h (below_replicate m n x h)

pub below_splice : (m at : ℕ) (p l : List ℕ) → Below m p → Below m l → Below m (splice at p l)
unfolding splice
below_splice m at p l a b =
    below_append m (take at l ++ p) (drop (at + length p) l) (below_append m (take at l) p (below_take m at l b) a) (below_drop m (at + length p) l b)

pub below_digits : (n x : ℕ) → Below 2 (digits n x)
unfolding digits
below_digits zero x = none
below_digits (suc n) x = let h : x % 2 < 2 = omega arith in more h (below_digits n (x / 2))

pub below_bits : (s : List ℕ) → Below 2 (bits s)
unfolding bits
below_bits [] = none
below_bits (b ∷ s) = below_append 2 (digits 8 b) (bits s) (below_digits 8 b) (below_bits s)

pub below_bits_at : (p n : ℕ) (s : List ℕ) → Below 2 (bits_at p n s)
unfolding bits_at
below_bits_at p n s = below_take 2 n (drop p (bits s)) (below_drop 2 p (bits s) (below_bits s))
