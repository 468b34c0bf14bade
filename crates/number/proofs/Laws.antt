-- Laws of `number`, `encode` and `splice`, over every width. Assumes nothing.
use mathlib.Core.Path.{◌≡◌, refl, sym, ap}
use Prim.Native.Nat.{ℕ, zero, suc, ◌+◌, ◌*◌, ◌/◌, ◌%◌, ◌^◌, ◌≤◌, ◌<◌}
use native.Mathlib.Nat.{add-zero, suc-add, zero-add, add_assoc, mul-zero, one-mul, pow-zero, pow-suc, pow-succ', one-le-pow, mod-one, div-one, mod-eq_of_lt, div-div-eq-div-mul}
use native.Mathlib.Numerals.{add-one}
use native.Mathlib.Omega.{arith}
use mathlib.Core.List.{List, [], ◌∷◌, ◌++◌, append_assoc, append-nil}
use lib.ListN.{length, take, drop, get_or, set, length-append, length-drop, take-append-drop}
use lib.Seq.{drop-drop, drop-cons, set_split, append_snoc, set_at, take_at, drop_at, length-take-le, drop-append-add}
use lib.Arith.{mod-mul, digits_mod, digits_div}
use Rattle.number.specs.Number.{number, encode, splice}

number_nil : (w : ℕ) → number w [] ≡ 0
unfolding number
number_nil zero = refl
number_nil (suc w) = refl

-- a number of a + b bytes: that of the first a, and above it that of the next b
pub number_add : (a b : ℕ) (s : List ℕ) → number (a + b) s ≡ number a s + 256 ^ a * number b (drop a s)
unfolding number
number_add zero b s = simp (zero-add, pow-zero, one-mul)
number_add (suc a) b [] = simp (suc-add, number_nil, mul-zero, add-zero)
number_add (suc a) b (x ∷ s) = simp (suc-add, number_add a b s, pow-suc) (omega arith)

pub halves : (a b at : ℕ) (s : List ℕ) → number (a + b) (drop at s) ≡ number a (drop at s) + 256 ^ a * number b (drop (at + a) s)
halves a b at s = rw (number_add a b (drop at s), drop-drop)

pub one : (at : ℕ) (s : List ℕ) → at < length s → number 1 (drop at s) ≡ get_or s at 0
unfolding number
one at s h = rw (drop-cons s at 0) (omega arith)

pub length_encode : (w n : ℕ) → length (encode w n) ≡ w
unfolding encode
length_encode zero n = refl
length_encode (suc w) n = ap suc (length_encode w (n / 256))

-- the digits of n below 256 ^ suc w
mod_suc : (w n : ℕ) → n % 256 ^ suc w ≡ (n / 256 % 256 ^ w) * 256 + n % 256
mod_suc w n = rw (pow-suc, mod-mul n {m = 256 ^ w} {c = 256} (one-le-pow w 256 (omega arith)) (omega arith))

pub encode_mod : (w n : ℕ) → encode w (n % 256 ^ w) ≡ encode w n
unfolding encode
encode_mod zero n = refl
encode_mod (suc w) n =
    let low : n % 256 < 256 = omega arith in
    rw mod_suc (rw (digits_mod (n / 256 % 256 ^ w) low, digits_div (n / 256 % 256 ^ w) low, encode_mod w (n / 256)))

pub encode_add : (a b n : ℕ) → encode (a + b) n ≡ encode a n ++ encode b (n / 256 ^ a)
unfolding encode
encode_add zero b n = simp (zero-add, pow-zero, div-one)
encode_add (suc a) b n = rw (suc-add, pow-succ', ← div-div-eq-div-mul, encode_add a b (n / 256))

pub splice_splice : (at : ℕ) (p q s : List ℕ) → at + length p + length q ≤ length s → splice (at + length p) q (splice at p s) ≡ splice at (p ++ q) s
unfolding splice
splice_splice at p q s h =
    let e : length (take at s ++ p) ≡ at + length p = simp (length-append, length-take-le at s (omega arith)) in
    let d : drop (at + length p + length q) (take at s ++ p ++ drop (at + length p) s) ≡ drop (at + length p + length q) s
    = rw (← e, drop-append-add, e, drop-drop) in
    rw (take_at (take at s ++ p) (drop (at + length p) s) (at + length p) e, d, length-append, ← append_assoc, add_assoc)

pub length_splice : (at : ℕ) (p s : List ℕ) → at + length p ≤ length s → length (splice at p s) ≡ length s
unfolding splice
length_splice at p s h = simp (length-append, length-take-le at s (omega arith), length-drop) (omega arith)

-- the two halves written one after the other are the whole
pub put_halves : (a b at n : ℕ) (s : List ℕ) → at + (a + b) ≤ length s
    → splice (at + a) (encode b (n / 256 ^ a)) (splice at (encode a (n % 256 ^ a)) s) ≡ splice at (encode (a + b) n) s
put_halves a b at n s h =
    let e : length (encode a n) ≡ a = length_encode a n in
    rw (encode_mod, encode_add) (rw e at (splice_splice at (encode a n) (encode b (n / 256 ^ a)) s (simp length_encode (omega arith))))

pub put_one : (at x : ℕ) (s : List ℕ) → at < length s → x < 256 → set s at x ≡ splice at (encode 1 x) s
unfolding splice encode
put_one at x s h k = rw (set_split s at x h, mod-eq_of_lt k, append_snoc, add-one)

-- what is read is what was written
pub number_encode : (w n : ℕ) (t : List ℕ) → number w (encode w n ++ t) ≡ n % 256 ^ w
unfolding number encode
number_encode zero n t = sym (simp (pow-zero, mod-one))
number_encode (suc w) n t = rw (mod_suc, number_encode w (n / 256) t) (omega arith)

pub read_write : (w at n : ℕ) (s : List ℕ) → at + w ≤ length s → number w (drop at (splice at (encode w n) s)) ≡ n % 256 ^ w
unfolding splice
read_write w at n s h = rw (append_assoc, drop_at (take at s) _ at (length-take-le at s (omega arith)), number_encode)

pub number_lt : (w : ℕ) (s : List ℕ) → ((i : ℕ) → get_or s i 0 < 256) → number w s < 256 ^ w
unfolding number
number_lt zero s h = omega arith
number_lt (suc w) [] h = one-le-pow (suc w) 256 (omega arith)
number_lt (suc w) (x ∷ s) h = rw pow-suc (omega (arith, h 0, number_lt w s (λ i. h (suc i))))

-- the bytes of a number that was read are those that it was read from
pub encode_number : (w : ℕ) (s : List ℕ) → w ≤ length s → ((i : ℕ) → get_or s i 0 < 256) → encode w (number w s) ≡ take w s
unfolding number encode
encode_number zero s l h = refl
encode_number (suc w) [] l h = absurd (omega arith)
encode_number (suc w) (b ∷ s) l h =
    let low : b < 256 = h 0 in
    let m : (b + 256 * number w s) % 256 ≡ b = omega arith in
    let d : (b + 256 * number w s) / 256 ≡ number w s = omega arith in
    rw (m, d, encode_number w s (omega arith) (λ i. h (suc i)))

-- ---- a run that grows at its end

pub splice_nil : (at : ℕ) (s : List ℕ) → splice at [] s ≡ s
unfolding splice
splice_nil at s = simp (add-zero, append-nil, take-append-drop)

-- one more element after the run
pub splice_snoc : (at : ℕ) (p s : List ℕ) (x : ℕ) → at + length p < length s
    → set (splice at p s) (at + length p) x ≡ splice at (p ++ (x ∷ [])) s
unfolding splice
splice_snoc at p s x h =
    let e : length (take at s ++ p) ≡ at + length p = simp (length-append, length-take-le at s (omega arith)) in
    rw (drop-cons s (at + length p) 0, set_at (take at s ++ p) _ _ x (at + length p) e, length-append, ← append_assoc, append_snoc, ← add_assoc, add-one)
