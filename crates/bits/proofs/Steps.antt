-- What the code computes, as bits: fields, shifted words, runs of one bit, counts; and a turn of each loop. Assumes nothing.
use mathlib.Core.Path.{◌≡◌, refl, sym, ap, ◌∙◌}
use Prim.Native.Nat.{ℕ, zero, suc, ◌+◌, ◌*◌, ◌-◌, ◌/◌, ◌%◌, ◌^◌, ◌≤◌, ◌<◌}
use native.Mathlib.Nat.{add-zero, mul-zero, mul-one, one-mul, add_comm, mod-lt, mul-mod_left, div-one, div-eq_of_lt, lt_of_lt_of_le, pow-suc}
use native.Mathlib.Numerals.{add-one}
use native.Mathlib.Omega.{arith}
use mathlib.Core.List.{List, [], ◌++◌, append-nil}
use lib.ListN.{length, take, drop, get_or, set, replicate, length-replicate, replicate-append-replicate}
use lib.Seq.{drop-cons, take-append-le}
use lib.Arith.{mod-mul, digits_lt, lt-one}
use lib.Count.{ones, ones_in, ones_step}
use lib.Pow.{pow-add, pow_pos, pow_mono, high, shl_exact, shr_lt, shl-shr}
use lib.Dec.{lit<}
use Rattle.number.specs.Number.{number, encode, splice}
use Rattle.bits.specs.Bits.{digits, bits, zeros, bits_at, put_bits}
use Rattle.bits.proofs.Laws.{length_digits, digits_add, digits_low, digits_mod', digits_zero, digits_part, length_bits, drop_bits, bits_splice, bits_field, bits_set, splice_same, Below, none, more, below_set, below_splice, below_replicate, below_bits_at}
use Rattle.bits.proofs.Puts.{pad_at, pad_in, put_nil, put_of, put_put, below_put, length_bits_at, bits_at_add, zeros_add}

-- ---- at the machine's shifts

pub one_shl_word : (k : ℕ) → k < 64 → 1 * 2 ^ k % 2 ^ 64 ≡ 2 ^ k
one_shl_word k h = shl_exact 1 k 64 (lit< tt) (omega arith) ∙ one-mul (2 ^ k)

pub one_shl : (k : ℕ) → k ≤ 8 → 1 * 2 ^ k % 2 ^ 16 ≡ 2 ^ k
one_shl k h = shl_exact 1 k 16 (lit< tt) (omega arith) ∙ one-mul (2 ^ k)

pub one_shl_pos : (k : ℕ) → k ≤ 8 → 1 ≤ 1 * 2 ^ k % 2 ^ 16
one_shl_pos k h = rw one_shl (pow_pos k)

pub pow_le_byte : (k : ℕ) → k ≤ 8 → 2 ^ k ≤ 256
pow_le_byte k h = pow_mono h

pub low_lt : (x k : ℕ) → x % 2 ^ k < 2 ^ k
low_lt x k = mod-lt x (pow_pos k)

-- a field out of w bytes, as the code takes it
pub field_is : (w q j k x : ℕ) (s : List ℕ) → ((i : ℕ) → get_or s i 0 < 256) → q + w ≤ length s → j + k ≤ 8 * w
    → x ≡ number w (drop q s) → digits k (x / 2 ^ j % 2 ^ k) ≡ bits_at (8 * q + j) k s
unfolding bits_at
field_is w q j k x s u h l e = rw (digits_mod', e) (sym (bits_field w q j k s u h l))

-- ---- a byte's lowest h bits, f above them, and zeros above that

module _ (x f h k : ℕ) (hk : h + k ≤ 8) (fk : f < 2 ^ k) where
  put_value : x % 2 ^ h + f * 2 ^ h % 2 ^ 16 ≡ f * 2 ^ h + x % 2 ^ h
  put_value =
      rw (shl_exact k h 16 fk (omega arith)) (add_comm (x % 2 ^ h) (f * 2 ^ h))

  pub put_lt : x % 2 ^ h + f * 2 ^ h % 2 ^ 16 < 256
  put_lt =
      let e : 2 ^ (k + h) ≤ 256 = pow_le_byte (k + h) (omega arith) in
      let l : f * 2 ^ h + x % 2 ^ h < 2 ^ k * 2 ^ h = digits_lt fk (mod-lt x (pow_pos h)) in
      rw put_value (lt_of_lt_of_le (rw (← pow-add 2 k h) at l) e)

  put_digits : digits 8 (f * 2 ^ h + x % 2 ^ h) ≡ digits h x ++ (digits k f ++ replicate (8 - (h + k)) 0)
  put_digits =
      let r = 8 - (h + k) in
      let e : 8 ≡ h + (k + r) = omega arith in
      ap (λ (n : ℕ). digits n (f * 2 ^ h + x % 2 ^ h)) e
      ∙ rw (digits_add h (k + r), digits_low, digits_mod', high f h (mod-lt x (pow_pos h)), digits_add k r f, div-eq_of_lt fk, digits_zero)

bits_below : (d h : ℕ) (s : List ℕ) → d < length s → h ≤ 8 → digits h (get_or s d 0) ≡ take h (drop (8 * d) (bits s))
unfolding bits
bits_below d h s l m =
    let n : length (digits 8 (get_or s d 0)) ≡ 8 = length_digits 8 (get_or s d 0) in
    let p : take h (digits 8 (get_or s d 0)) ≡ digits h (get_or s d 0) = digits_part 8 0 h (get_or s d 0) (omega arith) ∙ rw div-one in
    sym (rw (drop_bits, drop-cons s d 0 l, take-append-le h (digits 8 (get_or s d 0)) (bits (drop (suc d) s)) (omega arith), p))

put_is : (d h k f : ℕ) (s : List ℕ) → d < length s → h + k ≤ 8 → f < 2 ^ k
    → bits (set s d (get_or s d 0 % 2 ^ h + f * 2 ^ h % 2 ^ 16)) ≡ splice (8 * d + h) (digits k f ++ replicate (8 - (h + k)) 0) (bits s)
put_is d h k f s l hk fk =
    let x = get_or s d 0 in
    rw (
      put_value x f h k hk fk,
      bits_set d (f * 2 ^ h + x % 2 ^ h) s l,
      put_digits x f h k hk fk,
      bits_below d h s l (omega arith),
      splice_same (8 * d) h (digits k f ++ replicate (8 - (h + k)) 0) (bits s) (rw length_bits (omega arith)),
    )

pub put_set : (d h k f : ℕ) (s : List ℕ) → Below 256 s → 1 ≤ k → d < length s → h + k ≤ 8 → f < 2 ^ k
    → set s d (get_or s d 0 % 2 ^ h + f * 2 ^ h % 2 ^ 16) ≡ put_bits (8 * d + h) (digits k f) s
put_set d h k f s u o l hk fk =
    let e : (8 * d + h) % 8 ≡ h = omega arith in
    put_of (set s d (get_or s d 0 % 2 ^ h + f * 2 ^ h % 2 ^ 16)) s (digits k f) (8 * d + h)
    (below_set 256 d _ s (put_lt (get_or s d 0) f h k hk fk) u)
    (put_is d h k f s l hk fk ∙ rw (length_digits, pad_in (8 * d + h) k o (rw e hk), e))

-- ---- a number of w bits: the k lowest are x, the others the lowest of y

module _ (w k x y : ℕ) (kw : k ≤ w) (xk : x < 2 ^ k) where
  pow_part : 2 ^ w ≡ 2 ^ (w - k) * 2 ^ k
  pow_part =
      let e : w ≡ (w - k) + k = omega arith in
      ap (λ (n : ℕ). 2 ^ n) e ∙ pow-add 2 (w - k) k

  shl_part : y * 2 ^ k % 2 ^ w ≡ (y % 2 ^ (w - k)) * 2 ^ k
  shl_part =
      rw (pow_part, mod-mul (y * 2 ^ k) (pow_pos (w - k)) (pow_pos k), shl-shr y k, mul-mod_left, add-zero)

  joined : x + y * 2 ^ k % 2 ^ w ≡ (y % 2 ^ (w - k)) * 2 ^ k + x
  joined = rw shl_part (add_comm x ((y % 2 ^ (w - k)) * 2 ^ k))

  pub joined_lt : x + y * 2 ^ k % 2 ^ w < 2 ^ w
  joined_lt = rw joined (omega (arith, digits_lt (mod-lt y (pow_pos (w - k))) xk, pow_part))

  joined_digits : digits w (x + y * 2 ^ k % 2 ^ w) ≡ digits k x ++ digits (w - k) y
  joined_digits =
      let e : w ≡ k + (w - k) = omega arith in
      ap (λ (n : ℕ). digits n (x + y * 2 ^ k % 2 ^ w)) e
      ∙ rw (joined, digits_add k (w - k), digits_low, high (y % 2 ^ (w - k)) k xk, digits_mod')

-- the bits of a word, as the code takes them
part_is : (w q j k : ℕ) (s : List ℕ) → ((i : ℕ) → get_or s i 0 < 256) → q + w ≤ length s → j + k ≤ 8 * w → digits k (number w (drop q s) / 2 ^ j) ≡ bits_at (8 * q + j) k s
unfolding bits_at
part_is w q j k s u h l = sym (bits_field w q j k s u h l)

low_is : (w q k : ℕ) (s : List ℕ) → ((i : ℕ) → get_or s i 0 < 256) → q + w ≤ length s → k ≤ 8 * w → digits k (number w (drop q s)) ≡ bits_at (8 * q) k s
low_is w q k s u h l = simp (add-zero, div-one) at (part_is w q 0 k s u h (omega arith))

pub word_is : (w q : ℕ) (s : List ℕ) → ((i : ℕ) → get_or s i 0 < 256) → q + w ≤ length s → digits (8 * w) (number w (drop q s)) ≡ bits_at (8 * q) (8 * w) s
word_is w q s u h = low_is w q (8 * w) s u h (omega arith)

pub shift_is : (w q j : ℕ) (s : List ℕ) → ((i : ℕ) → get_or s i 0 < 256) → 1 ≤ w → j ≤ 8 → q + 1 + w ≤ length s
    → digits (8 * w) (number w (drop q s) / 2 ^ j % 2 ^ (8 - j) + number w (drop (q + 1) s) * 2 ^ (8 - j) % 2 ^ (8 * w)) ≡ bits_at (8 * q + j) (8 * w) s
shift_is w q j s u o h l =
    let k = 8 - j in
    let x = number w (drop q s) in
    let y = number w (drop (q + 1) s) in
    let e : k + (8 * w - k) ≡ 8 * w = omega arith in
    let f : 8 * q + j + k ≡ 8 * (q + 1) = omega arith in
    let a : digits k (x / 2 ^ j) ≡ bits_at (8 * q + j) k s = part_is w q j k s u (omega arith) (omega arith) in
    let b : digits (8 * w - k) y ≡ bits_at (8 * (q + 1)) (8 * w - k) s = low_is w (q + 1) (8 * w - k) s u l (omega arith) in
    joined_digits (8 * w) k (x / 2 ^ j % 2 ^ k) y (omega arith) (mod-lt (x / 2 ^ j) (pow_pos k))
    ∙ rw (digits_mod', a, b, ← f, ← bits_at_add (8 * q + j) k (8 * w - k) s, e)

-- ---- numbers and runs of bytes as bits

digits_none : (x : ℕ) → digits 0 x ≡ []
unfolding digits
digits_none x = refl

bits_encode : (w n : ℕ) → bits (encode w n) ≡ digits (8 * w) n
unfolding bits encode
bits_encode zero n = sym (digits_none n)
bits_encode (suc w) n =
    let e : 8 * suc w ≡ 8 + 8 * w = omega arith in
    rw (e, digits_add 8 (8 * w) n, digits_mod' 8 n, bits_encode w (n / 256))

below_encode : (w n : ℕ) → Below 256 (encode w n)
unfolding encode
below_encode zero n = none
below_encode (suc w) n = let h : n % 256 < 256 = omega arith in more h (below_encode w (n / 256))

pub write_is : (w at v : ℕ) (s : List ℕ) → Below 256 s → splice at (encode w v) s ≡ put_bits (8 * at) (digits (8 * w) v) s
write_is w at v s u =
    put_of (splice at (encode w v) s) s (digits (8 * w) v) (8 * at) (below_splice 256 at (encode w v) s (below_encode w v) u)
    (bits_splice at (encode w v) s ∙ rw (bits_encode, length_digits, pad_at (8 * at) (8 * w) (omega arith), append-nil))

pub digits_ones : (k : ℕ) → digits k (2 ^ k - 1) ≡ replicate k 1
unfolding digits
digits_ones zero = refl
digits_ones (suc k) =
    let e : (2 ^ suc k - 1) % 2 ≡ 1 = rw pow-suc (omega (arith, pow_pos k)) in
    let d : (2 ^ suc k - 1) / 2 ≡ 2 ^ k - 1 = rw pow-suc (omega (arith, pow_pos k)) in
    rw (e, d, digits_ones k)

pub same_is : (k v : ℕ) → v ≤ 1 → digits k ((2 ^ k - 1) * v) ≡ replicate k v
same_is k zero h = rw mul-zero (digits_zero k)
same_is k (suc zero) h = rw mul-one (digits_ones k)
same_is k (suc (suc v)) h = absurd (omega arith)

pub same_lt : (k v : ℕ) → v ≤ 1 → (2 ^ k - 1) * v < 2 ^ k
same_lt k zero h = rw mul-zero (pow_pos k)
same_lt k (suc zero) h = rw mul-one (omega (arith, pow_pos k))
same_lt k (suc (suc v)) h = absurd (omega arith)

bits_same : (n v : ℕ) → v ≤ 1 → bits (replicate n (255 * v)) ≡ replicate (8 * n) v
unfolding bits
bits_same zero v h = refl
bits_same (suc n) v h =
    let e : 8 * suc n ≡ 8 + 8 * n = omega arith in
    rw (e, ← replicate-append-replicate 8 (8 * n) v, same_is 8 v h, bits_same n v h)

pub fill_is : (at n v : ℕ) (s : List ℕ) → Below 256 s → v ≤ 1 → splice at (replicate n (255 * v)) s ≡ put_bits (8 * at) (replicate (8 * n) v) s
fill_is at n v s u h =
    put_of (splice at (replicate n (255 * v)) s) s (replicate (8 * n) v) (8 * at)
    (below_splice 256 at (replicate n (255 * v)) s (below_replicate 256 n (255 * v) (omega arith)) u)
    (bits_splice at (replicate n (255 * v)) s ∙ rw (bits_same n v h, length-replicate, pad_at (8 * at) (8 * n) (omega arith), append-nil))

-- ---- one run after the other

pub copy_more : (p a n k : ℕ) (room body : List ℕ) → p + n + k ≤ 8 * length room → a + n + k ≤ 8 * length body
    → put_bits (p + n) (bits_at (a + n) k body) (put_bits p (bits_at a n body) room) ≡ put_bits p (bits_at a (n + k) body) room
copy_more p a n k room body h g =
    let e : length (bits_at a n body) ≡ n = length_bits_at a n body (omega arith) in
    let f : length (bits_at (a + n) k body) ≡ k = length_bits_at (a + n) k body g in
    rw bits_at_add (rw e at (put_put p (bits_at a n body) (bits_at (a + n) k body) room (below_bits_at a n body) (rw (e, f) h)))

pub same_more : (p n k v : ℕ) (room : List ℕ) → v ≤ 1 → p + n + k ≤ 8 * length room
    → put_bits (p + n) (replicate k v) (put_bits p (replicate n v) room) ≡ put_bits p (replicate (n + k) v) room
same_more p n k v room o h =
    let e : length (replicate n v) ≡ n = length-replicate n v in
    let f : length (replicate k v) ≡ k = length-replicate k v in
    rw (← replicate-append-replicate n k v) (rw e at (put_put p (replicate n v) (replicate k v) room (below_replicate 2 n v (omega arith)) (rw (e, f) h)))

-- ---- counts

-- the zeros and the ones of x are all its digits
zeros_ones : (n x : ℕ) → x < 2 ^ n → zeros (digits n x) + ones x ≡ n
unfolding zeros digits ones ones_in
zeros_ones zero x h = let e : x ≡ 0 = lt-one h in rw e
zeros_ones (suc n) x h =
    let t : x / 2 < 2 ^ n = shr_lt n 1 (rw add-one h) in
    rw ones_step (omega (arith, zeros_ones n (x / 2) t))

pub count_is : (k x : ℕ) (l : List ℕ) → x < 2 ^ k → digits k x ≡ l → k - ones x ≡ zeros l
count_is k x l h e = rw (← e) (omega (arith, zeros_ones k x h))

pub count_more : (p n k x : ℕ) (s : List ℕ) → x < 2 ^ k → digits k x ≡ bits_at (p + n) k s → zeros (bits_at p n s) + (k - ones x) ≡ zeros (bits_at p (n + k) s)
count_more p n k x s h e = rw (zeros_add, count_is k x (bits_at (p + n) k s) h e)

-- ---- a turn

pub copy_none : (p a : ℕ) (room body : List ℕ) → Below 256 room → room ≡ put_bits p (bits_at a 0 body) room
unfolding bits_at
copy_none p a room body u = sym (put_nil p room u)

pub zeros_none : (a : ℕ) (body : List ℕ) → 0 ≡ zeros (bits_at a 0 body)
unfolding bits_at zeros
zeros_none a body = refl

-- a word written after the first n bits
pub step_word : (w at p a n v : ℕ) (r body room new : List ℕ) → room ≡ put_bits p (bits_at a n body) r → 8 * at ≡ p + n
    → digits (8 * w) v ≡ bits_at (a + n) (8 * w) body → p + n + 8 * w ≤ 8 * length r → a + n + 8 * w ≤ 8 * length body
    → new ≡ splice at (encode w v) room → new ≡ put_bits p (bits_at a (n + 8 * w) body) r
step_word w at p a n v r body room new e f g h l q =
    let m : length (bits_at a n body) ≡ n = length_bits_at a n body (omega arith) in
    let u : Below 256 room = rw e (below_put p (bits_at a n body) r (below_bits_at a n body) (rw m (omega arith))) in
    q ∙ rw (write_is w at v room u, f, g, e) (copy_more p a n (8 * w) r body h l)

pub same_byte : (k v : ℕ) → k ≤ 8 → v ≤ 1 → (1 * 2 ^ k % 2 ^ 16 - 1) * v < 256
same_byte k v h o = rw one_shl (omega (arith, same_lt k v o, pow_le_byte k h))

-- three runs of bits, one after the other, counted each by itself
pub three_runs : (s : List ℕ) (p k m r n p₁ p₂ p₃ x y z : ℕ) → p₁ ≡ p → p₂ ≡ p + k → p₃ ≡ p + (k + m) → n ≡ (k + m) + r
    → x ≡ zeros (bits_at p₁ k s) → y ≡ zeros (bits_at p₂ m s) → z ≡ zeros (bits_at p₃ r s) → x + y + z ≡ zeros (bits_at p n s)
three_runs s p k m r n p₁ p₂ p₃ x y z e f g h a b c = rw (a, b, c, e, f, g, h, zeros_add p (k + m) r s, zeros_add p k m s)

-- the word that the code makes of two
pub word_lt : (j x y : ℕ) → j ≤ 8 → x / 2 ^ j % (1 * 2 ^ (8 - j) % 2 ^ 64) + y * 2 ^ (8 - j) % 2 ^ 64 < 2 ^ 64
word_lt j x y h =
    rw (one_shl_word (8 - j) (omega arith)) (joined_lt 64 (8 - j) (x / 2 ^ j % 2 ^ (8 - j)) y (omega arith) (mod-lt (x / 2 ^ j) (pow_pos (8 - j))))
