-- Laws of `packed` and `putBits`: bits and bytes determine each other; what a put changes, puts one after the other; runs of bits and their zeros. Assumes nothing.
use mathlib.Core.Path.{◌≡◌, refl, sym, ap, ◌∙◌}
use Prim.Native.Nat.{ℕ, zero, suc, ◌+◌, ◌*◌, ◌-◌, ◌/◌, ◌%◌, ◌^◌, ◌≤◌, ◌<◌}
use native.Mathlib.Nat.{add-zero, add_assoc, add-suc, pow-suc, lt_of_lt_of_le}
use native.Mathlib.Numerals.{add-one}
use native.Mathlib.Omega.{arith}
use mathlib.Core.List.{List, [], ◌∷◌, ◌++◌, append_assoc, append-nil}
use lib.ListN.{length, take, drop, get_or, replicate, length-append, length-take, length-drop, take-append-drop, length-replicate, get_or-replicate, get_or-append}
use lib.Seq.{drop-drop, take-add, take_at, drop_at, take-take, length-take-le, take-append-le, drop-append-add, get_or-append-add, get_or-take, get_or-drop}
use lib.Arith.{lt-one}
use lib.Pow.{pow_mono, shr_lt}
use Rattle.number.specs.Number.{splice}
use Rattle.number.proofs.Laws.{length_splice, splice_nil}
use Rattle.bits.specs.Bits.{digits, bits, value, pack, packed, zeros, pad, bits_at, put_bits}
use Rattle.bits.proofs.Laws.{length_digits, length_bits, take_bits, drop_bits, take_mid, Below, none, more, below_append, below_take, below_drop, below_replicate, below_splice, below_bits}

-- ---- a list of digits and its number

pub value_lt : (l : List ℕ) → Below 2 l → value l < 2 ^ length l
unfolding value
value_lt [] none = omega arith
value_lt (x ∷ l) (more k b) = rw pow-suc (omega (arith, value_lt l b))

pub digits_value : (l : List ℕ) → Below 2 l → digits (length l) (value l) ≡ l
unfolding digits value
digits_value [] none = refl
digits_value (x ∷ l) (more k b) =
    let m : (x + 2 * value l) % 2 ≡ x = omega arith in
    let d : (x + 2 * value l) / 2 ≡ value l = omega arith in
    rw (m, d, digits_value l b)

pub value_digits : (n x : ℕ) → x < 2 ^ n → value (digits n x) ≡ x
unfolding digits value
value_digits zero x h = sym (lt-one h)
value_digits (suc n) x h =
    let t : x / 2 < 2 ^ n = shr_lt n 1 (rw add-one h) in
    rw (value_digits n (x / 2) t) (omega arith)

-- ---- bytes and their bits

pack_bits : (s : List ℕ) → Below 256 s → pack (length s) (bits s) ≡ s
unfolding pack bits
pack_bits [] none = refl
pack_bits (b ∷ s) (more k u) =
    let n : length (digits 8 b) ≡ 8 = length_digits 8 b in
    rw (take_at (digits 8 b) (bits s) 8 n, drop_at (digits 8 b) (bits s) 8 n, value_digits 8 b k, pack_bits s u)

pub packed_bits : (s : List ℕ) → Below 256 s → packed (bits s) ≡ s
unfolding packed
packed_bits s u =
    let e : 8 * length s / 8 ≡ length s = omega arith in
    rw (length_bits, e, pack_bits s u)

bits_pack : (n : ℕ) (l : List ℕ) → Below 2 l → length l ≡ 8 * n → bits (pack n l) ≡ l
unfolding pack bits
bits_pack zero [] b h = refl
bits_pack zero (x ∷ l) b h = absurd (omega arith)
bits_pack (suc n) l b h =
    let e : length (take 8 l) ≡ 8 = length-take-le 8 l (omega arith) in
    let v = rw e at (digits_value (take 8 l) (below_take 2 8 l b)) in
    let d : length (drop 8 l) ≡ 8 * n = length-drop 8 l ∙ omega arith in
    rw (v, bits_pack n (drop 8 l) (below_drop 2 8 l b) d, take-append-drop)

pub bits_packed : (l : List ℕ) → Below 2 l → length l % 8 ≡ 0 → bits (packed l) ≡ l
unfolding packed
bits_packed l b h = bits_pack (length l / 8) l b (omega arith)

below_pack : (n : ℕ) (l : List ℕ) → Below 2 l → Below 256 (pack n l)
unfolding pack
below_pack zero l b = none
below_pack (suc n) l b =
    let h : length (take 8 l) ≤ 8 = omega (arith, length-take 8 l) in
    let v : value (take 8 l) < 256 = lt_of_lt_of_le (value_lt (take 8 l) (below_take 2 8 l b)) (pow_mono h) in
    more v (below_pack n (drop 8 l) (below_drop 2 8 l b))

pub below_packed : (l : List ℕ) → Below 2 l → Below 256 (packed l)
unfolding packed
below_packed l b = below_pack (length l / 8) l b

-- bytes with the same bits are the same
pub same_bits : (s t : List ℕ) → Below 256 s → Below 256 t → bits s ≡ bits t → s ≡ t
same_bits s t a b e = sym (packed_bits s a) ∙ ap packed e ∙ packed_bits t b

-- ---- parts of a splice

pub splice_take : (n at : ℕ) (p l : List ℕ) → n ≤ at → at ≤ length l → take n (splice at p l) ≡ take n l
unfolding splice
splice_take n at p l h g =
    rw (append_assoc, take-append-le n (take at l) _ (rw (length-take-le at l g) h), take-take n at l h)

pub splice_mid : (at : ℕ) (p l : List ℕ) → at ≤ length l → drop at (splice at p l) ≡ p ++ drop (at + length p) l
unfolding splice
splice_mid at p l g = rw (append_assoc, drop_at (take at l) _ at (length-take-le at l g))

pub splice_drop : (n at : ℕ) (p l : List ℕ) → at + length p ≤ n → at ≤ length l → drop n (splice at p l) ≡ drop n l
splice_drop n at p l h g =
    let e : n ≡ at + (length p + (n - (at + length p))) = omega arith in
    let f : at + length p + (n - (at + length p)) ≡ n = omega arith in
    ap (λ (m : ℕ). drop m (splice at p l)) e
    ∙ rw (← drop-drop, splice_mid at p l g, drop-append-add, drop-drop, f)

same_rest : (i : ℕ) (l m : List ℕ) → drop i l ≡ drop i m → get_or l i 0 ≡ get_or m i 0
same_rest i l m h =
    let e : i + 0 ≡ i = add-zero i in
    let a : get_or (drop i l) 0 0 ≡ get_or l i 0 = rw (get_or-drop, e) in
    let b : get_or (drop i m) 0 0 ≡ get_or m i 0 = rw (get_or-drop, e) in
    sym a ∙ ap (λ (x : List ℕ). get_or x 0 0) h ∙ b

-- a run put over what stood after the run t
pub splice_over : (b : ℕ) (t z p d : List ℕ) → length z ≤ length p → b + length t + length p ≤ length d
    → splice (b + length t) p (splice b (t ++ z) d) ≡ splice b (t ++ p) d
unfolding splice
splice_over b t z p d h g =
    let e : length (take b d ++ t) ≡ b + length t = simp (length-append, length-take-le b d (omega arith)) in
    let r = drop (b + length (t ++ z)) d in
    let a : take b d ++ (t ++ z) ++ r ≡ (take b d ++ t) ++ (z ++ r) = simp append_assoc in
    let n : length p ≡ length z + (length p - length z) = omega arith in
    let q : b + (length t + length z) + (length p - length z) ≡ b + length t + length p = omega arith in
    let w : drop (length p) (z ++ r) ≡ drop (b + length t + length p) d
    = ap (λ (m : ℕ). drop m (z ++ r)) n ∙ rw (drop-append-add, drop-drop, length-append, q) in
    let v : drop (b + length t + length p) ((take b d ++ t) ++ (z ++ r)) ≡ drop (b + length t + length p) d
    = ap (λ (m : ℕ). drop (m + length p) ((take b d ++ t) ++ (z ++ r))) (sym e) ∙ drop-append-add (take b d ++ t) (z ++ r) (length p) ∙ w in
    rw (a, take_at (take b d ++ t) (z ++ r) (b + length t) e, v, length-append) (rw (← add_assoc) (simp append_assoc))

-- ---- the bits left in the last byte

pub pad_fits : (p n l : ℕ) → p + n ≤ 8 * l → p + n + pad p n ≤ 8 * l
unfolding pad
pad_fits p zero l h = omega arith
pad_fits p (suc n) l h = omega arith

pub pad_at : (p n : ℕ) → (p + n) % 8 ≡ 0 → pad p n ≡ 0
unfolding pad
pad_at p zero h = refl
pad_at p (suc n) h = omega arith

pub pad_in : (p k : ℕ) → 1 ≤ k → p % 8 + k ≤ 8 → pad p k ≡ 8 - (p % 8 + k)
unfolding pad
pad_in p zero h l = absurd (omega arith)
pad_in p (suc k) h l = omega arith

pad_le : (p n k : ℕ) → 1 ≤ k → pad p n ≤ k + pad (p + n) k
unfolding pad
pad_le p n zero h = absurd (omega arith)
pad_le p zero (suc k) h = omega arith
pad_le p (suc n) (suc k) h = omega arith

pad_more : (p n k : ℕ) → 1 ≤ k → pad (p + n) k ≡ pad p (n + k)
unfolding pad
pad_more p n zero h = absurd (omega arith)
pad_more p n (suc k) h = let e : n + suc k ≡ suc (n + k) = add-suc n k in rw e (omega arith)

pub pad_lt : (p n : ℕ) → pad p n < 8
unfolding pad
pad_lt p zero = omega arith
pad_lt p (suc n) = omega arith

-- ---- puts

pub put_nil : (p : ℕ) (s : List ℕ) → Below 256 s → put_bits p [] s ≡ s
unfolding put_bits pad
put_nil p s u = rw splice_nil (packed_bits s u)

-- bytes whose bits are those of a put
pub put_of : (e s vs : List ℕ) (p : ℕ) → Below 256 e → bits e ≡ splice p (vs ++ replicate (pad p (length vs)) 0) (bits s) → e ≡ put_bits p vs s
unfolding put_bits
put_of e s vs p u h = sym (packed_bits e u) ∙ ap packed h

below_run : (p : ℕ) (vs : List ℕ) → Below 2 vs → Below 2 (vs ++ replicate (pad p (length vs)) 0)
below_run p vs b = below_append 2 vs (replicate (pad p (length vs)) 0) b (below_replicate 2 (pad p (length vs)) 0 (omega arith))

length_run : (p : ℕ) (vs : List ℕ) → length (vs ++ replicate (pad p (length vs)) 0) ≡ length vs + pad p (length vs)
length_run p vs = simp (length-append, length-replicate)

module _ (p : ℕ) (vs s : List ℕ) (b : Below 2 vs) (fits : p + length vs ≤ 8 * length s) where
  run_fits : p + length (vs ++ replicate (pad p (length vs)) 0) ≤ length (bits s)
  run_fits = rw (length_run, length_bits) (omega (arith, pad_fits p (length vs) (length s) fits))

  spliced : length (splice p (vs ++ replicate (pad p (length vs)) 0) (bits s)) ≡ 8 * length s
  spliced = length_splice p (vs ++ replicate (pad p (length vs)) 0) (bits s) run_fits ∙ length_bits s

  pub bits_put : bits (put_bits p vs s) ≡ splice p (vs ++ replicate (pad p (length vs)) 0) (bits s)
  unfolding put_bits
  bits_put =
      bits_packed (splice p (vs ++ replicate (pad p (length vs)) 0) (bits s)) (below_splice 2 p _ (bits s) (below_run p vs b) (below_bits s)) (rw spliced (omega arith))

  pub below_put : Below 256 (put_bits p vs s)
  unfolding put_bits
  below_put =
      below_packed (splice p (vs ++ replicate (pad p (length vs)) 0) (bits s)) (below_splice 2 p _ (bits s) (below_run p vs b) (below_bits s))

  pub length_put : length (put_bits p vs s) ≡ length s
  length_put = omega (arith, length_bits (put_bits p vs s), ap length bits_put, spliced)

  -- bits below p stay
  pub put_below : (i : ℕ) → i < p → get_or (bits (put_bits p vs s)) i 0 ≡ get_or (bits s) i 0
  put_below i h =
      let l : p ≤ length (bits s) = rw length_bits (omega arith) in
      rw (bits_put, ← get_or-take p (splice p (vs ++ replicate (pad p (length vs)) 0) (bits s)) i 0 h, splice_take p p (vs ++ replicate (pad p (length vs)) 0) (bits s) (omega arith) l, get_or-take p (bits s) i 0 h)

  from : drop p (bits (put_bits p vs s)) ≡ (vs ++ replicate (pad p (length vs)) 0) ++ drop (p + length (vs ++ replicate (pad p (length vs)) 0)) (bits s)
  from =
      rw bits_put (splice_mid p (vs ++ replicate (pad p (length vs)) 0) (bits s) (rw length_bits (omega arith)))

  -- the bits from p on are vs
  pub put_new : (i : ℕ) → i < length vs → get_or (bits (put_bits p vs s)) (p + i) 0 ≡ get_or vs i 0
  put_new i h = rw (← get_or-drop, from, append_assoc, get_or-append vs _ 0 i h)

  pub put_run : bits_at p (length vs) (put_bits p vs s) ≡ vs
  unfolding bits_at
  put_run = rw (from, append_assoc, take_at vs _ (length vs) refl)

  -- then zeros to the end of the byte
  pub put_pad : (i : ℕ) → i < pad p (length vs) → get_or (bits (put_bits p vs s)) (p + (length vs + i)) 0 ≡ 0
  put_pad i h =
      rw (← get_or-drop, from, append_assoc, get_or-append-add vs _ i 0, get_or-append {A = ℕ} (replicate (pad p (length vs)) 0) _ 0 i (rw length-replicate h), get_or-replicate {A = ℕ} (pad p (length vs)) i 0 0 h)

  -- the bits above stay
  pub put_above : (i : ℕ) → p + length vs + pad p (length vs) ≤ i → get_or (bits (put_bits p vs s)) i 0 ≡ get_or (bits s) i 0
  put_above i h =
      let l : p ≤ length (bits s) = rw length_bits (omega arith) in
      let d : drop i (bits (put_bits p vs s)) ≡ drop i (bits s)
      = rw bits_put (splice_drop i p (vs ++ replicate (pad p (length vs)) 0) (bits s) (rw length_run (omega arith)) l) in
      same_rest i (bits (put_bits p vs s)) (bits s) d

  -- runs of bits outside stay
  pub put_before : (q n : ℕ) → q + n ≤ p → bits_at q n (put_bits p vs s) ≡ bits_at q n s
  unfolding bits_at
  put_before q n h =
      let l : p ≤ length (bits s) = rw length_bits (omega arith) in
      let m : p ≤ length (bits (put_bits p vs s)) = rw (bits_put, spliced) (omega arith) in
      let e : take p (bits (put_bits p vs s)) ≡ take p (bits s) = rw bits_put (splice_take p p (vs ++ replicate (pad p (length vs)) 0) (bits s) (omega arith) l) in
      sym (take_mid q n p (bits (put_bits p vs s)) h m) ∙ ap (λ (x : List ℕ). take n (drop q x)) e ∙ take_mid q n p (bits s) h l

  pub put_after : (q n : ℕ) → p + length vs + pad p (length vs) ≤ q → bits_at q n (put_bits p vs s) ≡ bits_at q n s
  unfolding bits_at
  put_after q n h =
      rw (bits_put, splice_drop q p (vs ++ replicate (pad p (length vs)) 0) (bits s) (rw length_run (omega arith)) (rw length_bits (omega arith)))

  module _ (u : Below 256 s) where
    -- whole bytes below stay
    pub put_take : (k : ℕ) → 8 * k ≤ p → take k (put_bits p vs s) ≡ take k s
    put_take k h =
        same_bits (take k (put_bits p vs s)) (take k s) (below_take 256 k (put_bits p vs s) below_put) (below_take 256 k s u)
        (rw (← take_bits, bits_put, ← take_bits) (splice_take (8 * k) p _ (bits s) h (rw length_bits (omega arith))))

    -- whole bytes above stay
    pub put_drop : (k : ℕ) → p + length vs ≤ 8 * k → drop k (put_bits p vs s) ≡ drop k s
    put_drop k h =
        same_bits (drop k (put_bits p vs s)) (drop k s) (below_drop 256 k (put_bits p vs s) below_put) (below_drop 256 k s u)
        (rw (← drop_bits, bits_put, ← drop_bits) (splice_drop (8 * k) p _ (bits s) (rw length_run (omega (arith, pad_fits p (length vs) k h))) (rw length_bits (omega arith))))

    pub put_byte_below : (k : ℕ) → k < p / 8 → get_or (put_bits p vs s) k 0 ≡ get_or s k 0
    put_byte_below k h =
        sym (get_or-take (suc k) (put_bits p vs s) k 0 (omega arith)) ∙ rw (put_take (suc k) (omega arith)) (get_or-take (suc k) s k 0 (omega arith))

    pub put_byte_above : (k : ℕ) → (p + length vs + 7) / 8 ≤ k → get_or (put_bits p vs s) k 0 ≡ get_or s k 0
    put_byte_above k h =
        same_rest k (put_bits p vs s) s (put_drop k (omega arith))

joined : (p : ℕ) (vs ws s : List ℕ) → 1 ≤ length ws → p + length vs + length ws ≤ 8 * length s
    → splice (p + length vs) (ws ++ replicate (pad (p + length vs) (length ws)) 0) (splice p (vs ++ replicate (pad p (length vs)) 0) (bits s))
    ≡ splice p ((vs ++ ws) ++ replicate (pad p (length (vs ++ ws))) 0) (bits s)
joined p vs ws s h g =
    splice_over p vs (replicate (pad p (length vs)) 0) (ws ++ replicate (pad (p + length vs) (length ws)) 0) (bits s)
    (rw (length-replicate, length_run) (pad_le p (length vs) (length ws) h))
    (rw (length_run, length_bits) (omega (arith, pad_fits (p + length vs) (length ws) (length s) g)))
    ∙ rw (length-append, ← pad_more p (length vs) (length ws) h, append_assoc)

put_more : (p : ℕ) (vs ws s : List ℕ) → Below 2 vs → 1 ≤ length ws → p + length vs + length ws ≤ 8 * length s
    → put_bits (p + length vs) ws (put_bits p vs s) ≡ put_bits p (vs ++ ws) s
unfolding put_bits
put_more p vs ws s b l h = ap (λ (x : List ℕ). packed (splice (p + length vs) (ws ++ replicate (pad (p + length vs) (length ws)) 0) x)) (bits_put p vs s b (omega arith)) ∙ ap packed (joined p vs ws s l h)

-- a put after a put, at its end
pub put_put : (p : ℕ) (vs ws s : List ℕ) → Below 2 vs → p + length vs + length ws ≤ 8 * length s
    → put_bits (p + length vs) ws (put_bits p vs s) ≡ put_bits p (vs ++ ws) s
put_put p vs [] s b h = rw append-nil (put_nil (p + length vs) (put_bits p vs s) (below_put p vs s b (omega arith)))
put_put p vs (w ∷ ws) s b h = put_more p vs (w ∷ ws) s b (omega arith) h

-- ---- runs of bits

pub length_bits_at : (p n : ℕ) (s : List ℕ) → p + n ≤ 8 * length s → length (bits_at p n s) ≡ n
unfolding bits_at
length_bits_at p n s h = length-take-le n (drop p (bits s)) (simp (length-drop, length_bits) (omega arith))

pub bits_at_add : (p n k : ℕ) (s : List ℕ) → bits_at p (n + k) s ≡ bits_at p n s ++ bits_at (p + n) k s
unfolding bits_at
bits_at_add p n k s = rw (take-add, drop-drop)

pub bits_at_at : (p n i : ℕ) (s : List ℕ) → i < n → get_or (bits_at p n s) i 0 ≡ get_or (bits s) (p + i) 0
unfolding bits_at
bits_at_at p n i s h = rw (get_or-take n (drop p (bits s)) i 0 h, get_or-drop)

-- ---- zeros

pub zeros_of_zeros : (n : ℕ) → zeros (replicate n 0) ≡ n
unfolding zeros
zeros_of_zeros zero = refl
zeros_of_zeros (suc n) = rw (zeros_of_zeros n) (omega arith)

pub zeros_of_ones : (n : ℕ) → zeros (replicate n 1) ≡ 0
unfolding zeros
zeros_of_ones zero = refl
zeros_of_ones (suc n) = rw (zeros_of_ones n)

pub zeros_append : (x y : List ℕ) → zeros (x ++ y) ≡ zeros x + zeros y
unfolding zeros
zeros_append [] y = sym (omega arith)
zeros_append (x ∷ l) y = rw (zeros_append l y) (omega arith)

pub zeros_le : (l : List ℕ) → zeros l ≤ length l
unfolding zeros
zeros_le [] = omega arith
zeros_le (x ∷ l) = omega (arith, zeros_le l)

pub zeros_add : (p n k : ℕ) (s : List ℕ) → zeros (bits_at p (n + k) s) ≡ zeros (bits_at p n s) + zeros (bits_at (p + n) k s)
zeros_add p n k s = rw (bits_at_add, zeros_append)

pub zeros_bits_at : (p n : ℕ) (s : List ℕ) → zeros (bits_at p n s) ≤ n
unfolding bits_at
zeros_bits_at p n s = omega (arith, zeros_le (take n (drop p (bits s))), length-take n (drop p (bits s)))
