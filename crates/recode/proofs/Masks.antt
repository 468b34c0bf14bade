-- Laws of entries times 0 or 1, over every width: keys under nulls become 0. Assumes nothing.
use Rattle.std.proofs.Common.{◌≡◌, ℕ, zero, suc, ◌+◌, ◌*◌, ◌/◌, ◌%◌, ◌^◌, ◌<◌, ◌≤◌, cond, eqb, List, ◌++◌, length, get_or, take, drop, sym, refl, ap, ◌∙◌, append_assoc, append-nil, add-zero, add-suc, mul-le-mul_left, mul-zero, mul-one, mul-add, arith, length-append, length-take-le, drop-drop, take_at, drop_at}
use lib.Seq.{drop-append-add}
use Rattle.number.specs.Number.{number, encode, entry, splice}
use Rattle.number.proofs.Laws.{encode_mod, splice_splice}
use Rattle.bits.specs.Bits.{bits}
use Rattle.bits.proofs.Laws.{bit_at, below_at_lem, below_bits}
use Rattle.utils.specs.Pieces.{pieces, numbers}
use Rattle.utils.proofs.Pieces.{pieces_none, pieces_same, numbers_step, numbers_same, length_numbers, entry_splice}
use Rattle.utils.proofs.Laws.{first_entry_lem}
use Rattle.recode.specs.Recode.{recoded, masked, valid_only}

-- ---- places

pub scale_le : (w i n : ℕ) → i ≤ n → w * i ≤ w * n
scale_le w i n h = mul-le-mul_left w h

pub fits_part : (w at i n m : ℕ) → i ≤ n → at + w * n ≤ m → at + w * i ≤ m
fits_part w at i n m h l = omega (arith, scale_le w i n h)

pub fits_two : (w at a b n m : ℕ) → a + b ≤ n → at + w * n ≤ m → at + w * a + w * b ≤ m
fits_two w at a b n m h l = omega (arith, scale_le w (a + b) n h, mul-add w a b)

pub fits_entry : (w at i n m : ℕ) → i < n → at + w * n ≤ m → at + w * i + w ≤ m
fits_entry w at i n m h l = rw mul-one at (fits_two w at i 1 n m (omega arith) l)

drop_splice : (at j : ℕ) (p s : List ℕ) → at ≤ length s → drop (at + length p + j) (splice at p s) ≡ drop (at + length p + j) s
unfolding splice
drop_splice at j p s h =
    let e : length (take at s ++ p) ≡ at + length p = simp (length-append, length-take-le at s h) in
    rw (← e, drop-append-add, e, drop-drop)

-- an entry behind those that were written
entry_behind : (w : ℕ) (room p : List ℕ) (at a k : ℕ) → length p ≡ w * a → at ≤ length room → entry w (splice at p room) (at + w * a) k ≡ entry w room at (a + k)
entry_behind w room p at a k e h =
    let d : drop (at + length p + w * k) (splice at p room) ≡ drop (at + length p + w * k) room = drop_splice at (w * k) p room h in
    let m : at + w * a + w * k ≡ at + w * (a + k) = omega arith in
    ap (number w) ((rw e at d) ∙ rw m refl)

pub numbers_join : (w : ℕ) (g : ℕ → ℕ) (a m : ℕ) → numbers w g (a + m) ≡ numbers w g a ++ numbers w (λ k. g (a + k)) m
unfolding pieces
numbers_join w g a zero = rw (add-zero, append-nil) refl
numbers_join w g a (suc m) = rw (add-suc, numbers_join w g a m, append_assoc) refl

pub masked_none : (w : ℕ) (room : List ℕ) (at : ℕ) (f : ℕ → ℕ) → splice at (masked w room at f 0) room ≡ room
unfolding masked
masked_none w room at f = pieces_none _ at room

-- m entries behind the first a
pub masked_join : (w : ℕ) (room : List ℕ) (at : ℕ) (f g : ℕ → ℕ) (a m : ℕ) → at + w * (a + m) ≤ length room → ((k : ℕ) → k < m → g k ≡ f (a + k))
    → splice (at + w * a) (masked w (splice at (masked w room at f a) room) (at + w * a) g m) (splice at (masked w room at f a) room)
    ≡ splice at (masked w room at f (a + m)) room
unfolding masked
masked_join w room at f g a m l h =
    let p = numbers w (λ k. entry w room at k * f k) a in
    let e : length p ≡ w * a = length_numbers w (λ k. entry w room at k * f k) a in
    let q = numbers w (λ k. entry w room at (a + k) * f (a + k)) m in
    let d : numbers w (λ k. entry w (splice at p room) (at + w * a) k * g k) m ≡ q
    = numbers_same w (λ k. entry w (splice at p room) (at + w * a) k * g k) (λ k. entry w room at (a + k) * f (a + k)) m
    (λ k o. rw (entry_behind w room p at a k e (omega arith), h k o) refl) in
    let o : length q ≡ w * m = length_numbers w (λ k. entry w room at (a + k) * f (a + k)) m in
    let j : splice (at + length p) q (splice at p room) ≡ splice at (p ++ q) room = splice_splice at p q room (rw (e, o) (omega arith)) in
    rw (d, numbers_join w (λ k. entry w room at k * f k) a m) (rw e at j)

-- .. from a room that is known by an equation
pub masked_turn : (w : ℕ) (room : List ℕ) (at : ℕ) (f g : ℕ → ℕ) (a m n : ℕ) (r r' : List ℕ) → at + w * n ≤ length room → a + m ≡ n
    → ((k : ℕ) → k < m → g k ≡ f (a + k)) → r ≡ splice at (masked w room at f a) room → r' ≡ splice (at + w * a) (masked w r (at + w * a) g m) r
    → r' ≡ splice at (masked w room at f n) room
masked_turn w room at f g a m n r r' l s h e d = d ∙ rw (e, ← s) (masked_join w room at f g a m (rw s l) h)

-- one entry, which was read as v
pub masked_step : (w : ℕ) (room : List ℕ) (at : ℕ) (f : ℕ → ℕ) (i v b : ℕ) → at + w * (i + 1) ≤ length room
    → v ≡ number w (drop (at + w * i) (splice at (masked w room at f i) room)) → b ≡ f i
    → splice (at + w * i) (encode w (v * b)) (splice at (masked w room at f i) room) ≡ splice at (masked w room at f (i + 1)) room
unfolding masked
masked_step w room at f i v b l e d =
    let p = numbers w (λ k. entry w room at k * f k) i in
    let o : length p ≡ w * i = length_numbers w (λ k. entry w room at k * f k) i in
    let q : v ≡ entry w room at i
    = e ∙ first_entry_lem w (splice at p room) (at + w * i) ∙ entry_behind w room p at i 0 o (omega arith) ∙ ap (entry w room at) (add-zero i) in
    rw (q, d) (numbers_step w (λ k. entry w room at k * f k) room at i l)

-- .. in a room that is known by an equation
pub row_turn : (w : ℕ) (room : List ℕ) (at : ℕ) (f : ℕ → ℕ) (i n b : ℕ) (r r' : List ℕ) → at + w * n ≤ length room → i < n → b ≡ f i
    → r ≡ splice at (masked w room at f i) room → r' ≡ splice (at + w * i) (encode w (number w (drop (at + w * i) r) * b)) r
    → r' ≡ splice at (masked w room at f (i + 1)) room
row_turn w room at f i n b r r' l o d e q =
    q ∙ rw e (masked_step w room at f i _ b (fits_part w at (i + 1) n (length room) (omega arith) l) refl d)

-- the bits of a byte
pub byte_bits : (s : List ℕ) (q k : ℕ) → k < 8 → get_or s q 0 / 2 ^ k % 2 ≡ get_or (bits s) (8 * q + k) 0
byte_bits s q k l =
    let a : (8 * q + k) / 8 ≡ q = omega arith in
    let b : (8 * q + k) % 8 ≡ k = omega arith in
    sym (bit_at s (8 * q + k) ∙ rw (a, b) refl)

-- a second write over the first
splice_over : (at : ℕ) (p q s : List ℕ) → length p ≡ length q → at + length p ≤ length s → splice at q (splice at p s) ≡ splice at q s
unfolding splice
splice_over at p q s e l =
    let t : length (take at s) ≡ at = length-take-le at s (omega arith) in
    let g : length (take at s ++ p) ≡ at + length q = simp (length-append, t, e) in
    let a : take at ((take at s ++ p) ++ drop (at + length p) s) ≡ take at s = rw append_assoc (take_at (take at s) (p ++ drop (at + length p) s) at t) in
    let b : drop (at + length q) ((take at s ++ p) ++ drop (at + length p) s) ≡ drop (at + length p) s = drop_at (take at s ++ p) (drop (at + length p) s) (at + length q) g in
    let d : drop (at + length p) s ≡ drop (at + length q) s = ap (λ (x : ℕ). drop (at + x) s) e in
    ap (λ (x : List ℕ). (x ++ q) ++ drop (at + length q) ((take at s ++ p) ++ drop (at + length p) s)) a ∙ ap (λ (x : List ℕ). (take at s ++ q) ++ x) (b ∙ d)

-- keys that were written, and then made 0 under nulls
pub valid_join : (w w' : ℕ) (s room : List ℕ) (from at p n : ℕ) → at + w' * n ≤ length room
    → splice at (masked w' (splice at (recoded w w' s from n) room) at (λ k. get_or (bits s) (p + k) 0) n) (splice at (recoded w w' s from n) room)
    ≡ splice at (valid_only w w' s from p n) room
unfolding masked recoded valid_only
valid_join w w' s room from at p n l =
    let r = numbers w' (entry w s from) n in
    let er : length r ≡ w' * n = length_numbers w' (entry w s from) n in
    let f : ℕ → ℕ = λ k. get_or (bits s) (p + k) 0 in
    let same : pieces (λ k. encode w' (entry w' (splice at r room) at k * f k)) n ≡ pieces (λ k. encode w' (entry w s from k * f k)) n
    = pieces_same (λ k. encode w' (entry w' (splice at r room) at k * f k)) (λ k. encode w' (entry w s from k * f k)) n
    (λ k o. rw (entry_splice w' (entry w s from) n at room l k o) (one k)) in
    let el : length (numbers w' (λ k. entry w s from k * f k) n) ≡ w' * n = length_numbers w' (λ k. entry w s from k * f k) n in
    rw same (splice_over at r (numbers w' (λ k. entry w s from k * f k) n) room (er ∙ sym el) (rw er l))
  where
    one : (k : ℕ) → encode w' ((entry w s from k % 256 ^ w') * get_or (bits s) (p + k) 0) ≡ encode w' (entry w s from k * get_or (bits s) (p + k) 0)
    one k = go (get_or (bits s) (p + k) 0) (below_at_lem 2 (bits s) (omega arith) (below_bits s) (p + k))
      where
        go : (b : ℕ) → b < 2 → encode w' ((entry w s from k % 256 ^ w') * b) ≡ encode w' (entry w s from k * b)
        go zero h = rw (mul-zero, mul-zero) refl
        go (suc zero) h = rw (mul-one, mul-one) (encode_mod w' (entry w s from k))
        go (suc (suc b)) h = absurd (omega arith)

pub valid_done : (w w' : ℕ) (s room : List ℕ) (from at p n : ℕ) (r r' : List ℕ) → at + w' * n ≤ length room → r ≡ splice at (recoded w w' s from n) room
    → r' ≡ splice at (masked w' r at (λ k. get_or (bits s) (p + k) 0) n) r → r' ≡ splice at (valid_only w w' s from p n) room
valid_done w w' s room from at p n r r' l e d = d ∙ rw e (valid_join w w' s room from at p n l)

-- a key where its bit is 1, else 0
pub valid_is : (w w' : ℕ) (s : List ℕ) (from p n : ℕ)
    → valid_only w w' s from p n ≡ numbers w' (λ k. cond (eqb (get_or (bits s) (p + k) 0) 1) (entry w s from k) 0) n
unfolding valid_only
valid_is w w' s from p n =
    numbers_same w' (λ k. entry w s from k * get_or (bits s) (p + k) 0) (λ k. cond (eqb (get_or (bits s) (p + k) 0) 1) (entry w s from k) 0) n
    (λ k l. one (entry w s from k) (get_or (bits s) (p + k) 0) (below_at_lem 2 (bits s) (omega arith) (below_bits s) (p + k)))
  where
    one : (v b : ℕ) → b < 2 → v * b ≡ cond (eqb b 1) v 0
    one v zero h = mul-zero v
    one v (suc zero) h = mul-one v
    one v (suc (suc b)) h = absurd (omega arith)
