-- Laws of entries in another width, over every width. Assumes nothing.
use Rattle.std.proofs.Common.{◌≡◌, ℕ, zero, suc, ◌+◌, ◌-◌, ◌*◌, ◌/◌, ◌%◌, ◌^◌, ◌<◌, ◌≤◌, Bool, true, false, ◌&&◌, eqb, ltb, leb, List, ◌++◌, length, get_or, take, drop, sym, refl, ap, ◌∙◌, ap₂, lt_of_lt_of_le, mod-eq_of_lt, mul-zero, add-one, arith, length-drop, get_or-drop, drop-drop, take-add, ltb-false, ltb-true, le-ltb, lt-ltb, eqb-true, leb-false, leb-true}
use mathlib.Core.Bool.{and-false}
use native.Mathlib.Nat.{add-mod_right, pow-le-pow_right}
use borrow.Author.Tests.{eqb-false}
use Rattle.number.specs.Number.{number, encode, entry, splice}
use Rattle.number.proofs.Laws.{halves, encode_mod, encode_number, number_lt, length_splice, put_halves}
use Rattle.utils.specs.Pieces.{pieces, numbers}
use Rattle.utils.proofs.Pieces.{pieces_none, length_numbers, numbers_step, numbers_same}
use Rattle.recode.specs.Recode.{recoded, lessened, all_below}

pub less_none : (w w' : ℕ) (s : List ℕ) (from base at : ℕ) (room : List ℕ) → splice at (lessened w w' s from base 0) room ≡ room
unfolding lessened
less_none w w' s from base at room = pieces_none _ at room

-- one entry more after the first i: the lowest bytes of the machine's difference
pub less_step : (w w' : ℕ) (room s : List ℕ) (at from base i v : ℕ) → at + w' * (i + 1) ≤ length room → v ≡ entry w s from i → base < 256 ^ 8
    → splice (at + w' * i) (encode w' ((v + (256 ^ 8 - base)) % 256 ^ 8 % 256 ^ w')) (splice at (lessened w w' s from base i) room)
    ≡ splice at (lessened w w' s from base (i + 1)) room
unfolding lessened
less_step w w' room s at from base i v l e h =
    let d : v + (256 ^ 8 - base) ≡ entry w s from i + 256 ^ 8 - base = rw e (omega arith) in
    rw (encode_mod, d) (numbers_step w' (λ k. (entry w s from k + 256 ^ 8 - base) % 256 ^ 8) room at i l)

-- ---- entries as they are

pub recode_none : (w w' : ℕ) (s : List ℕ) (from at : ℕ) (room : List ℕ) → splice at (recoded w w' s from 0) room ≡ room
unfolding recoded
recode_none w w' s from at room = pieces_none _ at room

pub recoded_long : (w w' : ℕ) (s : List ℕ) (from n : ℕ) → length (recoded w w' s from n) ≡ w' * n
unfolding recoded
recoded_long w w' s from n = length_numbers w' (entry w s from) n

-- one entry more after the first i: its lowest bytes
pub recode_step : (w w' : ℕ) (room s : List ℕ) (at from i v : ℕ) → at + w' * (i + 1) ≤ length room → v ≡ entry w s from i
    → splice (at + w' * i) (encode w' (v % 256 ^ w')) (splice at (recoded w w' s from i) room) ≡ splice at (recoded w w' s from (i + 1)) room
unfolding recoded
recode_step w w' room s at from i v l e = rw (encode_mod, e) (numbers_step w' (entry w s from) room at i l)

-- the low bytes of both halves
two_digits : (x y : ℕ) → x < 256 → ((x + y * 256) % 256 ≡ x) × ((x + y * 256) / 256 ≡ y)
two_digits x y l = (omega arith, omega arith)

two_bytes : (v lo hi : ℕ) → lo < 65536 → v ≡ lo + 65536 * hi → ((v % 256 + v / 65536 % 256 * 256) % 256 ≡ lo % 256) × ((v % 256 + v / 65536 % 256 * 256) / 256 ≡ hi % 256)
two_bytes v lo hi l h =
    let d : v / 65536 ≡ hi = omega arith in
    let m : v % 256 ≡ lo % 256 = omega arith in
    let p = two_digits (v % 256) (v / 65536 % 256) (omega arith) in
    (p.0 ∙ m, p.1 ∙ ap (λ z. z % 256) d)

-- two entries of two bytes more after the first 2 i, as one byte each
module _ (room s : List ℕ) (at from i v : ℕ) (l : at + 2 * (i + 1) ≤ length room) (small : (j : ℕ) → get_or s j 0 < 256) (e : v ≡ number 4 (drop (from + 4 * i) s)) where
  abbrev low : ℕ
  low = entry 2 s from (2 * i)

  abbrev high : ℕ
  high = entry 2 s from (2 * i + 1)

  abbrev both : ℕ
  both = v % 256 + v / 65536 % 256 * 256

  both_are : (both % 256 ≡ low % 256) × (both / 256 ≡ high % 256)
  both_are =
      let a : from + 4 * i ≡ from + 2 * (2 * i) = omega arith in
      let b : from + 4 * i + 2 ≡ from + 2 * (2 * i + 1) = omega arith in
      let h : v ≡ low + 65536 * high = e ∙ halves 2 2 (from + 4 * i) s ∙ ap₂ (λ y z. number 2 (drop y s) + 65536 * number 2 (drop z s)) a b in
      let p : low < 65536 = number_lt 2 (drop (from + 2 * (2 * i)) s) (λ j. rw get_or-drop (small (from + 2 * (2 * i) + j))) in
      two_bytes v low high p h

  pub pair_step : splice (at + 2 * i) (encode 2 both) (splice at (recoded 2 1 s from (2 * i)) room) ≡ splice at (recoded 2 1 s from (2 * (i + 1))) room
  pair_step =
      let before = splice at (recoded 2 1 s from (2 * i)) room in
      let k : length before ≡ length room = length_splice at (recoded 2 1 s from (2 * i)) room (omega (arith, length_recoded)) in
      let a : at + 2 * i ≡ at + 1 * (2 * i) = omega arith in
      let b : at + 2 * i + 1 ≡ at + 1 * (2 * i + 1) = omega arith in
      let d : 2 * i + 1 + 1 ≡ 2 * (i + 1) = omega arith in
      sym (put_halves 1 1 (at + 2 * i) both before (omega arith))
      ∙ ap₂ (λ y z. splice (at + 2 * i + 1) (encode 1 z) (splice (at + 2 * i) (encode 1 y) before)) both_are.0 both_are.1
      ∙ ap₂ (λ y z. splice y (encode 1 (high % 256)) (splice z (encode 1 (low % 256)) before)) b a
      ∙ ap (splice (at + 1 * (2 * i + 1)) (encode 1 (high % 256))) (recode_step 2 1 room s at from (2 * i) low (omega arith) refl)
      ∙ recode_step 2 1 room s at from (2 * i + 1) high (omega arith) refl
      ∙ ap (λ y. splice at (recoded 2 1 s from y) room) d
    where
      length_recoded : length (recoded 2 1 s from (2 * i)) ≡ 1 * (2 * i)
      length_recoded = recoded_long 2 1 s from (2 * i)

-- the last of an odd number of them
pub odd_last : (room s : List ℕ) (at from m n v : ℕ) {r1 r2 : List ℕ} → n ≡ 2 * m + 1 → at + 1 * n ≤ length room → v ≡ number 2 (drop (from + 4 * m) s) → r1 ≡ splice at (recoded 2 1 s from (2 * m)) room
    → r2 ≡ splice (at + 2 * m) (encode 1 (v % 256)) r1 → r2 ≡ splice at (recoded 2 1 s from n) room
odd_last room s at from m n v {r1} {r2} e l h f g =
    let a : from + 4 * m ≡ from + 2 * (2 * m) = omega arith in
    let b : at + 2 * m ≡ at + 1 * (2 * m) = omega arith in
    g
    ∙ ap₂ (λ y z. splice y (encode 1 (v % 256)) z) b f
    ∙ recode_step 2 1 room s at from (2 * m) v (omega arith) (h ∙ ap (λ y. number 2 (drop y s)) a)
    ∙ ap (λ y. splice at (recoded 2 1 s from y) room) (sym e)

-- less 0 they are the same
pub less_zero : (w w' : ℕ) (s : List ℕ) (from n : ℕ) → ((k : ℕ) → entry w s from k < 256 ^ 8) → lessened w w' s from 0 n ≡ recoded w w' s from n
unfolding lessened recoded
less_zero w w' s from n h =
    numbers_same w' (λ k. (entry w s from k + 256 ^ 8 - 0) % 256 ^ 8) (entry w s from) n (λ k l. one k)
  where
    one : (k : ℕ) → (entry w s from k + 256 ^ 8 - 0) % 256 ^ 8 ≡ entry w s from k
    one k =
        let e : entry w s from k + 256 ^ 8 - 0 ≡ entry w s from k + 256 ^ 8 = omega arith in
        rw (e, add-mod_right) (mod-eq_of_lt (h k))

-- where none is below base, each is the difference
pub less_is : (w w' : ℕ) (s : List ℕ) (from base n : ℕ) → ((k : ℕ) → entry w s from k < 256 ^ 8) → ((k : ℕ) → k < n → base ≤ entry w s from k)
    → lessened w w' s from base n ≡ numbers w' (λ k. entry w s from k - base) n
unfolding lessened
less_is w w' s from base n h b =
    numbers_same w' (λ k. (entry w s from k + 256 ^ 8 - base) % 256 ^ 8) (λ k. entry w s from k - base) n (λ k l. one k (b k l))
  where
    one : (k : ℕ) → base ≤ entry w s from k → (entry w s from k + 256 ^ 8 - base) % 256 ^ 8 ≡ entry w s from k - base
    one k o =
        let e : entry w s from k + 256 ^ 8 - base ≡ entry w s from k - base + 256 ^ 8 = omega arith in
        let d : entry w s from k - base < 256 ^ 8 = omega (arith, h k) in
        rw (e, add-mod_right) (mod-eq_of_lt d)

-- in their own width they are the bytes
pub same_width : (w : ℕ) (s : List ℕ) (from n : ℕ) → ((i : ℕ) → get_or s i 0 < 256) → from + w * n ≤ length s
    → take (w * n) (drop from s) ≡ recoded w w s from n
unfolding recoded pieces
same_width w s from zero h l = rw mul-zero refl
same_width w s from (suc n) h l =
    let a : w * n + w ≡ w * suc n = omega arith in
    let b : from + w * n + w ≤ length s = omega arith in
    let d : encode w (entry w s from n) ≡ take w (drop (from + w * n) s)
    = encode_number w (drop (from + w * n) s) (rw length-drop (omega arith)) (λ i. rw get_or-drop (h (from + w * n + i))) in
    rw (← a, take-add, drop-drop, d) (ap (◌++ take w (drop (from + w * n) s)) (same_width w s from n h (omega arith)))

-- ---- below a limit

pub below_more : (w : ℕ) (s : List ℕ) (from limit i v : ℕ) → v ≡ entry w s from i → v < limit → true ≡ all_below w s from limit i → true ≡ all_below w s from limit (i + 1)
unfolding all_below
below_more w s from limit i v e h b = rw (add-one, ← b, ← e, lt-ltb v limit h) refl

lt_other : (i n : ℕ) → i < suc n → (i ≡ n → ⊥) → i < n
lt_other i n l h = go (ltb i n) refl
  where
    go : (b : Bool) → ltb i n ≡ b → i < n
    go true t = ltb-true _ _ t
    go false t =
        let o : n ≤ i = ltb-false _ _ t in
        absurd (h (omega arith))

-- one that is not
pub below_not : (w : ℕ) (s : List ℕ) (from limit n i v : ℕ) → i < n → v ≡ entry w s from i → limit ≤ v → false ≡ all_below w s from limit n
unfolding all_below
below_not w s from limit zero i v l e h = absurd (omega arith)
below_not w s from limit (suc n) i v l e h = go (eqb i n) refl (λ o. below_not w s from limit n i v o e h)
  where
    go : (b : Bool) → eqb i n ≡ b → (i < n → false ≡ all_below w s from limit n) → false ≡ all_below w s from limit n && ltb (entry w s from n) limit
    go true t r =
        let q : i ≡ n = eqb-true _ _ t in
        rw (← q, ← e, le-ltb v limit h, and-false) refl
    go false t r =
        let q : i ≡ n → ⊥ = eqb-false _ _ t in
        let o : i < n = lt_other i n l q in
        rw (← r o) refl

pub below_none : (w : ℕ) (s : List ℕ) (from limit : ℕ) → true ≡ all_below w s from limit 0
unfolding all_below
below_none w s from limit = refl

-- ---- widths

pub width_small : (w : ℕ) → ((w ≡ 1 → ⊥) → (w ≡ 2 → ⊥) → (w ≡ 4 → ⊥) → w ≡ 8) → w ≤ 8
width_small w h = go (leb w 8) refl
  where
    go : (b : Bool) → leb w 8 ≡ b → w ≤ 8
    go true t = leb-true _ _ t
    go false t =
        let l : 8 < w = leb-false _ _ t in
        let e : w ≡ 8 = h (λ q. omega arith) (λ q. omega arith) (λ q. omega arith) in
        omega arith

pub entry_small : (w : ℕ) (s : List ℕ) (from : ℕ) → w ≤ 8 → ((i : ℕ) → get_or s i 0 < 256) → (k : ℕ) → entry w s from k < 256 ^ 8
entry_small w s from l h k =
    let b : 256 ^ w ≤ 256 ^ 8 = pow-le-pow_right (omega arith) l in
    let n : entry w s from k < 256 ^ w = number_lt w (drop (from + w * k) s) (λ i. rw get_or-drop (h (from + w * k + i))) in
    lt_of_lt_of_le n b
