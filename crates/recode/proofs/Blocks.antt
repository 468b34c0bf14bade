-- Entries in another width by stretches, and by way of a width between. Assumes nothing.
use Rattle.std.proofs.Common.{◌≡◌, ℕ, ◌+◌, ◌-◌, ◌*◌, ◌%◌, ◌^◌, ◌<◌, ◌≤◌, List, ◌++◌, length, get_or, drop, ap, ◌∙◌, mod-eq_of_lt, arith, get_or-drop}
use native.Mathlib.Nat.{add-mod_right}
use Rattle.number.specs.Number.{number, entry, splice}
use Rattle.number.proofs.Laws.{number_lt, splice_splice}
use Rattle.utils.specs.Pieces.{numbers}
use Rattle.utils.proofs.Pieces.{length_numbers, numbers_same, entry_splice}
use Rattle.recode.specs.Recode.{recoded, lessened}
use Rattle.recode.proofs.Laws.{less_zero, entry_small}
use Rattle.recode.proofs.Masks.{numbers_join}

-- m entries behind the first a
recode_join : (w w' : ℕ) (room s : List ℕ) (at from a m : ℕ) → at + w' * (a + m) ≤ length room
    → splice (at + w' * a) (recoded w w' s (from + w * a) m) (splice at (recoded w w' s from a) room) ≡ splice at (recoded w w' s from (a + m)) room
unfolding recoded
recode_join w w' room s at from a m l =
    let p = numbers w' (entry w s from) a in
    let e : length p ≡ w' * a = length_numbers w' (entry w s from) a in
    let q = numbers w' (λ k. entry w s from (a + k)) m in
    let d : numbers w' (entry w s (from + w * a)) m ≡ q = numbers_same w' (entry w s (from + w * a)) (λ k. entry w s from (a + k)) m (λ k o. behind k) in
    let o : length q ≡ w' * m = length_numbers w' (λ k. entry w s from (a + k)) m in
    let j : splice (at + length p) q (splice at p room) ≡ splice at (p ++ q) room = splice_splice at p q room (rw (e, o) (omega arith)) in
    rw (d, numbers_join w' (entry w s from) a m) (rw e at j)
  where
    behind : (k : ℕ) → entry w s (from + w * a) k ≡ entry w s from (a + k)
    behind k =
        let b : from + w * a + w * k ≡ from + w * (a + k) = omega arith in
        ap (λ (y : ℕ). number w (drop y s)) b

-- .. in a room that is known by an equation
pub recode_turn : (w w' : ℕ) (room s : List ℕ) (at from a m n p q : ℕ) (r r' : List ℕ) → at + w' * n ≤ length room → a + m ≡ n → p ≡ at + w' * a → q ≡ from + w * a
    → r ≡ splice at (recoded w w' s from a) room → r' ≡ splice p (recoded w w' s q m) r → r' ≡ splice at (recoded w w' s from n) room
recode_turn w w' room s at from a m n p q r r' l h hp hq e d = d ∙ rw (hp, hq, e, ← h) (recode_join w w' room s at from a m (rw h l))

-- bytes that were written with two bytes each, and read from there
by_two : (w' : ℕ) (s wide : List ℕ) (from n : ℕ) → 0 + 2 * n ≤ length wide → ((i : ℕ) → get_or s i 0 < 256)
    → lessened 2 w' (splice 0 (recoded 1 2 s from n) wide) 0 0 n ≡ recoded 1 w' s from n
unfolding lessened recoded
by_two w' s wide from n l h =
    numbers_same w' (λ k. (entry 2 (splice 0 (numbers 2 (entry 1 s from) n) wide) 0 k + 256 ^ 8 - 0) % 256 ^ 8) (entry 1 s from) n (λ k o. one k o)
  where
    one : (k : ℕ) → k < n → (entry 2 (splice 0 (numbers 2 (entry 1 s from) n) wide) 0 k + 256 ^ 8 - 0) % 256 ^ 8 ≡ entry 1 s from k
    one k o =
        let b : entry 1 s from k < 256 = number_lt 1 (drop (from + 1 * k) s) (λ i. rw get_or-drop (h (from + 1 * k + i))) in
        let t : entry 1 s from k < 65536 = omega arith in
        let e : entry 2 (splice 0 (numbers 2 (entry 1 s from) n) wide) 0 k ≡ entry 1 s from k = entry_splice 2 (entry 1 s from) n 0 wide l k o ∙ mod-eq_of_lt t in
        let d : entry 1 s from k + 256 ^ 8 - 0 ≡ entry 1 s from k + 256 ^ 8 = omega arith in
        rw (e, d, add-mod_right) (mod-eq_of_lt (entry_small 1 s from (omega arith) h k))

pub two_done : (w' : ℕ) (s room wide wide' r' : List ℕ) (at from n : ℕ) → 2 * n ≤ length wide → ((i : ℕ) → get_or s i 0 < 256)
    → wide' ≡ splice 0 (lessened 1 2 s from 0 n) wide → r' ≡ splice at (lessened 2 w' wide' 0 0 n) room → r' ≡ splice at (recoded 1 w' s from n) room
two_done w' s room wide wide' r' at from n l h e d =
    let z : lessened 1 2 s from 0 n ≡ recoded 1 2 s from n = less_zero 1 2 s from n (entry_small 1 s from (omega arith) h) in
    d ∙ rw (e, z, by_two w' s wide from n (omega arith) h)
