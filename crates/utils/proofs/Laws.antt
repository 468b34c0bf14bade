-- Laws of offsets, over every width. Assumes nothing.
use Rattle.std.proofs.Common.{◌≡◌, ℕ, zero, suc, ◌+◌, ◌-◌, ◌*◌, ◌/◌, ◌%◌, ◌^◌, ◌<◌, ◌≤◌, min, Bool, true, false, ltb, List, length, get_or, get_or-drop, drop, refl, ap, ◌∙◌, add-zero, mul-zero, arith, ltb-false, ltb-true, le-ltb, lt-ltb}
use native.Mathlib.Nat.{add-mod-mod, mul-le-mul_left, pow-le-pow_right}
use Rattle.number.specs.Number.{number, encode, entry, splice}
use Rattle.number.specs.Sizes.{Sized}
use Rattle.number.proofs.Laws.{number_lt}
use Rattle.utils.specs.Offsets.{largest, moved, first_above, moved_offsets, repeated, counted_up}
use Rattle.utils.specs.Extension.{over_at, extended}
use Rattle.utils.specs.declared.Extended.TheVariants.{Fits, Over, Falls}
use Rattle.utils.proofs.Pieces.{pieces_none, numbers_step}

-- entry i of n, and the next one, where they stand
pub next_within : (w i n : ℕ) → i < n → w * i + w ≤ w * n
next_within w i n h = let l : suc i ≤ n = omega arith in omega (arith, mul-le-mul_left w l)

-- the largest offset, by a shift
pub shifted : (w : ℕ) → Sized w → 18446744073709551615 / 2 ^ (65 - 8 * w) ≡ largest w
shifted zero h = absurd (omega (arith, h.some))
shifted (suc zero) h = refl
shifted (suc (suc zero)) h = refl
shifted (suc (suc (suc zero))) h = refl
shifted (suc (suc (suc (suc zero)))) h = refl
shifted (suc (suc (suc (suc (suc zero))))) h = refl
shifted (suc (suc (suc (suc (suc (suc zero)))))) h = refl
shifted (suc (suc (suc (suc (suc (suc (suc zero))))))) h = refl
shifted (suc (suc (suc (suc (suc (suc (suc (suc zero)))))))) h = refl
shifted (suc (suc (suc (suc (suc (suc (suc (suc (suc w))))))))) h = absurd (omega (arith, h.eight))

pub below_cut : (w : ℕ) → Sized w → largest w < 18446744073709551615
below_cut w h = let p : 256 ^ w ≤ 256 ^ 8 = pow-le-pow_right (omega arith) h.eight in omega arith

-- an entry of bytes fits its width
pub entry_lt : (w : ℕ) (s : List ℕ) (from k : ℕ) → ((i : ℕ) → get_or s i 0 < 256) → entry w s from k < 256 ^ w
entry_lt w s from k b = number_lt w (drop (from + w * k) s) (λ i. rw get_or-drop (b (from + w * k + i)))

pub first_entry_lem : (w : ℕ) (s : List ℕ) (from : ℕ) → number w (drop from s) ≡ entry w s from 0
first_entry_lem w s from = simp (mul-zero, add-zero)

-- the first of those above
pub first_is : (max : ℕ) (f : ℕ → ℕ) (n k : ℕ) → k < n → ((j : ℕ) → j < k → f j ≤ max) → max < f k → first_above max f n ≡ k
unfolding first_above
first_is max f zero k l h g = absurd (omega arith)
first_is max f (suc n) zero l h g = rw (lt-ltb max (f 0) g)
first_is max f (suc n) (suc k) l h g =
    rw (le-ltb max (f 0) (h 0 (omega arith)))
    (ap suc (first_is max (λ j. f (suc j)) n k (omega arith) (λ j m. h (suc j) (omega arith)) g))

-- where the last is above, one that is not above is not the last
pub not_last : (max : ℕ) (f : ℕ → ℕ) (n k : ℕ) → k ≤ n → max < f n → f k ≤ max → k < n
not_last max f n k l h g = go (ltb k n) refl
  where
    go : (b : Bool) → ltb k n ≡ b → k < n
    go true t = ltb-true _ _ t
    go false t =
        let m : n ≤ k = ltb-false _ _ t in
        let e : k ≡ n = omega arith in
        absurd (omega (arith, ap f e))

-- where the last new offset is above the largest, there is one
pub some_row : (w : ℕ) (s : List ℕ) (from n last : ℕ) → last ≤ largest w → largest w < moved w s from last n → 0 < n
some_row w s from n last h g = not_last (largest w) (λ k. moved w s from last k) n 0 (omega arith) g (omega arith)

-- the search ends at the first row whose new offset is above the largest
pub over_found : (w : ℕ) (s : List ℕ) (from n last k needed : ℕ) → k < n → ((j : ℕ) → j < k → moved w s from last (j + 1) ≤ largest w)
    → needed ≡ min (moved w s from last (k + 1)) 18446744073709551615 → largest w < needed → Over k needed ≡ over_at w s from n last
unfolding over_at
over_found w s from n last k needed l h e g =
    let o : largest w < moved w s from last (k + 1) = omega arith in
    rw (first_is (largest w) (λ j. moved w s from last (j + 1)) n k l h o, e)

-- ---- the four answers

module _ (w : ℕ) (s : List ℕ) (from n last first end : ℕ) (ef : first ≡ entry w s from 0) (ee : end ≡ entry w s from n) where
  pub answer_low : end < first → Falls ≡ extended w s from n last
  unfolding extended
  answer_low h = rw (lt-ltb (entry w s from n) (entry w s from 0) (omega arith))

  pub answer_last : first ≤ end → largest w < last → Falls ≡ extended w s from n last
  unfolding extended
  answer_last h g = rw (le-ltb (entry w s from n) (entry w s from 0) (omega arith), lt-ltb (largest w) last g)

  module _ (next : ℕ) (en : next ≡ min (last + (end - first)) 18446744073709551615) (h : first ≤ end) (g : last ≤ largest w) where
    pub above : largest w < next → largest w < moved w s from last n
    above l = omega arith

    pub answer_over : largest w < next → over_at w s from n last ≡ extended w s from n last
    unfolding extended
    answer_over l =
        rw (le-ltb (entry w s from n) (entry w s from 0) (omega arith), le-ltb (largest w) last g, lt-ltb (largest w) (moved w s from last n) (above l))

    pub answer_fits : next ≤ largest w → largest w < 18446744073709551615 → Fits next first ≡ extended w s from n last
    unfolding extended
    answer_fits l t =
        let m : next ≡ moved w s from last n = omega arith in
        rw (
          le-ltb (entry w s from n) (entry w s from 0) (omega arith),
          le-ltb (largest w) last g,
          le-ltb (largest w) (moved w s from last n) (rw m at l),
          m,
          ef,
        )

-- ---- a turn of each loop

-- what the machine adds to each offset
shift_is : (m o first last : ℕ) → first < m → (o + (last + (m - first)) % m) % m ≡ (last + (o + m - first)) % m
shift_is m o first last h = add-mod-mod o (last + (m - first)) m ∙ ap (λ (x : ℕ). x % m) (omega arith)

pub moved_none : (w : ℕ) (s : List ℕ) (from last at : ℕ) (room : List ℕ) → splice at (moved_offsets w s from last 0) room ≡ room
unfolding moved_offsets
moved_none w s from last at room = pieces_none _ at room

pub moved_step : (w : ℕ) (room s : List ℕ) (at from last shift i : ℕ) → at + w * (i + 1) ≤ length room
    → entry w s from 0 < 256 ^ w → shift ≡ (last + (256 ^ w - entry w s from 0)) % 256 ^ w
    → splice (at + w * i) (encode w ((entry w s from (i + 1) + shift) % 256 ^ w)) (splice at (moved_offsets w s from last i) room)
    ≡ splice at (moved_offsets w s from last (i + 1)) room
unfolding moved_offsets
moved_step w room s at from last shift i g h e =
    rw (e, shift_is (256 ^ w) (entry w s from (i + 1)) (entry w s from 0) last h)
    (numbers_step w (λ k. (last + (entry w s from (k + 1) + 256 ^ w - entry w s from 0)) % 256 ^ w) room at i g)

pub repeated_none : (w v at : ℕ) (room : List ℕ) → splice at (repeated w v 0) room ≡ room
unfolding repeated
repeated_none w v at room = pieces_none _ at room

pub repeated_step : (w v : ℕ) (room : List ℕ) (at i : ℕ) → at + w * (i + 1) ≤ length room
    → splice (at + w * i) (encode w v) (splice at (repeated w v i) room) ≡ splice at (repeated w v (i + 1)) room
unfolding repeated
repeated_step w v room at i g = numbers_step w (λ k. v) room at i g

pub counted_none : (w first at : ℕ) (room : List ℕ) → splice at (counted_up w first 0) room ≡ room
unfolding counted_up
counted_none w first at room = pieces_none _ at room

pub counted_step : (w first : ℕ) (room : List ℕ) (at i : ℕ) → at + w * (i + 1) ≤ length room
    → splice (at + w * i) (encode w ((first + i) % 256 ^ w)) (splice at (counted_up w first i) room) ≡ splice at (counted_up w first (i + 1)) room
unfolding counted_up
counted_step w first room at i g = numbers_step w (λ k. (first + k) % 256 ^ w) room at i g
