-- Laws of `item`: the entries of w bytes of a buffer, over every width. Assumes nothing.
use mathlib.Core.Path.{◌≡◌, refl, sym, ap, ◌∙◌}
use mathlib.Core.List.{List, [], ◌∷◌, ◌++◌, append-nil, append_assoc}
use Prim.Native.Nat.{ℕ, zero, suc, ◌+◌, ◌*◌, ◌%◌, ◌^◌, ◌≤◌, ◌<◌}
use native.Mathlib.Nat.{mul-le-mul_right, add-mul, zero-mul, add_comm, suc-mul, mul-one, mod-eq_of_lt}
use native.Mathlib.Omega.{arith}
use lib.ListN.{length, take, drop, get_or, replicate, length-append, length-take, length-drop, drop_of_length-le}
use lib.Seq.{drop-append-le, drop-append-add, drop-drop, drop_at, get_or-drop}
use Rattle.number.specs.Number.{number, encode}
use Rattle.number.proofs.Laws.{length_encode, number_encode, number_lt, one}
use Rattle.columnar.specs.Array.{item}
use Rattle.columnar.specs.Entries.{encodes}

-- only the first w bytes count
pub number_front : (w : ℕ) (s t : List ℕ) → w ≤ length s → number w (s ++ t) ≡ number w s
unfolding number
number_front zero s t h = refl
number_front (suc w) [] t h = absurd (omega arith)
number_front (suc w) (x ∷ s) t h = ap (λ y. x + 256 * y) (number_front w s t (omega arith))

pub number_take : (w n : ℕ) (s : List ℕ) → w ≤ n → number w (take n s) ≡ number w s
unfolding number
number_take zero n s h = refl
number_take (suc w) zero s h = absurd (omega arith)
number_take (suc w) (suc n) [] h = refl
number_take (suc w) (suc n) (x ∷ s) h = ap (λ y. x + 256 * y) (number_take w n s (omega arith))

pub number_zeros : (w n : ℕ) → number w (replicate n 0) ≡ 0
unfolding number
number_zeros zero n = refl
number_zeros (suc w) zero = refl
number_zeros (suc w) (suc n) = rw (number_zeros w n)

drop_take : (j n w : ℕ) (s : List ℕ) → j + w ≤ n → number w (drop j (take n s)) ≡ number w (drop j s)
unfolding number
drop_take zero n w s h = number_take w n s (omega arith)
drop_take (suc j) zero w s h = absurd (omega arith)
drop_take (suc j) (suc n) w [] h = refl
drop_take (suc j) (suc n) w (x ∷ s) h = drop_take j n w s (omega arith)

drop_zeros : (w j n : ℕ) → number w (drop j (replicate n 0)) ≡ 0
drop_zeros w zero n = number_zeros w n
drop_zeros w (suc j) zero = number_zeros w 0
drop_zeros w (suc j) (suc n) = drop_zeros w j n

-- an entry ends where the next one begins
pub entry_end : (w : ℕ) {i n : ℕ} → i < n → i * w + w ≤ n * w
entry_end w {i} {n} h = rw suc-mul at (mul-le-mul_right w h)

module _ (w : ℕ) (xs ys : List ℕ) where
  -- an entry before the seam
  pub item_left : (i n : ℕ) → n * w ≤ length xs → i < n → item w (xs ++ ys) i ≡ item w xs i
  unfolding item
  item_left i n h k =
      let e : i * w + w ≤ n * w = entry_end w k in
      let f : i * w ≤ length xs = omega arith in
      rw drop-append-le (number_front w (drop (i * w) xs) ys (simp length-drop (omega arith)))

  -- an entry behind it
  pub item_right : (n i : ℕ) → length xs ≡ n * w → item w (xs ++ ys) (n + i) ≡ item w ys i
  unfolding item
  item_right n i e = rw (add-mul, ← e, drop-append-add)

  -- the entry at the seam
  pub item_seam : (n : ℕ) → length xs ≡ n * w → item w (xs ++ ys) n ≡ number w ys
  unfolding item
  item_seam n e = rw (drop_at xs ys (n * w) e)

-- what is read back of a number written
pub number_encode_lt : (w v : ℕ) (t : List ℕ) → v < 256 ^ w → number w (encode w v ++ t) ≡ v
number_encode_lt w v t h = number_encode w v t ∙ mod-eq_of_lt h

pub item_last : (w : ℕ) (xs : List ℕ) (l v : ℕ) → length xs ≡ l * w → v < 256 ^ w → item w (xs ++ encode w v) l ≡ v
item_last w xs l v e h = item_seam w xs (encode w v) l e ∙ rw append-nil at (number_encode_lt w v [] h)

-- entries cut out of a buffer
module _ (w a n : ℕ) (xs : List ℕ) where
  pub item_cut : (i : ℕ) → i < n → item w (take (n * w) (drop (a * w) xs)) i ≡ item w xs (a + i)
  unfolding item
  item_cut i k = rw (add-mul, ← drop-drop) (drop_take (i * w) (n * w) w (drop (a * w) xs) (entry_end w k))

  pub length_cut : (a + n) * w ≤ length xs → length (take (n * w) (drop (a * w) xs)) ≡ n * w
  length_cut h = simp (length-take, length-drop) (omega (arith, add-mul a n w))

-- a buffer of zeros
pub item_zeros : (w n i : ℕ) → item w (replicate n 0) i ≡ 0
unfolding item
item_zeros w n i = drop_zeros w (i * w) n

-- an entry past the end
pub item_past : (w : ℕ) (xs : List ℕ) (i : ℕ) → length xs ≤ i * w → item w xs i ≡ 0
unfolding item
item_past w xs i h = rw (drop_of_length-le xs h) (number_zeros w 0)

-- entries of one byte are the bytes
pub item_one : (xs : List ℕ) (i : ℕ) → i < length xs → item 1 xs i ≡ get_or xs i 0
unfolding item
item_one xs i h = rw mul-one (one i xs h)

-- an entry is below 256 ^ w where the buffer holds bytes
pub item_lt : (w : ℕ) (xs : List ℕ) → ((i : ℕ) → get_or xs i 0 < 256) → (i : ℕ) → item w xs i < 256 ^ w
unfolding item
item_lt w xs h i = number_lt w (drop (i * w) xs) (λ j. rw get_or-drop (h (i * w + j)))

-- a buffer made of numbers
pub length_encodes : (w : ℕ) (vs : List ℕ) → length (encodes w vs) ≡ length vs * w
length_encodes w [] = sym (zero-mul w)
length_encodes w (v ∷ vs) = rw (length-append, length_encode, length_encodes w vs, suc-mul) (add_comm w (length vs * w))

pub encodes_append : (w : ℕ) (us vs : List ℕ) → encodes w (us ++ vs) ≡ encodes w us ++ encodes w vs
encodes_append w [] vs = refl
encodes_append w (u ∷ us) vs = rw (encodes_append w us vs, append_assoc)

pub item_encodes : (w : ℕ) (vs : List ℕ) (i : ℕ) → i < length vs → item w (encodes w vs) i ≡ get_or vs i 0 % 256 ^ w
unfolding item
item_encodes w [] i h = absurd (omega arith)
item_encodes w (v ∷ vs) zero h = rw zero-mul (number_encode w v (encodes w vs))
item_encodes w (v ∷ vs) (suc i) h =
    let e : suc i * w ≡ w + i * w = suc-mul i w ∙ add_comm (i * w) w in
    rw (e, ← drop-drop, drop_at (encode w v) (encodes w vs) w (length_encode w v)) (item_encodes w vs i (omega arith))

pub item_encodes_lt : (w : ℕ) (vs : List ℕ) (i : ℕ) → i < length vs → get_or vs i 0 < 256 ^ w → item w (encodes w vs) i ≡ get_or vs i 0
item_encodes_lt w vs i h k = item_encodes w vs i h ∙ mod-eq_of_lt k
