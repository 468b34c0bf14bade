-- Laws of `pieces` and `numbers`, over every width. Assumes nothing.
use Rattle.std.proofs.Common.{◌≡◌, ℕ, zero, suc, ◌+◌, ◌*◌, ◌%◌, ◌^◌, ◌<◌, ◌≤◌, Bool, true, false, ltb, List, [], ◌∷◌, ◌++◌, length, get_or, take, drop, sym, refl, ap, ◌∙◌, append_assoc, mul-zero, add-one, arith, length-append, length-take-le, take_at, get_or-append-add, drop_at, ltb-false, ltb-true}
use lib.ListN.{get_or-append}
use lib.Seq.{drop-append-add}
use Rattle.number.specs.Number.{number, encode, entry, splice}
use Rattle.number.proofs.Laws.{length_encode, number_encode, splice_splice, splice_nil}
use Rattle.utils.specs.Pieces.{pieces, numbers}

drop_after : (p q : List ℕ) (n m : ℕ) → length p ≡ n → drop (n + m) (p ++ q) ≡ drop m q
drop_after p q n m e = rw (← e, drop-append-add)

number_none : (w : ℕ) → number w [] ≡ 0
unfolding number
number_none zero = refl
number_none (suc w) = refl

pub length_pieces : (w : ℕ) (f : ℕ → List ℕ) (n : ℕ) → ((k : ℕ) → k < n → length (f k) ≡ w) → length (pieces f n) ≡ w * n
unfolding pieces
length_pieces w f zero h = sym (mul-zero w)
length_pieces w f (suc n) h = simp (length-append, length_pieces w f n (λ k l. h k (omega arith)), h n (omega arith)) (omega arith)

pub pieces_none : (f : ℕ → List ℕ) (at : ℕ) (room : List ℕ) → splice at (pieces f 0) room ≡ room
unfolding pieces
pieces_none f at room = splice_nil at room

-- one more entry after the first i
pub pieces_step : (w : ℕ) (f : ℕ → List ℕ) (room : List ℕ) (at i : ℕ) → ((k : ℕ) → k < i + 1 → length (f k) ≡ w) → at + w * (i + 1) ≤ length room
    → splice (at + w * i) (f i) (splice at (pieces f i) room) ≡ splice at (pieces f (i + 1)) room
unfolding pieces
pieces_step w f room at i h g =
    let e : length (pieces f i) ≡ w * i = length_pieces w f i (λ k l. h k (omega arith)) in
    let d : length (f i) ≡ w = h i (omega arith) in
    rw add-one (rw e at (splice_splice at (pieces f i) (f i) room (simp (e, d) (omega arith))))

pub pieces_same : (f g : ℕ → List ℕ) (n : ℕ) → ((k : ℕ) → k < n → f k ≡ g k) → pieces f n ≡ pieces g n
unfolding pieces
pieces_same f g zero h = refl
pieces_same f g (suc n) h = rw (pieces_same f g n (λ k l. h k (omega arith)), h n (omega arith))

pub length_numbers : (w : ℕ) (f : ℕ → ℕ) (n : ℕ) → length (numbers w f n) ≡ w * n
length_numbers w f n = length_pieces w (λ k. encode w (f k)) n (λ k l. length_encode w (f k))

pub numbers_step : (w : ℕ) (f : ℕ → ℕ) (room : List ℕ) (at i : ℕ) → at + w * (i + 1) ≤ length room
    → splice (at + w * i) (encode w (f i)) (splice at (numbers w f i) room) ≡ splice at (numbers w f (i + 1)) room
numbers_step w f room at i g = pieces_step w (λ k. encode w (f k)) room at i (λ k l. length_encode w (f k)) g

pub numbers_same : (w : ℕ) (f g : ℕ → ℕ) (n : ℕ) → ((k : ℕ) → k < n → f k ≡ g k) → numbers w f n ≡ numbers w g n
numbers_same w f g n h = pieces_same (λ k. encode w (f k)) (λ k. encode w (g k)) n (λ k l. ap (encode w) (h k l))

-- number k of a run is read back, whatever follows the run
entry_run : (w : ℕ) (f : ℕ → ℕ) (n : ℕ) (t : List ℕ) (k : ℕ) → k < n → number w (drop (w * k) (numbers w f n ++ t)) ≡ f k % 256 ^ w
unfolding pieces
entry_run w f zero t k l = absurd (omega arith)
entry_run w f (suc n) t k l = go (ltb k n) refl (λ m. entry_run w f n (encode w (f n) ++ t) k m)
  where
    go : (b : Bool) → ltb k n ≡ b → (k < n → number w (drop (w * k) (numbers w f n ++ (encode w (f n) ++ t))) ≡ f k % 256 ^ w)
        → number w (drop (w * k) ((numbers w f n ++ encode w (f n)) ++ t)) ≡ f k % 256 ^ w
    go true e r = rw append_assoc (r (ltb-true _ _ e))
    go false e r =
        let g : n ≤ k = ltb-false _ _ e in
        let i : k ≡ n = omega arith in
        rw (i, append_assoc, drop_at (numbers w f n) (encode w (f n) ++ t) (w * n) (length_numbers w f n), number_encode)

-- entry k of a run, whatever follows the run
piece_run : (w : ℕ) (f : ℕ → List ℕ) (n : ℕ) (t : List ℕ) (k : ℕ) → ((k : ℕ) → k < n → length (f k) ≡ w) → k < n → take w (drop (w * k) (pieces f n ++ t)) ≡ f k
unfolding pieces
piece_run w f zero t k h l = absurd (omega arith)
piece_run w f (suc n) t k h l = go (ltb k n) refl (λ m. piece_run w f n (f n ++ t) k (λ j i. h j (omega arith)) m)
  where
    go : (b : Bool) → ltb k n ≡ b → (k < n → take w (drop (w * k) (pieces f n ++ (f n ++ t))) ≡ f k) → take w (drop (w * k) ((pieces f n ++ f n) ++ t)) ≡ f k
    go true e r = rw append_assoc (r (ltb-true _ _ e))
    go false e r =
        let g : n ≤ k = ltb-false _ _ e in
        let i : k ≡ n = omega arith in
        let d = length_pieces w f n (λ j i. h j (omega arith)) in
        rw (i, append_assoc, drop_at (pieces f n) (f n ++ t) (w * n) d, take_at (f n) t w (h n (omega arith)))

-- number k of a run that was written is read back
pub entry_splice : (w : ℕ) (f : ℕ → ℕ) (n at : ℕ) (room : List ℕ) → at + w * n ≤ length room → (k : ℕ) → k < n
    → entry w (splice at (numbers w f n) room) at k ≡ f k % 256 ^ w
unfolding splice
entry_splice w f n at room h k l =
    let e : length (take at room) ≡ at = length-take-le at room (omega arith) in
    rw (append_assoc, drop_after (take at room) (numbers w f n ++ drop (at + length (numbers w f n)) room) at (w * k) e) (entry_run w f n _ k l)

-- ---- reading what was written

-- a number is that of its bytes
pub number_same : (w : ℕ) (s t : List ℕ) → ((i : ℕ) → i < w → get_or s i 0 ≡ get_or t i 0) → number w s ≡ number w t
unfolding number
number_same zero s t h = refl
number_same (suc w) [] [] h = refl
number_same (suc w) [] (b ∷ t) h =
    let e : number w [] ≡ number w t = number_same w [] t (λ i l. h (suc i) (omega arith)) in
    omega (arith, h 0 (omega arith), number_none w)
number_same (suc w) (a ∷ s) [] h =
    let e : number w s ≡ number w [] = number_same w s [] (λ i l. h (suc i) (omega arith)) in
    omega (arith, h 0 (omega arith), number_none w)
number_same (suc w) (a ∷ s) (b ∷ t) h =
    rw (h 0 (omega arith), number_same w s t (λ i l. h (suc i) (omega arith)))

-- a byte that was written
pub get_d_splice : (at : ℕ) (p room : List ℕ) → at + length p ≤ length room → (i : ℕ) → i < length p → get_or (splice at p room) (at + i) 0 ≡ get_or p i 0
unfolding splice
get_d_splice at p room h i l =
    let e : length (take at room) ≡ at = length-take-le at room (omega arith) in
    let d : get_or (take at room ++ (p ++ drop (at + length p) room)) (at + i) 0 ≡ get_or (p ++ drop (at + length p) room) i 0
    = rw e at (get_or-append-add (take at room) (p ++ drop (at + length p) room) i 0) in
    rw append_assoc (d ∙ get_or-append p (drop (at + length p) room) 0 i l)

-- entry k of a run of entries that was written
pub piece_splice : (w : ℕ) (f : ℕ → List ℕ) (n at : ℕ) (room : List ℕ) → ((k : ℕ) → k < n → length (f k) ≡ w) → at + w * n ≤ length room
    → (k : ℕ) → k < n → take w (drop (at + w * k) (splice at (pieces f n) room)) ≡ f k
unfolding splice
piece_splice w f n at room g h k l =
    let e : length (take at room) ≡ at = length-take-le at room (omega arith) in
    rw (append_assoc, drop_after (take at room) (pieces f n ++ drop (at + length (pieces f n)) room) at (w * k) e) (piece_run w f n _ k g l)
