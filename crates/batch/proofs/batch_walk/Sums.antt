-- Sums of sizes and furthest ends, and entries in the body. Assumes nothing.
use mathlib.Core.Path.{◌≡◌, refl, ap, subst, ◌∙◌}
use mathlib.Core.Bool.{Bool, true, false, cond}
use mathlib.Core.List.{List}
use Prim.Native.Nat.{ℕ, zero, suc, ◌+◌, ◌*◌, ◌-◌, ◌≤◌, ◌<◌, min, max}
use native.Mathlib.Nat.{mul-le-mul_left}
use native.Mathlib.Numerals.{add-one}
use native.Mathlib.Omega.{arith}
use lib.ListN.{length, take, drop, get_or, length-drop}
use lib.Seq.{get_or-drop}
use lib.Dec.{ltb, eqb}
use borrow.Author.Tests.{ltb-true, ltb-false, eqb-true, eqb-false}
use Rattle.number.specs.Number.{number, encode, splice}
use Rattle.number.proofs.Laws.{encode_number}
use Rattle.batch.proofs.Splices.{copy_copy}
use Rattle.walk.specs.State.{grown, top}
use Rattle.batch.specs.Stretch.{sum_of}
use Rattle.batch.proofs.ListViews.{sum_up}
use Rattle.batch.specs.batch_walk.Side.{furthest_of}

-- entry slot + r of n from slot on
pub entry_in_lem : (at w slot n r len : ℕ) → at + w * (slot + n) ≤ len → r < n → at + w * (slot + r + 1) ≤ len
entry_in_lem at w slot n r len h l = let g : w * (slot + r + 1) ≤ w * (slot + n) = mul-le-mul_left w (omega arith) in omega arith

-- entry r of n
pub step_in : (at w n r len : ℕ) → at + w * n ≤ len → r < n → at + w * (r + 1) ≤ len
step_in at w n r len h l = let g : w * (r + 1) ≤ w * n = mul-le-mul_left w (omega arith) in omega arith

pub sum_none : (f : ℕ → ℕ) (v : ℕ) → v ≡ v + sum_of f 0
unfolding sum_of
sum_none f v = omega arith

pub sum_next : (f : ℕ → ℕ) (r : ℕ) → sum_of f (suc r) ≡ sum_of f r + f r
unfolding sum_of
sum_next f r = refl

pub sum_more : (f : ℕ → ℕ) (r : ℕ) → sum_of f (r + 1) ≡ sum_of f r + f r
unfolding sum_of
sum_more f r = rw (add-one r) refl

pub sum_below : (f : ℕ → ℕ) (r n : ℕ) → r ≤ n → sum_of f r ≤ sum_of f n
sum_below f r n h = let e : r + (n - r) ≡ n = omega arith in subst (λ v. sum_of f r ≤ sum_of f v) e (sum_up f r (n - r))

pub grown_none : (f : ℕ → ℕ) (v : ℕ) → v ≤ top → v ≡ grown v (sum_of f 0)
unfolding grown sum_of
grown_none f v h = omega arith

pub grown_more : (f : ℕ → ℕ) (v r : ℕ) {e s t : ℕ} → s ≡ grown v (sum_of f r) → e ≡ f r → t ≡ grown s e → t ≡ grown v (sum_of f (r + 1))
unfolding grown
grown_more f v r p q g = let k = sum_more f r in omega arith

pub furthest_none : (f : ℕ → ℕ) → 0 ≡ furthest_of f 0
unfolding furthest_of
furthest_none f = refl

-- the larger of two numbers
pub larger_is : (s e : ℕ) {t : ℕ} → t ≡ max s e → t ≡ cond (ltb s e) e s
larger_is s e {t} g = go (ltb s e) refl
  where
    go : (u : Bool) → ltb s e ≡ u → t ≡ cond u e s
    go true q = let l = ltb-true s e q in omega arith
    go false q = let l = ltb-false s e q in omega arith

pub furthest_more : (f : ℕ → ℕ) (r : ℕ) {e s t : ℕ} → s ≡ furthest_of f r → e ≡ min (f r) top → t ≡ max s e → t ≡ furthest_of f (r + 1)
unfolding furthest_of
furthest_more f r {e} {s} p q g = let h = larger_is s e g in rw (add-one r) (rw (p, q) at h)

-- the end of the rows that an offset and a size name
pub end_is : {e s z v u : ℕ} → e ≡ grown s z → s ≡ v → z ≡ u → e ≡ min (v + u) top
unfolding grown
end_is p q h = rw (q, h) at p

-- none is further
pub furthest_most : (f : ℕ → ℕ) (n r : ℕ) → r < n → min (f r) top ≤ furthest_of f n
unfolding furthest_of
furthest_most f zero r h = absurd (omega arith)
furthest_most f (suc n) r h = go (eqb r n) refl (ltb (furthest_of f n) (min (f n) top)) refl (λ l. furthest_most f n r l)
  where
    go : (u : Bool) → eqb r n ≡ u → (t : Bool) → ltb (furthest_of f n) (min (f n) top) ≡ t → (r < n → min (f r) top ≤ furthest_of f n) → min (f r) top ≤ cond t (min (f n) top) (furthest_of f n)
    go true q true e ih = let k = eqb-true r n q in rw k (omega arith)
    go true q false e ih = let k = eqb-true r n q in let l = ltb-false (furthest_of f n) (min (f n) top) e in rw k l
    go false q true e ih = let k = ih (let d = eqb-false r n q in omega arith) in let l = ltb-true (furthest_of f n) (min (f n) top) e in omega arith
    go false q false e ih = ih (let d = eqb-false r n q in omega arith)

-- ---- words of 4 bytes

pub words_step : (room body : List ℕ) (at from q m : ℕ) → at + 4 * m ≤ length room → from + 4 * m ≤ length body → q < m
    → splice (at + 4 * q) (take 4 (drop (from + 4 * q) body)) (splice at (take (4 * q) (drop from body)) room) ≡ splice at (take (4 * (q + 1)) (drop from body)) room
words_step room body at from q m h g l =
    let e : 4 * q + 4 ≡ 4 * (q + 1) = omega arith in
    subst (λ v. splice (at + 4 * q) (take 4 (drop (from + 4 * q) body)) (splice at (take (4 * q) (drop from body)) room) ≡ splice at (take v (drop from body)) room) e
    (copy_copy room body at from (4 * q) 4 (omega arith) (omega arith))

-- a number read and written is the bytes where it stood
pub word_is : (w : ℕ) (room body : List ℕ) (to from : ℕ) {room2 : List ℕ} {v : ℕ} → from + w ≤ length body → ((i : ℕ) → get_or body i 0 < 256) → v ≡ number w (drop from body) → room2 ≡ splice to (encode w v) room
    → room2 ≡ splice to (take w (drop from body)) room
word_is w room body to from h small e f =
    f ∙ ap (λ z. splice to (encode w z) room) e ∙ ap (λ z. splice to z room) (encode_number w (drop from body) (rw length-drop (omega arith)) (λ i. rw get_or-drop (small (from + i))))
