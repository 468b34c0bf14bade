-- Keys written over others: one entry of a buffer changed, and the rows of a block. Assumes nothing.
use mathlib.Core.Path.{◌≡◌, refl, sym, ap, ap₂, ◌∙◌}
use mathlib.Core.Bool.{Bool, true, false, cond, ◌&&◌}
use mathlib.Core.List.{List, ◌∷◌, ◌++◌, append_assoc}
use Prim.Native.Nat.{ℕ, zero, suc, ◌+◌, ◌*◌, ◌-◌, ◌≤◌, ◌<◌}
use native.Mathlib.Nat.{zero-add, add-zero, mul_comm}
use native.Mathlib.Decide.{ℕ_discrete}
use native.Mathlib.Omega.{arith}
use lib.ListN.{length, take, drop, replicate, length-append}
use lib.Seq.{take_at, drop-append-add, length-take-le}
use lib.Dec.{leb, ltb}
use borrow.Author.Tests.{leb-true, leb-false, ltb-true, ltb-false, lt-ltb, le-ltb}
use Rattle.number.specs.Number.{encode, splice}
use Rattle.number.proofs.Laws.{length_encode}
use Rattle.columnar.specs.Row.{seg}
use Rattle.columnar.specs.Entries.{encodes}
use Rattle.columnar.proofs.Items.{length_encodes, encodes_append}
use Rattle.columnar.proofs.Kept.{seg_same}
use Rattle.model.proofs.Bits.{length_seg}
use Rattle.model.proofs.Rows.{seg_append}
use Rattle.reclaim.specs.used_entries.Keys.{Keys, valid_of, key_of, rank, new_key, new_keys, slot_in}

-- ---- one entry of a buffer

-- bytes in the middle of what was written
splice_over : (at : ℕ) (p q q' t s : List ℕ) → length q ≡ length q' → at ≤ length s
    → splice (at + length p) q' (splice at (p ++ (q ++ t)) s) ≡ splice at (p ++ (q' ++ t)) s
unfolding splice
splice_over at p q q' t s e l =
    let front = take at s ++ p in
    let rest = drop (at + length (p ++ (q ++ t))) s in
    let f : length front ≡ at + length p = length-append (take at s) p ∙ ap (λ n. n + length p) (length-take-le at s l) in
    let whole : take at s ++ (p ++ (q ++ t)) ++ rest ≡ front ++ (q ++ (t ++ rest))
    = ap (λ z. z ++ rest) (sym (append_assoc (take at s) p (q ++ t))) ∙ append_assoc front (q ++ t) rest ∙ ap (front ++◌) (append_assoc q t rest) in
    let lead : take (at + length p) (front ++ (q ++ (t ++ rest))) ≡ front = take_at front (q ++ (t ++ rest)) (at + length p) f in
    let tail : drop (at + length p + length q') (front ++ (q ++ (t ++ rest))) ≡ t ++ rest
    = ap₂ (λ a b. drop (a + b) (front ++ (q ++ (t ++ rest)))) (sym f) (sym e)
    ∙ drop-append-add front (q ++ (t ++ rest)) (length q)
    ∙ ap (λ n. drop n (q ++ (t ++ rest))) (sym (add-zero (length q))) ∙ drop-append-add q (t ++ rest) 0 in
    let same : length (p ++ (q ++ t)) ≡ length (p ++ (q' ++ t))
    = length-append p (q ++ t) ∙ ap (length p +◌) (length-append q t ∙ ap (λ n. n + length t) e ∙ sym (length-append q' t)) ∙ sym (length-append p (q' ++ t)) in
    ap₂ (λ a b. take (at + length p) a ++ q' ++ drop (at + length p + length q') b) whole whole
    ∙ ap₂ (λ a b. a ++ q' ++ b) lead tail
    ∙ append_assoc front q' (t ++ rest) ∙ ap (front ++◌) (sym (append_assoc q' t rest))
    ∙ sym (append_assoc front (q' ++ t) rest) ∙ ap (λ z. z ++ rest) (append_assoc (take at s) p (q' ++ t))
    ∙ ap (λ n. take at s ++ (p ++ (q' ++ t)) ++ drop (at + n) s) same

-- entry r of a buffer's entries
entries_cut : (w : ℕ) (f : ℕ → ℕ) (r m : ℕ) → encodes w (seg f 0 (r + suc m)) ≡ encodes w (seg f 0 r) ++ (encode w (f r) ++ encodes w (seg f (suc r) m))
entries_cut w f r m = ap (encodes w) (seg_append f 0 r (suc m) ∙ ap (λ a. seg f 0 r ++ seg f a (suc m)) (zero-add r)) ∙ encodes_append w (seg f 0 r) (f r ∷ seg f (suc r) m)

-- ENTRY r OF n WRITTEN OVER
pub entry_over : (w : ℕ) (f g : ℕ → ℕ) (n r to : ℕ) (s : List ℕ) → r < n → to ≤ length s → ((i : ℕ) → (i ≡ r → ⊥) → f i ≡ g i)
    → splice (to + w * r) (encode w (g r)) (splice to (encodes w (seg f 0 n)) s) ≡ splice to (encodes w (seg g 0 n)) s
entry_over w f g n r to s l h e =
    let m = n - suc r in
    let k : n ≡ r + suc m = omega arith in
    let long : length (encodes w (seg f 0 r)) ≡ w * r = length_encodes w (seg f 0 r) ∙ ap (λ z. z * w) (length_seg f 0 r) ∙ mul_comm r w in
    let front : encodes w (seg f 0 r) ≡ encodes w (seg g 0 r) = ap (encodes w) (seg_same f g 0 r (λ i q. e (0 + i) (λ z. omega arith))) in
    let back : encodes w (seg f (suc r) m) ≡ encodes w (seg g (suc r) m) = ap (encodes w) (seg_same f g (suc r) m (λ i q. e (suc r + i) (λ z. omega arith))) in
    ap (λ z. splice (to + w * r) (encode w (g r)) (splice to (encodes w (seg f 0 z)) s)) k
    ∙ ap₂ (λ a b. splice (to + a) (encode w (g r)) (splice to b s)) (sym long) (entries_cut w f r m)
    ∙ splice_over to (encodes w (seg f 0 r)) (encode w (f r)) (encode w (g r)) (encodes w (seg f (suc r) m)) s (length_encode w (f r) ∙ sym (length_encode w (g r))) h
    ∙ ap₂ (λ a b. splice to (a ++ (encode w (g r) ++ b)) s) front back
    ∙ ap (λ z. splice to z s) (sym (entries_cut w g r m))
    ∙ ap (λ z. splice to (encodes w (seg g 0 z)) s) (sym k)

-- ---- the rows of a block

-- the keys while the block of n entries from b on is written: the first r rows are done
abbrev pub mixed_key : Keys → ℕ → ℕ → ℕ → ℕ → ℕ
mixed_key x b n r i = cond (ltb i r) (new_key x (b + n) i) (new_key x b i)

module _ (x : Keys) (b n : ℕ) (few : n ≤ 512) where
  abbrev mixed : ℕ → ℕ → ℕ
  mixed r i = mixed_key x b n r i

  -- a row whose key falls in the block has its rank from now on ..
  pub key_in_lem : (r s : ℕ) → s ≡ slot_in x b n r → s < 512 → (s < n) × (new_key x (b + n) r ≡ rank x (b + s))
  unfolding slot_in new_key
  key_in_lem r s e l = go (valid_of x r) (leb b (key_of x r)) refl (ltb (key_of x r - b) n) refl e
    where
      go : (v u : Bool) → leb b (key_of x r) ≡ u → (t : Bool) → ltb (key_of x r - b) n ≡ t → s ≡ cond (v && u && t) (key_of x r - b) 512
          → (s < n) × (cond (v && ltb (key_of x r) (b + n)) (rank x (key_of x r)) 0 ≡ rank x (b + s))
      go true true p true q h =
          let y = leb-true b (key_of x r) p in
          let z = ltb-true (key_of x r - b) n q in
          let k : key_of x r ≡ b + s = omega arith in
          (omega arith, rw (lt-ltb (key_of x r) (b + n) (omega arith)) (ap (rank x) k))
      go true true p false q h = absurd (omega arith)
      go true false p t q h = absurd (omega arith)
      go false u p t q h = absurd (omega arith)

  -- .. and any other what it had
  pub key_out : (r s : ℕ) → s ≡ slot_in x b n r → 512 ≤ s → new_key x b r ≡ new_key x (b + n) r
  unfolding slot_in new_key
  key_out r s e l = go (valid_of x r) (leb b (key_of x r)) refl (ltb (key_of x r - b) n) refl e
    where
      go : (v u : Bool) → leb b (key_of x r) ≡ u → (t : Bool) → ltb (key_of x r - b) n ≡ t → s ≡ cond (v && u && t) (key_of x r - b) 512
          → cond (v && ltb (key_of x r) b) (rank x (key_of x r)) 0 ≡ cond (v && ltb (key_of x r) (b + n)) (rank x (key_of x r)) 0
      go true true p true q h = absurd (let z = ltb-true (key_of x r - b) n q in omega arith)
      go true true p false q h =
          let y = leb-true b (key_of x r) p in
          let z = ltb-false (key_of x r - b) n q in
          rw (le-ltb (key_of x r) b y, le-ltb (key_of x r) (b + n) (omega arith))
      go true false p t q h =
          let y = leb-false b (key_of x r) p in
          rw (lt-ltb (key_of x r) b (omega arith), lt-ltb (key_of x r) (b + n) (omega arith))
      go false u p t q h = refl

  mixed_other : (r i : ℕ) → (i ≡ r → ⊥) → mixed r i ≡ mixed (suc r) i
  mixed_other r i h = go (ltb i r) refl
    where
      go : (t : Bool) → ltb i r ≡ t → cond t (new_key x (b + n) i) (new_key x b i) ≡ mixed (suc r) i
      go true e = let z = ltb-true i r e in rw (lt-ltb i (suc r) (omega arith))
      go false e = let z = ltb-false i r e in let y : suc r ≤ i = omega (arith, low z (ℕ_discrete i r)) in rw (le-ltb i (suc r) y)
        where
          low : r ≤ i → Dec (i ≡ r) → suc r ≤ i
          low z (yes q) = absurd (h q)
          low z (no q) = omega arith

  mixed_here : (r : ℕ) → mixed (suc r) r ≡ new_key x (b + n) r
  mixed_here r = rw (lt-ltb r (suc r) (omega arith))

  mixed_was : (r : ℕ) → mixed r r ≡ new_key x b r
  mixed_was r = rw (le-ltb r r (omega arith))

  -- before the first row, and behind the last
  pub mixed_none : (m : ℕ) → seg (new_key x b) 0 m ≡ seg (mixed_key x b n 0) 0 m
  mixed_none m = seg_same (new_key x b) (mixed_key x b n 0) 0 m (λ i l. sym (rw (le-ltb (0 + i) 0 (omega arith))))

  pub mixed_all : (m : ℕ) → seg (mixed_key x b n m) 0 m ≡ seg (new_key x (b + n)) 0 m
  mixed_all m = seg_same (mixed_key x b n m) (new_key x (b + n)) 0 m (λ i l. rw (lt-ltb (0 + i) m (omega arith)))

  -- ONE MORE ROW
  pub block_step : (m r s to v : ℕ) (room room' old : List ℕ) → r < m → to ≤ length old → s ≡ slot_in x b n r → (s < n → v ≡ rank x (b + s))
      → room ≡ splice to (encodes x.wide (seg (mixed_key x b n r) 0 m)) old → room' ≡ cond (ltb s 512) (splice (to + x.wide * r) (encode x.wide v) room) room
      → room' ≡ splice to (encodes x.wide (seg (mixed_key x b n (suc r)) 0 m)) old
  block_step m r s to v room room' old l k e f p q = q ∙ go (ltb s 512) refl
    where
      same : new_key x b r ≡ new_key x (b + n) r → seg (mixed r) 0 m ≡ seg (mixed (suc r)) 0 m
      same h = seg_same (mixed r) (mixed (suc r)) 0 m (λ i u. by (ℕ_discrete (0 + i) r))
        where
          by : {i : ℕ} → Dec (i ≡ r) → mixed r i ≡ mixed (suc r) i
          by (yes z) = ap (λ j. mixed r j) z ∙ mixed_was r ∙ h ∙ sym (mixed_here r) ∙ ap (λ j. mixed (suc r) j) (sym z)
          by {i} (no z) = mixed_other r i z

      go : (t : Bool) → ltb s 512 ≡ t → cond t (splice (to + x.wide * r) (encode x.wide v) room) room ≡ splice to (encodes x.wide (seg (mixed (suc r)) 0 m)) old
      go true h =
          let z = key_in_lem r s e (ltb-true s 512 h) in
          let y : v ≡ mixed (suc r) r = f z.0 ∙ sym z.1 ∙ sym (mixed_here r) in
          ap₂ (λ u a. splice (to + x.wide * r) (encode x.wide u) a) y p
          ∙ entry_over x.wide (mixed r) (mixed (suc r)) m r to old l k (λ i u. mixed_other r i u)
      go false h = p ∙ ap (λ z. splice to (encodes x.wide z) old) (same (key_out r s e (ltb-false s 512 h)))

-- ---- no key yet

zeros_encode : (w : ℕ) → encode w 0 ≡ replicate w 0
unfolding encode
zeros_encode zero = refl
zeros_encode (suc w) = ap (0 ∷◌) (zeros_encode w)

replicate_add : (a b : ℕ) → ◌++◌ {A = ℕ} (replicate a 0) (replicate b 0) ≡ replicate (a + b) 0
replicate_add zero b = ap (λ n. replicate n 0) (sym (zero-add b))
replicate_add (suc a) b = let e : suc (a + b) ≡ suc a + b = omega arith in ap (0 ∷◌) (replicate_add a b) ∙ ap (λ n. replicate n 0) e

-- below entry 0 every key is 0
pub none_yet : (x : Keys) (n a : ℕ) → replicate (x.wide * n) 0 ≡ encodes x.wide (seg (new_key x 0) a n)
unfolding new_key
none_yet x zero a = let e : x.wide * 0 ≡ 0 = omega arith in ap (λ n. replicate n 0) e
none_yet x (suc n) a =
    let e : x.wide * suc n ≡ x.wide + x.wide * n = omega arith in
    ap (λ n. replicate n 0) e ∙ sym (replicate_add x.wide (x.wide * n)) ∙ ap₂ ◌++◌ (sym (zeros_encode x.wide) ∙ ap (encode x.wide) (sym (zero_key (valid_of x a)))) (none_yet x n (suc a))
  where
    zero_key : (v : Bool) → cond (v && ltb (key_of x a) 0) (rank x (key_of x a)) 0 ≡ 0
    zero_key true = rw (le-ltb (key_of x a) 0 (omega arith))
    zero_key false = refl

pub all_keys : (x : Keys) (e : ℕ) → encodes x.wide (seg (new_key x e) 0 x.len) ≡ new_keys x e
unfolding new_keys
all_keys x e = refl
