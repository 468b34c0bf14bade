-- Byte strings: the bytes of each slot after a copy or an order of nulls. Assumes nothing.
use mathlib.Core.Path.{◌≡◌, refl, ap, ◌∙◌}
use mathlib.Core.Bool.{Bool, true, false}
use mathlib.Core.List.{List, ◌++◌}
use Prim.Native.Nat.{ℕ, zero, suc, ◌+◌, ◌-◌, ◌≤◌, ◌<◌}
use native.Mathlib.Nat.{add-zero}
use native.Mathlib.Omega.{arith}
use lib.ListN.{length, take, drop, get_or, length-append, length-drop}
use lib.Seq.{take-append-le, drop-append-le, drop-append-add}
use lib.Dec.{ltb}
use borrow.Author.Tests.{ltb-true, ltb-false, lt-ltb, le-ltb}
use Rattle.number.specs.Number.{encode}
use Rattle.columnar.specs.Row.{seg}
use Rattle.columnar.specs.Types.{half}
use Rattle.columnar.specs.Array.{item}
use Rattle.columnar.specs.Entries.{encodes}
use Rattle.columnar.specs.Plain.{Text, span}
use Rattle.columnar.proofs.Items.{item_left, item_right, item_encodes_lt, length_encodes}
use Rattle.model.specs.Try.{Try, done, then, guard}
use Rattle.model.specs.Primitive.{new_offsets}
use Rattle.model.proofs.Bits.{shift, length_seg, get_d_seg}
use Rattle.model.proofs.Pieces.{below_add, seg_shift}
use Rattle.model.proofs.Nodes.{OffsetsFine, TextFine}
use Rattle.model.proofs.Names.{repeated}

-- offsets whose last is `most`, with n more: the i-th is `most` and g i
abbrev pub offsets_with : ℕ → List ℕ → ℕ → ℕ → (ℕ → ℕ) → List ℕ
offsets_with w s most n g = s ++ encodes w (seg (λ i. most + g i) 1 n)

-- d with n slots more: slot i's bytes are those of x from g i up to g (i + 1)
abbrev pub text_with : ℕ → Text → ℕ → (ℕ → ℕ) → List ℕ → Text
text_with w d n g x = record { offsets = offsets_with w d.offsets (length d.chars) n g; chars = d.chars ++ x }

-- the steps of g from 0 to x
pub record StepsTo (n : ℕ) (g : ℕ → ℕ) (x : ℕ) : Type 0 where
  pub first : g 0 ≡ 0
  pub rises : (i : ℕ) → i < n → g i ≤ g (suc i)
  pub last : g n ≡ x

-- the steps of g from 0 to the length of x
abbrev pub Steps : ℕ → (ℕ → ℕ) → List ℕ → Type 0
Steps n g x = StepsTo n g (length x)

-- what rises by steps is below its last
pub steps_below : (n : ℕ) (g : ℕ → ℕ) → ((i : ℕ) → i < n → g i ≤ g (suc i)) → (i : ℕ) → i ≤ n → g i ≤ g n
steps_below zero g h i q = let e : i ≡ 0 = omega arith in rw e (omega arith)
steps_below (suc n) g h i q = below_add (λ i. g i ≤ g (suc n)) (suc n) 1
    (λ i p. omega (arith, steps_below n g (λ j r. h j (omega arith)) i (omega arith), h n (omega arith)))
    (λ j p. let e : suc n + j ≡ suc n = omega arith in rw e (omega arith)) i (omega arith)

module _ (w : ℕ) (os : List ℕ) (most l : ℕ) (h : OffsetsFine w os most l) (n : ℕ) (g : ℕ → ℕ) (x : ℕ) (s : StepsTo n g x) (fits : most + x < half w) where
  pub old_offset : (i : ℕ) → i ≤ l → item w (offsets_with w os most n g) i ≡ item w os i
  old_offset i q = item_left w os _ i (suc l) (omega (arith, h.offsets_are)) (omega arith)

  pub new_offset : (i : ℕ) → i ≤ n → item w (offsets_with w os most n g) (l + i) ≡ most + g i
  new_offset zero q = rw add-zero (old_offset l (omega arith) ∙ h.last_is ∙ rw (s.first, add-zero))
  new_offset (suc i) q =
      let f : ℕ → ℕ = λ i. most + g i in
      let e : get_or (seg f 1 n) i 0 ≡ f (1 + i) = get_d_seg f 1 n i 0 q in
      let z : 1 + i ≡ suc i = omega arith in
      rw (← shift l i)
      (item_right w os _ (suc l) i h.offsets_are
      ∙ item_encodes_lt w (seg f 1 n) i (rw length_seg q) (rw (e, z) (omega (arith, steps_below n g s.rises (suc i) q, s.last)))
      ∙ rw (e, z))

  with_rises : (i : ℕ) → i < l + n → item w (offsets_with w os most n g) i ≤ item w (offsets_with w os most n g) (suc i)
  with_rises = below_add (λ i. item w (offsets_with w os most n g) i ≤ item w (offsets_with w os most n g) (suc i)) l n
      (λ i q. rw (old_offset i (omega arith), old_offset (suc i) (omega arith)) (h.rises i q))
      (λ i q. let e : suc (l + i) ≡ l + suc i = omega arith in rw (e, new_offset i (omega arith), new_offset (suc i) (omega arith)) (omega (arith, s.rises i q)))

  pub offsets_with_fine : OffsetsFine w (offsets_with w os most n g) (most + x) (l + n)
  offsets_with_fine =
      record {
        offsets_are = rw (length-append, length_encodes, length_seg, h.offsets_are) (omega arith);
        rises = with_rises;
        last_is = rw (new_offset n (omega arith), s.last);
        fits = fits;
      }

module _ (w : ℕ) (d : Text) (l : ℕ) (h : TextFine w d l) (n : ℕ) (g : ℕ → ℕ) (x : List ℕ) (s : Steps n g x) (fits : length d.chars + length x < half w) where
  abbrev old : (i : ℕ) → i ≤ l → item w (text_with w d n g x).offsets i ≡ item w d.offsets i
  old = old_offset w d.offsets (length d.chars) l h n g (length x) s fits

  abbrev new : (i : ℕ) → i ≤ n → item w (text_with w d n g x).offsets (l + i) ≡ length d.chars + g i
  new = new_offset w d.offsets (length d.chars) l h n g (length x) s fits

  pub with_fine : TextFine w (text_with w d n g x) (l + n)
  with_fine = rw length-append (offsets_with_fine w d.offsets (length d.chars) l h n g (length x) s fits)

  -- the slots before keep their bytes
  pub with_old : (i : ℕ) → i < l → span w (text_with w d n g x) i ≡ span w d i
  with_old i q =
      let o : ℕ → ℕ = item w d.offsets in
      let u : o (suc i) ≤ length d.chars = rw (← h.last_is) (steps_below l o h.rises (suc i) q) in
      let v : o i ≤ o (suc i) = h.rises i q in
      let y : o i ≤ length d.chars = omega arith in
      let z : o (suc i) - o i ≤ length (drop (o i) d.chars) = rw length-drop (omega arith) in
      rw (old i (omega arith), old (suc i) (omega arith), drop-append-le, take-append-le)

  -- the new ones
  pub with_new : (i : ℕ) → i < n → span w (text_with w d n g x) (l + i) ≡ take (g (suc i) - g i) (drop (g i) x)
  with_new i q =
      let e : suc (l + i) ≡ l + suc i = omega arith in
      let z : length d.chars + g (suc i) - (length d.chars + g i) ≡ g (suc i) - g i = omega arith in
      rw (e, new i (omega arith), new (suc i) (omega arith), z, drop-append-add)

-- ---- new offsets

pub guard_then : {A B : Type 0} (b : Bool) (g : ℕ) (x : A) (f : A → Try B) → then (guard b g (done x)) f ≡ guard b g (f x)
guard_then true g x f = refl
guard_then false g x f = refl

-- entries a to a + n never fall
abbrev pub Rising : (ℕ → ℕ) → ℕ → ℕ → Type 0
Rising o a n = (i : ℕ) → i < n → o (a + i) ≤ o (suc (a + i))

pub rising_below : (o : ℕ → ℕ) (a n : ℕ) → Rising o a n → (i j : ℕ) → i ≤ j → j ≤ n → o (a + i) ≤ o (a + j)
rising_below o a n h i j p q =
    steps_below j (λ i. o (a + i)) (λ i r. let e : a + suc i ≡ suc (a + i) = omega arith in rw e (h i (omega arith))) i p

rising_next : (o : ℕ → ℕ) (a n : ℕ) → Rising o a (suc n) → Rising o (suc a) n
rising_next o a n h i q = rw (shift a i) (h (suc i) (omega arith))

-- the numbers written, from the next one on
offsets_next : (o : ℕ → ℕ) (a n last : ℕ) → Rising o a (suc n)
    → seg (λ i. last + (o (suc a) - o a) + (o (suc a + i) - o (suc a))) 1 n ≡ seg (λ i. last + (o (a + i) - o a)) 2 n
offsets_next o a n last h =
    seg_shift _ _ 1 2 n
    (λ i q.
    let e : suc a + (1 + i) ≡ a + (2 + i) = omega arith in
    let z : a + 1 ≡ suc a = omega arith in
    let u : o a ≤ o (suc a) = rw (add-zero a, z) at (rising_below o a (suc n) h 0 1 (omega arith) (omega arith)) in
    let v : o (suc a) ≤ o (a + (2 + i)) = rw z at (rising_below o a (suc n) h 1 (2 + i) (omega arith) (omega arith)) in
    rw e (omega arith))

-- offsets tested one after another, of a source whose offsets never fall, are tested by their last
pub new_offsets_lem : (w : ℕ) (s : List ℕ) (a n last : ℕ) → Rising (item w s) a n → last < half w
    → new_offsets w s a n last
    ≡ guard (ltb (last + (item w s (a + n) - item w s a)) (half w)) 6 (done (encodes w (seg (λ i. last + (item w s (a + i) - item w s a)) 1 n)))
new_offsets_lem w s a zero last h q =
    let e : last + (item w s (a + 0) - item w s a) ≡ last = rw add-zero (omega arith) in
    rw (e, lt-ltb last (half w) q)
new_offsets_lem w s a (suc n) last h q = go (ltb next (half w)) refl (new_offsets_lem w s (suc a) n next (rising_next o a n h))
  where
    o : ℕ → ℕ
    o i = item w s i

    z : a + 1 ≡ suc a
    z = omega arith

    u : o a ≤ o (suc a)
    u = rw (add-zero a, z) at (rising_below o a (suc n) h 0 1 (omega arith) (omega arith))

    v : o (suc a) ≤ o (a + suc n)
    v = rw z at (rising_below o a (suc n) h 1 (suc n) (omega arith) (omega arith))

    next : ℕ
    next = last + (o (suc a) - o a)

    go : (b : Bool) → ltb next (half w) ≡ b
        → (next < half w → new_offsets w s (suc a) n next ≡ guard (ltb (next + (o (suc a + n) - o (suc a))) (half w)) 6 (done (encodes w (seg (λ i. next + (o (suc a + i) - o (suc a))) 1 n))))
        → guard b 6 (then (new_offsets w s (suc a) n next) (λ os. done (encode w next ++ os)))
        ≡ guard (ltb (last + (o (a + suc n) - o a)) (half w)) 6 (done (encodes w (seg (λ i. last + (o (a + i) - o a)) 1 (suc n))))
    go true e r =
        let y : next + (o (a + suc n) - o (suc a)) ≡ last + (o (a + suc n) - o a) = omega (arith, u, v) in
        rw (
          r (ltb-true _ _ e),
          guard_then,
          offsets_next o a n last h,
          shift a n,
          y,
          z,
        )
    go false e r = rw (le-ltb (last + (o (a + suc n) - o a)) (half w) (omega (arith, u, v, ltb-false next (half w) e)))

-- a null repeats the last offset
pub repeated_is : (w v k n : ℕ) → repeated w v n ≡ encodes w (seg (λ i. v + 0) k n)
repeated_is w v k zero = refl
repeated_is w v k (suc n) = rw (add-zero v) (ap (encode w v ++◌) (repeated_is w v (suc k) n))
