-- The offsets of a source that a copy reads, and those that it makes of neighbouring stretches. Assumes nothing.
use mathlib.Core.Path.{◌≡◌, sym, ap, ap₂, ◌∙◌}
use mathlib.Core.List.{List, ◌++◌}
use Prim.Native.Nat.{ℕ, zero, suc, ◌+◌, ◌-◌, ◌≤◌, ◌<◌}
use native.Mathlib.Nat.{add-zero}
use native.Mathlib.Omega.{arith}
use lib.ListN.{length, take, drop, length-drop}
use lib.Seq.{length-take-le}
use lib.Dec.{ltb}
use borrow.Author.Tests.{ltb-true, lt-ltb}
use Rattle.columnar.specs.Row.{seg}
use Rattle.columnar.specs.Types.{half}
use Rattle.columnar.specs.Array.{item}
use Rattle.columnar.specs.Entries.{encodes}
use Rattle.columnar.specs.Plain.{Text, OffsetsRule, StringRule, empty, full}
use Rattle.columnar.proofs.Items.{encodes_append}
use Rattle.model.specs.Try.{done}
use Rattle.model.specs.Primitive.{new_offsets}
use Rattle.model.proofs.Rows.{seg_append}
use Rattle.model.proofs.Pieces.{seg_shift}
use Rattle.model.proofs.TextLaw.{Rising, rising_below, new_offsets_lem}
use Rattle.model.proofs.Follow.{guard_done}
use Rattle.model.proofs.CutTries.{done_is, guard_is}

-- the entries of a source that a copy reads never fall
pub offsets_rising : (w : ℕ) (s : List ℕ) (most off len : ℕ) → OffsetsRule w s most off len → (a n : ℕ) → off ≤ a → a + n ≤ off + len → Rising (item w s) a n
offsets_rising w s most off len (empty e g) a n h k i q = absurd (omega arith)
offsets_rising w s most off len (full r) a n h k i q =
    let z : off + (a + i - off) ≡ a + i = omega arith in
    let y : off + (a + i - off) + 1 ≡ suc (a + i) = omega arith in
    let x = r.rises (a + i - off) (omega arith) in
    rw (y, z) at x

-- .. and what they name is there
pub offsets_within : (w : ℕ) (s : List ℕ) (most off len : ℕ) → OffsetsRule w s most off len → (a n : ℕ) → 0 < n → off ≤ a → a + n ≤ off + len → item w s (a + n) ≤ most
offsets_within w s most off len (empty e g) a n p h k = absurd (omega arith)
offsets_within w s most off len (full r) a n p h k =
    let up = rising_below (item w s) (a + n) (off + len - (a + n)) (offsets_rising w s most off len (full r) (a + n) (off + len - (a + n)) (omega arith) (omega arith)) 0 (off + len - (a + n)) (omega arith) (omega arith) in
    let z : a + n + 0 ≡ a + n = omega arith in
    let y : a + n + (off + len - (a + n)) ≡ off + len = omega arith in
    let x : item w s (a + n) ≤ item w s (off + len) = rw (z, y) at up in
    omega (arith, x, r.within)

-- the bytes of n slots are as many as their offsets say
pub text_bytes : (w : ℕ) (b : Text) (off len : ℕ) → StringRule w b off len → (a n : ℕ) → off ≤ a → a + n ≤ off + len
    → length (take (item w b.offsets (a + n) - item w b.offsets a) (drop (item w b.offsets a) b.chars)) ≡ item w b.offsets (a + n) - item w b.offsets a
text_bytes w b off len r a zero h k = let z : item w b.offsets (a + 0) - item w b.offsets a ≡ 0 = rw add-zero (omega arith) in rw z
text_bytes w b off len r a (suc n) h k =
    length-take-le _ _ (rw length-drop (omega (arith, offsets_within w b.offsets (length b.chars) off len r a (suc n) (omega arith) h k)))

-- offsets that are done, of a source whose offsets never fall
pub record Offset (w : ℕ) (s : List ℕ) (a n last : ℕ) (os : List ℕ) : Type 0 where
  pub fits : last + (item w s (a + n) - item w s a) < half w
  pub are : encodes w (seg (λ i. last + (item w s (a + i) - item w s a)) 1 n) ≡ os

pub offset_done : (w : ℕ) (s : List ℕ) (a n last : ℕ) (os : List ℕ) → Rising (item w s) a n → last < half w → new_offsets w s a n last ≡ done os → Offset w s a n last os
offset_done w s a n last os r h p =
    let q = guard_done (ltb (last + (item w s (a + n) - item w s a)) (half w)) 6 _ os (sym (new_offsets_lem w s a n last r h) ∙ p) in
    record { fits = ltb-true _ _ q.0; are = done_is q.1 }

pub offset_is : (w : ℕ) (s : List ℕ) (a n last : ℕ) (os : List ℕ) → Rising (item w s) a n → last < half w → Offset w s a n last os → new_offsets w s a n last ≡ done os
offset_is w s a n last os r h o = new_offsets_lem w s a n last r h ∙ guard_is _ 6 _ (lt-ltb _ _ o.fits) ∙ ap done o.are

-- the offsets of neighbouring stretches
pub offset_both : (w : ℕ) (s : List ℕ) (a n k last last₁ : ℕ) (os ps : List ℕ) → Rising (item w s) a (n + k) → last₁ ≡ last + (item w s (a + n) - item w s a) → Offset w s a n last os
    → Offset w s (a + n) k last₁ ps → Offset w s a (n + k) last (os ++ ps)
offset_both w s a n k last last₁ os ps r e o p =
    let x : ℕ → ℕ = item w s in
    let from : x a ≤ x (a + n) = rw (add-zero a) at (rising_below x a (n + k) r 0 n (omega arith) (omega arith)) in
    let up : (i : ℕ) → i ≤ k → x (a + n) ≤ x (a + (n + i)) = λ i q. rising_below x a (n + k) r n (n + i) (omega arith) (omega arith) in
    let z : a + n + k ≡ a + (n + k) = omega arith in
    let y : x (a + n + k) ≡ x (a + (n + k)) = ap x z in
    record {
      fits = omega (arith, e, p.fits, from, up k (omega arith), y);
      are =
          ap (encodes w)
          (seg_append (λ i. last + (x (a + i) - x a)) 1 n k
          ∙ ap (seg (λ i. last + (x (a + i) - x a)) 1 n ++◌)
          (seg_shift (λ i. last + (x (a + i) - x a)) (λ i. last₁ + (x (a + n + i) - x (a + n))) (1 + n) 1 k
          (λ i q.
          let u : a + (1 + n + i) ≡ a + (n + (1 + i)) = omega arith in
          let v : a + n + (1 + i) ≡ a + (n + (1 + i)) = omega arith in
          rw (u, v) (omega (arith, e, from, up (1 + i) (omega arith))))))
          ∙ encodes_append w (seg (λ i. last + (x (a + i) - x a)) 1 n) (seg (λ i. last₁ + (x (a + n + i) - x (a + n))) 1 k)
          ∙ ap₂ ◌++◌ o.are p.are;
    }

pub text_same : (o o' c c' : List ℕ) → o ≡ o' → c ≡ c' → ◌≡◌ {A = Text} (record { offsets = o; chars = c }) (record { offsets = o'; chars = c' })
text_same o o' c c' e f = ap₂ (λ o c. record { offsets = o; chars = c }) e f
