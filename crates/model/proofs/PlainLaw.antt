-- Fixed-width numbers and byte strings are lawful: first the stored bytes of each slot, null or not, then the rows. Assumes nothing.
use mathlib.Core.Path.{◌≡◌, refl, sym, ap, ap₂, ◌∙◌, subst}
use mathlib.Core.Bool.{Bool, true, false}
use mathlib.Core.List.{List, [], ◌++◌, append-nil}
use Prim.Native.Nat.{ℕ, suc, ◌+◌, ◌-◌, ◌*◌, ◌≤◌, ◌<◌}
use native.Mathlib.Nat.{add-zero, zero-add, add-mul, mul-le-mul_right, le_trans}
use native.Mathlib.Omega.{arith}
use lib.ListN.{length, take, drop, replicate, length-append, length-drop, length-replicate}
use lib.Seq.{length-take-le, drop-drop}
use lib.Dec.{ltb}
use borrow.Author.Tests.{ltb-true}
use Rattle.number.specs.Number.{number}
use Rattle.columnar.specs.Row.{bytes, seg}
use Rattle.columnar.specs.Types.{Number, width, half, Plain, fixed, string}
use Rattle.columnar.specs.Array.{Array, item, Obeys}
use Rattle.columnar.specs.Entries.{encodes}
use Rattle.columnar.specs.Plain.{Text, PlainBody, value, span, plain_at, stored, StringRule, empty, full, PlainRule}
use Rattle.columnar.proofs.Items.{number_take, length_cut}
use Rattle.model.specs.Try.{done, then, guard}
use Rattle.model.specs.Grounds.{counts, leaf, plain_ask, plain_nulls}
use Rattle.model.specs.Primitive.{plain_extend, plain_null}
use Rattle.model.specs.Held.{held_plain}
use Rattle.model.proofs.Agree.{Agrees, both, both_as, neither, agrees_map}
use Rattle.model.proofs.Law.{Law}
use Rattle.model.proofs.Pieces.{piece_left, piece_right, piece_cut, cut_cut}
use Rattle.model.proofs.Nodes.{TextFine, PlainFine, plain_kind}
use Rattle.model.proofs.TextLaw.{text_with, Steps, steps_below, with_fine, with_old, with_new, Rising, rising_below, new_offsets_lem, repeated_is}
use Rattle.model.proofs.Names.{repeated}

-- ---- what a source's offsets are, over a part of its rows

-- slots a to a + n - 1 of a byte string
pub record Part (w : ℕ) (s : Text) (a n : ℕ) : Type 0 where
  pub rises : Rising (item w s.offsets) a n
  pub within : item w s.offsets (a + n) - item w s.offsets a ≤ length s.chars - item w s.offsets a

part : (w : ℕ) (s : Text) (off len a n : ℕ) → StringRule w s off len → off ≤ a → a + n ≤ off + len → Part w s a n
part w s off len a n (empty e f) p q =
    let z : n ≡ 0 = omega arith in
    record { rises = λ i r. absurd (omega arith); within = rw (z, add-zero) (omega arith) }
part w s off len a n (full h) p q =
    let o : ℕ → ℕ = item w s.offsets in
    let rise : Rising o off len = λ i r. let e : suc (off + i) ≡ off + i + 1 = omega arith in rw e (h.rises i r) in
    let z : off + (a - off) ≡ a = omega arith in
    let y : off + (a - off + n) ≡ a + n = omega arith in
    let last : o (a + n) ≤ o (off + len) = rw y at (rising_below o off len rise (a - off + n) len (omega arith) (omega arith)) in
    record {
      rises = λ i r. let e : off + (a - off + i) ≡ a + i = omega arith in rw e at (rise (a - off + i) (omega arith));
      within = omega (arith, h.within);
    }

-- ---- stored bytes

-- d' is d, of l slots, with n slots more, which hold the bytes of s's from a on
pub record Copied (p : Plain) (s : PlainBody p) (a n : ℕ) (d : PlainBody p) (l : ℕ) (d' : PlainBody p) : Type 0 where
  pub fine' : (b : ℕ → Bool) → PlainFine p b d' (l + n)
  pub old : (i : ℕ) → i < l → stored p d' i ≡ stored p d i
  pub new : (i : ℕ) → i < n → stored p d' (l + i) ≡ stored p s (a + i)

fixed_copied : (k : Number) (s : List ℕ) (a n : ℕ) (d : List ℕ) (l : ℕ) → (a + n) * width k ≤ length s → length d ≡ l * width k
    → Copied (fixed k) s a n d l (d ++ take (n * width k) (drop (a * width k) s))
fixed_copied k s a n d l hs h =
    let w = width k in
    record {
      fine' = λ b. rw (length-append, length_cut w a n s hs, h, add-mul);
      old = λ i q. piece_left w d _ i l (omega arith) q;
      new = λ i q. piece_right w d _ l i h ∙ piece_cut w a n s i q;
    }

-- a copy as steps through the source's bytes
module _ (w : ℕ) (s : Text) (a n : ℕ) (hs : Part w s a n) where
  abbrev from : ℕ → ℕ
  from i = item w s.offsets (a + i) - item w s.offsets a

  abbrev copied : List ℕ
  copied = take (from n) (drop (item w s.offsets a) s.chars)

  above : (i j : ℕ) → i ≤ j → j ≤ n → item w s.offsets (a + i) ≤ item w s.offsets (a + j)
  above i j p q = rising_below (item w s.offsets) a n hs.rises i j p q

  copy_steps : Steps n from copied
  copy_steps =
      record {
        first = rw add-zero (omega arith);
        rises = λ i q. omega (arith, above i (suc i) (omega arith) (omega arith));
        last = sym (length-take-le (from n) (drop (item w s.offsets a) s.chars) (rw length-drop hs.within));
      }

  copy_new : (i : ℕ) → i < n → take (from (suc i) - from i) (drop (from i) copied) ≡ span w s (a + i)
  copy_new i q =
      let o : ℕ → ℕ = item w s.offsets in
      let u : o a ≤ o (a + i) = rw add-zero at (above 0 i (omega arith) (omega arith)) in
      let v : o (a + i) ≤ o (a + suc i) = above i (suc i) (omega arith) (omega arith) in
      let y : o (a + suc i) ≤ o (a + n) = above (suc i) n (omega arith) (omega arith) in
      let e : from (suc i) - from i ≡ o (a + suc i) - o (a + i) = omega arith in
      let f : o a + from i ≡ o (a + i) = omega arith in
      let z : suc (a + i) ≡ a + suc i = omega arith in
      cut_cut (from (suc i) - from i) (from i) (from n) (drop (o a) s.chars) (omega arith)
      ∙ rw (drop-drop, e, f, z)

  text_copied : (d : Text) (l : ℕ) → TextFine w d l → length d.chars + from n < half w → Copied (string w) s a n d l (text_with w d n from copied)
  text_copied d l h fits =
      let y : length d.chars + length copied < half w = rw (← copy_steps.last) fits in
      record {
        fine' = λ b. with_fine w d l h n from copied copy_steps y;
        old = with_old w d l h n from copied copy_steps y;
        new = λ i q. with_new w d l h n from copied copy_steps y i q ∙ copy_new i q;
      }

  -- the test after each row is the test of the sum
  text_copies : (d : Text) (l : ℕ) → TextFine w d l
      → Agrees (λ e. held_plain (string w) e (l + n)) (Copied (string w) s a n d l) (plain_extend (string w) s a n l d) (plain_ask (string w) s a n (held_plain (string w) d l))
  text_copies d l h =
      rw (h.last_is, new_offsets_lem w s.offsets a n (length d.chars) hs.rises h.fits)
      (go (ltb (length d.chars + from n) (half w)) refl)
    where
      go : (b : Bool) → ltb (length d.chars + from n) (half w) ≡ b
          → Agrees (λ e. held_plain (string w) e (l + n)) (Copied (string w) s a n d l)
          (then (guard b 6 (done (encodes w (seg (λ i. length d.chars + from i) 1 n)))) (λ os. done (record { offsets = d.offsets ++ os; chars = d.chars ++ copied })))
          (guard b 6 (done (counts (l + n) (length d.chars + from n) leaf)))
      go true e =
          both_as (text_with w d n from copied) (ap (λ x. counts (l + n) x leaf) (length-append d.chars copied ∙ ap (length d.chars +◌) (sym copy_steps.last)))
          (text_copied d l h (ltb-true (length d.chars + from n) (half w) e))
      go false e = neither 6

-- A COPY, OF STORED BYTES
pub plain_copies : (p : Plain) (okay : ℕ → Bool) (s : PlainBody p) (off len a n l : ℕ) (b : ℕ → Bool) (d : PlainBody p) → PlainRule p okay s off len → off ≤ a → a + n ≤ off + len → PlainFine p b d l
    → Agrees (λ e. held_plain p e (l + n)) (Copied p s a n d l) (plain_extend p s a n l d) (plain_ask p s a n (held_plain p d l))
plain_copies (fixed k) okay s off len a n l b d hs p q h = both _ (fixed_copied k s a n d l (le_trans (mul-le-mul_right (width k) q) hs) h)
plain_copies (string w) okay s off len a n l b d hs p q h = text_copies w s a n (part w s off len a n hs p q) d l h

-- ---- nulls

-- d' is d, of l slots, with n slots more
pub record Filled (p : Plain) (n : ℕ) (d : PlainBody p) (l : ℕ) (d' : PlainBody p) : Type 0 where
  pub fine' : (b : ℕ → Bool) → PlainFine p b d' (l + n)
  pub old : (i : ℕ) → i < l → stored p d' i ≡ stored p d i

text_filled : (w n : ℕ) (d : Text) (l : ℕ) → TextFine w d l → Filled (string w) n d l (text_with w d n (λ i. 0) [])
text_filled w n d l h =
    let s : Steps n (λ i. 0) [] = record { first = refl; rises = λ i q. omega arith; last = refl } in
    let y : length d.chars + 0 < half w = rw add-zero h.fits in
    record { fine' = λ b. with_fine w d l h n (λ i. 0) [] s y; old = with_old w d l h n (λ i. 0) [] s y }

null_text : (w n : ℕ) (d : Text) (l : ℕ) → TextFine w d l
    → text_with w d n (λ i. 0) [] ≡ record { offsets = d.offsets ++ repeated w (item w d.offsets l) n; chars = d.chars }
null_text w n d l h =
    ap₂ (λ x y. record { offsets = d.offsets ++ x; chars = y }) (rw h.last_is (sym (repeated_is w (length d.chars) 1 n))) (append-nil d.chars)

pub plain_fills : (p : Plain) (n l : ℕ) (b : ℕ → Bool) (d : PlainBody p) → PlainFine p b d l
    → Agrees (λ e. held_plain p e (l + n)) (Filled p n d l) (plain_null p n l d) (plain_nulls p n (held_plain p d l))
plain_fills (fixed k) n l b d h =
    both (d ++ replicate (n * width k) 0)
    (record {
      fine' = λ b. rw (length-append, length-replicate, h, add-mul);
      old = λ i q. piece_left (width k) d _ i l (omega arith) q;
    })
plain_fills (string w) n l b d h = both _ (subst (Filled (string w) n d l) (null_text w n d l h) (text_filled w n d l h))

-- ---- rows

-- a row is told by its stored bytes
pub row_stored : (p : Plain) (x y : PlainBody p) (i j : ℕ) → stored p x i ≡ stored p y j → plain_at p x i ≡ plain_at p y j
unfolding item
row_stored (fixed k) x y i j e =
    let w = width k in
    ap (value k) (sym (number_take w w (drop (i * w) x) (omega arith)) ∙ ap (number w) e ∙ number_take w w (drop (j * w) y) (omega arith))
row_stored (string w) x y i j e = ap bytes e

-- a well formed destination obeys the rule of a source
pub plain_obeys : (p : Plain) (l : ℕ) (b okay : ℕ → Bool) (d : PlainBody p) → PlainFine p b d l → PlainRule p okay d 0 l
plain_obeys (fixed k) l b okay d h = rw (zero-add, h) (omega arith)
plain_obeys (string w) l b okay d h =
    let o : ℕ → ℕ = item w d.offsets in
    full
    (record {
      hold = rw h.offsets_are (omega arith);
      positive = λ i q. rw zero-add (omega (arith, steps_below l o h.rises i q, h.last_is, h.fits));
      rises = λ i q. let e : 0 + i + 1 ≡ suc i = omega arith in rw (e, zero-add) (h.rises i q);
      within = rw (zero-add, h.last_is) (omega arith);
    })

pub plain_law : (p : Plain) (m : ℕ) (xs : ℕ → Array (PlainBody p)) → ((j : ℕ) → j < m → Obeys true (PlainRule p) (xs j)) → Law (plain_kind p) m xs
plain_law p m xs g =
    record {
      copies = λ j a n l b d q y z h.
          agrees_map
          (λ d' c.
          record {
            ends = λ b' o w. c.fine' b';
            old = λ i q. row_stored p d' d i i (c.old i q);
            new = λ i q t. row_stored p d' (xs j).body (l + i) (a + i) (c.new i q);
            keeps = λ k. tt;
          })
          (plain_copies p _ (xs j).body (xs j).off (xs j).len a n l b d (g j q).slots y z h);
      fills = λ n l b d k h.
          agrees_map
          (λ d' c.
          record {
            ends = λ b' o w. c.fine' b';
            old = λ i q. row_stored p d' d i i (c.old i q);
            new = λ i q t. absurd t;
            keeps = λ k. tt;
          })
          (plain_fills p (suc n) l b d h);
      obeys = λ l b d h. plain_obeys p l b b d h;
    }
